-- What the pieces of an outline's offset come to, as a refusal beside which the shape stands or is empty. Assumes nothing.
use Rattle.std.specs.Prelude.{ℕ, Bool, cond, not, ◌&&◌, List, Float}
use Rattle.error.specs.declared.Refusal.{Refusal}
use Rattle.error.specs.declared.Refusal.TheVariants.{Granted, Splits, Collapses}
use Rattle.error.specs.Refusals.{granted}
use Rattle.math.specs.Number
use Rattle.ring_cross.specs.Meet.{rings_meet}
use Rattle.outline.specs.declared.Outline.{Outline}
use Rattle.outline.specs.Outlines.{no_outline}
use Rattle.offset.specs.declared.Offset.{Offset}
use Rattle.offset.specs.Offsets.{keeps_clear, sweep, offset_from}

-- an outline handed in: its numbers and its count
unfoldable pub outline_of : List Float → ℕ → Outline
outline_of ps n = record { points = ps; count = n }

unfoldable pub clear_refusal : Outline → Bool → Float → Float → Outline → Refusal
clear_refusal o outward d tolerance q =
    cond
    (keeps_clear outward (Number.sub d tolerance) o.points o.count q.points q.count &&
    not (rings_meet q.points q.count o.points o.count))
    Granted
    (Splits d)

unfoldable pub found_refusal : Outline → Bool → Float → Float → Refusal → Bool → Outline → Refusal
found_refusal o outward d tolerance u found q = cond (granted u) (cond found (clear_refusal o outward d tolerance q) (Collapses d)) u

-- an answer beside which the shape is empty, with the events completed before the refusal
unfoldable pub offset_refused : Refusal → ℕ → ℕ → ℕ → Offset
offset_refused u collapses divides joins =
    record { refusal = u; shape = no_outline; collapses = collapses; divides = divides; joins = joins }

-- the outline's front comes to the distance
unfoldable pub offset_moved : Outline → Bool → Float → Offset
offset_moved o outward d = offset_from o outward d (sweep o outward d)

-- an answer in parts
unfoldable pub answer_of : Refusal → List Float → ℕ → ℕ → ℕ → ℕ → Offset
answer_of u ps n collapses divides joins =
    record { refusal = u; shape = outline_of ps n; collapses = collapses; divides = divides; joins = joins }

-- opens every definition above, for a proof that computes with all of them
unfoldable pub open_found : Unit {0}
unfolding outline_of clear_refusal found_refusal offset_refused offset_moved answer_of
open_found = tt
