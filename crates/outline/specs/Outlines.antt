-- polygon.rs, `Polygon`: the outline of given numbers (questions 1, 2, 4 to 7, 27, 8 and 9), and question 21. Assumes nothing.
use Rattle.std.specs.Prelude.{Bool, true, cond, ◌&&◌, Float, ℕ, ◌*◌, ◌/◌, ◌%◌, List, leb, eqb, get_or, replicate, length}
use Rattle.std.specs.Float.{nan, binary64}
use Rattle.std.specs.Float.Ieee.{le, of_bits}
use Rattle.outline.specs.declared.Outline.{Outline}
use Rattle.error.specs.declared.Refusal.TheVariants.{Granted, NotFinite, Odd, Shape}
use Rattle.ring_check.specs.declared.Checked.{Checked}
use Rattle.outline.specs.declared.NewOutline.{NewOutline}
use Rattle.error.specs.declared.Refusal.{Refusal}
use Rattle.math.specs.Number.{zero_float, finite, abs, add, mul, one}
use Rattle.ring.specs.Store.{stored}
use Rattle.error.specs.Refusals.{granted}
use Rattle.ring_check.specs.Checks.{check_door, max_coordinate}
use Rattle.base.specs.Loop.{rounds}

-- the double nearest to 1e-9
abbrev pub relative_tolerance : Float
relative_tolerance = of_bits binary64 0x3e112e0be826d695

unfoldable pub no_outline : Outline
no_outline = record { points = replicate 256 zero_float; count = 0 }

unfoldable pub stored_outline : List Float → ℕ → Bool → Outline
stored_outline ps n back = record { points = stored ps n back 0 (replicate 256 zero_float); count = n }

unfoldable pub outline_refused : Refusal → NewOutline
outline_refused r = record { refusal = r; shape = no_outline }

unfoldable pub outline_of : List Float → Checked → NewOutline
outline_of ps c =
    cond (granted c.refusal) (record { refusal = Granted; shape = stored_outline ps c.count c.back })
    (outline_refused c.refusal)

-- questions 4 to 7, 27, 8 and 9 of n vertices
unfoldable pub new_outline : List Float → ℕ → NewOutline
new_outline ps n = outline_of ps (check_door 128 0 ps n)

-- question 2: the first number that is not finite
unfoldable pub finite_step : List Float → ℕ → Refusal → Refusal
finite_step ps k r = cond (granted r) (cond (finite (get_or ps k nan)) Granted (NotFinite k)) r

unfoldable pub check_finite : List Float → Refusal
check_finite ps = rounds (finite_step ps) (length ps) Granted

unfoldable pub outline_if : List Float → Refusal → NewOutline
outline_if ps r = cond (granted r) (new_outline ps (length ps / 2)) (outline_refused r)

-- the outline check of numbers that come in from outside: questions 1, 2, 4 to 7, 27, 8 and 9
unfoldable pub outline : List Float → NewOutline
outline ps = cond (eqb (length ps % 2) 0) (outline_if ps (check_finite ps)) (outline_refused Odd)

-- question 21 of an outline
unfoldable pub in_range_step : List Float → ℕ → Bool → Bool
in_range_step ps k s = s && le (abs (get_or ps k nan)) max_coordinate

unfoldable pub in_range : List Float → ℕ → Bool
in_range ps n = rounds (in_range_step ps) (2 * n) true

unfoldable pub proper : ℕ → List Float → ℕ → Bool
proper room ps n = leb 3 n && (leb n room && in_range ps n)

-- 21 is asked first of a shape that is handed in
unfoldable pub ask : Bool → Refusal → Refusal
ask proper r = cond proper r Shape

-- an outline as numbers, and how many vertices they are
unfoldable pub ask_ring : List Float → ℕ → Refusal → Refusal
ask_ring ps n r = ask (proper 128 ps n) r

unfoldable pub ask_outline : Outline → Refusal → Refusal
ask_outline o r = ask_ring o.points o.count r

-- the slack of the check that every offset vertex keeps the full distance
unfoldable pub offset_tolerance : Float → Float → Float
offset_tolerance d e = mul relative_tolerance (add (add one d) e)

-- opens every definition above, for a proof that computes with all of them
unfoldable pub open_outlines : Unit {0}
unfolding no_outline stored_outline outline_refused outline_of new_outline finite_step check_finite outline_if outline in_range_step
    in_range proper ask ask_ring ask_outline offset_tolerance
open_outlines = tt
