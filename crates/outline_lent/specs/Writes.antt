-- Question 20: lent output, two numbers a vertex. A refused write changes nothing, and a granted one only the numbers that it writes.
-- Assumes nothing.
use Rattle.std.specs.Prelude.{ℕ, ◌+◌, ◌*◌, cond, List, leb, get_or, set, length, Float}
use Rattle.std.specs.Float.{nan}
use Rattle.error.specs.declared.Refusal.{Refusal}
use Rattle.error.specs.declared.Refusal.TheVariants.{Granted, Short}
use Rattle.error.specs.Refusals.{granted}
use Rattle.outline.specs.declared.Outline.{Outline}
use Rattle.outline.specs.Outlines.{ask_ring}
use Rattle.base.specs.Loop.{rounds}

unfoldable pub write_step : List Float → ℕ → ℕ → List Float → List Float
write_step ps base k out = set out (base + k) (get_or ps k nan)

-- n vertices of ps, from number `base` on
unfoldable pub write_ring : List Float → ℕ → ℕ → List Float → List Float
write_ring ps n base out = rounds (write_step ps base) (2 * n) out

unfoldable pub write_refusal : ℕ → List Float → Refusal
write_refusal needed out = cond (leb needed (length out)) Granted (Short needed)

-- what a write of an outline answers, its numbers and how many vertices they are: 21, then 20
unfoldable pub ring_write : List Float → ℕ → List Float → Refusal
ring_write ps n out = ask_ring ps n (write_refusal (2 * n) out)

-- the lent numbers afterwards
unfoldable pub written_ring : List Float → ℕ → List Float → List Float
written_ring ps n out = cond (granted (ring_write ps n out)) (write_ring ps n 0 out) out

unfoldable pub outline_write : Outline → List Float → Refusal
outline_write o out = ring_write o.points o.count out

unfoldable pub written_outline : Outline → List Float → List Float
written_outline o out = written_ring o.points o.count out

-- opens every definition above, for a proof that computes with all of them
unfoldable pub open_writes : Unit {0}
unfolding write_step write_ring write_refusal ring_write written_ring outline_write written_outline
open_writes = tt
