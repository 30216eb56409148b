-- Question 21 of an outline bounds its vertices by 128. Assumes nothing.
use Prim.Native.Nat.{ℕ, ◌*◌, ◌≤◌, ◌<◌}
use mathlib.Core.Path.{◌≡◌, refl, sym, ap, ◌∙◌}
use mathlib.Core.Bool.{Bool, true, false, true≢false, cond, ◌&&◌}
use mathlib.Core.List.{List}
use lib.Dec.{leb}
use lib.ListN.{length}
use lib.Ieee.{Float}
use borrow.Author.Tests.{leb-true, lt-leb}
use Rattle.error.specs.declared.Refusal.{Refusal}
use Rattle.error.specs.declared.Refusal.TheVariants.{Granted, Short, Shape}
use Rattle.error.specs.Refusals.{values, number, granted}
use Rattle.base.specs.Loop.{rounds}
use Rattle.outline_lent.specs.Writes.{write_step, write_ring, write_refusal, ring_write, written_ring}
use Rattle.outline.specs.Outlines.{in_range, proper, ask, ask_ring}

pub too_many : (ps : List Float) (n : ℕ) (r : Refusal) → 128 < n → Shape ≡ ask_ring ps n r
unfolding ask_ring ask proper
too_many ps n r l = let e : leb n 128 ≡ false = lt-leb n 128 l in rw e (go (leb 3 n))
  where
    go : (b : Bool) → Shape ≡ cond (b && (false && in_range ps n)) r Shape
    go true = refl
    go false = refl

pub fits_room : (ps : List Float) (n : ℕ) (r : Refusal) → granted (ask_ring ps n r) ≡ true → n ≤ 128
unfolding ask_ring ask proper granted number values
fits_room ps n r h = go (leb n 128) (leb 3 n) refl h
  where
    go : (b a : Bool) → leb n 128 ≡ b → granted (cond (a && (b && in_range ps n)) r Shape) ≡ true → n ≤ 128
    go true a e h = leb-true n 128 e
    go false true e h = absurd (true≢false (sym h))
    go false false e h = absurd (true≢false (sym h))

pub not_more : (ps : List Float) (n : ℕ) (x r : Refusal) → r ≡ ask_ring ps n x → granted r ≡ true → n ≤ 128
not_more ps n x r e h = fits_room ps n x (ap granted (sym e) ∙ h)

-- what a write answers, and the lent numbers afterwards
module _ (ps : List Float) (n : ℕ) (out : List Float) (r : Refusal) (e : r ≡ ask_ring ps n (cond (leb (2 * n) (length out)) Granted (Short (2 * n)))) where
  pub answered : r ≡ ring_write ps n out
  unfolding ring_write write_refusal
  answered = e

  pub written_yes : (w : List Float) → granted r ≡ true → w ≡ rounds (write_step ps 0) (2 * n) out → w ≡ written_ring ps n out
  unfolding written_ring write_ring
  written_yes w h q = let t : granted (ring_write ps n out) ≡ true = ap granted (sym answered) ∙ h in rw t q

  pub written_no : granted r ≡ false → out ≡ written_ring ps n out
  unfolding written_ring
  written_no h = let t : granted (ring_write ps n out) ≡ false = ap granted (sym answered) ∙ h in rw t refl
