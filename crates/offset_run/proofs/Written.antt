-- An offset written to lent output. Assumes nothing.
use Prim.Native.Nat.{ℕ, ◌*◌, ◌≤◌}
use native.Mathlib.Omega.{arith}
use mathlib.Core.Path.{◌≡◌, refl, sym, ap, ◌∙◌, subst}
use mathlib.Core.Bool.{Bool, true, false, false≢true, cond, ◌&&◌}
use mathlib.Core.List.{List}
use lib.Dec.{leb}
use lib.ListN.{length}
use lib.Ieee.{Float}
use borrow.Author.Tests.{leb-true}
use Rattle.error.specs.declared.Refusal.{Refusal}
use Rattle.error.specs.declared.Refusal.TheVariants.{Granted, Short}
use Rattle.error.specs.Refusals.{granted}
use Rattle.base.specs.Loop.{rounds}
use Rattle.base.proofs.Laws.{no_round}
use Rattle.outline.specs.declared.Outline.{Outline}
use Rattle.outline.specs.Outlines.{in_range, proper}
use Rattle.outline_lent.specs.Writes.{write_step, write_ring, write_refusal}
use Rattle.offset.specs.declared.Offset.{Offset}
use Rattle.offset.specs.declared.OffsetWritten.{OffsetWritten}
use Rattle.offset.specs.Offsets.{offset}
use Rattle.offset.specs.Lent.{write_offset, offset_told, offset_write, offset_over, written_offset}
use Rattle.offset.proofs.DemandAnswered.{offset_empty}
use Rattle.offset.proofs.Accepted.{offset_proper}

module _ (a : Offset) (out : List Float) (asked r : Refusal) (g h : Bool) where
  answer : g ≡ granted a.refusal → asked ≡ cond (leb (2 * a.shape.count) (length out)) Granted (Short (2 * a.shape.count)) → r ≡ cond g asked a.refusal → r ≡ write_offset a out
  unfolding write_offset write_refusal
  answer e f i = i ∙ rw (e, f) refl

  pub told : (k : ℕ) → g ≡ granted a.refusal → asked ≡ cond (leb (2 * a.shape.count) (length out)) Granted (Short (2 * a.shape.count)) → r ≡ cond g asked a.refusal →
      h ≡ granted r → k ≡ cond h a.shape.count 0 →
      record { refusal = r; count = k; collapses = a.collapses; divides = a.divides; joins = a.joins } ≡ offset_told a (write_offset a out)
  unfolding offset_told
  told k e f i j l = let q : r ≡ write_offset a out = answer e f i in rw (l, j, q) refl

  pub over : (n : ℕ) (w : List Float) → g ≡ granted a.refusal → asked ≡ cond (leb (2 * a.shape.count) (length out)) Granted (Short (2 * a.shape.count)) → r ≡ cond g asked a.refusal →
      h ≡ granted r → n ≡ cond h (2 * a.shape.count) 0 → w ≡ rounds (write_step a.shape.points 0) n out → w ≡ offset_over a out
  unfolding offset_over write_ring
  over n w e f i j l m = let q : r ≡ write_offset a out = answer e f i in go h (sym (ap granted (sym q) ∙ sym j)) (m ∙ ap (λ (x : ℕ). rounds (write_step a.shape.points 0) x out) l)
    where
      go : (b : Bool) → b ≡ granted (write_offset a out) → w ≡ rounds (write_step a.shape.points 0) (cond b (2 * a.shape.count) 0) out →
          w ≡ cond (granted (write_offset a out)) (rounds (write_step a.shape.points 0) (2 * a.shape.count) out) out
      go true p u = rw (← p) u
      go false p u = rw (← p) (u ∙ no_round (write_step a.shape.points 0) out)

-- an offset has 128 vertices at most
few : (n : ℕ) (ps : List Float) → proper 128 ps n ≡ true → n ≤ 128
unfolding proper
few n ps h = go (leb 3 n) (leb n 128) refl h
  where
    go : (x y : Bool) → leb n 128 ≡ y → (x && (y && in_range ps n)) ≡ true → n ≤ 128
    go true true e h = leb-true n 128 e
    go true false e h = absurd (false≢true h)
    go false y e h = absurd (false≢true h)

pub fits : (o : Outline) (outward : Bool) (d : Float) (a : Offset) → a ≡ offset o outward d → a.shape.count ≤ 128
fits o outward d a e = subst (λ (x : Offset). x.shape.count ≤ 128) (sym e) (go (granted (offset o outward d).refusal) refl)
  where
    none : (n : ℕ) → n ≡ 0 → n ≤ 128
    none n q = omega arith

    go : (b : Bool) → granted (offset o outward d).refusal ≡ b → (offset o outward d).shape.count ≤ 128
    go true h = few _ _ (offset_proper o outward d h)
    go false h = none _ (offset_empty o outward d h).count

-- ---- the offset's own answer, written
module _ (o : Outline) (outward : Bool) (d : Float) (a : Offset) (e : a ≡ offset o outward d) (out : List Float) where
  pub answered : (w : OffsetWritten) → w ≡ offset_told a (write_offset a out) → w ≡ offset_write o outward d out
  unfolding offset_write
  answered w i = i ∙ ap (λ (x : Offset). offset_told x (write_offset x out)) e

  pub written : (w : List Float) → w ≡ offset_over a out → w ≡ written_offset o outward d out
  unfolding written_offset
  written w i = i ∙ ap (λ (x : Offset). offset_over x out) e
