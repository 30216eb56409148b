-- One vertex stored into the flat numbers of a region's holes, and one past the room. Assumes nothing.
use mathlib.Core.Path.{◌≡◌, refl, sym, ap, ◌∙◌}
use mathlib.Core.Bool.{Bool, true, false, not}
use mathlib.Core.List.{List}
use Prim.Native.Nat.{ℕ, ◌+◌, ◌-◌, ◌*◌, ◌≤◌, ◌<◌}
use native.Mathlib.Omega.{arith}
use borrow.Author.Tests.{lt-ltb, le-ltb, eqb-true, eq-eqb, not-true, not-false}
use lib.Dec.{eqb}
use lib.ListN.{length, set}
use lib.Seq.{set_out}
use lib.Ieee.{Float}
use Rattle.plane.specs.declared.PlanarPoint.{PlanarPoint}
use Rattle.ring.specs.Ring.{stored_at}
use Rattle.ring.specs.Store.{store_vertex, store_step, stored}
use Rattle.ring.proofs.Storing.{stored_length}
use Rattle.region_given.specs.Filing.{filed}

pub second_in : (out : List Float) (base room at : ℕ) → length out ≡ 512 → room ≡ 256 - base → at < room → 2 * (base + at) + 1 < length out
second_in out base room at e r l = omega arith

module _ (ps : List Float) (n : ℕ) (back : Bool) (base i : ℕ) (out : List Float) where
  pub store_in : (v : PlanarPoint) → v ≡ stored_at ps n back i → set (set out (2 * (base + i)) v.east) (2 * (base + i) + 1) v.north ≡ store_step ps n back base i out
  unfolding store_step store_vertex
  store_in v e = rw e refl

  pub store_out : length out ≡ 512 → 256 - base ≤ i → out ≡ store_step ps n back base i out
  unfolding store_step store_vertex
  store_out e l =
      let v = stored_at ps n back i in
      let a : set out (2 * (base + i)) v.east ≡ out = set_out out (2 * (base + i)) v.east (omega arith) in
      let b : set out (2 * (base + i) + 1) v.north ≡ out = set_out out (2 * (base + i) + 1) v.north (omega arith) in
      sym (ap (λ (x : List Float). set x (2 * (base + i) + 1) v.north) a ∙ b)

module _ (ps : List Float) (n : ℕ) (back : Bool) (base : ℕ) (out : List Float) where
  -- the numbers of a region's holes
  filed_is : base ≤ 256 → length out ≡ 512 → filed ps n back base out ≡ stored ps n back base out
  unfolding filed
  filed_is l e = rw (le-ltb 256 base l, eq-eqb (length out) 512 e) refl

  pub filed_as : (new : List Float) → new ≡ filed ps n back base out → base ≤ 256 → length out ≡ 512 → new ≡ stored ps n back base out
  filed_as new h l e = h ∙ filed_is l e

  pub filed_length : (new : List Float) → new ≡ filed ps n back base out → base ≤ 256 → length out ≡ 512 → length new ≡ 512
  filed_length new h l e = ap length (filed_as new h l e) ∙ stored_length ps n back base out ∙ e

  -- what the code asks
  pub past_room : 256 < base → out ≡ filed ps n back base out
  unfolding filed
  past_room l = rw (lt-ltb 256 base l) refl

  pub other_numbers : base ≤ 256 → not (eqb (length out) 512) ≡ true → out ≡ filed ps n back base out
  unfolding filed
  other_numbers l t = rw (le-ltb 256 base l, not-true (eqb (length out) 512) t) refl

  pub is_filed : (new : List Float) → base ≤ 256 → not (eqb (length out) 512) ≡ false → new ≡ stored ps n back base out → new ≡ filed ps n back base out
  is_filed new l t h = h ∙ sym (filed_is l (eqb-true (length out) 512 (not-false (eqb (length out) 512) t)))

  -- the same of a length that is not 512, and of one that is
  pub other_length : base ≤ 256 → (length out ≡ 512 → ⊥) → out ≡ filed ps n back base out
  other_length l h = other_numbers l (go (eqb (length out) 512) refl)
    where
      go : (b : Bool) → eqb (length out) 512 ≡ b → not b ≡ true
      go true e = absurd (h (eqb-true (length out) 512 e))
      go false e = refl

  pub stored_is_filed : (new : List Float) → base ≤ 256 → length out ≡ 512 → new ≡ stored ps n back base out → new ≡ filed ps n back base out
  stored_is_filed new l e h = h ∙ sym (filed_is l e)
