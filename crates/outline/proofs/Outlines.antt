-- A new outline that is granted passes 21: its stored ring is the ring that was checked. Assumes nothing.
use Prim.Native.Nat.{ℕ, ◌/◌, ◌%◌}
use native.Mathlib.Nat.{zero-add}
use native.Mathlib.Omega.{arith}
use mathlib.Core.Path.{◌≡◌, refl, sym, ◌∙◌, subst}
use mathlib.Core.Bool.{Bool, true, false, false≢true}
use mathlib.Core.List.{List}
use lib.Dec.{eqb}
use lib.ListN.{length, replicate, length-replicate}
use lib.Ieee.{Float}
use Rattle.error.specs.declared.Refusal.{Refusal}
use Rattle.error.specs.declared.Refusal.TheVariants.{Odd}
use Rattle.error.specs.Refusals.{number, values, granted}
use Rattle.base.proofs.Choices.{by_test}
use Rattle.base.proofs.Choices.{both}
use Rattle.math.specs.Number.{zero_float}
use Rattle.ring.specs.Ring.{vertex_at, stored_at}
use Rattle.ring.specs.Store.{stored}
use Rattle.ring.proofs.Storing.{stored_new}
use Rattle.ring_check.specs.declared.Checked.{Checked}
use Rattle.ring_check.specs.Checks.{check_door}
use Rattle.ring_check.proofs.Sound.{Passed, check_sound}
use Rattle.outline.specs.declared.NewOutline.{NewOutline}
use Rattle.outline.specs.Outlines.{proper, stored_outline, outline_refused, outline_of, outline_if, new_outline, outline, check_finite}
use Rattle.outline.proofs.Good.{GoodRing, good_ring, good_proper}

-- ---- a ring stored as an outline

pub outline_good : (ps : List Float) (n m : ℕ) (back : Bool) → Passed 128 ps n m back
    → GoodRing 128 (stored_outline ps m back).points (stored_outline ps m back).count
unfolding stored_outline
outline_good ps n m back p =
    let out : List Float = replicate 256 zero_float in
    good_ring 128 ps n m back (stored ps m back 0 out) p
    (λ k l. subst (λ (i : ℕ). vertex_at (stored ps m back 0 out) i ≡ stored_at ps m back k) (zero-add k)
    (stored_new ps m back 0 out (omega (arith, length-replicate 256 zero_float, p.fits)) k l))

-- ---- an outline from numbers

pub record GoodNew (a : NewOutline) : Type 0 where
  pub good : granted a.refusal ≡ true → GoodRing 128 a.shape.points a.shape.count

refused_good : (r : Refusal) → granted r ≡ false → GoodNew (outline_refused r)
unfolding outline_refused
refused_good r h = record { good = λ q. absurd (false≢true (sym h ∙ q)) }

new_outline_sound : (ps : List Float) (n : ℕ) → GoodNew (new_outline ps n)
unfolding new_outline outline_of granted number values
new_outline_sound ps n =
    let c : Checked = check_door 128 0 ps n in
    by_test GoodNew (granted c.refusal)
    (λ h. record { good = λ q. outline_good ps n c.count c.back (check_sound true 128 0 ps n h) })
    (λ h. refused_good c.refusal h)

pub new_outline_proper : (ps : List Float) (n : ℕ) → granted (new_outline ps n).refusal ≡ true → proper 128 (new_outline ps n).shape.points (new_outline ps n).shape.count ≡ true
new_outline_proper ps n q = good_proper 128 (new_outline ps n).shape.points (new_outline ps n).shape.count ((new_outline_sound ps n).good q)

pub outline_sound : (ps : List Float) → GoodNew (outline ps)
unfolding outline outline_if granted number values
outline_sound ps =
    both GoodNew (eqb (length ps % 2) 0)
    (by_test GoodNew (granted (check_finite ps)) (λ f. new_outline_sound ps (length ps / 2)) (λ f. refused_good (check_finite ps) f))
    (refused_good Odd refl)

pub outline_proper : (ps : List Float) → granted (outline ps).refusal ≡ true → proper 128 (outline ps).shape.points (outline ps).shape.count ≡ true
outline_proper ps q = good_proper 128 (outline ps).shape.points (outline ps).shape.count ((outline_sound ps).good q)
