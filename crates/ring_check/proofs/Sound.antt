-- What a ring that passes 4 to 9 is known to be. Assumes nothing.
use Prim.Native.Nat.{ℕ, suc, ◌-◌, ◌≤◌, ◌<◌}
use mathlib.Core.Path.{◌≡◌, refl, sym, ◌∙◌}
use mathlib.Core.Bool.{Bool, true, false, ◌&&◌, false≢true}
use mathlib.Core.List.{List}
use native.Mathlib.Omega.{arith}
use borrow.Author.Tests.{ltb-true, ltb-false}
use lib.Dec.{ltb}
use lib.Ieee.{Float, lt}
use Rattle.plane.specs.declared.PlanarPoint.{PlanarPoint}
use Rattle.error.specs.declared.Refusal.{Refusal}
use Rattle.error.specs.declared.Refusal.TheVariants.{Granted, Few, Repeated, Flat, Hairline}
use Rattle.ring_check.specs.declared.Checked.{Checked}
use Rattle.std.specs.Prelude.{Option, None, Some}
use Rattle.ring_cross.specs.declared.EdgePair.{EdgePair}
use Rattle.error.specs.Refusals.{number, values, granted}
use Rattle.math.specs.Number.{zero_float}
use Rattle.plane.specs.Plane.{same}
use Rattle.ring.specs.Ring.{vertex_at}
use Rattle.ring_measure.specs.Measures.{signed_area, span}
use Rattle.ring_cross.specs.Simple.{check_simple}
use Rattle.ring_check.specs.Checks
use Rattle.ring_check.specs.Checks.{kept, beyond, vertex_refusal, range_step, check_range, repeats, hairline, flat, crossed, refused, passed, check_reversed, check_area, check_shape, check_in_range, check_kept, check_by}
use Rattle.base.proofs.Laws.{rounds_keep}
use Rattle.base.proofs.Choices.{by_cases, by_test}
use Rattle.base.proofs.Choices.{both}

-- ---- 5 and 6

pub record Within (v : PlanarPoint) : Type 0 where
  pub east : beyond v.east ≡ false
  pub north : beyond v.north ≡ false

record Fits (room k : ℕ) (v : PlanarPoint) (r : Refusal) : Type 0 where
  fits : granted r ≡ true → (k < room) × Within v

vertex_fits : (room ring n k : ℕ) (v : PlanarPoint) → Fits room k v (vertex_refusal room ring n k v)
unfolding vertex_refusal granted number values
vertex_fits room ring n k v =
    by_test (Fits room k v) (beyond v.east) (λ h. record { fits = λ q. absurd (false≢true q) })
    (λ a. by_test (Fits room k v) (beyond v.north) (λ h. record { fits = λ q. absurd (false≢true q) })
    (λ b. by_test (Fits room k v) (ltb k room) (λ h. record { fits = λ q. (ltb-true k room h, record { east = a; north = b }) })
    (λ h. record { fits = λ q. absurd (false≢true q) })))

record AllFit (room : ℕ) (ps : List Float) (k : ℕ) (r : Refusal) : Type 0 where
  all : granted r ≡ true → (i : ℕ) → i < k → (i < room) × Within (vertex_at ps i)

range_fits : (room ring : ℕ) (ps : List Float) (n : ℕ) → AllFit room ps n (check_range room ring ps n)
unfolding check_range range_step
range_fits room ring ps n =
    rounds_keep (range_step room ring ps n) (AllFit room ps) Granted (record { all = λ q i l. absurd (omega arith) })
    (λ k r h. by_test (AllFit room ps (suc k)) (granted r)
    (λ g. record {
      all = λ q i l. by_cases i k
          (λ e. rw e ((vertex_fits room ring n k (vertex_at ps k)).fits q))
          (λ e. h.all g i (omega arith));
    })
    (λ g. record { all = λ q. absurd (false≢true (sym g ∙ q)) }))
    n

-- ---- the whole check of n vertices: m of them are left after the drop, to be reversed if `back`

pub record Passed (room : ℕ) (ps : List Float) (n m : ℕ) (back : Bool) : Type 0 where
  pub three : 3 ≤ m
  pub left : m ≡ Checks.kept ps n
  pub kept : m ≤ n
  pub fits : m ≤ room
  pub within : (k : ℕ) → k < m → Within (vertex_at ps k)
  pub simple : check_simple ps m back ≡ None

record Sound (room : ℕ) (ps : List Float) (n : ℕ) (c : Checked) : Type 0 where
  sound : granted c.refusal ≡ true → Passed room ps n c.count c.back

refused_sound : (room : ℕ) (ps : List Float) (n : ℕ) (r : Refusal) → granted r ≡ false → Sound room ps n (refused r)
unfolding refused
refused_sound room ps n r h = record { sound = λ q. absurd (false≢true (sym h ∙ q)) }

crossed_simple : (ring n : ℕ) (back : Bool) (c : Option EdgePair) → granted (crossed ring n back c) ≡ true → c ≡ None
unfolding crossed granted number values
crossed_simple ring n back None q = refl
crossed_simple ring n true (Some p) q = absurd (false≢true q)
crossed_simple ring n false (Some p) q = absurd (false≢true q)

module _ (door : Bool) (room ring : ℕ) (ps : List Float) (n m : ℕ) (left : m ≡ kept ps n) (three : 3 ≤ m) (less : m ≤ n) (fit : m ≤ room) (near : (k : ℕ) → k < m → Within (vertex_at ps k)) where
  reversed_sound : (back : Bool) → Sound room ps n (check_reversed ring ps m back)
  unfolding check_reversed passed
  reversed_sound back =
      let r : Refusal = crossed ring m back (check_simple ps m back) in
      by_test (Sound room ps n) (granted r)
      (λ h. record { sound = λ q. record { three = three; left = left; kept = less; fits = fit; within = near; simple = crossed_simple ring m back (check_simple ps m back) h } })
      (λ h. refused_sound room ps n r h)

  shape_sound : Sound room ps n (check_shape door ring ps m)
  unfolding check_shape check_area granted number values
  shape_sound =
      both (Sound room ps n) (repeats ps m) (refused_sound room ps n (Repeated ring) refl)
      (both (Sound room ps n) (door && hairline ps m) (refused_sound room ps n (Hairline ring) refl)
      (both (Sound room ps n) (flat (signed_area ps m) (span ps m)) (refused_sound room ps n (Flat ring) refl) (reversed_sound (lt (signed_area ps m) zero_float))))

kept_sound : (door : Bool) (room ring : ℕ) (ps : List Float) (n m : ℕ) → m ≡ kept ps n → m ≤ n → Sound room ps n (check_kept door room ring ps m)
unfolding check_kept check_in_range granted number values
kept_sound door room ring ps n m left less =
    let r : Refusal = check_range room ring ps m in
    by_test (Sound room ps n) (ltb m 3) (λ h. refused_sound room ps n (Few ring m) refl)
    (λ h. by_test (Sound room ps n) (granted r)
    (λ g.
    let a : 3 ≤ m = ltb-false m 3 h in
    let all : (i : ℕ) → i < m → (i < room) × Within (vertex_at ps i) = (range_fits room ring ps m).all g in
    shape_sound door room ring ps n m left a less (omega (arith, (all (m - 1) (omega arith)).0)) (λ k l. (all k l).1))
    (λ g. refused_sound room ps n r g))

kept_less : (ps : List Float) (n : ℕ) → kept ps n ≤ n
unfolding kept
kept_less ps n = both (λ (m : ℕ). m ≤ n) (ltb 1 n && same (vertex_at ps (n - 1)) (vertex_at ps 0)) (omega arith) (omega arith)

-- at the door and within
pub check_sound : (door : Bool) (room ring : ℕ) (ps : List Float) (n : ℕ) → granted (check_by door room ring ps n).refusal ≡ true
    → Passed room ps n (check_by door room ring ps n).count (check_by door room ring ps n).back
unfolding check_by
check_sound door room ring ps n = (kept_sound door room ring ps n (kept ps n) refl (kept_less ps n)).sound
