-- `math::hypot` meets its contract: NaNs apart, the rounded root of the larger and the smaller magnitude. Assumes nothing.
use mathlib.Core.Path.{◌≡◌, refl, sym, subst, ◌∙◌}
use mathlib.Core.Bool.{Bool, true, false, cond}
use native.Mathlib.Omega.{arith}
use borrow.Author.Tests.{ltb-true, ltb-false}
use Prim.Native.Nat.{ℕ, ◌≤◌, ◌*◌, ◌^◌, min, max}
use lib.Dec.{T, ltb}
use lib.Ieee.{Float, binary64, fits}
use Rattle.hypotenuse.specs.Hypot.{hypot}
use Rattle.math.specs.Parts.{Larger}
use Rattle.math.proofs.Values.{same_no_nan, differs_nan, hypot_swap, hypot_nan_left, picked_order, picked_hypot}
use Rattle.math.proofs.hypot.Goals as goal
use Rattle.math.proofs.hypot.Goals.{After-magnitude-b, Start}

held_x : (c : Start) → T (fits binary64 c.args.x)
held_x c = subst T (sym c.well_formed.0.1) tt

held-y : (c : Start) → T (fits binary64 c.args.y)
held-y c = subst T (sym c.well_formed.1.0.1) tt

max_is : (a b : ℕ) (t : Bool) → ltb a b ≡ t → max a b ≡ cond t b a
max_is a b true e = let h = ltb-true a b e in omega arith
max_is a b false e = let h = ltb-false a b e in omega arith

min_is : (a b : ℕ) (t : Bool) → ltb a b ≡ t → min a b ≡ cond t a b
min_is a b true e = let h = ltb-true a b e in omega arith
min_is a b false e = let h = ltb-false a b e in omega arith

module _ (c : After-magnitude-b) where
  abbrev start : Start
  start = c.before.before.before.before

  abbrev a : ℕ
  a = c.magnitude-a.result

  abbrev b : ℕ
  b = c.magnitude-b.result

  order : (cond (ltb a b) a b ≤ cond (ltb a b) b a) × (cond (ltb a b) b a ≤ 2047 * 2 ^ 52)
  order =
      picked_order c.args.x c.args.y a b (held_x start) (held-y start)
      (same_no_nan c.args.x c.if-x.false) (same_no_nan c.args.y c.if-y.false)
      c.magnitude-a.ensures c.magnitude-b.ensures (ltb a b) refl

  root : (r : Float) → Larger (cond (ltb a b) b a) (cond (ltb a b) a b) r → r ≡ hypot c.args.x c.args.y
  root r =
      picked_hypot c.args.x c.args.y a b (held_x start) (held-y start)
      (same_no_nan c.args.x c.if-x.false) (same_no_nan c.args.y c.if-y.false)
      c.magnitude-a.ensures c.magnitude-b.ensures (ltb a b) r refl

pub returns-then-x : goal.returns-then-x
returns-then-x c =
    let args = c.args in
    let yes1 = c.if-x.true in
    c.beside_nan.ensures ∙ hypot_nan_left args.x args.y (differs_nan args.x yes1)

pub returns-then-y : goal.returns-then-y
returns-then-y c =
    let args = c.args in
    let yes2 = c.if-y.true in
    c.beside_nan-then-y.ensures ∙ hypot_nan_left args.y args.x (differs_nan args.y yes2) ∙ hypot_swap args.y args.x

pub magnitude-a-requires : goal.magnitude-a-requires
magnitude-a-requires c =
    let args = c.args in
    let no1 = c.if-x.false in
    same_no_nan args.x no1

pub magnitude-b-requires : goal.magnitude-b-requires
magnitude-b-requires c =
    let args = c.args in
    let no2 = c.if-y.false in
    same_no_nan args.y no2

pub of_magnitudes-requires : goal.of_magnitudes-requires
of_magnitudes-requires c =
    let past-here = c.before.before in
    let both = order past-here in
    record {
      b_le_a = rw (c.max.ensures, c.min.ensures, max_is _ _ _ refl, min_is _ _ _ refl) both.0;
      a_bound = rw (c.max.ensures, max_is _ _ _ refl) both.1;
    }

pub returns : goal.returns
returns c =
    let past-here = c.before.before.before in
    let high = c.max.ensures ∙ max_is (a past-here) (b past-here) _ refl in
    let low = c.min.ensures ∙ min_is (a past-here) (b past-here) _ refl in
    root past-here _
    (subst (λ (h : ℕ). Larger h (cond (ltb (a past-here) (b past-here)) (a past-here) (b past-here)) c.of_magnitudes.result) high
    (subst (λ (l : ℕ). Larger c.max.result l c.of_magnitudes.result) low c.of_magnitudes.ensures))
