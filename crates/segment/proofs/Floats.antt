-- The order of finite doubles is that of their places. Assumes nothing.
use mathlib.Core.Path.{◌≡◌, refl, sym, ap, ◌∙◌, subst}
use mathlib.Core.Logic.{◌⊎◌, inl, inr}
use mathlib.Core.Bool.{Bool, true, false, cond, ◌&&◌, ◌||◌}
use Prim.Native.Nat.{ℕ, zero, suc, ◌+◌, ◌-◌, ◌%◌, ◌^◌, ◌≤◌, ◌<◌}
use native.Mathlib.Omega.{arith}
use lib.Dec.{T, ltb, leb, eqb}
use lib.Ieee.{Float, nan, inf, fin, binary64, lt, eq, le, below, level, fits, to_bits}
use lib.Ieee.Exact.{HasValue}
use borrow.Author.Tests.{ltb-true, ltb-false, le-leb, lt-leb, eqb-true, eqb-false}
use Rattle.math.specs.Number.{finite}
use Rattle.math.specs.Parts.{units_of}
use Rattle.math.proofs.Values.{value_fin}
use Rattle.plane.specs.declared.PlanarPoint.{PlanarPoint}
use Rattle.turn.specs.Turns.{place_of, place, Finite}
use Rattle.turn.specs.Digits.{Placed}
use Rattle.math.proofs.Ranks.{lt_units, eq_units}
use Rattle.turn.proofs.Ranks.{below_place}
use Rattle.turn.proofs.Places.{placed_fin, east_finite, north_finite}

-- ---- at most
le_like : (P Q x y : ℕ) → (P < Q → x < y) → (P ≡ Q → x ≡ y) → (Q < P → y < x) → (ltb P Q || (eqb P Q && (true || eqb P 0))) ≡ leb x y
le_like P Q x y f g h = go (ltb P Q) (eqb P Q) refl refl
  where
    go : (a b : Bool) → ltb P Q ≡ a → eqb P Q ≡ b → (a || (b && (true || eqb P 0))) ≡ leb x y
    go true b p q = let l = f (ltb-true P Q p) in sym (le-leb x y (omega arith))
    go false true p q = let l = g (eqb-true P Q q) in sym (le-leb x y (omega arith))
    go false false p q = sym (lt-leb x y (h (strict (ltb-false P Q p) (eqb-false P Q q))))
      where
        strict : Q ≤ P → (P ≡ Q → ⊥) → Q < P
        strict a n = elim (split Q P a) [
          | inl l ↦ l
          | inr e ↦ absurd (n (sym e))
        ]
          where
            split : (x y : ℕ) → x ≤ y → (x < y) ⊎ (x ≡ y)
            split x y h = at (y - x) refl
              where
                at : (d : ℕ) → y - x ≡ d → (x < y) ⊎ (x ≡ y)
                at zero e = inr (omega arith)
                at (suc d) e = inl (omega arith)

pub le_place : (O : ℕ) (s t : Bool) (P Q : ℕ) → P ≤ O → Q ≤ O → (below s P t Q || level s P t Q) ≡ leb (cond s (O - P) (O + P)) (cond t (O - Q) (O + Q))
le_place O false false P Q a b = le_like P Q (O + P) (O + Q) (λ (h : P < Q). omega arith) (λ (h : P ≡ Q). omega arith) (λ (h : Q < P). omega arith)
le_place O true true P Q a b = go (ltb Q P) (eqb P Q) refl refl
  where
    go : (i j : Bool) → ltb Q P ≡ i → eqb P Q ≡ j → (i || (j && (true || eqb P 0))) ≡ leb (O - P) (O - Q)
    go true j p q = let l = ltb-true Q P p in sym (le-leb (O - P) (O - Q) (omega arith))
    go false true p q = let l = eqb-true P Q q in sym (le-leb (O - P) (O - Q) (omega arith))
    go false false p q = let l = ltb-false Q P p in sym (lt-leb (O - P) (O - Q) (strict (eqb-false P Q q)))
      where
        strict : (P ≡ Q → ⊥) → O - Q < O - P
        strict n = at (Q - P) refl
          where
            at : (d : ℕ) → Q - P ≡ d → O - Q < O - P
            at zero e = absurd (n (omega (arith, ltb-false Q P p)))
            at (suc d) e = omega arith
le_place O false true P Q a b = go (eqb P Q) (eqb P 0) refl refl
  where
    go : (i j : Bool) → eqb P Q ≡ i → eqb P 0 ≡ j → (false || (i && (false || j))) ≡ leb (O + P) (O - Q)
    go true true p q = let l = eqb-true P Q p in let g = eqb-true P 0 q in sym (le-leb (O + P) (O - Q) (omega arith))
    go true false p q = sym (lt-leb (O + P) (O - Q) (over (eqb-false P 0 q)))
      where
        over : (P ≡ 0 → ⊥) → O - Q < O + P
        over n = at P refl
          where
            at : (x : ℕ) → P ≡ x → O - Q < O + P
            at zero e = absurd (n e)
            at (suc x) e = omega arith
    go false j p q = sym (lt-leb (O + P) (O - Q) (over (eqb-false P Q p)))
      where
        over : (P ≡ Q → ⊥) → O - Q < O + P
        over n = at (P + Q) refl
          where
            at : (x : ℕ) → P + Q ≡ x → O - Q < O + P
            at zero e = absurd (n (omega arith))
            at (suc x) e = omega arith
le_place O true false P Q a b = go (ltb 0 (P + Q)) (eqb P Q) (eqb P 0) refl refl refl
  where
    go : (i j k : Bool) → ltb 0 (P + Q) ≡ i → eqb P Q ≡ j → eqb P 0 ≡ k → (i || (j && (false || k))) ≡ leb (O - P) (O + Q)
    go true j k p q r = sym (le-leb (O - P) (O + Q) (omega arith))
    go false true true p q r = sym (le-leb (O - P) (O + Q) (omega arith))
    go false true false p q r = absurd (eqb-false P 0 r (omega (arith, ltb-false 0 (P + Q) p)))
    go false false k p q r = absurd (eqb-false P Q q (omega (arith, ltb-false 0 (P + Q) p)))

-- ---- two finite doubles

-- x is a double, and finite
pub record Number (x : Float) : Type 0 where
  pub double : T (fits binary64 x)
  pub is_finite : finite x ≡ true

pub east_number : (p : PlanarPoint) → Finite p → Number p.east
east_number p f = record { double = f.doubles.east_double; is_finite = east_finite p f.both_finite }

pub north_number : (p : PlanarPoint) → Finite p → Number p.north
north_number p f = record { double = f.doubles.north_double; is_finite = north_finite p f.both_finite }

record Known (x : Float) : Type 0 where
  sign : Bool
  size : ℕ
  value : HasValue x sign size (2 ^ 1074)
  at : Placed (place x) sign size

known : (x : Float) → T (fits binary64 x) → finite x ≡ true → Known x
unfolding finite
known nan f h = absurd (subst T (sym h) tt)
known (inf s) f h = absurd (subst T (sym h) tt)
known (fin s m e) f h = record {
  sign = leb (2 ^ 63) (to_bits binary64 (fin s m e));
  size = units_of (to_bits binary64 (fin s m e) % 2 ^ 63);
  value = value_fin s m e f;
  at = placed_fin (fin s m e) f h;
}

module _ (x y : Float) (f : Number x) (g : Number y) where
  pub lt_place : lt x y ≡ ltb (place x) (place y)
  unfolding place_of
  lt_place =
      let i = known x f.double f.is_finite in
      let j = known y g.double g.is_finite in
      lt_units x y i.sign j.sign i.size j.size i.value j.value
      ∙ below_place (2 ^ 2098) i.sign j.sign i.size j.size i.at.within j.at.within
      ∙ ap (λ (z : ℕ). ltb z (cond j.sign (2 ^ 2098 - j.size) (2 ^ 2098 + j.size))) (sym i.at.is)
      ∙ ap (λ (z : ℕ). ltb (place x) z) (sym j.at.is)

  pub le_places : le x y ≡ leb (place x) (place y)
  unfolding place_of le
  le_places =
      let i = known x f.double f.is_finite in
      let j = known y g.double g.is_finite in
      ap (λ (z : Bool). z || eq x y) (lt_units x y i.sign j.sign i.size j.size i.value j.value)
      ∙ ap (λ (z : Bool). below i.sign i.size j.sign j.size || z) (eq_units x y i.sign j.sign i.size j.size i.value j.value)
      ∙ le_place (2 ^ 2098) i.sign j.sign i.size j.size i.at.within j.at.within
      ∙ ap (λ (z : ℕ). leb z (cond j.sign (2 ^ 2098 - j.size) (2 ^ 2098 + j.size))) (sym i.at.is)
      ∙ ap (λ (z : ℕ). leb (place x) z) (sym j.at.is)
