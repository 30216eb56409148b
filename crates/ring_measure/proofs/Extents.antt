-- The extent of a ring is its largest absolute coordinate, in units of 2 ^ -1074. Assumes nothing.
use mathlib.Core.Path.{◌≡◌, refl, sym, ◌∙◌}
use mathlib.Core.Logic.{◌⊎◌, inl, inr}
use mathlib.Core.Bool.{Bool, true, false, cond, true≢false, false≢true}
use mathlib.Core.List.{List}
use Prim.Native.Nat.{ℕ, zero, suc, ◌+◌, ◌*◌, ◌^◌, ◌≤◌, ◌<◌}
use native.Mathlib.Nat.{le_trans, le_refl}
use native.Mathlib.Omega.{arith}
use borrow.Author.Tests.{ltb-false, eq-eqb}
use lib.ListN.{get_or}
use lib.Ieee.{Float, nan, inf, fin, up, down, lt, eq}
use lib.Ieee.Exact.{HasValue}
use Rattle.base.specs.Loop.{rounds}
use Rattle.base.proofs.Choices.{by_cases}
use Rattle.math.specs.Number.{zero_float, abs, fmax}
use Rattle.math.proofs.Ranks.{lt_units, lt_most}
use Rattle.ring.specs.Ring.{vertex_at}
use Rattle.ring_measure.specs.Measures.{reach, extent_step, extent}

-- ---- the larger of two numbers that are not negative

-- z is the larger of a and b units
pub record Max (z : Float) (a b : ℕ) : Type 0 where
  pub most : ℕ
  pub value : HasValue z false most (2 ^ 1074)
  pub left : a ≤ most
  pub right : b ≤ most
  pub one : (most ≡ a) ⊎ (most ≡ b)

eq_self : (y : Float) (b : ℕ) → HasValue y false b (2 ^ 1074) → eq y y ≡ true
unfolding eq
eq_self nan b v = absurd v
eq_self (inf s) b v = absurd v
eq_self (fin true m e) b v = absurd (true≢false v.0)
eq_self (fin false m e) b v = rw (eq-eqb (m * up e * down e) (m * up e * down e) refl) refl

pub fmax_is : (x y : Float) (a b : ℕ) → HasValue x false a (2 ^ 1074) → HasValue y false b (2 ^ 1074) → Max (fmax x y) a b
unfolding fmax
fmax_is x y a b v w = go (lt y x) (eq y y) refl (eq_self y b w)
  where
    go : (s t : Bool) → lt y x ≡ s → t ≡ true → Max (cond s x (cond t y x)) a b
    go true t h e = record { most = a; value = v; left = le_refl a; right = lt_most y x b a w v h; one = inl refl }
    go false true h e = record { most = b; value = w; left = ltb-false b a (sym (lt_units y x false false b a w v) ∙ h); right = le_refl b; one = inr refl }
    go false false h e = absurd (false≢true e)

-- ---- a ring, after k vertices

-- s is the largest of the first 2 k numbers of units, or 0 where there is none
pub record Extent (units : ℕ → ℕ) (k : ℕ) (s : Float) : Type 0 where
  pub size : ℕ
  pub value : HasValue s false size (2 ^ 1074)
  pub each : (i : ℕ) → i < 2 * k → units i ≤ size
  pub one : (size ≡ 0) ⊎ ((i : ℕ) × ((i < 2 * k) × (units i ≡ size)))

-- coordinate i without its sign is units i of 2 ^ -1074
module _ (ps : List Float) (n : ℕ) (units : ℕ → ℕ) (units_are : (i : ℕ) → i < 2 * n → HasValue (abs (get_or ps i nan)) false (units i) (2 ^ 1074)) where
  abbrev coordinate : ℕ → Float
  coordinate i = abs (get_or ps i nan)

  next_extent : (k : ℕ) (s : Float) → k < n → Extent units k s → Extent units (suc k) (extent_step ps k s)
  unfolding extent_step reach vertex_at
  next_extent k s l x =
      let e = 2 * k in
      let f = 2 * k + 1 in
      let v : Max (fmax (coordinate e) (coordinate f)) (units e) (units f) =
      fmax_is (coordinate e) (coordinate f) (units e) (units f) (units_are e (omega arith)) (units_are f (omega arith)) in
      let w : Max (fmax s (fmax (coordinate e) (coordinate f))) x.size v.most =
      fmax_is s (fmax (coordinate e) (coordinate f)) x.size v.most x.value v.value in
      record {
        size = w.most;
        value = w.value;
        each = λ i h.
            by_cases i e (λ c. rw c (le_trans v.left w.right))
            (λ c. by_cases i f (λ b. rw b (le_trans v.right w.right)) (λ b. le_trans (x.each i (omega arith)) w.left));
        one = pick w.most v.most x.size w.one v.one x.one;
      }
    where
      pick : (m t z : ℕ) → (m ≡ z) ⊎ (m ≡ t) → (t ≡ units (2 * k)) ⊎ (t ≡ units (2 * k + 1)) → (z ≡ 0) ⊎ ((i : ℕ) × ((i < 2 * k) × (units i ≡ z)))
          → (m ≡ 0) ⊎ ((i : ℕ) × ((i < 2 * suc k) × (units i ≡ m)))
      pick m t z (inl a) b (inl c) = inl (a ∙ c)
      pick m t z (inl a) b (inr c) = inr (c.0, (wider c.0 k c.1.0, c.1.1 ∙ sym a))
        where
          wider : (i k : ℕ) → i < 2 * k → i < 2 * suc k
          wider i k h = omega arith
      pick m t z (inr a) (inl b) c = inr (2 * k, (omega arith, sym (a ∙ b)))
      pick m t z (inr a) (inr b) c = inr (2 * k + 1, (omega arith, sym (a ∙ b)))

  extent_to : (k : ℕ) → k ≤ n → Extent units k (rounds (extent_step ps) k zero_float)
  unfolding rounds lib.Ieee.of_bits
  extent_to zero l = record { size = 0; value = (refl, refl); each = λ i h. absurd (omega arith); one = inl refl }
  extent_to (suc k) l = next_extent k (rounds (extent_step ps) k zero_float) (omega arith) (extent_to k (omega arith))

  pub extent_of : Extent units n (extent ps n)
  unfolding extent
  extent_of = extent_to n (le_refl n)
