-- No two doubles are both the nearest to a root. Assumes nothing.
use mathlib.Core.Path.{◌≡◌, sym, ap, ◌∙◌, subst}
use mathlib.Core.Logic.{◌⊎◌, inl, inr}
use mathlib.Core.Bool.{Bool, false, cond}
use Prim.Native.Nat.{ℕ, ◌+◌, ◌-◌, ◌*◌, ◌/◌, ◌%◌, ◌^◌, ◌≤◌, ◌<◌}
use native.Mathlib.Nat.{eq-or-lt_of_le, add_comm, mul_assoc, mul-lt-mul_of_pos_right, lt_of_mul-lt-mul_right, le_antisymm, le_trans, le_of_eq, not-le_of_lt}
use native.Mathlib.Omega.{arith}
use lib.Dec.{T}
use lib.Pow.{pow_pos, pow-add}
use lib.Ieee.{Float, nan, inf, fin, binary64, size, fits, to_bits, of_bits}
use Rattle.hypotenuse.specs.Hypot.{count}
use lib.Ieee.Exact.{HasValue}
use lib.Ieee.Bits.{of_bits-to_bits}
use Rattle.hypotenuse.specs.Nearest.{Held, NearestRoot, Rounds, past, near}
use Rattle.hypotenuse.proofs.Poly.{poly}
use Rattle.hypotenuse.proofs.Order.{le_or_lt, sq_mono, le_of_not_lt}
use Rattle.hypotenuse.proofs.Nearest.{held_of}
use Rattle.hypotenuse.proofs.Units.{count_of}

-- a number that is held and lies between R and S
record Between (R S : ℕ) : Type 0 where
  Z : ℕ
  held : Held Z
  from : R < Z
  to : Z < S

even_product : (q c : ℕ) → q % 2 ≡ 0 → q * c % 2 ≡ 0
even_product q c h = go (q * c) (q / 2 * c) (ap (λ (x : ℕ). x * c) (half q h) ∙ mul_assoc 2 (q / 2) c)
  where
    half : (q : ℕ) → q % 2 ≡ 0 → q ≡ 2 * (q / 2)
    half q h = omega arith

    go : (a b : ℕ) → a ≡ 2 * b → a % 2 ≡ 0
    go a b e = omega arith

gap : (p r : ℕ) → p % 2 ≡ 0 → r % 2 ≡ 0 → p < r → p + 2 ≤ r
gap p r a b l = omega arith

times : {a b : ℕ} (k : ℕ) → a < b → a * 2 ^ k < b * 2 ^ k
times k h = mul-lt-mul_of_pos_right h (pow_pos k)

-- the same number in a unit that is 2 ^ d times smaller
finer : (q k j d : ℕ) → k ≡ d + j → q * 2 ^ k ≡ q * 2 ^ d * 2 ^ j
finer q k j d e = ap (λ (x : ℕ). q * x) (ap (λ (x : ℕ). 2 ^ x) e ∙ pow-add 2 d j) ∙ sym (mul_assoc q (2 ^ d) (2 ^ j))

-- q and p count the same unit, are even, and q + 1 has no more digits than are held
step : (q p k : ℕ) → q < 2 ^ 53 → q + 2 ≤ p → Between (q * 2 ^ k) (p * 2 ^ k)
step q p k l h = record { Z = (q + 1) * 2 ^ k; held = held_of (q + 1) k (omega arith); from = times k (omega arith); to = times k (omega arith) }

-- the unit of the lower one is the larger, or both are the same
coarse : (q k r j : ℕ) → j ≤ k → r ≤ 2 ^ 53 → q % 2 ≡ 0 → r % 2 ≡ 0 → q * 2 ^ k < r * 2 ^ j → Between (q * 2 ^ k) (r * 2 ^ j)
coarse q k r j h rl qe re l =
    let p = q * 2 ^ (k - j) in
    let e : q * 2 ^ k ≡ p * 2 ^ j = finer q k j (k - j) (sum h) in
    let two : p + 2 ≤ r = gap p r (even_product q (2 ^ (k - j)) qe) re (lt_of_mul-lt-mul_right (2 ^ j) (subst (λ (x : ℕ). x < r * 2 ^ j) e l)) in
    subst (λ (x : ℕ). Between x (r * 2 ^ j)) (sym e) (step p r j (omega (arith, rl)) two)
  where
    sum : j ≤ k → k ≡ k - j + j
    sum h = omega arith

-- the unit of the lower one is the smaller
fine : (q k r j : ℕ) → k < j → q ≤ 2 ^ 53 → q % 2 ≡ 0 → r % 2 ≡ 0 → q * 2 ^ k < r * 2 ^ j → Between (q * 2 ^ k) (r * 2 ^ j)
fine q k r j h ql qe re l =
    let d = j - k - 1 in
    let u = r * 2 ^ d in
    let e : r * 2 ^ j ≡ 2 * u * 2 ^ k = finer r j k (1 + d) (sum h) ∙ ap (λ (x : ℕ). x * 2 ^ k) (ap (λ (x : ℕ). r * x) (pow-add 2 1 d) ∙ swap r (2 ^ d)) in
    subst (λ (x : ℕ). Between (q * 2 ^ k) x) (sym e)
    (go (2 * u) (four u (even_product r (2 ^ d) re)) (lt_of_mul-lt-mul_right (2 ^ k) (subst (λ (x : ℕ). q * 2 ^ k < x) e l)) (eq-or-lt_of_le ql))
  where
    sum : k < j → j ≡ 1 + (j - k - 1) + k
    sum h = omega arith

    swap : (r D : ℕ) → r * (2 * D) ≡ 2 * (r * D)
    swap r D = simp poly (omega arith)

    four : (u : ℕ) → u % 2 ≡ 0 → 2 * u % 4 ≡ 0
    four u h = omega arith

    go : (p : ℕ) → p % 4 ≡ 0 → q < p → (q ≡ 2 ^ 53) ⊎ (q < 2 ^ 53) → Between (q * 2 ^ k) (p * 2 ^ k)
    go p f g (inl x) = record { Z = (q + 2) * 2 ^ k; held = subst Held (same x) (held_of (2 ^ 52 + 1) (1 + k) (omega arith)); from = times k (omega arith); to = times k (more x) }
      where
        same : q ≡ 2 ^ 53 → (2 ^ 52 + 1) * 2 ^ (1 + k) ≡ (q + 2) * 2 ^ k
        same x = ap (λ (z : ℕ). (2 ^ 52 + 1) * z) (pow-add 2 1 k) ∙ twice (2 ^ k) ∙ ap (λ (z : ℕ). (z + 2) * 2 ^ k) (sym x)
          where
            twice : (K : ℕ) → (2 ^ 52 + 1) * (2 * K) ≡ (2 ^ 53 + 2) * K
            twice K = omega arith

        more : q ≡ 2 ^ 53 → q + 2 < p
        more x = omega arith
    go p f g (inr x) = step q p k x (two f g)
      where
        two : p % 4 ≡ 0 → q < p → q + 2 ≤ p
        two f g = omega arith

between : (q k r j : ℕ) → q ≤ 2 ^ 53 → r ≤ 2 ^ 53 → q % 2 ≡ 0 → r % 2 ≡ 0 → q * 2 ^ k < r * 2 ^ j → Between (q * 2 ^ k) (r * 2 ^ j)
between q k r j ql rl qe re l = elim (le_or_lt j k) [ inl h ↦ coarse q k r j h rl qe re l | inr h ↦ fine q k r j h ql qe re l ]

-- where two lie at the same distance from the root, both are even, and a third is nearer than the lower one
one_root : {s q k r j : ℕ} → NearestRoot s q k → NearestRoot s r j → q * 2 ^ k < r * 2 ^ j → ⊥
one_root {s} {q} {k} {r} {j} n m l =
    let R = q * 2 ^ k in
    let S = r * 2 ^ j in
    let low : (S + R) * (S + R) ≤ 4 * s = m.below R n.held l in
    let same : (R + S) * (R + S) ≡ (S + R) * (S + R) = ap (λ (x : ℕ). x * x) (add_comm R S) in
    let tie : (R + S) * (R + S) ≡ 4 * s = le_antisymm (le_trans (le_of_eq same) low) (n.above S m.held l) in
    let b = between q k r j n.q_le m.q_le (n.tie S m.held (other l) tie) (m.tie R n.held (other' l) (sym same ∙ tie)) l in
    not-le_of_lt (sq_mono (plus R b.to)) (subst (λ (x : ℕ). x ≤ (R + b.Z) * (R + b.Z)) (sym tie) (n.above b.Z b.held b.from))
  where
    other : {a b : ℕ} → a < b → b ≡ a → ⊥
    other h e = omega arith

    other' : {a b : ℕ} → a < b → a ≡ b → ⊥
    other' h e = omega arith

    plus : (a : ℕ) {b c : ℕ} → b < c → a + b < a + c
    plus a h = omega arith

same_root : {s q k r j : ℕ} → NearestRoot s q k → NearestRoot s r j → q * 2 ^ k ≡ r * 2 ^ j
same_root {s} {q} {k} {r} {j} n m = le_antisymm (le_of_not_lt (one_root m n)) (le_of_not_lt (one_root n m))

-- a double is known by its size
same_bits : (u v : Float) (a b : ℕ) → HasValue u false a (2 ^ 1074) → HasValue v false b (2 ^ 1074) → a ≡ b → to_bits binary64 u ≡ to_bits binary64 v
unfolding to_bits
same_bits nan v a b p q e = absurd p
same_bits (inf s) v a b p q e = absurd p
same_bits (fin s m d) nan a b p q e = absurd q
same_bits (fin s m d) (inf t) a b p q e = absurd q
same_bits (fin s m d) (fin t n c) a b p q e =
    ap (λ (x : Bool). cond x (2 ^ 63) 0 + (size (count m d) - 53) * 2 ^ 52 + count m d / 2 ^ (size (count m d) - 53)) (p.0 ∙ sym q.0)
    ∙ ap (λ (x : ℕ). cond t (2 ^ 63) 0 + (size x - 53) * 2 ^ 52 + x / 2 ^ (size x - 53)) (sym (count_of s false m d a p) ∙ e ∙ count_of t false n c b q)

same_value : (u v : Float) (a b : ℕ) → T (fits binary64 u) → T (fits binary64 v) → HasValue u false a (2 ^ 1074) → HasValue v false b (2 ^ 1074) → a ≡ b → u ≡ v
same_value u v a b f g p q e = sym (of_bits-to_bits binary64 u f) ∙ ap (of_bits binary64) (same_bits u v a b p q e) ∙ of_bits-to_bits binary64 v g

pub rounds_unique : {s : ℕ} (u v : Float) → T (fits binary64 u) → T (fits binary64 v) → Rounds s u → Rounds s v → u ≡ v
rounds_unique u v f g (past _ e) (past _ d) = e ∙ sym d
rounds_unique u v f g (past h _) (near _ _ l _ _) = absurd (not-le_of_lt l h)
rounds_unique u v f g (near _ _ l _ _) (past h _) = absurd (not-le_of_lt l h)
rounds_unique u v f g (near q k _ p n) (near r j _ d m) = same_value u v (q * 2 ^ k) (r * 2 ^ j) f g p d (same_root n m)
