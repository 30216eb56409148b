-- A computed gap that reaches the distance less the tolerance, and that is the rounded root of a square as short as a point nearer than the
-- margin leaves it, is a contradiction: the margin leaves out two tolerances, and the roundings come to less than one. Assumes nothing.
use mathlib.Core.Path.{◌≡◌}
use Prim.Native.Nat.{ℕ, zero, suc, ◌+◌, ◌*◌, ◌^◌, ◌≤◌}
use native.Mathlib.Nat.{le_trans, le_of_eq, mul-le-mul_left, le_of_mul-le-mul_left}
use native.Mathlib.Omega.{arith}
use lib.Pow.{pow_pos}
use Rattle.margins.proofs.Lengths.{rooted}

-- g is the rounded root of s: with w the unit of its last place, the middle below it, half of 2 g - w, is not above the root
pub record Rooted (s g : ℕ) : Type 0 where
  pub w : ℕ
  pub twice_less : ℕ
  pub near : twice_less * twice_less ≤ 4 * s
  pub is : twice_less + w ≡ 2 * g
  pub place : 2 ^ 52 * w ≤ g + 2 ^ 52

-- In units: D is the distance, M the largest coordinate, u the number 1, R their sum, h the distance less the tolerance as computed, and n
-- 10 ^ 15 times the margin, that is the distance less 2 × 1e-9 R and less 1e-15 M.
pub record Margin (D M u R n h : ℕ) : Type 0 where
  pub R_is : R ≡ u + D + M
  pub n_is : n + 2 * 10 ^ 6 * R + M ≡ 10 ^ 15 * D
  pub tolerance : 10 ^ 12 * D ≤ 10 ^ 12 * h + 1001 * R
  pub large : 2 ^ 60 ≤ u

-- the computed gap, a rounded root of s, reaches h
pub record Gap (D M u R n s : ℕ) : Type 0 where
  pub h : ℕ
  pub g : ℕ
  pub margin : Margin D M u R n h
  pub root : Rooted s g
  pub reaches : h ≤ g

-- ---- the arithmetic, a part at a time: `omega` takes numbers of at most 38 digits on its way

without_d : (x z R d : ℕ) → x ≤ 2 * (z + 10 ^ 15 * R + 2 * (10 ^ 15 * 2 ^ 44 * d)) → 10 ^ 15 * (2 ^ 46 * d) ≤ 10 ^ 15 * R → x ≤ 2 * z + 3 * 10 ^ 15 * R
without_d x z R d f i = omega arith

cut : (y n R : ℕ) → 10 ^ 15 * 2 ^ 44 * y ≤ 2 * (2 ^ 44 * n) + 3 * 10 ^ 15 * R → 10 ^ 15 * y ≤ 2 * n + 171 * R
cut y n R h = le_of_mul-le-mul_left {k = 2 ^ 44} (le_trans (le_of_eq (swap y)) (le_trans h (more n R))) (pow_pos 44)
  where
    swap : (y : ℕ) → 2 ^ 44 * (10 ^ 15 * y) ≡ 10 ^ 15 * 2 ^ 44 * y
    swap y = omega arith

    more : (n R : ℕ) → 2 * (2 ^ 44 * n) + 3 * 10 ^ 15 * R ≤ 2 ^ 44 * (2 * n + 171 * R)
    more n R = omega arith

place_small : (w g : ℕ) → 2 ^ 52 * w ≤ g + 2 ^ 52 → 10 ^ 15 * w ≤ g + 10 ^ 15
place_small zero g h = omega arith
place_small (suc w) g h = omega arith

limited : (D M R n g w y : ℕ) → 10 ^ 15 * w ≤ g + 10 ^ 15 → 10 ^ 15 * y ≤ 2 * n + 171 * R → n + 2 * 10 ^ 6 * R + M ≡ 10 ^ 15 * D → y + w ≡ 2 * g
    → 2 * 10 ^ 15 * g + 4 * 10 ^ 6 * R ≤ 2 * 10 ^ 15 * D + 171 * R + g + 10 ^ 15
limited D M R n g w y p q r s = omega arith

upper : (g D R : ℕ) → 2 * 10 ^ 15 * g + 4 * 10 ^ 6 * R ≤ 2 * 10 ^ 15 * D + 171 * R + g + 10 ^ 15 → g ≤ 2 * D + 1
upper g D R x = omega arith

sizes : (R u D M : ℕ) → R ≡ u + D + M → 2 ^ 60 ≤ u → (D ≤ R) × (2 ^ 60 ≤ R)
sizes R u D M a l = omega arith

distance : (D h R : ℕ) → 10 ^ 12 * D ≤ 10 ^ 12 * h + 1001 * R → 2 * 10 ^ 15 * D ≤ 2 * 10 ^ 15 * h + 2002000 * R
distance D h R z = omega arith

rest : (a b c R g : ℕ) → a + 4 * 10 ^ 6 * R ≤ b + 171 * R + g + 10 ^ 15 → c ≤ a → b ≤ c + 2002000 * R → 1997829 * R ≤ g + 10 ^ 15
rest a b c R g p q r = omega arith

clash : (R g D : ℕ) → g ≤ 2 * D + 1 → D ≤ R → 2 ^ 60 ≤ R → 1997829 * R ≤ g + 10 ^ 15 → ⊥
clash R g D u o q p = omega arith

-- 10 ^ 15 * 2 ^ 44 times the length of a vector that is longer than n / 10 ^ 15 by R / 2 ^ 44 and twice d
abbrev pub longest : ℕ → ℕ → ℕ → ℕ
longest n R d = 2 ^ 44 * n + 10 ^ 15 * R + 2 * (10 ^ 15 * 2 ^ 44 * d)

-- the computed vector, of which s is the square, cannot be so short
pub too_short : {D M u R n s : ℕ} (d : ℕ) → Gap D M u R n s → 2 ^ 46 * d ≤ R → 10 ^ 15 * 2 ^ 44 * (10 ^ 15 * 2 ^ 44) * s ≤ longest n R d * longest n R d → ⊥
too_short {D} {M} {u} {R} {n} {s} d q b v =
    clash R q.g D (upper q.g D R most) all.0 all.1
    (rest (2 * 10 ^ 15 * q.g) (2 * 10 ^ 15 * D) (2 * 10 ^ 15 * q.h) R q.g most
    (mul-le-mul_left (2 * 10 ^ 15) q.reaches) (distance D q.h R q.margin.tolerance))
  where
    all : (D ≤ R) × (2 ^ 60 ≤ R)
    all = sizes R u D M q.margin.R_is q.margin.large

    y : ℕ
    y = q.root.twice_less

    long : 10 ^ 15 * y ≤ 2 * n + 171 * R
    long =
        cut y n R
        (without_d (10 ^ 15 * 2 ^ 44 * y) (2 ^ 44 * n) R d
        (rooted y s (10 ^ 15 * 2 ^ 44) (longest n R d) q.root.near v)
        (mul-le-mul_left (10 ^ 15) b))

    most : 2 * 10 ^ 15 * q.g + 4 * 10 ^ 6 * R ≤ 2 * 10 ^ 15 * D + 171 * R + q.g + 10 ^ 15
    most = limited D M R n q.g q.root.w y (place_small q.root.w q.g q.root.place) long q.margin.n_is q.root.is
