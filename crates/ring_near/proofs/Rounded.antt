-- How far squares and sums are from what is rounded to them, in units of the smallest double: a part in 2 ^ 36, and one unit. Assumes nothing.
use mathlib.Core.Path.{◌≡◌, refl, sym, ap, ◌∙◌, subst}
use mathlib.Core.Logic.{◌⊎◌, inl, inr}
use mathlib.Core.Bool.{Bool, true, false, false≢true}
use Prim.Native.Nat.{ℕ, suc, ◌+◌, ◌-◌, ◌*◌, ◌/◌, ◌%◌, ◌^◌, ◌≤◌, ◌<◌, compare}
use native.Mathlib.Nat.{le_trans, le_of_eq, mod-lt, div-add-mod', mul-le-mul_right, le_of_mul-le-mul_right, mul-pos, mul-one, mul_assoc, le-div_iff_mul-le, div-div-eq-div-mul, eq-zero-or-pos}
use native.Mathlib.Omega.{arith}
use borrow.Author.Tests.{ltb-true, ltb-false}
use lib.Dec.{T, ltb}
use lib.IntN.{ℤ, negsuc}
use lib.Pow.{pow-add, pow_pos}
use lib.Ieee.{Float, nan, inf, fin, binary64, up, down, size, units, round, add, mul, fits, sum}
use lib.Ieee.Digits.{size_reaches}
use lib.Ieee.Exact.{HasValue}
use lib.Ieee.Fits.{nearest-le, round_is, down_pos}
use lib.Ieee.Nearest.{closest, nearest-ge}
use lib.Ieee.Order.{drop, kept}
use lib.Ieee.Scale.{grid, round_val}
use Rattle.hypotenuse.specs.Hypot.{count}
use Rattle.hypotenuse.proofs.Poly.{poly}
use Rattle.hypotenuse.proofs.Units.{count_exact}

-- ---- a fraction rounded to a whole number

closest_near : (n u : ℕ) → 0 < u → (n ≤ closest n u * u + u) × (closest n u * u ≤ n + u)
closest_near n u U =
    let o = compare (n % u * 2) u in
    let l : n / u * u ≤ closest n u * u = mul-le-mul_right u (nearest-ge (n / u) o) in
    let h : closest n u * u ≤ suc (n / u) * u = mul-le-mul_right u (nearest-le (n / u) o) in
    go (n / u * u) (closest n u * u) (suc (n / u) * u) (n % u) l h (div-add-mod' n u) (mod-lt n U) (step (n / u))
  where
    step : (x : ℕ) → suc x * u ≡ x * u + u
    step x = simp poly (omega arith)

    go : (x y z r : ℕ) → x ≤ y → y ≤ z → x + r ≡ n → r < u → z ≡ x + u → (n ≤ y + u) × (y ≤ n + u)
    go x y z r a b c d e = (omega arith, omega arith)

all_in_use : (z p : ℕ) → 0 < p → 0 < z - p → p - 1 + (z - p) < z
all_in_use z p P h = omega arith

kept_ge : (p n den : ℕ) → 0 < p → 0 < drop p n den → 2 ^ (p - 1) ≤ kept p n den
kept_ge p n den P K =
    let k = drop p n den in
    let u = den * 2 ^ k in
    let w = n / den in
    let a : 2 ^ (p - 1) * 2 ^ k ≤ w = le_trans (le_of_eq (sym (pow-add 2 (p - 1) k))) (size_reaches w (p - 1 + k) (all_in_use (size w) p P K)) in
    le_trans (subst (λ (x : ℕ). 2 ^ (p - 1) ≤ x) (div-div-eq-div-mul n den (2 ^ k)) ((le-div_iff_mul-le (pow_pos k)).1 a)) (nearest-ge (n / u) (compare (n % u * 2) u))

-- the last digit kept is small beside the number, or it is the unit
last_small : (n b : ℕ) → 68719476736 * (b * 2 ^ drop 53 n b) ≤ kept 53 n b * (b * 2 ^ drop 53 n b) + 68719476736 * b
last_small n b = go (drop 53 n b) (kept 53 n b) (kept_ge 53 n b (omega arith))
  where
    over : (q u : ℕ) → 68719476736 ≤ q → 68719476736 * u ≤ q * u + 68719476736 * b
    over q u h = let m = mul-le-mul_right u h in omega arith

    go : (k q : ℕ) → (0 < k → 2 ^ 52 ≤ q) → 68719476736 * (b * 2 ^ k) ≤ q * (b * 2 ^ k) + 68719476736 * b
    go k q h = elim (eq-zero-or-pos k) [
      | inl e ↦ subst (λ (j : ℕ). 68719476736 * (b * 2 ^ j) ≤ q * (b * 2 ^ j) + 68719476736 * b) (sym e) (rw (mul-one b) (omega arith))
      | inr p ↦ over q (b * 2 ^ k) (le_trans (omega arith) (h p))
    ]

-- ---- what is rounded, n = a * unit / b, and g, what it is rounded to
pub record Rounded (n g b : ℕ) : Type 0 where
  pub low : 68719476736 * n ≤ 68719476737 * (g * b) + 68719476736 * b
  pub high : 68719476735 * (g * b) ≤ 68719476736 * n + 68719476736 * b

pub rounded : (a b : ℕ) → 0 < b → Rounded (a * 2 ^ 1074) (grid binary64 a b) b
rounded a b B =
    let n = a * 2 ^ 1074 in
    let k = drop 53 n b in
    let c = closest_near n (b * 2 ^ k) (mul-pos B (pow_pos k)) in
    let r = go n (kept 53 n b * (b * 2 ^ k)) (b * 2 ^ k) (grid binary64 a b * b) (swap (kept 53 n b) (2 ^ k)) c.0 c.1 (last_small n b) in
    record { low = r.0; high = r.1 }
  where
    swap : (q p : ℕ) → q * (b * p) ≡ q * p * b
    swap q p = simp poly

    go : (n x u y : ℕ) → x ≡ y → n ≤ x + u → x ≤ n + u → 68719476736 * u ≤ x + 68719476736 * b → (68719476736 * n ≤ 68719476737 * y + 68719476736 * b) × (68719476735 * y ≤ 68719476736 * n + 68719476736 * b)
    go n x u y e l h s = (omega arith, omega arith)

-- ---- a result that is not negative: NaN, the infinity of an infinite operand, or g units, of which P tells more; from 2 ^ 2098 on they are infinity
pub data Size (r : Float) (P : ℕ → Type 0) (E : Type 0) : Type 0 where
  none : r ≡ nan → Size r P E
  endless : r ≡ inf false → E → Size r P E
  huge : (g : ℕ) → r ≡ inf false → 2 ^ 2098 ≤ g → P g → Size r P E
  sized : (g : ℕ) → HasValue r false g (2 ^ 1074) → g < 2 ^ 2098 → P g → Size r P E

told : (r : Float) (P Q : ℕ → Type 0) (E : Type 0) → Size r P E → ((g : ℕ) → P g → Q g) → Size r Q E
told r P Q E (none e) h = none e
told r P Q E (endless e i) h = endless e i
told r P Q E (huge g e l p) h = huge g e l (h g p)
told r P Q E (sized g v l p) h = sized g v l (h g p)

units_over : (q k : ℕ) → ltb (q * 2 ^ k) (2 ^ 2098) ≡ false → units binary64 false q k ≡ inf false
unfolding units
units_over q k h = rw h refl

size_round : (E : Type 0) (a b : ℕ) → 0 < b → Size (round binary64 false a b) (λ (g : ℕ). Rounded (a * 2 ^ 1074) g b) E
size_round E a b B = go (ltb (grid binary64 a b) (2 ^ 2098)) refl
  where
    go : (t : Bool) → ltb (grid binary64 a b) (2 ^ 2098) ≡ t → Size (round binary64 false a b) (λ (g : ℕ). Rounded (a * 2 ^ 1074) g b) E
    go true h = let l = ltb-true (grid binary64 a b) (2 ^ 2098) h in sized (grid binary64 a b) (round_val binary64 a b l) l (rounded a b B)
    go false h =
        huge (grid binary64 a b) (round_is binary64 false a b ∙ units_over (kept 53 (a * 2 ^ 1074) b) (drop 53 (a * 2 ^ 1074) b) h) (ltb-false (grid binary64 a b) (2 ^ 2098) h) (rounded a b B)

-- ---- squares
abbrev pub finite : Float → Bool
finite nan = false
finite (inf s) = false
finite (fin s m e) = true

abbrev pub infinite : Float → Bool
infinite nan = false
infinite (inf s) = true
infinite (fin s m e) = false

abbrev pub mag : Float → ℕ
mag nan = 0
mag (inf s) = 0
mag (fin s m e) = count m e

pub record Square (X g : ℕ) : Type 0 where
  pub low : 68719476736 * (X * X) ≤ 68719476737 * (g * 2 ^ 1074) + 68719476736 * 2 ^ 1074
  pub high : 68719476735 * (g * 2 ^ 1074) ≤ 68719476736 * (X * X) + 68719476736 * 2 ^ 1074

-- n = N * U / B is Q / U
cancel_low : (N U Q B g : ℕ) → 0 < B → N * U ≡ Q * B → 68719476736 * N ≤ 68719476737 * (g * B) + 68719476736 * B → 68719476736 * Q ≤ 68719476737 * (g * U) + 68719476736 * U
cancel_low N U Q B g p e h =
    le_of_mul-le-mul_right
    (le_trans (le_of_eq (mul_assoc 68719476736 Q B ∙ ap (λ (z : ℕ). 68719476736 * z) (sym e) ∙ sym (mul_assoc 68719476736 N U))) (le_trans (mul-le-mul_right U h) (le_of_eq (swap 68719476737 68719476736)))) p
  where
    swap : (x y : ℕ) → (x * (g * B) + y * B) * U ≡ (x * (g * U) + y * U) * B
    swap x y = simp poly

cancel_high : (N U Q B g : ℕ) → 0 < B → N * U ≡ Q * B → 68719476735 * (g * B) ≤ 68719476736 * N + 68719476736 * B → 68719476735 * (g * U) ≤ 68719476736 * Q + 68719476736 * U
cancel_high N U Q B g p e h =
    le_of_mul-le-mul_right (le_trans (le_of_eq (swap 68719476735)) (le_trans (mul-le-mul_right U h) (le_of_eq (part 68719476736 ∙ ap (λ (z : ℕ). 68719476736 * z + 68719476736 * (U * B)) e ∙ sym (join 68719476736))))) p
  where
    swap : (x : ℕ) → x * (g * U) * B ≡ x * (g * B) * U
    swap x = simp poly

    part : (y : ℕ) → (y * N + y * B) * U ≡ y * (N * U) + y * (U * B)
    part y = simp poly

    join : (y : ℕ) → (y * Q + y * U) * B ≡ y * (Q * B) + y * (U * B)
    join y = simp poly

square_units : (M D X U : ℕ) → M * U ≡ X * D → M * M * U * U ≡ X * X * (D * D)
square_units M D X U e = left ∙ ap (λ (z : ℕ). z * z) e ∙ right
  where
    left : M * M * U * U ≡ M * U * (M * U)
    left = simp poly

    right : X * D * (X * D) ≡ X * X * (D * D)
    right = simp poly

square_of : (s : Bool) (m : ℕ) (e : ℤ) (g : ℕ) → T (fits binary64 (fin s m e)) → Rounded (m * up e * (m * up e) * 2 ^ 1074) g (down e * down e) → Square (count m e) g
square_of s m e g f r =
    let q = square_units (m * up e) (down e) (count m e) (2 ^ 1074) (count_exact s m e f).1 in
    let p = mul-pos (down_pos e) (down_pos e) in
    record {
      low = cancel_low (m * up e * (m * up e) * 2 ^ 1074) (2 ^ 1074) (count m e * count m e) (down e * down e) g p q r.low;
      high = cancel_high (m * up e * (m * up e) * 2 ^ 1074) (2 ^ 1074) (count m e * count m e) (down e * down e) g p q r.high;
    }

pub size_square : (x : Float) → T (fits binary64 x) → Size (mul binary64 x x) (λ (g : ℕ). T (finite x) × Square (mag x) g) (T (infinite x))
unfolding mul
size_square nan f = none refl
size_square (inf true) f = endless refl tt
size_square (inf false) f = endless refl tt
size_square (fin true m e) f =
    told (round binary64 false (m * up e * (m * up e)) (down e * down e)) (λ (g : ℕ). Rounded (m * up e * (m * up e) * 2 ^ 1074) g (down e * down e)) (λ (g : ℕ). T true × Square (count m e) g) (T false)
    (size_round (T false) (m * up e * (m * up e)) (down e * down e) (mul-pos (down_pos e) (down_pos e))) (λ g r. (tt, square_of true m e g f r))
size_square (fin false m e) f =
    told (round binary64 false (m * up e * (m * up e)) (down e * down e)) (λ (g : ℕ). Rounded (m * up e * (m * up e) * 2 ^ 1074) g (down e * down e)) (λ (g : ℕ). T true × Square (count m e) g) (T false)
    (size_round (T false) (m * up e * (m * up e)) (down e * down e) (mul-pos (down_pos e) (down_pos e))) (λ g r. (tt, square_of false m e g f r))

-- ---- sums
pub record Sum (a b g : ℕ) : Type 0 where
  pub low : 68719476736 * (a + b) ≤ 68719476737 * g + 68719476736
  pub high : 68719476735 * g ≤ 68719476736 * (a + b) + 68719476736

sum_cancel : (n a g B : ℕ) → 0 < B → n ≡ a * B → Rounded n g B → (68719476736 * a ≤ 68719476737 * g + 68719476736) × (68719476735 * g ≤ 68719476736 * a + 68719476736)
sum_cancel n a g B p e r =
    let l = cancel_low n 1 a B g p (mul-one n ∙ e) r.low in
    let h = cancel_high n 1 a B g p (mul-one n ∙ e) r.high in
    (omega (arith, l), omega (arith, h))

sum_units : (x y a b d c U : ℕ) → x * U ≡ a * d → y * U ≡ b * c → (x * c + y * d) * U ≡ (a + b) * (d * c)
sum_units x y a b d c U e h = left ∙ ap (λ (z : ℕ). z * c + y * U * d) e ∙ ap (λ (z : ℕ). a * d * c + z * d) h ∙ right
  where
    left : (x * c + y * d) * U ≡ x * U * c + y * U * d
    left = simp poly

    right : a * d * c + b * c * d ≡ (a + b) * (d * c)
    right = simp poly

add_sized : (E : Type 0) (A B : Float) (a b : ℕ) → HasValue A false a (2 ^ 1074) → HasValue B false b (2 ^ 1074) → Size (add binary64 A B) (λ (g : ℕ). Sum a b g) E
unfolding add sum
add_sized E nan B a b u v = absurd u
add_sized E (inf s) B a b u v = absurd u
add_sized E (fin s m e) nan a b u v = absurd v
add_sized E (fin s m e) (inf t) a b u v = absurd v
add_sized E (fin true m e) (fin t n d) a b u v = absurd (false≢true (sym u.0))
add_sized E (fin false m e) (fin true n d) a b u v = absurd (false≢true (sym v.0))
add_sized E (fin false m e) (fin false n d) a b u v =
    let D = down e * down d in
    let p = mul-pos (down_pos e) (down_pos d) in
    let x = m * up e * down d + n * up d * down e in
    told (round binary64 false x D) (λ (g : ℕ). Rounded (x * 2 ^ 1074) g D) (λ (g : ℕ). Sum a b g) E (size_round E x D p)
    (λ g r. let c = sum_cancel (x * 2 ^ 1074) (a + b) g D p (sum_units (m * up e) (n * up d) a b (down e) (down d) (2 ^ 1074) u.1 v.1) r in record { low = c.0; high = c.1 })

add_nan : (A : Float) → add binary64 A nan ≡ nan
unfolding add
add_nan nan = refl
add_nan (inf s) = refl
add_nan (fin s m e) = refl

add_inf : (A : Float) (a c : ℕ) → HasValue A false a c → add binary64 A (inf false) ≡ inf false
unfolding add
add_inf nan a c v = absurd v
add_inf (inf s) a c v = absurd v
add_inf (fin s m e) a c v = refl

inf_add : (A : Float) (a c : ℕ) → HasValue A false a c → add binary64 (inf false) A ≡ inf false
unfolding add
inf_add nan a c v = absurd v
inf_add (inf s) a c v = absurd v
inf_add (fin s m e) a c v = refl

abbrev pub Sums : (ℕ → Type 0) → (ℕ → Type 0) → ℕ → Type 0
Sums P Q g = (a : ℕ) × (b : ℕ) × (P a × Q b × Sum a b g)

sum_huge : (a b : ℕ) → Sum a b (a + b)
sum_huge a b = record { low = go (a + b); high = back (a + b) }
  where
    go : (g : ℕ) → 68719476736 * g ≤ 68719476737 * g + 68719476736
    go g = omega arith

    back : (g : ℕ) → 68719476735 * g ≤ 68719476736 * g + 68719476736
    back g = omega arith

over_left : (o a b : ℕ) → o ≤ a → o ≤ a + b
over_left o a b h = omega arith

over_right : (o a b : ℕ) → o ≤ b → o ≤ a + b
over_right o a b h = omega arith

-- infinity and infinity
add_both : (A B : Float) → A ≡ inf false → B ≡ inf false → add binary64 A B ≡ inf false
unfolding add
add_both A B e h = ap (λ (z : Float). add binary64 z B) e ∙ ap (add binary64 (inf false)) h

add_first : (A B : Float) (b : ℕ) → A ≡ inf false → HasValue B false b (2 ^ 1074) → add binary64 A B ≡ inf false
add_first A B b e v = ap (λ (z : Float). add binary64 z B) e ∙ inf_add B b (2 ^ 1074) v

add_second : (A B : Float) (a : ℕ) → HasValue A false a (2 ^ 1074) → B ≡ inf false → add binary64 A B ≡ inf false
add_second A B a u h = ap (add binary64 A) h ∙ add_inf A a (2 ^ 1074) u

pub size_add : (A B : Float) (P Q : ℕ → Type 0) (E F : Type 0) → Size A P E → Size B Q F → Size (add binary64 A B) (Sums P Q) (E ⊎ F)
unfolding add
size_add A B P Q E F (none e) y = none (ap (λ (z : Float). add binary64 z B) e)
size_add A B P Q E F (endless e i) (none h) = none (ap (add binary64 A) h ∙ add_nan A)
size_add A B P Q E F (endless e i) (endless h j) = endless (add_both A B e h) (inl i)
size_add A B P Q E F (endless e i) (huge b h l q) = endless (add_both A B e h) (inl i)
size_add A B P Q E F (endless e i) (sized b v l q) = endless (add_first A B b e v) (inl i)
size_add A B P Q E F (huge a e k p) (none h) = none (ap (add binary64 A) h ∙ add_nan A)
size_add A B P Q E F (huge a e k p) (endless h j) = endless (add_both A B e h) (inr j)
size_add A B P Q E F (huge a e k p) (huge b h l q) = huge (a + b) (add_both A B e h) (over_left (2 ^ 2098) a b k) (a, b, (p, q, sum_huge a b))
size_add A B P Q E F (huge a e k p) (sized b v l q) = huge (a + b) (add_first A B b e v) (over_left (2 ^ 2098) a b k) (a, b, (p, q, sum_huge a b))
size_add A B P Q E F (sized a u k p) (none h) = none (ap (add binary64 A) h ∙ add_nan A)
size_add A B P Q E F (sized a u k p) (endless h j) = endless (add_second A B a u h) (inr j)
size_add A B P Q E F (sized a u k p) (huge b h l q) = huge (a + b) (add_second A B a u h) (over_right (2 ^ 2098) a b l) (a, b, (p, q, sum_huge a b))
size_add A B P Q E F (sized a u k p) (sized b v l q) = told (add binary64 A B) (λ (g : ℕ). Sum a b g) (Sums P Q) (E ⊎ F) (add_sized (E ⊎ F) A B a b u v) (λ g r. (a, b, (p, q, r)))

-- ---- a number made larger by a part in 2 ^ 30
abbrev pub more : Float
more = fin false 1073741825 (negsuc 29)

pub record Scaled (v g : ℕ) : Type 0 where
  pub low : 68719476736 * (1073741825 * v) ≤ 68719476737 * (g * 1073741824) + 68719476736 * 1073741824

scale_units : (x v d U : ℕ) → x * U ≡ v * d → 1073741825 * x * U * 1 ≡ v * 1073741825 * d
scale_units x v d U e = mul-one _ ∙ mul_assoc 1073741825 x U ∙ ap (λ (z : ℕ). 1073741825 * z) e ∙ right 1073741825
  where
    right : (c : ℕ) → c * (v * d) ≡ v * c * d
    right c = simp poly

scaled_of : (x v d g U : ℕ) → 0 < d → x * U ≡ v * d → Rounded (1073741825 * x * U) g (1073741824 * d) → Scaled v g
scaled_of x v d g U p e r = record { low = le_of_mul-le-mul_right (go (1073741825 * x * U) (sym (mul-one _) ∙ scale_units x v d U e) r.low) p }
  where
    left : (c k : ℕ) → c * (k * v) * d ≡ c * (v * k * d)
    left c k = simp poly

    right : (c k j : ℕ) → c * (g * (k * d)) + j * (k * d) ≡ (c * (g * k) + j * k) * d
    right c k j = simp poly

    go : (n : ℕ) → n ≡ v * 1073741825 * d → 68719476736 * n ≤ 68719476737 * (g * (1073741824 * d)) + 68719476736 * (1073741824 * d) →
        68719476736 * (1073741825 * v) * d ≤ (68719476737 * (g * 1073741824) + 68719476736 * 1073741824) * d
    go n e h = le_trans (le_of_eq (left 68719476736 1073741825 ∙ ap (λ (z : ℕ). 68719476736 * z) (sym e))) (le_trans h (le_of_eq (right 68719476737 1073741824 68719476736)))

scale_sized : (E : Type 0) (A : Float) (v : ℕ) → HasValue A false v (2 ^ 1074) → Size (mul binary64 more A) (λ (g : ℕ). Scaled v g) E
unfolding mul
scale_sized E nan v u = absurd u
scale_sized E (inf s) v u = absurd u
scale_sized E (fin true m e) v u = absurd (false≢true (sym u.0))
scale_sized E (fin false m e) v u =
    told (round binary64 false (1073741825 * (m * up e)) (1073741824 * down e)) (λ (g : ℕ). Rounded (1073741825 * (m * up e) * 2 ^ 1074) g (1073741824 * down e)) (λ (g : ℕ). Scaled v g) E
    (size_round E (1073741825 * (m * up e)) (1073741824 * down e) (mul-pos (omega arith) (down_pos e))) (λ g r. scaled_of (m * up e) v (down e) g (2 ^ 1074) (down_pos e) u.1 r)

abbrev pub Scales : (ℕ → Type 0) → ℕ → Type 0
Scales P g = (v : ℕ) × (P v × Scaled v g)

pub size_scale : (A : Float) (P : ℕ → Type 0) (E : Type 0) → Size A P E → Size (mul binary64 more A) (Scales P) (Unit {0})
unfolding mul
size_scale A P E (none e) = none (ap (mul binary64 more) e)
size_scale A P E (endless e i) = endless (ap (mul binary64 more) e) tt
size_scale A P E (huge v e l p) = endless (ap (mul binary64 more) e) tt
size_scale A P E (sized v u l p) = told (mul binary64 more A) (λ (g : ℕ). Scaled v g) (Scales P) (Unit {0}) (scale_sized (Unit {0}) A v u) (λ g r. (v, (p, r)))
