-- Of two vectors whose squared lengths, as computed, differ clearly, the rounded lengths differ, too; and so for a vector and a number. Assumes nothing.
use mathlib.Core.Path.{◌≡◌, refl, sym, ap, ◌∙◌, subst}
use mathlib.Core.Logic.{◌⊎◌, inl, inr}
use mathlib.Core.Bool.{Bool, true, false, ◌||◌, false≢true}
use Prim.Native.Nat.{ℕ, ◌+◌, ◌-◌, ◌*◌, ◌/◌, ◌^◌, ◌≤◌, ◌<◌}
use native.Mathlib.Nat.{le_trans, le_of_eq, le_of_lt, lt_of_lt_of_le, not-le_of_lt, mul-le-mul_right, mul-lt-mul_of_pos_right, mul_assoc, mul-one, add-mul, eq-zero-or-pos}
use native.Mathlib.Omega.{arith}
use borrow.Author.Tests.{ltb-true, lt-ltb}
use lib.Dec.{T}
use lib.IntN.{pos, negsuc}
use lib.Pow.{pow-add, pow_pos, pow_mono}
use lib.Ieee.{Float, nan, inf, fin, binary64, lt, le, eq, add, mul, fits}
use lib.Ieee.Exact.{HasValue}
use Rattle.hypotenuse.specs.Hypot.{hypot, round_root}
use Rattle.hypotenuse.specs.Nearest.{Held, NearestRoot, Rounds, past, near, edge}
use Rattle.hypotenuse.proofs.Poly.{poly}
use Rattle.hypotenuse.proofs.Order.{sq_le, le_or_lt}
use Rattle.hypotenuse.proofs.Nearest.{held_of}
use Rattle.hypotenuse.proofs.Overflow.{round_root_rounds}
use Rattle.math.specs.Number.{abs}
use Rattle.math.proofs.Order.{one_way, short, lt_nan}
use Rattle.math.proofs.Laws.{hypot_not_below, root_reaches, lt_infinity}
use Rattle.math.proofs.Ranks.{lt_units, lt_most}
use Rattle.ring_near.proofs.Rounded.{Size, none, endless, huge, sized, finite, infinite, mag, Square, Sum, Sums, Scales, more, size_square, size_add, size_scale}

-- ---- the order of values, in units

values_lt : (x y : Float) (a b : ℕ) → HasValue x false a (2 ^ 1074) → HasValue y false b (2 ^ 1074) → a < b → lt x y ≡ true
values_lt x y a b u v h = lt_units x y false false a b u v ∙ lt-ltb a b h

value_below_infinity : (x : Float) (a : ℕ) → HasValue x false a (2 ^ 1074) → lt x (inf false) ≡ true
unfolding lt
value_below_infinity nan a v = absurd v
value_below_infinity (inf s) a v = absurd v
value_below_infinity (fin s m e) a v = refl

nan_below : (y : Float) → lt nan y ≡ false
unfolding lt
nan_below y = refl

-- ---- from the numbers as computed to the exact squares

-- What is left of the part in 2 ^ 30 after each rounding: a part in 1.25, 1.5, 1.75, 2, 2.25, 2.5, 2.75 and 3 times 2 ^ 30.

scaled_apart : (v W : ℕ) → 68719476736 * (1073741825 * v) ≤ 68719476737 * (W * 1073741824) + 68719476736 * 1073741824 → 1342177280 * v ≤ 1342177279 * W + 1342177280
scaled_apart v W q = omega arith

sum_below : (a v W : ℕ) → 68719476736 * a ≤ 68719476737 * v + 68719476736 → 1342177280 * v ≤ 1342177279 * W + 1342177280 → 1610612736 * a ≤ 1610612735 * W + 4831838208
sum_below a v W p q = omega arith

sum_up : (a W w : ℕ) → W ≤ w → 1610612736 * a ≤ 1610612735 * W + 4831838208 → 1610612736 * a ≤ 1610612735 * w + 4831838208
sum_up a W w r p = omega arith

sum_beside : (a w b : ℕ) → 1610612736 * a ≤ 1610612735 * w + 4831838208 → 68719476735 * w ≤ 68719476736 * b + 68719476736 → 1879048192 * a ≤ 1879048191 * b + 9395240960
sum_beside a w b p s = omega arith

sum_enough : (a b : ℕ) → 1879048192 * a ≤ 1879048191 * b + 9395240960 → 562949953421312 ≤ b → 2147483648 * a ≤ 2147483647 * b
sum_enough a b p t = omega arith

sum_large : (w b : ℕ) → 68719476735 * w ≤ 68719476736 * b + 68719476736 → 1125899906842624 ≤ w → 562949953421312 ≤ b
sum_large w b s t = omega arith

sums_apart : (a v W w b : ℕ) → 68719476736 * a ≤ 68719476737 * v + 68719476736 →
    68719476736 * (1073741825 * v) ≤ 68719476737 * (W * 1073741824) + 68719476736 * 1073741824 → W ≤ w →
    68719476735 * w ≤ 68719476736 * b + 68719476736 → 1125899906842624 ≤ w → (2147483648 * a ≤ 2147483647 * b) × (562949953421312 ≤ b)
sums_apart a v W w b p q r s t = let g = sum_large w b s t in (sum_enough a b (sum_beside a w b (sum_up a W w r (sum_below a v W p (scaled_apart v W q))) s) g, g)

few : (β θ : ℕ) → 562949953421312 * θ ≤ β → 4398046511104 * θ ≤ β
few β θ s = omega arith

few_left : (M β θ : ℕ) → 68719476735 * β ≤ 68719476736 * M + 137438953472 * θ → 4398046511104 * θ ≤ β → 1099511627776 * θ ≤ M
few_left M β θ r s = omega arith

square_below : (N α β θ : ℕ) → 68719476736 * N ≤ 68719476737 * α + 137438953472 * θ → 2147483648 * α ≤ 2147483647 * β → 2415919104 * N ≤ 2415919103 * β + 9663676416 * θ
square_below N α β θ p q = omega arith

square_enough : (N β θ : ℕ) → 2415919104 * N ≤ 2415919103 * β + 9663676416 * θ → 4398046511104 * θ ≤ β → 2684354560 * N ≤ 2684354559 * β
square_enough N β θ p q = omega arith

square_beside : (N M β θ : ℕ) → 2684354560 * N ≤ 2684354559 * β → 68719476735 * β ≤ 68719476736 * M + 137438953472 * θ → 2952790016 * N ≤ 2952790015 * M + 11811160064 * θ
square_beside N M β θ p q = omega arith

square_last : (N M θ : ℕ) → 2952790016 * N ≤ 2952790015 * M + 11811160064 * θ → 1099511627776 * θ ≤ M → 3221225472 * N ≤ 3221225471 * M
square_last N M θ p q = omega arith

squares_apart : (N M α β θ : ℕ) → 68719476736 * N ≤ 68719476737 * α + 137438953472 * θ → 2147483648 * α ≤ 2147483647 * β →
    68719476735 * β ≤ 68719476736 * M + 137438953472 * θ → 562949953421312 * θ ≤ β →
    (3221225472 * N ≤ 3221225471 * M) × (1099511627776 * θ ≤ M)
squares_apart N M α β θ p q r s =
    let f = few β θ s in
    let m = few_left M β θ r f in
    (square_last N M θ (square_beside N M β θ (square_enough N β θ (square_below N α β θ p q) f) r) m, m)

sums_small : (a v W : ℕ) → 68719476736 * a ≤ 68719476737 * v + 68719476736 → 68719476736 * (1073741825 * v) ≤ 68719476737 * (W * 1073741824) + 68719476736 * 1073741824 → a ≤ 2 * W + 4
sums_small a v W p q = omega arith

-- ---- the next double after the rounded root

next_large : (y h N M G : ℕ) → 2 * G ≤ y + 5 * h → 1099511627776 * h ≤ y → y * y ≤ 4 * N → 3221225472 * N ≤ 3221225471 * M → G * G ≤ M
next_large y h N M G a b c d =
    let e : 4 * (G * G) ≤ y * y + 10 * (y * h) + 25 * (h * h) = le_trans (le_of_eq left) (le_trans (sq_le a) (le_of_eq right)) in
    let f : 1099511627776 * (y * h) ≤ y * y = le_trans (le_of_eq flip) (mul-le-mul_right y b) in
    let g : 1099511627776 * (h * h) ≤ y * h = le_trans (le_of_eq (sym (mul_assoc 1099511627776 h h))) (mul-le-mul_right h b) in
    go (G * G) (y * y) (near_square (G * G) (y * y) (y * h) (h * h) e f g) c
  where
    left : 4 * (G * G) ≡ 2 * G * (2 * G)
    left = simp poly (omega arith)

    right : (y + 5 * h) * (y + 5 * h) ≡ y * y + 10 * (y * h) + 25 * (h * h)
    right = simp poly (omega arith)

    flip : 1099511627776 * (y * h) ≡ 1099511627776 * h * y
    flip = simp poly

    near_square : (GG yy yh hh : ℕ) → 4 * GG ≤ yy + 10 * yh + 25 * hh → 1099511627776 * yh ≤ yy → 1099511627776 * hh ≤ yh → 68719476736 * GG ≤ 17179869185 * yy
    near_square GG yy yh hh e f g = let l = little yh hh g in close GG yy yh (omega (arith, e, l)) f
      where
        little : (yh hh : ℕ) → 1099511627776 * hh ≤ yh → hh ≤ yh
        little yh hh g = omega arith

        close : (GG yy yh : ℕ) → 4 * GG ≤ yy + 35 * yh → 1099511627776 * yh ≤ yy → 68719476736 * GG ≤ 17179869185 * yy
        close GG yy yh e f = omega arith

    go : (GG yy : ℕ) → 68719476736 * GG ≤ 17179869185 * yy → yy ≤ 4 * N → GG ≤ M
    go GG yy e c = omega (arith, d)

next_small : (M G : ℕ) → G ≤ 1099511627778 → 2417851639229258349412352 ≤ M → G * G ≤ M
next_small M G a b = le_trans (sq_le a) (le_trans (omega arith) b)

-- a number that a double holds, above q * 2 ^ k by at most twice the last digit
abbrev after : ℕ → ℕ → ℕ
after q k = (q / 2 + 1) * 2 * 2 ^ k

after_held : (q k : ℕ) → q ≤ 2 ^ 53 → Held (after q k)
after_held q k l = subst Held (shift (q / 2 + 1)) (held_of (q / 2 + 1) (k + 1) (omega arith))
  where
    shift : (x : ℕ) → x * 2 ^ (k + 1) ≡ x * 2 * 2 ^ k
    shift x = rw (pow-add 2 k 1) (simp poly (omega arith))

after_above : (q k : ℕ) → q * 2 ^ k < after q k
after_above q k = mul-lt-mul_of_pos_right (omega arith) (pow_pos k)

after_root : (N M q k : ℕ) → NearestRoot N q k → 3221225472 * N ≤ 3221225471 * M → 2417851639229258349412352 ≤ M → after q k * after q k ≤ M
after_root N M q k n p b = elim (le_or_lt 1099511627776 q) [
  | inl l ↦ large l
  | inr g ↦ small g (eq-zero-or-pos k)
]
  where
    up_to : (x : ℕ) → x ≤ q + 2 → x * 2 ^ k ≤ (q + 2) * 2 ^ k
    up_to x l = mul-le-mul_right (2 ^ k) l

    less : 1099511627776 ≤ q → (q - 1) * 2 ^ k < q * 2 ^ k
    less l = mul-lt-mul_of_pos_right (omega arith) (pow_pos k)

    -- y = q * h + (q - 1) * h
    double : (h : ℕ) → 1099511627776 ≤ q → 2 * ((q / 2 + 1) * 2 * h) ≤ q * h + (q - 1) * h + 5 * h
    double h l = le_trans (le_of_eq (sym (mul_assoc 2 ((q / 2 + 1) * 2) h))) (le_trans (mul-le-mul_right h (omega arith)) (le_of_eq join))
      where
        join : (q + (q - 1) + 5) * h ≡ q * h + (q - 1) * h + 5 * h
        join = add-mul (q + (q - 1)) 5 h ∙ ap (λ (z : ℕ). z + 5 * h) (add-mul q (q - 1) h)

    wide : (h : ℕ) → 1099511627776 ≤ q → 1099511627776 * h ≤ q * h + (q - 1) * h
    wide h l = le_trans (mul-le-mul_right h l) (omega arith)

    large : 1099511627776 ≤ q → after q k * after q k ≤ M
    large l = next_large (q * 2 ^ k + (q - 1) * 2 ^ k) (2 ^ k) N M (after q k) (double (2 ^ k) l) (wide (2 ^ k) l) (n.below ((q - 1) * 2 ^ k) (held_of (q - 1) k (omega (arith, n.q_le))) (less l)) p

    small : q < 1099511627776 → (k ≡ 0) ⊎ (0 < k) → after q k * after q k ≤ M
    small g (inl e) = next_small M (after q k) (subst (λ (j : ℕ). (q / 2 + 1) * 2 * 2 ^ j ≤ 1099511627778) (sym e) (le_trans (le_of_eq (mul-one ((q / 2 + 1) * 2))) (omega arith))) b
    small g (inr l) = absurd (not-le_of_lt g (le_trans (omega arith) (n.full l)))

roots_apart : (N M : ℕ) (r s : Float) → 3221225472 * N ≤ 3221225471 * M → 2417851639229258349412352 ≤ M → 4 * N < edge * edge → Rounds N r → Rounds M s → lt r s ≡ true
roots_apart N M r s p b f (past g e) y = absurd (not-le_of_lt f g)
roots_apart N M r s p b f (near q k _ u n) (past g e) = ap (lt r) e ∙ value_below_infinity r (q * 2 ^ k) u
roots_apart N M r s p b f (near q k _ u n) (near i j _ v m) =
    values_lt r s (q * 2 ^ k) (i * 2 ^ j) u v (lt_of_lt_of_le (after_above q k) (root_reaches (after q k) (after_held q k n.q_le) (after_root N M q k n p b) m))

-- ---- the law

hypot_finite : (x y : Float) → T (finite x) → T (finite y) → hypot x y ≡ round_root binary64 (mag x * mag x + mag y * mag y)
unfolding hypot
hypot_finite nan y f g = absurd f
hypot_finite (inf s) y f g = absurd f
hypot_finite (fin s m e) nan f g = absurd g
hypot_finite (fin s m e) (inf t) f g = absurd g
hypot_finite (fin s m e) (fin t n d) f g = refl

abbrev Squares : Float → Float → ℕ → Type 0
Squares x y = Sums (λ (g : ℕ). T (finite x) × Square (mag x) g) (λ (g : ℕ). T (finite y) × Square (mag y) g)

abbrev squared : Float → Float → Float
squared x y = add binary64 (mul binary64 x x) (mul binary64 y y)

size_squared : (x y : Float) → T (fits binary64 x) → T (fits binary64 y) → Size (squared x y) (Squares x y) (T (infinite x) ⊎ T (infinite y))
size_squared x y f g =
    size_add (mul binary64 x x) (mul binary64 y y) (λ (g : ℕ). T (finite x) × Square (mag x) g) (λ (g : ℕ). T (finite y) × Square (mag y) g) (T (infinite x)) (T (infinite y)) (size_square x f) (size_square y g)

two_low : (X Y a b θ : ℕ) → 68719476736 * X ≤ 68719476737 * (a * θ) + 68719476736 * θ → 68719476736 * Y ≤ 68719476737 * (b * θ) + 68719476736 * θ → 68719476736 * (X + Y) ≤ 68719476737 * ((a + b) * θ) + 137438953472 * θ
two_low X Y a b θ p q = let e = add-mul a b θ in go (a * θ) (b * θ) ((a + b) * θ) e p q
  where
    go : (x y z : ℕ) → z ≡ x + y → 68719476736 * X ≤ 68719476737 * x + 68719476736 * θ → 68719476736 * Y ≤ 68719476737 * y + 68719476736 * θ → 68719476736 * (X + Y) ≤ 68719476737 * z + 137438953472 * θ
    go x y z e p q = omega arith

two_high : (X Y a b θ : ℕ) → 68719476735 * (a * θ) ≤ 68719476736 * X + 68719476736 * θ → 68719476735 * (b * θ) ≤ 68719476736 * Y + 68719476736 * θ → 68719476735 * ((a + b) * θ) ≤ 68719476736 * (X + Y) + 137438953472 * θ
two_high X Y a b θ p q = let e = add-mul a b θ in go (a * θ) (b * θ) ((a + b) * θ) e p q
  where
    go : (x y z : ℕ) → z ≡ x + y → 68719476735 * x ≤ 68719476736 * X + 68719476736 * θ → 68719476735 * y ≤ 68719476736 * Y + 68719476736 * θ → 68719476735 * z ≤ 68719476736 * (X + Y) + 137438953472 * θ
    go x y z e p q = omega arith

times : (c d a b θ : ℕ) → c * a ≤ d * b → c * (a * θ) ≤ d * (b * θ)
times c d a b θ h = le_trans (le_of_eq (sym (mul_assoc c a θ))) (le_trans (mul-le-mul_right θ h) (le_of_eq (mul_assoc d b θ)))

-- the largest that a sum of squares can be beside one that is finite
largest : 4 * ((4 * 2 ^ 2098 + 12) * 2 ^ 1074) < edge * edge
largest = ltb-true (4 * ((4 * 2 ^ 2098 + 12) * 2 ^ 1074)) (edge * edge) refl

small_sum : (N a W O θ : ℕ) → 68719476736 * N ≤ 68719476737 * (a * θ) + 137438953472 * θ → a ≤ 2 * W + 4 → W ≤ O → N ≤ (4 * O + 12) * θ
small_sum N a W O θ p q r =
    let t : a * θ ≤ (2 * O + 4) * θ = mul-le-mul_right θ (omega arith) in
    go (a * θ) ((2 * O + 4) * θ) ((4 * O + 12) * θ) part p t
  where
    part : (4 * O + 12) * θ ≡ 2 * ((2 * O + 4) * θ) + 4 * θ
    part = simp poly (omega arith)

    go : (x y z : ℕ) → z ≡ 2 * y + 4 * θ → 68719476736 * N ≤ 68719476737 * x + 137438953472 * θ → x ≤ y → N ≤ z
    go x y z e p t = omega arith

hypot_endless : (x y : Float) → T (infinite x) ⊎ T (infinite y) → hypot x y ≡ inf false
unfolding hypot
hypot_endless nan nan (inl i) = absurd i
hypot_endless nan nan (inr i) = absurd i
hypot_endless nan (inf t) i = refl
hypot_endless nan (fin t n d) (inl i) = absurd i
hypot_endless nan (fin t n d) (inr i) = absurd i
hypot_endless (inf s) y i = refl
hypot_endless (fin s m e) nan (inl i) = absurd i
hypot_endless (fin s m e) nan (inr i) = absurd i
hypot_endless (fin s m e) (inf t) i = refl
hypot_endless (fin s m e) (fin t n d) (inl i) = absurd i
hypot_endless (fin s m e) (fin t n d) (inr i) = absurd i

scale_up : (t : ℕ) → 2 ^ 41 ≤ t → 2417851639229258349412352 ≤ 1099511627776 * t
scale_up t h = omega arith

abbrev squares : Float → Float → ℕ
squares x y = mag x * mag x + mag y * mag y

low_sum : (x y : Float) (g : ℕ) (p : Squares x y g) → 68719476736 * squares x y ≤ 68719476737 * ((p.0 + p.1) * 2 ^ 1074) + 137438953472 * 2 ^ 1074
low_sum x y g p = two_low (mag x * mag x) (mag y * mag y) p.0 p.1 (2 ^ 1074) p.2.0.1.low p.2.1.1.low

high_sum : (x y : Float) (g : ℕ) (p : Squares x y g) → 68719476735 * ((p.0 + p.1) * 2 ^ 1074) ≤ 68719476736 * squares x y + 137438953472 * 2 ^ 1074
high_sum x y g p = two_high (mag x * mag x) (mag y * mag y) p.0 p.1 (2 ^ 1074) p.2.0.1.high p.2.1.1.high

numbers_apart : (x y z t : Float) (W w : ℕ) → Scales (Squares x y) W → Squares z t w → W ≤ w → 1125899906842624 ≤ w → (3221225472 * squares x y ≤ 3221225471 * squares z t) × (2417851639229258349412352 ≤ squares z t)
numbers_apart x y z t W w p q l g =
    let d = p.1.0 in
    let a = d.0 + d.1 in
    let b = q.0 + q.1 in
    let s = sums_apart a p.0 W w b d.2.2.low p.1.1.low l q.2.2.high g in
    let r = squares_apart (squares x y) (squares z t) (a * 2 ^ 1074) (b * 2 ^ 1074) (2 ^ 1074) (low_sum x y p.0 d) (times 2147483648 2147483647 a b (2 ^ 1074) s.0) (high_sum z t w q) (mul-le-mul_right (2 ^ 1074) s.1) in
    (r.0, le_trans (scale_up (2 ^ 1074) (pow_mono {i = 41} {j = 1074} (omega arith))) r.1)

number_small : (x y : Float) (W : ℕ) → Scales (Squares x y) W → W < 2 ^ 2098 → 4 * squares x y < edge * edge
number_small x y W p l =
    let d = p.1.0 in
    let a = d.0 + d.1 in
    let n = small_sum (squares x y) a W (2 ^ 2098) (2 ^ 1074) (low_sum x y p.0 d) (sums_small a p.0 W d.2.2.low p.1.1.low) (le_of_lt l) in
    four (squares x y) ((4 * 2 ^ 2098 + 12) * 2 ^ 1074) (edge * edge) n largest
  where
    four : (a b c : ℕ) → a ≤ b → 4 * b < c → 4 * a < c
    four a b c l h = omega arith

below_root : (N : ℕ) (r : Float) → 4 * N < edge * edge → Rounds N r → lt r (inf false) ≡ true
below_root N r f (past g e) = absurd (not-le_of_lt f g)
below_root N r f (near q k _ u n) = value_below_infinity r (q * 2 ^ k) u

-- 2 ^ -1000
abbrev pub tiny_number : Float
tiny_number = fin false 1 (negsuc 999)

tiny_value : HasValue tiny_number false (2 ^ 74) (2 ^ 1074)
tiny_value = (refl, refl)

-- A is the square of (x, y) as computed, alone or in a sum
squares_tell : (A x y z t : Float) → Size A (Squares x y) (T (infinite x) ⊎ T (infinite y)) → T (fits binary64 z) → T (fits binary64 t) →
    lt (mul binary64 more A) (squared z t) ≡ true → lt tiny_number (squared z t) ≡ true → lt (hypot x y) (hypot z t) ≡ true
squares_tell A x y z t s fz ft h g =
    outer (size_scale A (Squares x y) (T (infinite x) ⊎ T (infinite y)) s) (size_squared z t fz ft)
  where
    both : (W w : ℕ) → W < 2 ^ 2098 → Scales (Squares x y) W → Squares z t w → W ≤ w → 2 ^ 74 ≤ w → lt (hypot x y) (hypot z t) ≡ true
    both W w l p q k b =
        let n = numbers_apart x y z t W w p q k (le_trans (omega arith) b) in
        rw (hypot_finite x y p.1.0.2.0.0 p.1.0.2.1.0, hypot_finite z t q.2.0.0 q.2.1.0)
        (roots_apart (squares x y) (squares z t) (round_root binary64 (squares x y)) (round_root binary64 (squares z t)) n.0 n.1 (number_small x y W p l) (round_root_rounds (squares x y))
        (round_root_rounds (squares z t)))

    inner : (W : ℕ) → HasValue (mul binary64 more A) false W (2 ^ 1074) → W < 2 ^ 2098 → Scales (Squares x y) W → Size (squared z t) (Squares z t) (T (infinite z) ⊎ T (infinite t)) →
        lt (hypot x y) (hypot z t) ≡ true
    inner W u l p (none e) = absurd (false≢true (sym (lt_nan (mul binary64 more A)) ∙ ap (lt (mul binary64 more A)) (sym e) ∙ h))
    inner W u l p (endless e i) =
        rw (hypot_endless z t i, hypot_finite x y p.1.0.2.0.0 p.1.0.2.1.0) (below_root (squares x y) (round_root binary64 (squares x y)) (number_small x y W p l) (round_root_rounds (squares x y)))
    inner W u l p (huge w e k q) = both W w l p q (le_trans (le_of_lt l) k) (le_trans much k)
      where
        much : 2 ^ 74 ≤ 2 ^ 2098
        much = pow_mono {i = 74} {j = 2098} (omega arith)
    inner W u l p (sized w v k q) =
        both W w l p q (lt_most (mul binary64 more A) (squared z t) W w u v h) (lt_most tiny_number (squared z t) (2 ^ 74) w tiny_value v g)

    outer : Size (mul binary64 more A) (Scales (Squares x y)) (Unit {0}) → Size (squared z t) (Squares z t) (T (infinite z) ⊎ T (infinite t)) → lt (hypot x y) (hypot z t) ≡ true
    outer (none e) y = absurd (false≢true (sym (nan_below (squared z t)) ∙ ap (λ (r : Float). lt r (squared z t)) (sym e) ∙ h))
    outer (endless e i) y = absurd (false≢true (sym (lt_infinity (squared z t)) ∙ ap (λ (r : Float). lt r (squared z t)) (sym e) ∙ h))
    outer (huge g e l p) y = absurd (false≢true (sym (lt_infinity (squared z t)) ∙ ap (λ (r : Float). lt r (squared z t)) (sym e) ∙ h))
    outer (sized W u l p) y = inner W u l p y

pub clearly_less : (x y z t : Float) → T (fits binary64 x) → T (fits binary64 y) → T (fits binary64 z) → T (fits binary64 t) →
    lt (mul binary64 more (squared x y)) (squared z t) ≡ true → lt tiny_number (squared z t) ≡ true → lt (hypot x y) (hypot z t) ≡ true
clearly_less x y z t fx fy = squares_tell (squared x y) x y z t (size_squared x y fx fy)

-- ---- the law of one number: its square alone is that of the vector (x, 0)

abbrev nothing : Float
nothing = fin false 0 (pos 0)

alone_sum : (g : ℕ) → Sum g 0 g
alone_sum g = record { low = omega arith; high = omega arith }

no_square : Square 0 0
no_square = record { low = go (2 ^ 1074); high = back (2 ^ 1074) }
  where
    go : (θ : ℕ) → 68719476736 * (0 * 0) ≤ 68719476737 * (0 * θ) + 68719476736 * θ
    go θ = omega arith

    back : (θ : ℕ) → 68719476735 * (0 * θ) ≤ 68719476736 * (0 * 0) + 68719476736 * θ
    back θ = omega arith

size_alone : (x r : Float) → Size r (λ (g : ℕ). T (finite x) × Square (mag x) g) (T (infinite x)) → Size r (Squares x nothing) (T (infinite x) ⊎ T (infinite nothing))
size_alone x r (none e) = none e
size_alone x r (endless e i) = endless e (inl i)
size_alone x r (huge g e l p) = huge g e l (g, 0, (p, (tt, no_square), alone_sum g))
size_alone x r (sized g v l p) = sized g v l (g, 0, (p, (tt, no_square), alone_sum g))

abs_not_under : (x : Float) → lt (abs x) x ≡ false
unfolding abs lt
abs_not_under nan = refl
abs_not_under (inf s) = refl
abs_not_under (fin true m e) = refl
abs_not_under (fin false m e) = go (lt (fin false m e) (fin false m e)) refl
  where
    go : (b : Bool) → lt (fin false m e) (fin false m e) ≡ b → b ≡ false
    go true h = sym h ∙ one_way (fin false m e) (fin false m e) h
    go false h = refl

not_le_not_lt : (x y : Float) → le x y ≡ false → lt x y ≡ false
unfolding le
not_le_not_lt x y h = go (lt x y) h
  where
    go : (b : Bool) → (b || eq x y) ≡ false → b ≡ false
    go true h = h
    go false h = refl

-- a vector whose square is clearly above that of x is not shorter than x
pub clearly_past : (x z t : Float) → T (fits binary64 x) → T (fits binary64 z) → T (fits binary64 t) →
    lt (mul binary64 more (mul binary64 x x)) (squared z t) ≡ true → lt tiny_number (squared z t) ≡ true → lt (hypot z t) x ≡ false
clearly_past x z t fx fz ft h g =
    let l = squares_tell (mul binary64 x x) x nothing z t (size_alone x (mul binary64 x x) (size_square x fx)) fz ft h g in
    not_le_not_lt (hypot z t) x (short (hypot x nothing) (hypot z t) x l (hypot_not_below x nothing x fx (abs_not_under x)))
