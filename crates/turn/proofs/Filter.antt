-- The filter: what the rounded products tell of the exact ones. A rounded difference is right to a part in 2 ^ 36, a product of two of them
-- to a part in 2 ^ 33 and a unit. So where one product leads the other by a part in 2 ^ 30, the exact ones are in that order. Assumes nothing.
use mathlib.Core.Path.{◌≡◌, refl, ap, ◌∙◌, subst}
use mathlib.Core.Logic.{◌⊎◌, inl, inr}
use mathlib.Core.Bool.{true}
use Prim.Native.Nat.{ℕ, zero, suc, ◌+◌, ◌*◌, ◌/◌, ◌^◌, ◌≤◌, ◌<◌}
use native.Mathlib.Nat.{le_refl, le_trans, lt_of_le_of_lt, mul-le-mul, mul-le-mul_left, mul-le-mul_right, mul-add, mul_comm, mul_assoc}
use native.Mathlib.Omega.{arith}
use lib.Dec.{leb→le}
use lib.Pow.{pow_pos}
use lib.Ieee.{Float, binary64, lt, neg, sub, mul, of_bits}
use Rattle.hypotenuse.proofs.Poly.{poly}
use Rattle.math.proofs.Naturals.{Order, more, less, order}
use Rattle.math.proofs.Signed.{Signed, ◌⊖◌, ◌⊟◌, ◌⊗◌, ◌·◌, negated, total}
use Rattle.math.proofs.Signed.{Close, close_trans, close_one, close_product, close_negated, Small, small_close}
use Rattle.math.proofs.Operations.{unit, limit, Is, upward, one_part, total_small, total_scaled, sub_near, mul_near, neg_is}
use Rattle.math.proofs.Ranks.{Less, lt_signed}
use Rattle.turn.specs.Laws.{above}
use Rattle.turn.specs.Filters.{tiny}
use Rattle.turn.specs.Filters as filters

-- ---- the size of a signed number

-- a is n or -n
pub data Sized (a : Signed) (n : ℕ) : Type 0 where
  up : a.plus ≡ a.minus + n → Sized a n
  down : a.minus ≡ a.plus + n → Sized a n

sized_small : {a : Signed} {n : ℕ} → Sized a n → Small a n
sized_small (up e) = record { above = omega arith; below = omega arith }
sized_small (down e) = record { above = omega arith; below = omega arith }

sized_negated : {a : Signed} {n : ℕ} → Sized a n → Sized (negated a) n
sized_negated (up e) = down e
sized_negated (down e) = up e

sized_total : {a : Signed} {n : ℕ} → Sized a n → n ≤ total a
sized_total (up e) = omega arith
sized_total (down e) = omega arith

-- (m + X - m) (n + Y - n)
expanded : (p m q n X Y : ℕ) → p ≡ m + X → q ≡ n + Y → p * q + m * n ≡ p * n + m * q + X * Y
expanded p m q n X Y e f = rw (e, f) (simp poly (omega arith))

sized_product : {a b : Signed} {n m : ℕ} → Sized a n → Sized b m → Sized (a ⊗ b) (n * m)
sized_product {a} {b} {n} {m} (up e) (up f) = up (expanded a.plus a.minus b.plus b.minus n m e f)
sized_product {a} {b} {n} {m} (up e) (down f) = down (expanded a.plus a.minus b.minus b.plus n m e f)
sized_product {a} {b} {n} {m} (down e) (up f) = down (let h = expanded a.minus a.plus b.plus b.minus n m e f in omega (arith, h))
sized_product {a} {b} {n} {m} (down e) (down f) = up (let h = expanded a.minus a.plus b.minus b.plus n m e f in omega (arith, h))

-- ---- a difference

-- z is X rounded, which is n in size and at most L
pub record Difference (L : ℕ) (z : Float) (X : Signed) : Type 0 where
  pub n : ℕ
  pub most : n ≤ L
  pub sized : Sized X n
  pub units : Signed
  pub is : Is z units
  pub off : ℕ
  pub close : Close units X off
  pub part : 2 ^ 36 * off ≤ n

half_place : (n : ℕ) → 2 ^ 36 * ((n + 2 ^ 52 * 1) / 2 ^ 53) ≤ n
half_place n = go ((n + 2 ^ 52 * 1) / 2 ^ 53) refl
  where
    go : (q : ℕ) → (n + 2 ^ 52 * 1) / 2 ^ 53 ≡ q → 2 ^ 36 * q ≤ n
    go zero e = omega arith
    go (suc q) e = omega arith

pub difference : {x y : Float} {s t : Signed} (L : ℕ) → Is x s → Is y t → total s + total t ≤ L → L < limit → Difference L (sub binary64 x y) (s ⊟ t)
difference {x} {y} {s} {t} L i j l h = go (order (s ⊟ t).plus (s ⊟ t).minus)
  where
    both : (p m q n : ℕ) → p + n + (m + q) ≤ p + m + (q + n)
    both p m q n = omega arith

    of : (n : ℕ) → Sized (s ⊟ t) n → Difference L (sub binary64 x y) (s ⊟ t)
    of n z =
        let r = sub_near {k = n} i j (lt_of_le_of_lt l h) (sized_small z) in
        record {
          n = n;
          most = le_trans (sized_total z) (le_trans (both s.plus s.minus t.plus t.minus) l);
          sized = z;
          units = r.units;
          is = r.is;
          off = (n + 2 ^ 52 * 1) / 2 ^ 53;
          close = close_one r.close;
          part = half_place n;
        }

    go : Order (s ⊟ t).plus (s ⊟ t).minus → Difference L (sub binary64 x y) (s ⊟ t)
    go (more k e) = of k (up e)
    go (less k e) = of k (down e)

-- its size is at most n and what it is off by
total_most : {L : ℕ} {z : Float} {X : Signed} (d : Difference L z X) → total d.units ≤ d.off + d.n
total_most d = total_small d.is (small_close d.close (sized_small d.sized))

-- ---- a product of two differences

-- u units are X / U, to a part in 2 ^ 33 and a unit
pub record Fair (U : ℕ) (u X : Signed) : Type 0 where
  pub n : ℕ
  pub sized : Sized X n
  pub off : ℕ
  pub close : Close (U · u) X off
  pub part : 2 ^ 33 * off ≤ n + 2 ^ 33 * U

-- z is X rounded
pub record Product (K : ℕ) (z : Float) (X : Signed) : Type 0 where
  pub units : Signed
  pub is : Is z units
  pub fair : Fair unit units X
  pub most : fair.n ≤ K

-- the errors of two factors and that of their product, E
errors : (n m e f k E U : ℕ) → 2 ^ 36 * e ≤ n → 2 ^ 36 * f ≤ m → k ≤ (e + n) * (f + m) → 2 ^ 53 * E ≤ k + 2 ^ 52 * U
    → 2 ^ 33 * (E + (e * (f + m) + f * n)) ≤ n * m + 2 ^ 33 * U
errors n m e f k E U a b c d =
    all (n * m) (e * (f + m) + f * n) k E
    (factors (n * m) (e * f) (e * m) (f * n) (e * (f + m)) (mul-add e f m) (first (mul-le-mul_right f a)) (turned (mul-le-mul_right m a)) (second (mul-le-mul_right n b)))
    (four (n * m) (le_trans c (mul-le-mul (twice e n a) (twice f m b))) (doubled n m)) d
  where
    first : 2 ^ 36 * e * f ≤ n * f → 2 ^ 36 * (e * f) ≤ n * m
    first h = le_trans (le_trans (regroup e f) h) (mul-le-mul_left n (small f m b))
      where
        regroup : (e f : ℕ) → 2 ^ 36 * (e * f) ≤ 2 ^ 36 * e * f
        regroup e f = omega arith

        small : (f m : ℕ) → 2 ^ 36 * f ≤ m → f ≤ m
        small f m h = omega arith

    turned : 2 ^ 36 * e * m ≤ n * m → 2 ^ 36 * (e * m) ≤ n * m
    turned h = omega arith

    second : 2 ^ 36 * f * n ≤ m * n → 2 ^ 36 * (f * n) ≤ n * m
    second h = omega arith

    twice : (e n : ℕ) → 2 ^ 36 * e ≤ n → e + n ≤ 2 * n
    twice e n h = omega arith

    doubled : (n m : ℕ) → 2 * n * (2 * m) ≡ 4 * (n * m)
    doubled n m = omega arith

    four : (P : ℕ) {S : ℕ} → k ≤ S → S ≡ 4 * P → k ≤ 4 * P
    four P h e = omega arith

    factors : (P ef em fn S : ℕ) → S ≡ ef + em → 2 ^ 36 * ef ≤ P → 2 ^ 36 * em ≤ P → 2 ^ 36 * fn ≤ P → 2 ^ 36 * (S + fn) ≤ 3 * P
    factors P ef em fn S e x y z = omega arith

    all : (P S k E : ℕ) → 2 ^ 36 * S ≤ 3 * P → k ≤ 4 * P → 2 ^ 53 * E ≤ k + 2 ^ 52 * U → 2 ^ 33 * (E + S) ≤ P + 2 ^ 33 * U
    all P S k E x y z = omega arith

pub multiplied : {x y : Float} {X Y : Signed} (L : ℕ) → Difference L x X → Difference L y Y → 2 * L * (2 * L) < unit * limit
    → Product (L * L) (mul binary64 x y) (X ⊗ Y)
multiplied {x} {y} {X} {Y} L i j room =
    let k = total i.units * total j.units in
    let near = mul-le-mul (total_most i) (total_most j) in
    let r = mul_near {k = k} i.is j.is (lt_of_le_of_lt (le_trans near (mul-le-mul (within i.off i.n i.part i.most) (within j.off j.n j.part j.most))) room) (le_refl k) in
    let E = (k + 2 ^ 52 * unit) / 2 ^ 53 in
    record {
      units = r.units;
      is = r.is;
      fair = record {
        n = i.n * j.n;
        sized = sized_product i.sized j.sized;
        off = E + (i.off * (j.off + j.n) + j.off * i.n);
        close = close_trans {a = i.units ⊗ j.units} r.close (close_product i.close j.close (small_close j.close (sized_small j.sized)) (sized_small i.sized));
        part = errors i.n j.n i.off j.off k E unit i.part j.part near (divided (k + 2 ^ 52 * unit));
      };
      most = mul-le-mul i.most j.most;
    }
  where
    within : (e n : ℕ) → 2 ^ 36 * e ≤ n → n ≤ L → e + n ≤ 2 * L
    within e n h l = omega arith

    divided : (x : ℕ) → 2 ^ 53 * (x / 2 ^ 53) ≤ x
    divided x = omega arith

pub opposed : {K : ℕ} {z : Float} {X : Signed} → Product K z X → Product K (neg z) (negated X)
opposed p = record {
  units = negated p.units;
  is = neg_is p.is;
  fair = record {
    n = p.fair.n;
    sized = sized_negated p.fair.sized;
    off = p.fair.off;
    close = close_negated p.fair.close;
    part = p.fair.part;
  };
  most = p.most;
}

-- ---- one product leads the other

-- T is (1 + 2 ^ -30) G or more, and P - M is T rounded
shrunk : (G P M T U : ℕ) → 1073741825 * G ≤ 1073741824 * T → 2 ^ 53 * M + 2 ^ 53 * T ≤ 2 ^ 53 * P + (T + 2 ^ 52 * U)
    → 4294967296 * M + 4294967299 * G ≤ 4294967296 * P + 4294967296 * U
shrunk G P M T U e h = omega arith

-- G is v, H is w, both times U; Z and W are the sizes of the exact products
some : (W H U : ℕ) → 0 < U → 2 ^ 36 * U ≤ H → 8589934592 * H ≤ 8589934593 * W + 8589934592 * U → 0 < W
some W H U u t w = omega arith

far_lead : (G H U : ℕ) → 2 ^ 36 * U ≤ H → 4294967299 * G ≤ 4294967296 * H + 4294967296 * U → 4294967298 * G ≤ 4294967296 * H
far_lead G H U t h = omega arith

far_first : (Z G U : ℕ) → 8589934591 * Z ≤ 8589934592 * G + 8589934592 * U → 4294967297 * Z ≤ 4294967298 * (G + U)
far_first Z G U h = at (G + U) (whole h)
  where
    whole : 8589934591 * Z ≤ 8589934592 * G + 8589934592 * U → 8589934591 * Z ≤ 8589934592 * (G + U)
    whole h = omega arith

    at : (S : ℕ) → 8589934591 * Z ≤ 8589934592 * S → 4294967297 * Z ≤ 4294967298 * S
    at S h = omega arith

far_second : (Z G H U : ℕ) → 4294967298 * G ≤ 4294967296 * H → 4294967297 * Z ≤ 4294967298 * (G + U)
    → 4294967297 * Z ≤ 4294967296 * H + 8589934592 * U
far_second Z G H U h f = omega arith

far_last : (Z W H U : ℕ) → 0 < U → 2 ^ 36 * U ≤ H → 4294967297 * Z ≤ 4294967296 * H + 8589934592 * U
    → 8589934592 * H ≤ 8589934593 * W + 8589934592 * U → Z < W
far_last Z W H U u t z w = omega arith

far : (Z W G H U : ℕ) → 0 < U → 2 ^ 36 * U ≤ H → 4294967299 * G ≤ 4294967296 * H + 4294967296 * U
    → 8589934591 * Z ≤ 8589934592 * G + 8589934592 * U → 8589934592 * H ≤ 8589934593 * W + 8589934592 * U → Z < W
far Z W G H U u t h z w = far_last Z W H U u t (far_second Z G H U (far_lead G H U t h) (far_first Z G U z)) w

-- more times v, which is G / U, is below w
scaled_below : (U Q g h rp rm E : ℕ) → 1073741825 * U ≤ 1073741824 * Q → U * rm + Q * g ≤ U * rp + E → 2 ^ 53 * E ≤ Q * g + 2 ^ 52 * U
    → rp < rm + h → 4294967299 * (U * g) ≤ 4294967296 * (U * h) + 4294967296 * U
scaled_below U Q g h rp rm E q c e l =
    last (U * g) (U * h) (U * rp) (U * rm)
    (shrunk (U * g) (U * rp) (U * rm) (Q * g) U (times q) (rounded (U * rm) (U * rp) (Q * g) E c e)) (parts (mul-le-mul_left U (weak l)))
  where
    weak : rp < rm + h → rp ≤ rm + h
    weak l = omega arith

    parts : U * rp ≤ U * (rm + h) → U * rp ≤ U * rm + U * h
    parts l = subst (λ (x : ℕ). U * rp ≤ x) (mul-add U rm h) l

    times : 1073741825 * U ≤ 1073741824 * Q → 1073741825 * (U * g) ≤ 1073741824 * (Q * g)
    times h = subst (λ (x : ℕ). x ≤ 1073741824 * (Q * g)) (mul_assoc 1073741825 U g) (subst (λ (x : ℕ). 1073741825 * U * g ≤ x) (mul_assoc 1073741824 Q g) (mul-le-mul_right g h))

    rounded : (M P T E : ℕ) → M + T ≤ P + E → 2 ^ 53 * E ≤ T + 2 ^ 52 * U → 2 ^ 53 * M + 2 ^ 53 * T ≤ 2 ^ 53 * P + (T + 2 ^ 52 * U)
    rounded M P T E c e = omega arith

    last : (G H P M : ℕ) → 4294967296 * M + 4294967299 * G ≤ 4294967296 * P + 4294967296 * U → P ≤ M + H
        → 4294967299 * G ≤ 4294967296 * H + 4294967296 * U
    last G H P M a b = omega arith

-- w is above 2 ^ 36 units
above_units : (L : ℕ) (w : Signed) → 2 ^ 36 ≤ L → Less (L ⊖ 0) w → (w.minus ≡ 0) ⊎ (w.plus ≡ 0) → (w.minus ≡ 0) × (2 ^ 36 ≤ w.plus)
above_units L w h t (inl z) = (z, omega arith)
above_units L w h t (inr z) = absurd (none w.plus w.minus z t)
  where
    none : (p m : ℕ) → p ≡ 0 → L + m < 0 + p → ⊥
    none p m e t = omega arith

-- times U, with a part that is 0
no_part : (U : ℕ) {x : ℕ} → x ≡ 0 → U * x ≡ 0
no_part U {x} e = ap (λ (y : ℕ). U * y) e ∙ nothing U
  where
    nothing : (U : ℕ) → U * 0 ≡ 0
    nothing U = omega arith

-- w, a product that is above 0, is at most its exact one and a part of it
top_of : {U : ℕ} {w W : Signed} (i : Fair U w W) → w.minus ≡ 0 → W.plus ≡ W.minus + i.n → 8589934592 * (U * w.plus) ≤ 8589934593 * i.n + 8589934592 * U
top_of {U} {w} {W} i z e = go (U * w.plus) (U * w.minus) W.plus W.minus i.n i.off (no_part U z) e i.close.above i.part
  where
    go : (H M p m n o : ℕ) → M ≡ 0 → p ≡ m + n → H + m ≤ M + p + o → 2 ^ 33 * o ≤ n + 2 ^ 33 * U → 8589934592 * H ≤ 8589934593 * n + 8589934592 * U
    go H M p m n o z e h k = omega arith

-- and it has an exact one that is above 0
not_below : {U : ℕ} {w W : Signed} (i : Fair U w W) → 0 < U → w.minus ≡ 0 → 2 ^ 36 * U ≤ U * w.plus → W.minus ≡ W.plus + i.n → ⊥
not_below {U} {w} {W} i u z t e = go (U * w.plus) (U * w.minus) W.plus W.minus i.n i.off (no_part U z) e t i.close.above i.part
  where
    go : (H M p m n o : ℕ) → M ≡ 0 → m ≡ p + n → 2 ^ 36 * U ≤ H → H + m ≤ M + p + o → 2 ^ 33 * o ≤ n + 2 ^ 33 * U → ⊥
    go H M p m n o z e t h k = omega arith

-- v, a product whose exact one is above 0, is not much less; G is 0 where v is below 0
low_of : {U : ℕ} {v X : Signed} (j : Fair U v X) → X.plus ≡ X.minus + j.n → 8589934591 * j.n ≤ 8589934592 * (U * v.plus) + 8589934592 * U
low_of {U} {v} {X} j e = go (U * v.plus) (U * v.minus) X.plus X.minus j.n j.off e j.close.below j.part
  where
    go : (G M p m n o : ℕ) → p ≡ m + n → M + p ≤ G + m + o → 2 ^ 33 * o ≤ n + 2 ^ 33 * U → 8589934591 * n ≤ 8589934592 * G + 8589934592 * U
    go G M p m n o e h k = omega arith

-- what `leads` asks of v and w, in units: r is more * v, rounded; L is tiny
pub record Leads (U Q L : ℕ) (r v w : Signed) : Type 0 where
  pub some_unit : 0 < U
  pub scale : 1073741825 * U ≤ 1073741824 * Q
  pub off : ℕ
  pub close : Close (U · r) ((Q ⊖ 0) ⊗ v) off
  pub part : 2 ^ 53 * off ≤ (Q + 0) * total v + 2 ^ 52 * U
  pub less : Less r w
  pub enough : 2 ^ 36 ≤ L
  pub tiny_less : Less (L ⊖ 0) w
  pub v_part : (v.minus ≡ 0) ⊎ (v.plus ≡ 0)
  pub w_part : (w.minus ≡ 0) ⊎ (w.plus ≡ 0)

-- more times v
lead_of : {U Q L : ℕ} {r v w : Signed} (l : Leads U Q L r v w) → w.minus ≡ 0 → (v.minus ≡ 0) ⊎ (v.plus ≡ 0)
    → 4294967299 * (U * v.plus) ≤ 4294967296 * (U * w.plus) + 4294967296 * U
lead_of {U} {Q} {L} {r} {v} {w} l z (inl y) =
    scaled_below U Q v.plus w.plus r.plus r.minus l.off l.scale
    (first (U * r.minus) (U * r.plus) (Q * v.plus) (Q * v.minus) (no_part Q y) l.close.below)
    (second v.plus v.minus y l.part) (third l.less)
  where
    first : (M P T S : ℕ) → S ≡ 0 → M + (T + 0 * v.minus) ≤ P + (S + 0 * v.plus) + l.off → M + T ≤ P + l.off
    first M P T S e h = omega arith

    second : (p m : ℕ) → m ≡ 0 → 2 ^ 53 * l.off ≤ (Q + 0) * (p + m) + 2 ^ 52 * U → 2 ^ 53 * l.off ≤ Q * p + 2 ^ 52 * U
    second p m e h = subst (λ (x : ℕ). 2 ^ 53 * l.off ≤ x + 2 ^ 52 * U) (ap (λ (x : ℕ). (Q + 0) * (p + x)) e ∙ plain Q p) h
      where
        plain : (Q p : ℕ) → (Q + 0) * (p + 0) ≡ Q * p
        plain Q p = omega arith

    third : r.plus + w.minus < r.minus + w.plus → r.plus < r.minus + w.plus
    third h = omega arith
lead_of {U} {Q} {L} {r} {v} {w} l z (inr y) = go (U * v.plus) (U * w.plus) (no_part U y)
  where
    go : (G H : ℕ) → G ≡ 0 → 4294967299 * G ≤ 4294967296 * H + 4294967296 * U
    go G H e = omega arith

-- so the exact products are in that order
pub ahead : {U Q L : ℕ} {r v w X W : Signed} → Leads U Q L r v w → Fair U v X → Fair U w W → Less X W
ahead {U} {Q} {L} {r} {v} {w} {X} {W} l j i = go i.sized j.sized
  where
    up_to : (w.minus ≡ 0) × (2 ^ 36 ≤ w.plus)
    up_to = above_units L w l.enough l.tiny_less l.w_part

    large : 2 ^ 36 * U ≤ U * w.plus
    large = subst (λ (x : ℕ). x ≤ U * w.plus) (mul_comm U (2 ^ 36)) (mul-le-mul_left U up_to.1)

    go : Sized W i.n → Sized X j.n → Less X W
    go (down e) y = absurd (not_below i l.some_unit up_to.0 large e)
    go (up e) (down f) = both X.plus X.minus W.plus W.minus e f (some i.n (U * w.plus) U l.some_unit large (top_of i up_to.0 e))
      where
        both : (p m q n : ℕ) → q ≡ n + i.n → m ≡ p + j.n → 0 < i.n → p + n < m + q
        both p m q n e f h = omega arith
    go (up e) (up f) =
        both X.plus X.minus W.plus W.minus e f
        (far j.n i.n (U * v.plus) (U * w.plus) U l.some_unit large (lead_of l up_to.0 l.v_part) (low_of j f) (top_of i up_to.0 e))
      where
        both : (p m q n : ℕ) → q ≡ n + i.n → p ≡ m + j.n → j.n < i.n → p + n < m + q
        both p m q n e f h = omega arith

-- ---- the constants of the filter

-- the units of the two numbers, whatever they are
more_is : Is filters.more (above filters.more ⊖ 0)
unfolding above of_bits
more_is = upward filters.more (above filters.more) (refl, refl)

tiny_is : Is tiny (above tiny ⊖ 0)
unfolding above of_bits
tiny_is = upward tiny (above tiny) (refl, refl)

-- the factor is 1 + 2 ^ -30 or more
more_scale : 1073741825 * unit ≤ 1073741824 * above filters.more
unfolding above of_bits
more_scale = leb→le (1073741825 * unit) (1073741824 * above filters.more) tt

-- and not above 2
more_twice : above filters.more + 0 ≤ 2 * unit
unfolding above of_bits
more_twice = leb→le (above filters.more + 0) (2 * unit) tt

-- the other is 2 ^ 36 units or more
tiny_enough : 2 ^ 36 ≤ above tiny
unfolding above of_bits
tiny_enough = leb→le (2 ^ 36) (above tiny) tt

-- w leads v, both being products of at most K
pub led : {v w : Float} {X W : Signed} (K : ℕ) → Product K v X → Product K w W → 2 * (2 * K + unit) < unit * limit
    → lt (mul binary64 filters.more v) w ≡ true → lt tiny w ≡ true → Less X W
led {v} {w} {X} {W} K j i room h t =
    let k = (above filters.more + 0) * total j.units in
    let r = mul_near {k = k} more_is j.is (lt_of_le_of_lt within room) (le_refl k) in
    ahead (record {
      some_unit = pow_pos 1074;
      scale = more_scale;
      off = (k + 2 ^ 52 * unit) / 2 ^ 53;
      close = r.close;
      part = divided (k + 2 ^ 52 * unit);
      less = lt_signed r.is i.is h;
      enough = tiny_enough;
      tiny_less = lt_signed tiny_is i.is t;
      v_part = one_part j.is;
      w_part = one_part i.is;
    }) j.fair i.fair
  where
    divided : (x : ℕ) → 2 ^ 53 * (x / 2 ^ 53) ≤ x
    divided x = omega arith

    size : unit * total j.units ≤ j.fair.off + j.fair.n
    size = total_scaled unit (j.fair.off + j.fair.n) j.is (small_close j.fair.close (sized_small j.fair.sized))

    sum : (U T o n : ℕ) → U * T ≤ o + n → 2 ^ 33 * o ≤ n + 2 ^ 33 * U → n ≤ K → 2 * U * T ≤ 2 * (2 * K + U)
    sum U T o n s p m = times (U * T) (2 * U * T) (mul_assoc 2 U T) s
      where
        times : (S S' : ℕ) → S' ≡ 2 * S → S ≤ o + n → S' ≤ 2 * (2 * K + U)
        times S S' e s = omega arith

    within : (above filters.more + 0) * total j.units ≤ 2 * (2 * K + unit)
    within = le_trans (mul-le-mul_right (total j.units) more_twice) (sum unit (total j.units) j.fair.off j.fair.n size j.fair.part j.most)
