-- The digits of a product add up to the product. Assumes nothing.
use mathlib.Core.Path.{◌≡◌, refl, ap, ◌∙◌, subst}
use mathlib.Core.Bool.{Bool, beq, true, false, cond}
use Prim.Native.Nat.{ℕ, zero, suc, ◌+◌, ◌-◌, ◌*◌, ◌^◌, ◌≤◌, ◌<◌}
use native.Mathlib.Nat.{mul-le-mul}
use native.Mathlib.Omega.{arith}
use lib.Dec.{eqb}
use lib.Pow.{pow-add}
use borrow.Author.Tests.{eq-eqb, ne_eqb}
use Rattle.math.proofs.Digits.{sum_none}
use Rattle.math.specs.Digits.{digit_sum}
use Rattle.hypotenuse.proofs.Poly.{poly}
use Rattle.turn.specs.declared.exact.Limbs.{Limbs}
use Rattle.turn.specs.declared.exact.Product.{Product}
use Rattle.turn.specs.declared.exact.Six.{Six}
use Rattle.turn.specs.Digits.{sum, digit_of, Small, ProductOf, turns_back, Narrow, Flat, Empty, Under, goes, side_digit}

pub at : {k q : ℕ} (x y : ℕ) → k ≡ q → cond (eqb k q) x y ≡ x
at {k = k} {q = q} x y h = ap (λ (b : Bool). cond b x y) (eq-eqb k q h)

pub off : {k q : ℕ} (x y : ℕ) → (k ≡ q → ⊥) → cond (eqb k q) x y ≡ y
off {k = k} {q = q} x y h = ap (λ (b : Bool). cond b x y) (ne_eqb k q h)

module _ (q a b c d e : ℕ) where
  -- the digits a to e from the slot q on
  abbrev from_e : ℕ → ℕ
  from_e k = cond (eqb k (q + 4)) e 0

  abbrev from_d : ℕ → ℕ
  from_d k = cond (eqb k (q + 3)) d (from_e k)

  abbrev from_c : ℕ → ℕ
  from_c k = cond (eqb k (q + 2)) c (from_d k)

  abbrev from_b : ℕ → ℕ
  from_b k = cond (eqb k (q + 1)) b (from_c k)

  abbrev pub digits : ℕ → ℕ
  digits k = cond (eqb k q) a (from_b k)

  none : (k : ℕ) → (k ≡ q → ⊥) → (k ≡ q + 1 → ⊥) → (k ≡ q + 2 → ⊥) → (k ≡ q + 3 → ⊥) → (k ≡ q + 4 → ⊥) → digits k ≡ 0
  none k na nb nc nd ne = off _ _ na ∙ off _ _ nb ∙ off _ _ nc ∙ off _ _ nd ∙ off _ _ ne

  pub below : (k : ℕ) → k < q → digits k ≡ 0
  below k h = none k (λ (x : k ≡ q). omega arith) (λ (x : k ≡ q + 1). omega arith) (λ (x : k ≡ q + 2). omega arith) (λ (x : k ≡ q + 3). omega arith) (λ (x : k ≡ q + 4). omega arith)

  above : (k : ℕ) → q + 5 ≤ k → digits k ≡ 0
  above k h = none k (λ (x : k ≡ q). omega arith) (λ (x : k ≡ q + 1). omega arith) (λ (x : k ≡ q + 2). omega arith) (λ (x : k ≡ q + 3). omega arith) (λ (x : k ≡ q + 4). omega arith)

  digit_a : digits (q) ≡ a
  digit_a = at {k = q} {q = q} a (from_b (q)) refl

  digit_b : digits (q + 1) ≡ b
  digit_b = off {k = q + 1} {q = q} a (from_b (q + 1)) (λ (x : q + 1 ≡ q). omega arith) ∙ at {k = q + 1} {q = q + 1} b (from_c (q + 1)) refl

  digit_c : digits (q + 2) ≡ c
  digit_c =
      off {k = q + 2} {q = q} a (from_b (q + 2)) (λ (x : q + 2 ≡ q). omega arith)
      ∙ off {k = q + 2} {q = q + 1} b (from_c (q + 2)) (λ (x : q + 2 ≡ q + 1). omega arith)
      ∙ at {k = q + 2} {q = q + 2} c (from_d (q + 2)) refl

  digit_d : digits (q + 3) ≡ d
  digit_d =
      off {k = q + 3} {q = q} a (from_b (q + 3)) (λ (x : q + 3 ≡ q). omega arith)
      ∙ off {k = q + 3} {q = q + 1} b (from_c (q + 3)) (λ (x : q + 3 ≡ q + 1). omega arith)
      ∙ off {k = q + 3} {q = q + 2} c (from_d (q + 3)) (λ (x : q + 3 ≡ q + 2). omega arith)
      ∙ at {k = q + 3} {q = q + 3} d (from_e (q + 3)) refl

  digit_e : digits (q + 4) ≡ e
  digit_e =
      off {k = q + 4} {q = q} a (from_b (q + 4)) (λ (x : q + 4 ≡ q). omega arith)
      ∙ off {k = q + 4} {q = q + 1} b (from_c (q + 4)) (λ (x : q + 4 ≡ q + 1). omega arith)
      ∙ off {k = q + 4} {q = q + 2} c (from_d (q + 4)) (λ (x : q + 4 ≡ q + 2). omega arith)
      ∙ off {k = q + 4} {q = q + 3} d (from_e (q + 4)) (λ (x : q + 4 ≡ q + 3). omega arith)
      ∙ at {k = q + 4} {q = q + 4} e 0 refl

grow : (f : ℕ → ℕ) (k j : ℕ) → j ≡ suc k → sum f j ≡ sum f k + f k * 2 ^ (27 * k)
unfolding digit_sum
grow f k j h = ap (sum f) h

shift : (q i : ℕ) → 2 ^ (27 * (q + i)) ≡ 2 ^ (27 * i) * 2 ^ (27 * q)
shift q i = ap (λ (x : ℕ). 2 ^ x) (split q i) ∙ pow-add 2 (27 * i) (27 * q)
  where
    split : (q i : ℕ) → 27 * (q + i) ≡ 27 * i + 27 * q
    split q i = omega arith

five : (q a b c d e : ℕ) → sum (digits q a b c d e) (q + 5) ≡ (a + b * 2 ^ 27 + c * 2 ^ 54 + d * 2 ^ 81 + e * 2 ^ 108) * 2 ^ (27 * q)
five q a b c d e =
    let f = digits q a b c d e in
    let s0 : sum f q ≡ 0 = sum_none 27 f q (below q a b c d e) q (omega arith) in
    let s1 = grow f q (q + 1) (omega arith) in
    let s2 = grow f (q + 1) (q + 2) (omega arith) in
    let s3 = grow f (q + 2) (q + 3) (omega arith) in
    let s4 = grow f (q + 3) (q + 4) (omega arith) in
    let s5 = grow f (q + 4) (q + 5) (omega arith) in
    add (sum f q) (sum f (q + 1)) (sum f (q + 2)) (sum f (q + 3)) (sum f (q + 4)) (sum f (q + 5)) (2 ^ (27 * q)) s0
    (s1 ∙ ap (λ (x : ℕ). sum f q + x * 2 ^ (27 * q)) (digit_a q a b c d e))
    (s2 ∙ ap (λ (x : ℕ). sum f (q + 1) + x * 2 ^ (27 * (q + 1))) (digit_b q a b c d e) ∙ ap (λ (x : ℕ). sum f (q + 1) + b * x) (shift q 1))
    (s3 ∙ ap (λ (x : ℕ). sum f (q + 2) + x * 2 ^ (27 * (q + 2))) (digit_c q a b c d e) ∙ ap (λ (x : ℕ). sum f (q + 2) + c * x) (shift q 2))
    (s4 ∙ ap (λ (x : ℕ). sum f (q + 3) + x * 2 ^ (27 * (q + 3))) (digit_d q a b c d e) ∙ ap (λ (x : ℕ). sum f (q + 3) + d * x) (shift q 3))
    (s5 ∙ ap (λ (x : ℕ). sum f (q + 4) + x * 2 ^ (27 * (q + 4))) (digit_e q a b c d e) ∙ ap (λ (x : ℕ). sum f (q + 4) + e * x) (shift q 4))
  where
    add : (v0 v1 v2 v3 v4 v5 P : ℕ) → v0 ≡ 0 → v1 ≡ v0 + a * P → v2 ≡ v1 + b * (2 ^ 27 * P) → v3 ≡ v2 + c * (2 ^ 54 * P) → v4 ≡ v3 + d * (2 ^ 81 * P) → v5 ≡ v4 + e * (2 ^ 108 * P)
        → v5 ≡ (a + b * 2 ^ 27 + c * 2 ^ 54 + d * 2 ^ 81 + e * 2 ^ 108) * P
    add v0 v1 v2 v3 v4 v5 P h0 h1 h2 h3 h4 h5 = omega arith

-- from the slot q + 5 on the sum stays
pub all_digits : (q a b c d e k : ℕ) → q + 5 ≤ k → sum (digits q a b c d e) k ≡ (a + b * 2 ^ 27 + c * 2 ^ 54 + d * 2 ^ 81 + e * 2 ^ 108) * 2 ^ (27 * q)
all_digits q a b c d e k h = subst (λ (x : ℕ). sum (digits q a b c d e) x ≡ (a + b * 2 ^ 27 + c * 2 ^ 54 + d * 2 ^ 81 + e * 2 ^ 108) * 2 ^ (27 * q)) (back k h) (go (k - (q + 5)))
  where
    back : (k : ℕ) → q + 5 ≤ k → k - (q + 5) + (q + 5) ≡ k
    back k h = omega arith

    stay : (j n s P : ℕ) → n ≡ 0 → s + n * P ≡ s
    stay j n s P e = ap (λ (x : ℕ). s + x * P) e ∙ nothing s P
      where
        nothing : (s P : ℕ) → s + 0 * P ≡ s
        nothing s P = omega arith

    go : (j : ℕ) → sum (digits q a b c d e) (j + (q + 5)) ≡ (a + b * 2 ^ 27 + c * 2 ^ 54 + d * 2 ^ 81 + e * 2 ^ 108) * 2 ^ (27 * q)
    go zero = ap (sum (digits q a b c d e)) (first q) ∙ five q a b c d e
      where
        first : (q : ℕ) → 0 + (q + 5) ≡ q + 5
        first q = omega arith
    go (suc j) =
        grow (digits q a b c d e) (j + (q + 5)) (suc j + (q + 5)) (omega arith)
        ∙ stay j (digits q a b c d e (j + (q + 5))) (sum (digits q a b c d e) (j + (q + 5))) (2 ^ (27 * (j + (q + 5)))) (above q a b c d e (j + (q + 5)) (omega arith))
        ∙ go j

-- the five digits of a product of two numbers of three
pub multiplied : (x y z u v w s t : ℕ)
    → (x * u + (x * v + y * u) * 2 ^ 27 + (x * w + y * v + z * u) * 2 ^ 54 + (y * w + z * v) * 2 ^ 81 + z * w * 2 ^ 108) * 2 ^ (27 * (s + t))
    ≡ (x + y * 2 ^ 27 + z * 2 ^ 54) * 2 ^ (27 * s) * ((u + v * 2 ^ 27 + w * 2 ^ 54) * 2 ^ (27 * t))
multiplied x y z u v w s t =
    ap (λ (p : ℕ). (x * u + (x * v + y * u) * 2 ^ 27 + (x * w + y * v + z * u) * 2 ^ 54 + (y * w + z * v) * 2 ^ 81 + z * w * 2 ^ 108) * p) (ap (λ (p : ℕ). 2 ^ p) (split s t) ∙ pow-add 2 (27 * s) (27 * t))
    ∙ expand x y z u v w (2 ^ (27 * s)) (2 ^ (27 * t))
  where
    split : (s t : ℕ) → 27 * (s + t) ≡ 27 * s + 27 * t
    split s t = omega arith

    whole : (x y z u v w : ℕ) → x * u + (x * v + y * u) * 2 ^ 27 + (x * w + y * v + z * u) * 2 ^ 54 + (y * w + z * v) * 2 ^ 81 + z * w * 2 ^ 108 ≡ (x + y * 2 ^ 27 + z * 2 ^ 54) * (u + v * 2 ^ 27 + w * 2 ^ 54)
    whole x y z u v w = simp poly (omega arith)

    sorted : (m n S T : ℕ) → m * n * (S * T) ≡ m * S * (n * T)
    sorted m n S T = simp poly (omega arith)

    expand : (x y z u v w S T : ℕ)
        → (x * u + (x * v + y * u) * 2 ^ 27 + (x * w + y * v + z * u) * 2 ^ 54 + (y * w + z * v) * 2 ^ 81 + z * w * 2 ^ 108) * (S * T)
        ≡ (x + y * 2 ^ 27 + z * 2 ^ 54) * S * ((u + v * 2 ^ 27 + w * 2 ^ 54) * T)
    expand x y z u v w S T = ap (λ (m : ℕ). m * (S * T)) (whole x y z u v w) ∙ sorted (x + y * 2 ^ 27 + z * 2 ^ 54) (u + v * 2 ^ 27 + w * 2 ^ 54) S T

pub small_product : (a b : ℕ) → a < 2 ^ 27 → b < 2 ^ 27 → a * b ≤ 2 ^ 54
small_product a b h g = mul-le-mul (le a h) (le b g)
  where
    le : (x : ℕ) → x < 2 ^ 27 → x ≤ 2 ^ 27
    le x h = omega arith

-- a digit is one of five, or 0
pub digit_le : (q a b c d e n k : ℕ) → a ≤ n → b ≤ n → c ≤ n → d ≤ n → e ≤ n → digits q a b c d e k ≤ n
digit_le q a b c d e n k ha hb hc hd he =
    one (eqb k q) a _ ha (one (eqb k (q + 1)) b _ hb (one (eqb k (q + 2)) c _ hc (one (eqb k (q + 3)) d _ hd (one (eqb k (q + 4)) e 0 he (omega arith)))))
  where
    one : (t : Bool) (x y : ℕ) → x ≤ n → y ≤ n → cond t x y ≤ n
    one true x y h g = h
    one false x y h g = g

-- a product whose digits are 0 has none
pub no_digits : (q a b c d e k : ℕ) → a + b + c + d + e ≡ 0 → digits q a b c d e k ≡ 0
no_digits q a b c d e k h = zero-le (digit_le q a b c d e 0 k (omega arith) (omega arith) (omega arith) (omega arith) (omega arith))
  where
    zero-le : {x : ℕ} → x ≤ 0 → x ≡ 0
    zero-le h = omega arith

pub narrow_digit : (p : Product) (k : ℕ) → Narrow p → digit_of p k ≤ 3 * 2 ^ 54
unfolding digit_of
narrow_digit p k n = digit_le p.slot p.da p.db p.dc p.dd p.de (3 * 2 ^ 54) k n.da_le n.db_le n.dc_le n.dd_le n.de_le

-- ---- six products
le_cond : (t : Bool) (x y n : ℕ) → x ≤ n → y ≤ n → cond t x y ≤ n
le_cond true x y n h g = h
le_cond false x y n h g = g

pub six : {a b c d e f : ℕ} → a ≤ 3 * 2 ^ 54 → b ≤ 3 * 2 ^ 54 → c ≤ 3 * 2 ^ 54 → d ≤ 3 * 2 ^ 54 → e ≤ 3 * 2 ^ 54 → f ≤ 3 * 2 ^ 54 → a + b + c + d + e + f ≤ 18 * 2 ^ 54
six ha hb hc hd he hf = omega arith

pub side_le : (right : Bool) (s : Six) → Flat s → (k : ℕ) → side_digit right s k ≤ 18 * 2 ^ 54
unfolding side_digit
side_le right s h k = six (one s.pa h.a) (one s.pb h.b) (one s.pc h.c) (one s.pd h.d) (one s.pe h.e) (one s.pf h.f)
  where
    one : (p : Product) → Narrow p → goes right p k ≤ 3 * 2 ^ 54
    one p n = le_cond (beq p.back right) (digit_of p k) 0 (3 * 2 ^ 54) (narrow_digit p k n) (omega arith)

zeros : {a b c d e f : ℕ} → a ≡ 0 → b ≡ 0 → c ≡ 0 → d ≡ 0 → e ≡ 0 → f ≡ 0 → a + b + c + d + e + f ≡ 0
zeros ha hb hc hd he hf = omega arith

zero_cond : (t : Bool) (x y : ℕ) → x ≡ 0 → y ≡ 0 → cond t x y ≡ 0
zero_cond true x y h g = h
zero_cond false x y h g = g

pub side_none : (right : Bool) (s : Six) (n : ℕ) → Empty n s → (k : ℕ) → k < n → side_digit right s k ≡ 0
unfolding side_digit
side_none right s n h k g = zeros (one s.pa h.a) (one s.pb h.b) (one s.pc h.c) (one s.pd h.d) (one s.pe h.e) (one s.pf h.f)
  where
    one : (p : Product) → Under n p → goes right p k ≡ 0
    one p u = zero_cond (beq p.back right) (digit_of p k) 0 (u k g) refl

-- ---- the product of two numbers of three digits
pub product_law : (turned : Bool) (a b : Limbs) (ll lm ml lh mm hl mh hm hh : ℕ) → Small a → Small b
    → (ll ≡ a.low * b.low) × (ll ≤ 2 ^ 54) → (lm ≡ a.low * b.mid) × (lm ≤ 2 ^ 54) → (ml ≡ a.mid * b.low) × (ml ≤ 2 ^ 54)
    → (lh ≡ a.low * b.high) × (lh ≤ 2 ^ 54) → (mm ≡ a.mid * b.mid) × (mm ≤ 2 ^ 54) → (hl ≡ a.high * b.low) × (hl ≤ 2 ^ 54)
    → (mh ≡ a.mid * b.high) × (mh ≤ 2 ^ 54) → (hm ≡ a.high * b.mid) × (hm ≤ 2 ^ 54) → (hh ≡ a.high * b.high) × (hh ≤ 2 ^ 54)
    → ProductOf turned a b (record { back = turns_back turned a b; slot = a.slot + b.slot; da = ll; db = lm + ml; dc = lh + mm + hl; dd = mh + hm; de = hh })
unfolding digit_of
product_law turned a b ll lm ml lh mm hl mh hm hh sa sb p0 p1 p2 p3 p4 p5 p6 p7 p8 = record {
  back_is = refl;
  is = λ (k : ℕ) (h : a.slot + b.slot + 5 ≤ k).
      all_digits (a.slot + b.slot) ll (lm + ml) (lh + mm + hl) (mh + hm) hh k h
      ∙ rw (p0.0, p1.0, p2.0, p3.0, p4.0, p5.0, p6.0, p7.0, p8.0) (multiplied a.low a.mid a.high b.low b.mid b.high a.slot b.slot);
  narrow = record {
    slot_le = omega (arith, sa.slot_le, sb.slot_le);
    da_le = omega (arith, p0.1);
    db_le = omega (arith, p1.1, p2.1);
    dc_le = omega (arith, p3.1, p4.1, p5.1);
    dd_le = omega (arith, p6.1, p7.1);
    de_le = omega (arith, p8.1);
  };
}

pub same_six : {a b c d e f a' b' c' d' e' f' : ℕ} → a ≡ a' → b ≡ b' → c ≡ c' → d ≡ d' → e ≡ e' → f ≡ f' → a + b + c + d + e + f ≡ a' + b' + c' + d' + e' + f'
same_six ha hb hc hd he hf = omega arith
