-- The range of a number, and whether it reaches 0.000001, each asked by two comparisons; a NaN is out of the one and does not reach the other.
-- Assumes nothing.
use Prim.Native.Nat.{ℕ, ◌+◌, ◌*◌, ◌<◌}
use native.Mathlib.Nat.{mul-pos}
use native.Mathlib.Omega.{arith}
use mathlib.Core.Path.{◌≡◌, refl, sym, ap, ◌∙◌}
use mathlib.Core.Logic.{◌⊎◌, inl, inr}
use mathlib.Core.Bool.{Bool, true, false, cond, ◌&&◌, ◌||◌, and-true}
use borrow.Author.Tests.{eqb-true, eqb-false, eq-eqb, ne_eqb, lt-ltb}
use lib.Dec.{ltb, eqb}
use lib.IntN.{ℤ, pos, negsuc}
use lib.Ieee.{Float, nan, inf, fin, lt, le, eq, neg, of_bits, up, down}
use lib.Ieee.Fits.{up_pos, down_pos}
use Rattle.error.specs.declared.Refusal.TheVariants.{Granted, Range, Room}
use Rattle.math.specs.Number.{abs}
use Rattle.ring_check.specs.Checks.{max_coordinate, hairline_length, beyond, vertex_refusal}
use Rattle.ring_check.specs.Walks.{reaches, NanRefused}

symmetric : (a b : ℕ) → eqb a b ≡ eqb b a
symmetric a b = go (eqb a b) refl
  where
    go : (t : Bool) → eqb a b ≡ t → t ≡ eqb b a
    go true e = sym (eq-eqb b a (sym (eqb-true a b e)))
    go false e = sym (ne_eqb b a (λ h. eqb-false a b e (sym h)))

minus_sign : (a b : ℕ) → 0 < a → ((ltb b a || (eqb a b && true)) && (ltb 0 (b + a) || (eqb b a && eqb b 0))) ≡ (ltb b a || (eqb b a && true))
minus_sign a b l = rw (lt-ltb 0 (b + a) (omega arith), symmetric a b) (and-true (ltb b a || (eqb b a && true)))

plus_sign : (a b : ℕ) (y : Bool) → 0 < a → ((ltb 0 (a + b) || (eqb a b && eqb a 0)) && y) ≡ y
plus_sign a b y l = rw (lt-ltb 0 (a + b) (omega arith)) refl

between : (s : Bool) (n : ℕ) (d : ℤ) (m : ℕ) (e : ℤ) → 0 < n → (le (fin true n d) (fin s m e) && le (fin s m e) (fin false n d)) ≡ le (fin false m e) (fin false n d)
unfolding le lt eq
between true n d m e l = minus_sign (n * up d * down e) (m * up e * down d) (mul-pos (mul-pos l (up_pos d)) (down_pos e))
between false n d m e l =
    plus_sign (n * up d * down e) (m * up e * down d) (le (fin false m e) (fin false n d)) (mul-pos (mul-pos l (up_pos d)) (down_pos e))

pub in_reach_is : (x : Float) → (le (neg max_coordinate) x && le x max_coordinate) ≡ le (abs x) max_coordinate
unfolding abs le lt eq neg of_bits
in_reach_is nan = refl
in_reach_is (inf true) = refl
in_reach_is (inf false) = refl
in_reach_is (fin s m e) = between s 1953125 (pos 9) m e (omega arith)

-- ---- 0.000001, up or down

no_two_signs : (a b : ℕ) → (0 < a) ⊎ (0 < b) → (eqb a b && eqb a 0) ≡ false
no_two_signs a b h = go (eqb a b) (eqb a 0) refl refl
  where
    none : (0 < a) ⊎ (0 < b) → a ≡ b → a ≡ 0 → ⊥
    none (inl l) e z = absurd (omega arith)
    none (inr l) e z = absurd (omega arith)

    go : (p q : Bool) → eqb a b ≡ p → eqb a 0 ≡ q → (p && q) ≡ false
    go false q f g = refl
    go true false f g = refl
    go true true f g = absurd (none h (eqb-true a b f) (eqb-true a 0 g))

or_false : (b : Bool) → (b || false) ≡ b
or_false true = refl
or_false false = refl

past : (s : Bool) (n : ℕ) (d : ℤ) (m : ℕ) (e : ℤ) → 0 < n
    → (le (fin false n d) (fin s m e) || le (fin s m e) (fin true n d)) ≡ le (fin false n d) (fin false m e)
unfolding le lt eq
past true n d m e l =
    let a : ℕ = n * up d * down e in
    let b : ℕ = m * up e * down d in
    ap (λ (t : Bool). t || (ltb a b || (eqb b a && true))) (no_two_signs a b (inl (mul-pos (mul-pos l (up_pos d)) (down_pos e))))
    ∙ ap (λ (t : Bool). ltb a b || (t && true)) (symmetric b a)
past false n d m e l =
    let a : ℕ = n * up d * down e in
    let b : ℕ = m * up e * down d in
    ap (λ (t : Bool). (ltb a b || (eqb a b && true)) || t) (no_two_signs b a (inr (mul-pos (mul-pos l (up_pos d)) (down_pos e))))
    ∙ or_false (ltb a b || (eqb a b && true))

pub past_is : (x : Float) → reaches x ≡ le hairline_length (abs x)
unfolding reaches abs le lt eq neg of_bits
past_is nan = refl
past_is (inf true) = refl
past_is (inf false) = refl
past_is (fin s m e) = past s 4722366482869645 (negsuc 71) m e (omega arith)

-- as the code asks it: a second time only where the first does not tell
pub first_tells : (b c : Bool) → b ≡ true → b ≡ (b || c)
first_tells b c e = rw e refl

pub second_tells : (r b c : Bool) → b ≡ false → r ≡ c → r ≡ (b || c)
second_tells r b c e h = rw e h

nan_north : (room ring n k : ℕ) (x : Float) (b : Bool) → b ≡ false
    → cond b (Range ring x) (cond (beyond nan) (Range ring nan) (cond (ltb k room) Granted (Room ring n room))) ≡ Range ring nan
unfolding beyond abs le lt eq
nan_north room ring n k x b e = rw e refl

pub nan_refused : NanRefused
unfolding vertex_refusal beyond abs le lt eq
nan_refused = record { east = λ room ring n k y. refl; north = λ room ring n k x e. nan_north room ring n k x (beyond x) e }
