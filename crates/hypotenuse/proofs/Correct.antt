-- THE THEOREM, `hypot_is_nearest`: the statement of `specs/Nearest.antt`. Assumes nothing.
use mathlib.Core.Path.{◌≡◌, refl, sym, ◌∙◌, subst}
use mathlib.Core.Logic.{◌⊎◌, inl, inr, ⊎_elim}
use mathlib.Core.Bool.{Bool, true, false, cond}
use Prim.Native.Nat.{ℕ, ◌+◌, ◌*◌, ◌^◌, ◌≤◌, ◌<◌}
use native.Mathlib.Omega.{arith}
use lib.Dec.{T, ltb, ltb→lt}
use lib.IntN.{ℤ}
use lib.Ieee.{Float, nan, inf, fin, binary64, odd, units, fits}
use lib.Ieee.Exact.{HasValue}
use lib.Ieee.Fits.{odd-fits, inf-fits}
use Rattle.hypotenuse.specs.Hypot.{dropped, kept, round_root, count, hypot}
use Rattle.hypotenuse.specs.Nearest.{HasUnits, Infinite, Held, Rounds, IsHypot, of_finite, of_infinite, of_nan, HypotIsNearest}
use Rattle.hypotenuse.proofs.Units.{count_of, count_exact, double_held}
use Rattle.hypotenuse.proofs.Nearest.{nearest_root}
use Rattle.hypotenuse.proofs.Overflow.{round_root_rounds}
use Rattle.hypotenuse.proofs.Unique.{rounds_unique}

-- ---- the result is a double
round_root_fits : (s : ℕ) → T (fits binary64 (round_root binary64 s))
unfolding round_root units
round_root_fits s = go (ltb (q * 2 ^ k) (2 ^ 2098)) (ltb→lt (q * 2 ^ k) (2 ^ 2098))
  where
    k : ℕ
    k = dropped binary64 s

    q : ℕ
    q = kept binary64 s k

    small : (q : ℕ) → q ≤ 2 ^ 53 → q < 2 ^ 54
    small q h = omega arith

    go : (b : Bool) → (T b → q * 2 ^ k < 2 ^ 2098) → T (fits binary64 (cond b (odd 54 false q k 1074) (inf false)))
    go true h = odd-fits binary64 54 false q k (small q (nearest_root s).q_le) (nearest_root s).q_le (h tt)
    go false h = inf-fits binary64 false

hypot_fits : (x y : Float) → T (fits binary64 (hypot x y))
unfolding hypot fits
hypot_fits nan nan = tt
hypot_fits nan (inf t) = tt
hypot_fits nan (fin t n d) = tt
hypot_fits (inf s) y = tt
hypot_fits (fin s m e) nan = tt
hypot_fits (fin s m e) (inf t) = tt
hypot_fits (fin s m e) (fin t n d) = round_root_fits (count m e * count m e + count n d * count n d)

-- ---- what is finite, infinite and NaN
finite_not_nan : (x : Float) (a : ℕ) → HasUnits x a → x ≡ nan → ⊥
finite_not_nan x a h e = subst (λ (v : Float). HasValue v h.0 a (2 ^ 1074)) e h.1

finite_not_infinite : (x : Float) (a : ℕ) → HasUnits x a → Infinite x → ⊥
finite_not_infinite x a h (s, e) = subst (λ (v : Float). HasValue v h.0 a (2 ^ 1074)) e h.1

nan_not_infinite : Infinite nan → ⊥
nan_not_infinite (s, e) = let z : ◌≡◌ {A = ℕ} 0 1 = cc in omega arith

fin_not_infinite : {s : Bool} {m : ℕ} {e : ℤ} → Infinite (fin s m e) → ⊥
fin_not_infinite (t, p) = let z : ◌≡◌ {A = ℕ} 0 1 = cc in omega arith

-- ---- the cases
is_hypot : (x y : Float) → T (fits binary64 x) → T (fits binary64 y) → IsHypot x y (hypot x y)
unfolding hypot
is_hypot nan nan f g = of_nan (inl refl) nan_not_infinite nan_not_infinite refl
is_hypot nan (inf t) f g = of_infinite (inr (t, refl)) refl
is_hypot nan (fin t n d) f g = of_nan (inl refl) nan_not_infinite fin_not_infinite refl
is_hypot (inf s) y f g = of_infinite (inl (s, refl)) refl
is_hypot (fin s m e) nan f g = of_nan (inr refl) fin_not_infinite nan_not_infinite refl
is_hypot (fin s m e) (inf t) f g = of_infinite (inr (t, refl)) refl
is_hypot (fin s m e) (fin t n d) f g = of_finite (count m e) (count n d) (s, count_exact s m e f) (t, count_exact t n d g) (round_root_rounds (count m e * count m e + count n d * count n d))

units_unique : (x : Float) (a b : ℕ) → HasUnits x a → HasUnits x b → a ≡ b
units_unique nan a b h k = absurd h.1
units_unique (inf s) a b h k = absurd h.1
units_unique (fin s m e) a b h k = count_of s h.0 m e a h.1 ∙ sym (count_of s k.0 m e b k.1)

both_finite : (x y : Float) (a b : ℕ) → HasUnits x a → HasUnits y b → (Infinite x ⊎ Infinite y → ⊥) × ((x ≡ nan) ⊎ (y ≡ nan) → ⊥)
both_finite x y a b h k = (⊎_elim (finite_not_infinite x a h) (finite_not_infinite y b k), ⊎_elim (finite_not_nan x a h) (finite_not_nan y b k))

unique : (x y u v : Float) → T (fits binary64 u) → T (fits binary64 v) → IsHypot x y u → IsHypot x y v → u ≡ v
unique x y u v f g (of_finite a b h k r) (of_finite c d i j w) =
    rounds_unique u v f g r (subst (λ (z : ℕ). Rounds (z * z + b * b) v) (units_unique x c a i h) (subst (λ (z : ℕ). Rounds (c * c + z * z) v) (units_unique y d b j k) w))
unique x y u v f g (of_finite a b h k r) (of_infinite i e) = absurd ((both_finite x y _ _ h k).0 i)
unique x y u v f g (of_finite a b h k r) (of_nan i _ _ e) = absurd ((both_finite x y _ _ h k).1 i)
unique x y u v f g (of_infinite i e) (of_finite c d h k w) = absurd ((both_finite x y _ _ h k).0 i)
unique x y u v f g (of_infinite i e) (of_infinite j d) = e ∙ sym d
unique x y u v f g (of_infinite i e) (of_nan _ p q d) = absurd (⊎_elim p q i)
unique x y u v f g (of_nan i _ _ e) (of_finite c d h k w) = absurd ((both_finite x y _ _ h k).1 i)
unique x y u v f g (of_nan _ p q e) (of_infinite i d) = absurd (⊎_elim p q i)
unique x y u v f g (of_nan _ _ _ e) (of_nan _ _ _ d) = e ∙ sym d

held_double : (x : Float) (a : ℕ) → T (fits binary64 x) → HasUnits x a → Held a
held_double nan a f h = absurd h.1
held_double (inf s) a f h = absurd h.1
held_double (fin s m e) a f h = subst Held (sym (count_of s h.0 m e a h.1)) (double_held s m e f)

pub hypot_is_nearest : HypotIsNearest
hypot_is_nearest = record {
  double = λ x y f g. hypot_fits x y;
  is = is_hypot;
  only = λ x y r f g h p. unique x y r (hypot x y) h (hypot_fits x y) p (is_hypot x y f g);
  all = held_double;
}
