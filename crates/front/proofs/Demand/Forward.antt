-- The steps and offsets of a sweep: a step is no `nan` and not below zero, an offset has no sign, and from an offset the distance lies nearer than infinity.
use lib.Ieee
use mathlib.Core.Path.{◌≡◌, refl, sym, ap, ◌∙◌, subst}
use mathlib.Core.Logic.{◌≢◌}
use mathlib.Core.Bool.{Bool, true, false, cond, ◌&&◌, ◌||◌, true≢false, false≢true}
use Prim.Native.Nat.{ℕ, zero, suc, ◌+◌, ◌-◌, ◌*◌, ◌^◌, ◌≤◌, ◌<◌}
use native.Mathlib.Omega.{arith}
use lib.Dec.{ltb, eqb}
use lib.IntN.{ℤ, pos}
use borrow.Author.Tests.{ltb-true, ltb-false, lt-ltb, eq-eqb, ne_eqb, eqb-false}
use lib.Ieee.{Float, nan, inf, fin, Format, binary64, lt, le, eq, neg, up, down, odd, units, round}
use lib.Ieee.Fits.{up_pos}
use Rattle.plane.specs.declared.PlanarPoint.{PlanarPoint}
use Rattle.math.specs.Number.{add, mul, div, zero_float, infinity, fmax, finite}
use Rattle.math.proofs.Order.{le_nan}
use Rattle.front.specs.Thresholds.{on_edge}
use Rattle.plane.specs.Plane.{sub, dot}
use Rattle.front.specs.Edges.{moved_by}
use Rattle.front.specs.NextEvent.{hit_within}

abbrev pub Forward : Float → Type 0
Forward nan = ⊥
Forward (inf s) = s ≡ false
Forward (fin false m e) = Unit {0}
Forward (fin true m e) = m ≡ 0

abbrev pub Onward : Float → Type 0
Onward nan = ⊥
Onward (inf s) = s ≡ false
Onward (fin s m e) = s ≡ false

pub forward_of : (x : Float) → Onward x → Forward x
forward_of nan h = h
forward_of (inf s) h = h
forward_of (fin false m e) h = tt
forward_of (fin true m e) h = absurd (true≢false h)

pub zero_onward : Onward zero_float
unfolding lib.Ieee.of_bits
zero_onward = refl

-- ---- what is rounded without a sign has none

odd_onward : (d q k l : ℕ) → Onward (odd d false q k l)
unfolding odd
odd_onward d zero k l = refl
odd_onward d (suc q) k l = refl

units_onward : (f : Format) (q k : ℕ) → Onward (units f false q k)
unfolding units
units_onward f q k = go (ltb (q * 2 ^ k) (2 ^ (lib.Ieee.low f + suc (lib.Ieee.emax f))))
  where
    go : (b : Bool) → Onward (cond b (odd (suc (lib.Ieee.prec f)) false q k (lib.Ieee.low f)) (inf false))
    go true = odd_onward (suc (lib.Ieee.prec f)) q k (lib.Ieee.low f)
    go false = refl

pub round_onward : (f : Format) (num den : ℕ) → Onward (round f false num den)
unfolding round
round_onward f num den = units_onward f _ _

-- ---- an offset and a step

pub onward : (t s : Float) → Onward t → Forward s → Onward (add t s)
unfolding lib.Ieee.add lib.Ieee.sum
onward nan s h k = absurd h
onward (inf true) s h k = absurd (true≢false h)
onward (inf false) nan h k = absurd k
onward (inf false) (inf true) h k = absurd (true≢false k)
onward (inf false) (inf false) h k = refl
onward (inf false) (fin s n d) h k = refl
onward (fin true m e) s h k = absurd (true≢false h)
onward (fin false m e) nan h k = absurd k
onward (fin false m e) (inf s) h k = k
onward (fin false m e) (fin false n d) h k = round_onward binary64 (m * up e * down d + n * up d * down e) (down e * down d)
onward (fin false m e) (fin true n d) h k = go (ltb a b) refl
  where
    a : ℕ
    a = m * up e * down d

    b : ℕ
    b = n * up d * down e

    c : ℕ
    c = down e * down d

    none : b ≡ 0
    none = ap (λ (i : ℕ). i * up d * down e) k ∙ omega arith

    go : (o : Bool) → ltb a b ≡ o → Onward (cond o (round binary64 true (b - a) c) (round binary64 (false && ltb b a) (a - b) c))
    go true q = absurd (omega (arith, ltb-true a b q, none))
    go false q = round_onward binary64 (a - b) c

-- from an offset a finite distance is reached before infinity
pub far_reached : (d t : Float) → finite d ≡ true → Onward t → le d (add t infinity) ≡ true
unfolding lib.Ieee.of_bits lib.Ieee.add le lt finite
far_reached nan t f h = absurd (false≢true f)
far_reached (inf s) t f h = absurd (false≢true f)
far_reached (fin s m e) nan f h = absurd h
far_reached (fin s m e) (inf true) f h = absurd (true≢false h)
far_reached (fin s m e) (inf false) f h = refl
far_reached (fin s m e) (fin r n d) f h = refl

-- an offset that is not past a finite distance lies before it
pub sooner_than : (d t : Float) → finite d ≡ true → Onward t → le d t ≡ false → lt t d ≡ true
unfolding le lt eq finite
sooner_than nan t f h q = absurd (false≢true f)
sooner_than (inf s) t f h q = absurd (false≢true f)
sooner_than (fin s m e) nan f h q = absurd h
sooner_than (fin s m e) (inf true) f h q = absurd (true≢false h)
sooner_than (fin s m e) (inf false) f h q = absurd (true≢false q)
sooner_than (fin s m e) (fin true n k) f h q = absurd (true≢false h)
sooner_than (fin false m e) (fin false n k) f h q = go (ltb a b) refl (eqb a b) refl q
  where
    a : ℕ
    a = m * up e * down k

    b : ℕ
    b = n * up k * down e

    go : (x : Bool) → ltb a b ≡ x → (y : Bool) → eqb a b ≡ y → (x || (y && true)) ≡ false → ltb b a ≡ true
    go true p y r z = absurd (true≢false z)
    go false p true r z = absurd (true≢false z)
    go false p false r z = lt-ltb b a (below a b (ltb-false a b p) (eqb-false a b r))
      where
        below : (a b : ℕ) → b ≤ a → a ≢ b → b < a
        below a b l n = omega (arith, n)
sooner_than (fin true m e) (fin false n k) f h q = absurd (none (ltb 0 (a + b)) refl q)
  where
    a : ℕ
    a = m * up e * down k

    b : ℕ
    b = n * up k * down e

    level : a + b ≡ 0 → (eqb a b && (false || eqb a 0)) ≡ true
    level z = rw (eq-eqb a b (omega arith), eq-eqb a 0 (omega arith)) refl

    none : (x : Bool) → ltb 0 (a + b) ≡ x → (x || (eqb a b && (false || eqb a 0))) ≡ false → ⊥
    none true p z = true≢false z
    none false p z = true≢false (sym (level (omega (arith, ltb-false 0 (a + b) p))) ∙ z)

-- ---- a step that leads to a split

pub add_nan : (x : Float) → add x nan ≡ nan
unfolding lib.Ieee.add
add_nan nan = refl
add_nan (inf s) = refl
add_nan (fin s m e) = refl

pub mul_nan : (x : Float) → mul x nan ≡ nan
unfolding lib.Ieee.mul
mul_nan nan = refl
mul_nan (inf s) = refl
mul_nan (fin s m e) = refl

abbrev nan_point : PlanarPoint
nan_point = record { east = nan; north = nan }

moved_nan : (p v : PlanarPoint) → moved_by p v nan ≡ nan_point
unfolding moved_by lib.Ieee.mul
moved_nan p v = λ i. record { east = add_nan p.east i; north = add_nan p.north i }

dot_nan : (u : PlanarPoint) → dot u nan_point ≡ nan
unfolding dot lib.Ieee.add
dot_nan u = ap (λ (x : Float). add x (mul u.north nan)) (mul_nan u.east)

-- a vertex that is nowhere hits nothing
missed : (u from to : PlanarPoint) → hit_within u nan_point from to ≡ false
unfolding hit_within sub lib.Ieee.sub lib.Ieee.add
missed u from to = ap (λ (b : Bool). b && le (neg on_edge) (dot u (sub to nan_point))) (ap (le (neg on_edge)) (dot_nan u) ∙ le_nan (neg on_edge))

-- a number that is not below zero
not_below : (x : Float) → lt x zero_float ≡ false → x ≢ nan → Forward x
unfolding lt lib.Ieee.of_bits
not_below nan q d = absurd (d refl)
not_below (inf true) q d = absurd (true≢false q)
not_below (inf false) q d = refl
not_below (fin false m e) q d = tt
not_below (fin true m e) q d = zero_of m (omega (arith, ltb-false 0 (m * up e * 1 + 0 * 1 * down e) q, up_pos e))
  where
    zero_of : (m : ℕ) → m * up e ≡ 0 → m ≡ 0
    zero_of zero h = refl
    zero_of (suc n) h = absurd (omega (arith, up_pos e))

pub hit_forward : (u p v from to : PlanarPoint) (step : Float) → lt step zero_float ≡ false → hit_within u (moved_by p v step) from to ≡ true → Forward step
hit_forward u p v from to step q h = not_below step q (λ n. true≢false (sym h ∙ ap (λ (s : Float). hit_within u (moved_by p v s) from to) n ∙ ap (λ (r : PlanarPoint). hit_within u r from to) (moved_nan p v) ∙ missed u from to))

-- ---- a step that leads to a collapse

div_forward : (m : ℕ) (d : ℤ) (n : ℕ) (e : ℤ) → n ≢ 0 → Forward (div (fin false m d) (fin false n e))
unfolding lib.Ieee.div
div_forward m d n e h =
    subst (λ (b : Bool). Forward (cond b (cond (eqb m 0) nan (inf false)) r)) (sym (ne_eqb n 0 h)) (forward_of r (round_onward binary64 (m * up d * down e) (n * up e * down d)))
  where
    r : Float
    r = round binary64 false (m * up d * down e) (n * up e * down d)

inf_over : (n : ℕ) (e : ℤ) → Forward (div (inf false) (fin false n e))
unfolding lib.Ieee.div
inf_over n e = refl

over : (l : Float) (n : ℕ) (e : ℤ) → n ≢ 0 → Forward (div (fmax l zero_float) (fin false n e))
unfolding fmax lt eq lib.Ieee.of_bits
over nan n e h = div_forward 0 (pos 0) n e h
over (inf true) n e h = div_forward 0 (pos 0) n e h
over (inf false) n e h = inf_over n e
over (fin true m d) n e h = div_forward 0 (pos 0) n e h
over (fin false m d) n e h = go (ltb (0 * 1 * down d) (m * up d * 1))
  where
    go : (b : Bool) → Forward (div (cond b (fin false m d) (fin false 0 (pos 0))) (fin false n e))
    go true = div_forward m d n e h
    go false = div_forward 0 (pos 0) n e h

-- the length, or zero if it is below, over how fast it shrinks
pub shrink_forward : (l rate : Float) → lt rate zero_float ≡ true → rate ≢ inf true → Forward (div (fmax l zero_float) (neg rate))
unfolding lt lib.Ieee.of_bits neg
shrink_forward l nan q d = absurd (false≢true q)
shrink_forward l (inf true) q d = absurd (d refl)
shrink_forward l (inf false) q d = absurd (false≢true q)
shrink_forward l (fin false n e) q d = absurd (omega (arith, ltb-true (n * up e * 1) (0 * 1 * down e) q))
shrink_forward l (fin true n e) q d = over l n e (λ z. omega (arith, ltb-true 0 (n * up e * 1 + 0 * 1 * down e) q, ap (λ (i : ℕ). i * up e * 1) z))
