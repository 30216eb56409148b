-- The clearance of two outlines: by laws about the least gap and about rings that meet, and by the order of 21. Assumes nothing.
use Prim.Native.Nat.{ℕ, ◌*◌, ◌≤◌, ◌<◌}
use native.Mathlib.Omega.{arith}
use mathlib.Core.Logic.{◌⊎◌, inl, inr}
use mathlib.Core.Path.{◌≡◌, refl, sym, ap, ◌∙◌, subst}
use mathlib.Core.Bool.{Bool, true, false, cond, ◌&&◌, true≢false, false≢true}
use mathlib.Core.List.{List}
use mathlib.Mathlib.Data.Bool.Basic.{and_elim_left, and_elim_right}
use borrow.Author.Tests.{le-ltb, leb-true}
use lib.Dec.{leb}
use lib.Ieee.{Float, nan, inf, fin, up, down, lt}
use Rattle.math.specs.Number.{zero_float, infinity, abs, finite, distance, open_number}
use Rattle.math.proofs.Order.{irreflexive}
use Rattle.error.specs.declared.Refusal.{Refusal}
use Rattle.error.specs.declared.Refusal.TheVariants.{Granted, Shape}
use Rattle.error.specs.Refusals.{granted, number, values}
use Rattle.base.proofs.Choices.{both}
use Rattle.plane.specs.declared.PlanarPoint.{PlanarPoint}
use Rattle.ring.specs.Ring.{vertex_at}
use Rattle.ring_cross.specs.Meet.{rings_meet}
use Rattle.ring_cross.proofs.PairLaws.{pair_tells}
use Rattle.ring_gap.specs.Gap.{least_between}
use Rattle.ring_near.proofs.Least.{finite_length}
use Rattle.ring_gap.specs.Blocks.{edge_gap, FromVertices}
use Rattle.ring_gap.proofs.Between.{gap_plain, between_tells}
use Rattle.outline.specs.Outlines.{in_range, proper, ask, ask_ring}
use Rattle.outline_ask.specs.declared.Measured.{Measured}
use Rattle.outline_ask.specs.Queries.{measured, clear_between, clearance}
use Rattle.outline_sizes.proofs.Finite.{least_finite}
use Rattle.outline_sizes.specs.ClearanceLaws.{ClearanceTells}

-- ---- 21 carries nothing, so the order in which it is asked does not show
both_asked : (a b : Bool) → cond a (cond b Granted Shape) Shape ≡ cond b (cond a Granted Shape) Shape
both_asked true b = refl
both_asked false true = refl
both_asked false false = refl

module _ (ps : List Float) (n : ℕ) (qs : List Float) (m : ℕ) where
  asked_alike : ask_ring ps n (ask_ring qs m Granted) ≡ ask_ring qs m (ask_ring ps n Granted)
  unfolding ask_ring ask
  asked_alike = both_asked (proper 128 ps n) (proper 128 qs m)

  between_alike : clear_between ps n qs m ≡ clear_between qs m ps n
  unfolding clear_between
  between_alike = rw (pair_tells.either_way ps n qs m, between_tells.either_way ps n qs m) refl

  alike : clearance ps n qs m ≡ clearance qs m ps n
  unfolding clearance
  alike = rw (asked_alike, between_alike) refl

  answered : proper 128 ps n ≡ true → proper 128 qs m ≡ true → (clearance ps n qs m).refusal ≡ Granted
  unfolding clearance measured ask_ring ask granted number values
  answered a b = rw (a, b) refl

  first_refused : proper 128 ps n ≡ false → (clearance ps n qs m).refusal ≡ Shape
  unfolding clearance measured ask_ring ask granted number values
  first_refused a = rw a refl

  -- ---- the value
  value_by : (P : Float → Type 0) (r : Refusal) (x : Float) → P x → P zero_float → P (measured r x).value
  unfolding measured
  value_by P r x p z = both (λ (a : Measured). P a.value) (granted r) p z

  met : rings_meet ps n qs m ≡ true → (clearance ps n qs m).value ≡ zero_float
  unfolding clearance clear_between
  met h = value_by (λ (v : Float). v ≡ zero_float) _ _ (rw (pair_tells.either_way ps n qs m ∙ h) refl) refl

  -- what is not below 0 and not below the least gap is not below the clearance
  not_nearer : (x : Float) → lt x zero_float ≡ false → lt x (least_between ps n qs m) ≡ false → lt x (clearance ps n qs m).value ≡ false
  unfolding clearance clear_between distance
  not_nearer x z h =
      value_by (λ (v : Float). lt x v ≡ false) _ _
      (both (λ (v : Float). lt x v ≡ false) (rings_meet qs m ps n) z (both (λ (v : Float). lt x v ≡ false) (finite (least_between ps n qs m)) h z)) z

-- ---- a gap is not below 0
unsigned : (x : Float) → abs x ≡ x → lt x zero_float ≡ false
unfolding abs lt open_number
unsigned nan e = refl
unsigned (inf false) e = refl
unsigned (inf true) e = absurd (false≢true (cc))
unsigned (fin false m d) e = le-ltb (m * up d * 1) (0 * down d) (none (down d))
  where
    none : (x : ℕ) → 0 * x ≤ m * up d * 1
    none x = omega arith
unsigned (fin true m d) e = absurd (false≢true (cc))

gap_unsigned : (ps : List Float) (n k : ℕ) (q : PlanarPoint) → lt (edge_gap ps n k q) zero_float ≡ false
unfolding edge_gap
gap_unsigned ps n k q = unsigned _ (gap_plain _ _ _)

-- ---- past 21 the least gap is finite
some_vertex : (ps : List Float) (n : ℕ) → proper 128 ps n ≡ true → 0 < n
unfolding proper
some_vertex ps n q = less (leb-true 3 n (and_elim_left (leb 3 n) (leb n 128 && in_range ps n) q))
  where
    less : 3 ≤ n → 0 < n
    less h = omega arith

range : (ps : List Float) (n : ℕ) → proper 128 ps n ≡ true → in_range ps n ≡ true
unfolding proper
range ps n q = and_elim_right (leb n 128) (in_range ps n) (and_elim_right (leb 3 n) (leb n 128 && in_range ps n) q)

module _ (ps : List Float) (n : ℕ) (qs : List Float) (m : ℕ) where
  from_plain : (x : Float) → FromVertices ps n 0 n qs m x → abs x ≡ x
  unfolding edge_gap
  from_plain x p = let e = p.gap.is in ap abs e ∙ gap_plain _ _ _ ∙ sym e

module _ (ps : List Float) (n : ℕ) (qs : List Float) (m : ℕ) (a : proper 128 ps n ≡ true) (b : proper 128 qs m ≡ true) where
  abbrev least : Float
  least = least_between ps n qs m

  below : lt least infinity ≡ true
  below = least_finite ps n qs m (some_vertex ps n a) (some_vertex qs m b) (range ps n a) (range qs m b)

  found : (FromVertices ps n 0 n qs m least) ⊎ (FromVertices qs m 0 m ps n least)
  found = elim (between_tells.one ps n qs m) [ inl e ↦ absurd (true≢false (sym below ∙ ap (λ (x : Float). lt x infinity) e ∙ irreflexive infinity)) | inr p ↦ p ]

  plain : abs least ≡ least
  plain = elim found [ inl p ↦ from_plain ps n qs m least p | inr p ↦ from_plain qs m ps n least p ]

  value_is : rings_meet ps n qs m ≡ false → (clearance ps n qs m).value ≡ least
  unfolding clearance measured clear_between ask_ring ask granted number values
  value_is h = rw (a, b, pair_tells.either_way ps n qs m ∙ h) (finite_length least plain below)

  one_of : rings_meet ps n qs m ≡ false → let x = (clearance ps n qs m).value in FromVertices ps n 0 n qs m x ⊎ FromVertices qs m 0 m ps n x
  one_of h = subst (λ (x : Float). FromVertices ps n 0 n qs m x ⊎ FromVertices qs m 0 m ps n x) (sym (value_is h)) found

pub clearance_tells : ClearanceTells
clearance_tells = record {
  either_way = alike;
  answered = answered;
  first_refused = first_refused;
  second_refused = λ ps n qs m h. ap (λ (a : Measured). a.refusal) (alike ps n qs m) ∙ first_refused qs m ps n h;
  met = met;
  of_second = λ ps n qs m i k l h. not_nearer ps n qs m _ (gap_unsigned ps n k (vertex_at qs i)) (between_tells.of_second ps n qs m i k l h);
  of_first = λ ps n qs m i k l h. not_nearer ps n qs m _ (gap_unsigned qs m k (vertex_at ps i)) (between_tells.of_first ps n qs m i k l h);
  one = one_of;
}
