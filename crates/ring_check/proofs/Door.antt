-- The statements of specs/Door.antt. Assumes nothing.
use Prim.Native.Nat.{ℕ, ◌<◌}
use mathlib.Core.Path.{◌≡◌, refl, sym, ap, subst, ◌∙◌}
use mathlib.Core.Bool.{Bool, true, false, cond, ◌&&◌, ◌||◌, true≢false, false≢true}
use mathlib.Core.List.{List}
use lib.Dec.{ltb, leb→le}
use lib.Ieee.{Float, lt, of_bits}
use Rattle.error.specs.declared.Refusal.{Refusal}
use Rattle.error.specs.declared.Refusal.TheVariants.{Granted, Few, Repeated, Hairline}
use Rattle.error.specs.Refusals.{values, number, granted}
use Rattle.math.specs.Number.{zero_float}
use Rattle.ring_measure.specs.Measures.{signed_area, span}
use Rattle.std.specs.Prelude.{Option, None, Some}
use Rattle.ring_cross.specs.declared.EdgePair.{EdgePair}
use Rattle.ring_cross.specs.Simple.{check_simple}
use Rattle.base.proofs.Laws.{rounds_keep}
use Rattle.base.proofs.Choices.{both}
use Rattle.plane.specs.declared.PlanarPoint.{PlanarPoint}
use Rattle.ring.specs.Ring.{vertex_at}
use Rattle.ring_check.proofs.Sound.{check_sound}
use Rattle.base.proofs.Tests.{Passed, one_passed, none_pass}
use Rattle.ring_check.specs.declared.Checked.{Checked}
use Rattle.ring_check.specs.Checks.{kept, beyond, vertex_refusal, range_step, check_range, repeats, short_edge, hairline_step, hairline, flat, crossed, refused}
use Rattle.ring_check.specs.Checks.{passed, check_reversed, check_area, check_shape, check_in_range, check_kept, check_by, check_ring, check_door}
use Rattle.ring_check.specs.Door.{ShortEdge, past_seven, DoorTells}

hairline_some : (ps : List Float) (n : ℕ) → hairline ps n ≡ true → ShortEdge ps n
unfolding hairline hairline_step
hairline_some ps n h =
    let w : Passed (short_edge ps n) n = one_passed (hairline_step ps n) (short_edge ps n) (λ k s. refl) n h in
    record { edge = w.at; under = w.under; short = w.is }

hairline_none : (ps : List Float) (n : ℕ) → hairline ps n ≡ false → (k : ℕ) → k < n → short_edge ps n k ≡ false
unfolding hairline hairline_step
hairline_none ps n = none_pass (hairline_step ps n) (short_edge ps n) (λ k s. refl) n

-- ---- the door beside the check of a piece

-- 5 and 6 come before 7, of any vertex
record Early (r : Refusal) : Type 0 where
  early : ltb 7 (number r) ≡ false

vertex_early : (room ring n k : ℕ) (v : PlanarPoint) → Early (vertex_refusal room ring n k v)
unfolding vertex_refusal number values
vertex_early room ring n k v =
    both Early (beyond v.east) (record { early = refl })
    (both Early (beyond v.north) (record { early = refl }) (both Early (ltb k room) (record { early = refl }) (record { early = refl })))

range_early : (room ring : ℕ) (ps : List Float) (n : ℕ) → Early (check_range room ring ps n)
unfolding check_range range_step number values
range_early room ring ps n =
    rounds_keep (range_step room ring ps n) (λ k r. Early r) Granted (record { early = refl })
    (λ k r h. both Early (granted r) (vertex_early room ring n k (vertex_at ps k)) h) n

-- 8 and 9 come after it
record Late (c : Checked) : Type 0 where
  late : past_seven c.refusal ≡ true

crossed_late : (ring n : ℕ) (back : Bool) (x : Option EdgePair) → past_seven (crossed ring n back x) ≡ true
unfolding crossed past_seven granted number values
crossed_late ring n back None = refl
crossed_late ring n true (Some p) = refl
crossed_late ring n false (Some p) = refl

area_late : (ring : ℕ) (ps : List Float) (n : ℕ) (signed : Float) → Late (check_area ring ps n signed)
unfolding check_area check_reversed passed refused past_seven granted number values
area_late ring ps n signed =
    let back : Bool = lt signed zero_float in
    let r : Refusal = crossed ring n back (check_simple ps n back) in
    both Late (flat signed (span ps n)) (record { late = refl })
    (both Late (granted r) (record { late = refl }) (record { late = crossed_late ring n back (check_simple ps n back) }))

module _ (h : Bool) (x : Checked) where
  -- the answer c where 27 is not asked, and where it is
  stays : (c : Checked) → past_seven c.refusal ≡ false → c ≡ cond (past_seven c.refusal && h) x c
  stays c e = rw e refl

  asked : (c : Checked) → Late c → cond h x c ≡ cond (past_seven c.refusal && h) x c
  asked c e = rw e.late refl

module _ (ring : ℕ) (r : Refusal) (early : ltb 7 (number r) ≡ false) (m : ℕ) (a : Checked) (late : Late a) (h : Bool) where
  x : Checked
  x = refused (Hairline ring)

  -- the questions up to 7, then 27 where `door` says so, and then the rest, a
  asks : Bool → Bool → Bool → Bool → Checked
  asks door few whole twice = cond few (refused (Few ring m)) (cond whole (cond twice (refused (Repeated ring)) (cond (door && h) x a)) (refused r))

  beside : (few whole twice : Bool) → granted r ≡ whole
      → asks true few whole twice ≡ cond (past_seven (asks false few whole twice).refusal && h) x (asks false few whole twice)
  unfolding asks past_seven granted number values refused
  beside true whole twice e = stays h x (refused (Few ring m)) refl
  beside false true true e = stays h x (refused (Repeated ring)) refl
  beside false true false e = asked h x a late
  beside false false twice e = stays h x (refused r) (ap (λ (t : Bool). t || ltb 7 (number r)) e ∙ early)

door_is : (room ring : ℕ) (ps : List Float) (n : ℕ) →
    check_door room ring ps n ≡
    cond (past_seven (check_ring room ring ps n).refusal && hairline ps (kept ps n)) (refused (Hairline ring)) (check_ring room ring ps n)
unfolding check_by check_kept check_in_range check_shape asks x
door_is room ring ps n =
    let m : ℕ = kept ps n in
    let r : Refusal = check_range room ring ps m in
    beside ring r (range_early room ring ps m).early m (check_area ring ps m (signed_area ps m)) (area_late ring ps m (signed_area ps m)) (hairline ps m)
    (ltb m 3) (granted r) (repeats ps m) refl

-- ---- what the door grants

module _ (room ring : ℕ) (ps : List Float) (n : ℕ) (g : granted (check_door room ring ps n).refusal ≡ true) where
  c : Checked
  c = check_ring room ring ps n

  told : (t h : Bool) (d : Checked) → granted d.refusal ≡ true → past_seven c.refusal ≡ t → d ≡ cond (t && h) (refused (Hairline ring)) c → (d ≡ c) × (h ≡ false)
  unfolding refused past_seven granted number values
  told true true d q e f = absurd (false≢true (sym (ap (λ (z : Checked). granted z.refusal) f) ∙ q))
  told true false d q e f = (f, refl)
  told false h d q e f = absurd (true≢false (sym (ap (λ (z : Bool). z || ltb 7 (number c.refusal)) (sym (ap (λ (z : Checked). granted z.refusal) f) ∙ q)) ∙ e))

  both_told : (check_door room ring ps n ≡ c) × (hairline ps (kept ps n) ≡ false)
  unfolding c
  both_told = told (past_seven c.refusal) (hairline ps (kept ps n)) (check_door room ring ps n) g refl (door_is room ring ps n)

  door_same : check_door room ring ps n ≡ check_ring room ring ps n
  unfolding c
  door_same = both_told.0

  door_clear : (k : ℕ) → k < (check_door room ring ps n).count → short_edge ps (check_door room ring ps n).count k ≡ false
  door_clear =
      subst (λ (m : ℕ). (k : ℕ) → k < m → short_edge ps m k ≡ false) (sym (check_sound true room ring ps n g).left)
      (hairline_none ps (kept ps n) both_told.1)

pub door_tells : DoorTells
unfolding of_bits
door_tells = record {
  bound = (refl, refl);
  nearest = (leb→le _ _ tt, leb→le _ _ tt);
  some = hairline_some;
  none = hairline_none;
  is = door_is;
  same = door_same;
  clear = door_clear;
}
