-- Question 21 of flat rings, and what passes it: a region that passes it again. Assumes nothing.
use Prim.Native.Nat.{ℕ, suc, ◌+◌, ◌-◌, ◌≤◌, ◌<◌}
use native.Mathlib.Nat.{zero-add}
use native.Mathlib.Omega.{arith}
use mathlib.Core.Path.{◌≡◌, refl, sym, ◌∙◌, subst}
use mathlib.Core.Bool.{Bool, true, false, ◌&&◌, false≢true}
use mathlib.Core.List.{List}
use mathlib.Mathlib.Data.Bool.Basic.{and_elim_left, and_elim_right}
use borrow.Author.Tests.{leb-true}
use lib.Dec.{leb, ltb}
use lib.ListN.{length, get_or, replicate, length-replicate}
use lib.Ieee.{Float}
use Rattle.error.specs.declared.Refusal.{Refusal}
use Rattle.error.specs.declared.Refusal.TheVariants.{Granted, Shape}
use Rattle.error.specs.Refusals.{granted, number, values}
use Rattle.math.specs.Number.{zero_float}
use Rattle.base.proofs.Laws.{rounds_keep}
use Rattle.base.proofs.Choices.{both, by_test}
use Rattle.base.proofs.Tests.{all_pass}
use Rattle.ring.specs.Ring.{vertex_at, source, stored_at}
use Rattle.ring.specs.Store.{stored}
use Rattle.ring.proofs.Storing.{stored_new}
use Rattle.outline.specs.declared.Outline.{Outline}
use Rattle.outline.specs.Outlines.{no_outline, proper, ask, outline_refused, stored_outline}
use Rattle.outline.proofs.Good.{proper_same}
use Rattle.front.proofs.Demand.Shapes.{proper_is}
use Rattle.region.specs.declared.Region.{Region}
use Rattle.region.specs.declared.NewRegion.{NewRegion}
use Rattle.region.specs.Regions.{no_region, with_outer, store_hole, count_hole, with_hole}
use Rattle.region.specs.Checks.{lengths_fit, proper_region, check_region, region_refused, region_if, region_loaded}
use Rattle.region.specs.Queries.{ask_region, read_outline, region_outer}
use Rattle.region.specs.Answers.{ProperNewRegion}
use Rattle.region.proofs.Holes.{GoodHoles, ProperHole, proper_of_holes, no_holes, outer_holes, with_holes, region_proper}
use Rattle.region_stored.specs.Stored.{ring_from, proper_holes_step, proper_holes, kept, rings_step, rings, stored_region, given_region, StoredAsked}
use Rattle.region_stored.proofs.Walks.{passes}

-- ---- question 21 of the counts and of each ring

module _ (lengths : List ℕ) (ps : List Float) where
  pub kept_yes : lengths_fit lengths ps ≡ true → (n : ℕ) → n ≡ get_or lengths 0 0 → (a b : Bool) → a ≡ proper 128 ps n → b ≡ proper_holes lengths ps → (a && b) ≡ kept lengths ps
  unfolding kept
  kept_yes fit n en a b e f = rw (fit, e, f, en) refl

  pub kept_no : lengths_fit lengths ps ≡ false → false ≡ kept lengths ps
  unfolding kept
  kept_no fit = rw fit refl

  pub kept_fit : (k : Bool) → k ≡ kept lengths ps → k ≡ true → lengths_fit lengths ps ≡ true
  unfolding kept
  kept_fit k e t = and_elim_left (lengths_fit lengths ps) (proper 128 ps (get_or lengths 0 0) && proper_holes lengths ps) (sym e ∙ t)

  pub kept_fits : (k few : Bool) → k ≡ kept lengths ps → (k && few) ≡ true → lengths_fit lengths ps ≡ true
  kept_fits k few e t = kept_fit k e (and_elim_left k few t)

-- ---- the outer ring as it is stored

pub outer_vertex : (ps : List Float) (n : ℕ) → n ≤ 128 → (k : ℕ) → k < n → vertex_at (stored_outline ps n false).points k ≡ vertex_at ps k
unfolding stored_outline stored_at source
outer_vertex ps n z k l =
    let out : List Float = replicate 256 zero_float in
    subst (λ (i : ℕ). vertex_at (stored ps n false 0 out) i ≡ vertex_at ps k) (zero-add k) (stored_new ps n false 0 out (omega (arith, length-replicate 256 zero_float)) k l)

pub outer_proper : (ps : List Float) (n : ℕ) → proper 128 ps n ≡ true → proper 128 (stored_outline ps n false).points n ≡ true
outer_proper ps n h = proper_same 128 ps (stored_outline ps n false).points n (outer_vertex ps n (proper_is 128 ps n h).fits) h

-- ---- the rings: the outer one and the first eight holes pass 21

record Sound (k : ℕ) (q : Region) : Type 0 where
  outer : proper 128 q.outer.points q.outer.count ≡ true
  holes : GoodHoles ProperHole q
  count : q.holes ≡ k

record Kept (q r : Region) : Type 0 where
  outer : r.outer ≡ q.outer
  count : r.holes ≡ q.holes + 1

with_kept : (q : Region) (ps : List Float) (n : ℕ) → Kept q (with_hole q ps n false)
unfolding with_hole store_hole count_hole
with_kept q ps n = both (Kept q) (ltb q.holes 8) (record { outer = refl; count = refl }) (record { outer = refl; count = refl })

module _ (lengths : List ℕ) (ps : List Float) (h : kept lengths ps ≡ true) where
  abbrev rest : Bool
  rest = proper 128 ps (get_or lengths 0 0) && proper_holes lengths ps

  pub fit : lengths_fit lengths ps ≡ true
  fit = kept_fit lengths ps true (sym h) refl

  all_proper : rest ≡ true
  unfolding kept
  all_proper = and_elim_right (lengths_fit lengths ps) rest h

  pub first_proper : proper 128 ps (get_or lengths 0 0) ≡ true
  first_proper = and_elim_left (proper 128 ps (get_or lengths 0 0)) (proper_holes lengths ps) all_proper

  pub hole_proper : (k : ℕ) → k < length lengths - 1 → passes lengths ps k ≡ true
  unfolding proper_holes_step proper_holes
  hole_proper =
      all_pass (proper_holes_step lengths ps) (passes lengths ps) (λ i s. refl) (length lengths - 1)
      (and_elim_right (proper 128 ps (get_or lengths 0 0)) (proper_holes lengths ps) all_proper)

  alone : Sound 0 (with_outer no_region (stored_outline ps (get_or lengths 0 0) false))
  unfolding with_outer no_region stored_outline
  alone = record {
    outer = outer_proper ps (get_or lengths 0 0) first_proper;
    holes = outer_holes ProperHole no_region (stored_outline ps (get_or lengths 0 0) false) (no_holes ProperHole);
    count = refl;
  }

  next : (k : ℕ) (q : Region) → passes lengths ps k ≡ true → Sound k q → Sound (suc k) (rings_step lengths ps k q)
  unfolding rings_step stored_at source
  next k q p s =
      let qs : List Float = ring_from lengths ps (k + 1) in
      let n : ℕ = get_or lengths (k + 1) 0 in
      let w : Kept q (with_hole q qs n false) = with_kept q qs n in
      record {
        outer = subst (λ (o : Outline). proper 128 o.points o.count ≡ true) (sym w.outer) s.outer;
        holes = with_holes ProperHole proper_of_holes q qs n false (proper_is 32 qs n p).fits (λ rs same. proper_same 32 qs rs n same p) s.holes;
        count = w.count ∙ omega (arith, s.count);
      }

  sound : Sound (length lengths - 1) (rings lengths ps)
  unfolding rings
  sound =
      rounds_keep (rings_step lengths ps) (λ k q. k ≤ length lengths - 1 → Sound k q) (with_outer no_region (stored_outline ps (get_or lengths 0 0) false)) (λ l. alone)
      (λ k q s l. next k q (hole_proper k l) (s (omega arith))) (length lengths - 1) (omega arith)

  pub rings_proper : (rings lengths ps).holes ≤ 8 → proper_region (rings lengths ps) ≡ true
  rings_proper l = region_proper (rings lengths ps) sound.outer l sound.holes

  pub rings_count : (rings lengths ps).holes ≡ length lengths - 1
  rings_count = sound.count

refused_proper : (u : Refusal) → granted u ≡ false → ProperNewRegion (region_refused u)
unfolding region_refused
refused_proper u h = record { proper = λ q. absurd (false≢true (sym h ∙ q)) }

pub stored_again : (lengths : List ℕ) (ps : List Float) → ProperNewRegion (stored_region lengths ps)
unfolding stored_region granted number values
stored_again lengths ps =
    by_test ProperNewRegion (kept lengths ps && leb (length lengths) 9)
    (λ h.
    let k : kept lengths ps ≡ true = and_elim_left (kept lengths ps) (leb (length lengths) 9) h in
    let l : length lengths ≤ 9 = leb-true (length lengths) 9 (and_elim_right (kept lengths ps) (leb (length lengths) 9) h) in
    record { proper = λ q. rings_proper lengths ps k (omega (arith, rings_count lengths ps k)) })
    (λ h. refused_proper Shape refl)

-- a region that passes 10 has eight holes at most
pub record Few (r : Region) (u : Refusal) : Type 0 where
  pub few : granted u ≡ true → r.holes ≤ 8

pub checked_few : (r : Region) → Few r (check_region r)
unfolding check_region granted number values
checked_few r = by_test (Few r) (leb r.holes 8) (λ h. record { few = λ q. leb-true r.holes 8 h }) (λ h. record { few = λ q. absurd (false≢true q) })

pub given_again : (lengths : List ℕ) (ps : List Float) → ProperNewRegion (given_region lengths ps)
unfolding given_region region_if granted number values
given_again lengths ps =
    let r : Region = rings lengths ps in
    by_test ProperNewRegion (kept lengths ps)
    (λ h. by_test ProperNewRegion (granted (check_region r)) (λ g. record { proper = λ q. rings_proper lengths ps h ((checked_few r).few g) }) (λ g. refused_proper (check_region r) g))
    (λ h. refused_proper Shape refl)

-- ---- what the functions answer

module _ (lengths : List ℕ) (ps : List Float) (k : Bool) (e : k ≡ kept lengths ps) where
  stored_both : (x : NewRegion) → x ≡ stored_region lengths ps → (x ≡ stored_region lengths ps) × ProperNewRegion x
  stored_both x q = (q, subst ProperNewRegion (sym q) (stored_again lengths ps))

  given_both : (x : NewRegion) → x ≡ given_region lengths ps → (x ≡ given_region lengths ps) × ProperNewRegion x
  given_both x q = (q, subst ProperNewRegion (sym q) (given_again lengths ps))

  pub stored_yes : (k && leb (length lengths) 9) ≡ true → (r : Region) → r ≡ rings lengths ps
      → (record { refusal = Granted; shape = r } ≡ stored_region lengths ps) × ProperNewRegion (record { refusal = Granted; shape = r })
  unfolding stored_region
  stored_yes t r q = stored_both (record { refusal = Granted; shape = r }) (rw (← e, t, q) refl)

  pub stored_no : (k && leb (length lengths) 9) ≡ false → (x : NewRegion) → x ≡ region_refused Shape → (x ≡ stored_region lengths ps) × ProperNewRegion x
  unfolding stored_region
  stored_no t x q = stored_both x (rw (← e, t) q)

  pub given_yes : k ≡ true → (r : Region) → r ≡ rings lengths ps → (x : NewRegion) → x ≡ region_loaded (record { refusal = Granted; shape = r; start = 0 })
      → (x ≡ given_region lengths ps) × ProperNewRegion x
  unfolding given_region region_loaded granted number values
  given_yes t r q x f = given_both x (rw (← e, t, ← q) f)

  pub given_no : k ≡ false → (x : NewRegion) → x ≡ region_refused Shape → (x ≡ given_region lengths ps) × ProperNewRegion x
  unfolding given_region
  given_no t x q = given_both x (rw (← e, t) q)

-- 21 refuses a region handed in where 21 of what it is taken for does
none_improper : proper_region no_region ≡ false
unfolding proper_region no_region no_outline proper
none_improper = refl

record Asked (a : NewRegion) : Type 0 where
  same : a.refusal ≡ ask_region a.shape Granted
  outer : record { refusal = a.refusal; shape = a.shape.outer } ≡ region_outer a.shape

asked : (lengths : List ℕ) (ps : List Float) → Asked (stored_region lengths ps)
unfolding stored_region region_refused ask_region ask region_outer read_outline outline_refused no_region
asked lengths ps =
    by_test Asked (kept lengths ps && leb (length lengths) 9)
    (λ h.
    let k : kept lengths ps ≡ true = and_elim_left (kept lengths ps) (leb (length lengths) 9) h in
    let l : length lengths ≤ 9 = leb-true (length lengths) 9 (and_elim_right (kept lengths ps) (leb (length lengths) 9) h) in
    let p : proper_region (rings lengths ps) ≡ true = rings_proper lengths ps k (omega (arith, rings_count lengths ps k)) in
    record { same = rw p refl; outer = rw p refl })
    (λ h. record { same = rw none_improper refl; outer = rw none_improper refl })

pub stored_asked : StoredAsked
stored_asked lengths ps = (asked lengths ps).same

-- the outer ring that is read is the one that is stored
pub stored_outer : (lengths : List ℕ) (ps : List Float)
    → record { refusal = (stored_region lengths ps).refusal; shape = (stored_region lengths ps).shape.outer } ≡ region_outer (stored_region lengths ps).shape
stored_outer lengths ps = (asked lengths ps).outer
