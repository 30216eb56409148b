-- Flat rings as outlines: hole k is ring k + 1, 21 of them is 21 of the outlines, and they are stored alike. Assumes nothing.
use Prim.Native.Nat.{ℕ, zero, suc, ◌+◌, ◌-◌, ◌*◌, ◌<◌}
use native.Mathlib.Omega.{arith}
use mathlib.Core.Path.{◌≡◌, refl, sym, ap, ◌∙◌, subst}
use mathlib.Core.Bool.{Bool, true, false, ◌&&◌, true≢false}
use mathlib.Core.List.{List, [], ◌∷◌}
use lib.ListN.{length, get_or, drop}
use lib.Seq.{drop-drop}
use lib.Ieee.{Float}
use Rattle.error.specs.declared.Refusal.TheVariants.{Granted}
use Rattle.error.specs.Refusals.{granted, number, values}
use Rattle.base.specs.Loop.{rounds}
use Rattle.base.proofs.Laws.{rounds_same}
use Rattle.outline.specs.declared.Outline.{Outline}
use Rattle.outline.specs.Outlines.{no_outline, stored_outline, proper}
use Rattle.outline.proofs.Good.{proper_same}
use Rattle.front.proofs.Demand.Shapes.{proper_is}
use Rattle.region.specs.Regions.{no_region, with_outer}
use Rattle.region.specs.Checks.{total_step, region_if, region_given, given_hole, proper_given_step, proper_given, given_step, given_rings, without_holes}
use Rattle.region.specs.Checks.{check_holes, check_apart, then_apart, check_region}
use Rattle.region_load.proofs.Sums.{sum_of}
use Rattle.region_stored.specs.Stored.{ring_from, proper_holes_step, proper_holes, kept, rings_step, rings, given_region}
use Rattle.region_stored.specs.AsOutlines.{outlines_of, GivenOutlines, GivenAlone}
use Rattle.region_stored.proofs.Again.{outer_vertex, outer_proper}

-- ---- ring k

sum_later : (n : ℕ) (ns : List ℕ) (k : ℕ) → sum_of (n ∷ ns) (suc k) ≡ n + sum_of ns k
unfolding rounds total_step
sum_later n ns zero = omega arith
sum_later n ns (suc k) = omega (arith, sum_later n ns k)

as_many : (ns : List ℕ) (ps : List Float) → length (outlines_of ns ps) ≡ length ns
unfolding outlines_of
as_many [] ps = refl
as_many (n ∷ ns) ps = ap suc (as_many ns (drop (2 * n) ps))

ring_is : (ns : List ℕ) (ps : List Float) (k : ℕ) → k < length ns → get_or (outlines_of ns ps) k no_outline ≡ record { points = drop (2 * sum_of ns k) ps; count = get_or ns k 0 }
unfolding outlines_of rounds
ring_is [] ps k l = absurd (omega arith)
ring_is (n ∷ ns) ps zero l = refl
ring_is (n ∷ ns) ps (suc k) l =
    let place : 2 * n + 2 * sum_of ns k ≡ 2 * sum_of (n ∷ ns) (suc k) = omega (arith, sum_later n ns k) in
    ring_is ns (drop (2 * n) ps) k (omega arith) ∙
    ap {B = Outline} (λ (qs : List Float). record { points = qs; count = get_or ns k 0 }) (drop-drop (2 * sum_of ns k) (2 * n) ps ∙ ap (λ (i : ℕ). drop i ps) place)

-- ---- the outer ring

outer_same : (ps : List Float) (n : ℕ) → proper 128 (stored_outline ps n false).points n ≡ proper 128 ps n
outer_same ps n = go (proper 128 ps n) (proper 128 (stored_outline ps n false).points n) refl refl
  where
    go : (a b : Bool) → proper 128 ps n ≡ a → proper 128 (stored_outline ps n false).points n ≡ b → proper 128 (stored_outline ps n false).points n ≡ proper 128 ps n
    go true b e f = outer_proper ps n e ∙ sym e
    go false false e f = f ∙ sym e
    go false true e f =
        let few = (proper_is 128 (stored_outline ps n false).points n f).fits in
        let back = proper_same 128 (stored_outline ps n false).points ps n (λ k l. sym (outer_vertex ps n few k l)) f in
        absurd (true≢false (sym back ∙ e))

-- ---- the holes

module _ (n : ℕ) (ns : List ℕ) (ps : List Float) where
  abbrev hs : List Outline
  hs = outlines_of ns (drop (2 * n) ps)

  abbrev o : Outline
  o = stored_outline ps n false

  holes : length (n ∷ ns) - 1 ≡ length hs
  holes = omega (arith, as_many ns (drop (2 * n) ps))

  hole_is : (k : ℕ) → k < length hs → given_hole hs k ≡ record { points = ring_from (n ∷ ns) ps (k + 1); count = get_or (n ∷ ns) (k + 1) 0 }
  unfolding given_hole ring_from outlines_of
  hole_is k l =
      let one : suc k ≡ k + 1 = omega arith in
      subst (λ (i : ℕ). get_or hs k no_outline ≡ record { points = drop (2 * sum_of (n ∷ ns) i) ps; count = get_or (n ∷ ns) i 0 }) one (ring_is (n ∷ ns) ps (suc k) (omega (arith, as_many ns (drop (2 * n) ps))))

  proper_is_given : (proper 128 ps (get_or (n ∷ ns) 0 0) && proper_holes (n ∷ ns) ps) ≡ proper_given o hs
  unfolding proper_holes proper_holes_step proper_given proper_given_step stored_outline
  proper_is_given =
      rw (holes, ← outer_same ps n)
      (ap (λ (b : Bool). proper 128 o.points n && b)
      (rounds_same (proper_holes_step (n ∷ ns) ps) (proper_given_step hs) (length hs) true (λ k l s. rw (hole_is k l) refl)))

  rings_are_given : rings (n ∷ ns) ps ≡ given_rings o hs
  unfolding rings rings_step given_rings given_step
  rings_are_given =
      rw holes (rounds_same (rings_step (n ∷ ns) ps) (given_step hs) (length hs) (with_outer no_region o) (λ k l r. rw (hole_is k l) refl))

pub given_outlines : GivenOutlines
unfolding given_region kept region_given
given_outlines n ns ps fit = rw (fit, proper_is_given n ns ps, rings_are_given n ns ps) refl

-- ---- without holes 10 to 12 are granted

none_refused : (o : Outline) → check_region (with_outer no_region o) ≡ Granted
unfolding check_region then_apart check_holes check_apart with_outer no_region rounds granted number values
none_refused o = refl

pub given_alone : GivenAlone
unfolding region_given proper_given given_rings outlines_of rounds region_if without_holes stored_outline granted number values
given_alone n ps fit = given_outlines n [] ps fit ∙ go (proper 128 (stored_outline ps n false).points n) refl
  where
    go : (b : Bool) → proper 128 (stored_outline ps n false).points n ≡ b → region_given (stored_outline ps n false) [] ≡ without_holes (stored_outline ps n false)
    go true e = rw (e, none_refused (stored_outline ps n false)) refl
    go false e = rw e refl
