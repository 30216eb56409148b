-- The search for something to tidy, slot by slot. Assumes nothing.
use Prim.Native.Nat.{ℕ, ◌+◌, ◌<◌}
use native.Mathlib.Omega.{arith}
use mathlib.Core.Bool.{Bool, true, false, cond, true≢false}
use mathlib.Core.List.{List}
use mathlib.Core.Path.{◌≡◌, refl, sym, ap, ◌∙◌}
use lib.Ieee.{Float}
use Rattle.base.specs.Loop.{rounds}
use Rattle.base.proofs.Laws.{next_round, stays_to}
use Rattle.front.specs.declared.Edge.{Edge}
use Rattle.front.specs.declared.Tidy.{Tidy}
use Rattle.front.specs.declared.Tidy.TheVariants.{Settled, SmallRing, Straight, Spike, Empty}
use Rattle.front.specs.declared.Moving.{Moving}
use Rattle.std.specs.Prelude.{Option}
use Rattle.front.specs.declared.Length.{Length}
use Rattle.plane.specs.declared.PlanarPoint.{PlanarPoint}
use Rattle.front.specs.Lines.{direction, velocity}
use Rattle.front.specs.Edges.{edge, edge_line, vertex_by, vertex_of, vertex}
use Rattle.front.specs.Tidying.{opposed, same_way, tidy_length, tidy_corner, tidy_edge, tidy_at, unless_found, find_step, find_tidy}
use Rattle.front_lines.specs.Between.{length_between}
use Rattle.front_lines.proofs.Ends.{length_is}
use Rattle.front_tidy.specs.Findings.{corner_between, tidy_between, settled}
use Rattle.front_tidy.proofs.Small.{few_is}

-- what the definition finds at a slot, from the four edges that it reads
tidy_edge_is :
    (f : List Edge) (slot : ℕ) (t : Float) →
    tidy_edge f slot t (edge f slot)
    ≡ tidy_between slot t (edge f (edge f slot).previous) (edge f slot) (edge f (edge f (edge f slot).next).previous) (edge f (edge f slot).next)
unfolding tidy_edge tidy_corner tidy_between corner_between vertex vertex_of
tidy_edge_is f slot t = rw (few_is f slot, length_is f slot t) refl

-- a finding stands
found_stays : (x y : Tidy) → settled x ≡ false → unless_found x y ≡ x
unfolding unless_found settled
found_stays Settled y h = absurd (true≢false h)
found_stays (SmallRing k) y h = refl
found_stays (Straight k) y h = refl
found_stays (Spike k) y h = refl
found_stays (Empty k) y h = refl

-- what is not `Settled` is a finding
pub not_settled : (x : Tidy) → (x ≡ Settled → ⊥) → settled x ≡ false
unfolding settled
not_settled Settled h = absurd (h refl)
not_settled (SmallRing k) h = refl
not_settled (Straight k) h = refl
not_settled (Spike k) h = refl
not_settled (Empty k) h = refl

pub settled_is : (x : Tidy) → settled x ≡ true → x ≡ Settled
unfolding settled
settled_is Settled h = refl
settled_is (SmallRing k) h = absurd (true≢false (sym h))
settled_is (Straight k) h = absurd (true≢false (sym h))
settled_is (Spike k) h = absurd (true≢false (sym h))
settled_is (Empty k) h = absurd (true≢false (sym h))

module _ (f : List Edge) (t : Float) (k : ℕ) (e : Edge) (so_far : rounds (find_step f t) k Settled ≡ Settled) (e_is : e ≡ edge f k) where
  one_more : rounds (find_step f t) (k + 1) Settled ≡ tidy_at f k t e
  unfolding find_step unless_found
  one_more = next_round (find_step f t) k Settled ∙ ap (find_step f t k) so_far ∙ ap (tidy_at f k t) (sym e_is)

  pub find_dead : e.alive ≡ false → rounds (find_step f t) (k + 1) Settled ≡ Settled
  unfolding tidy_at
  find_dead h = one_more ∙ rw h refl

  module _ (before beside after : Edge) (found : Tidy) (alive : e.alive ≡ true) (before_is : before ≡ edge f e.previous) (after_is : after ≡ edge f e.next)
      (beside_is : beside ≡ edge f after.previous) (found_is : found ≡ tidy_between k t before e beside after) where
    found_here : rounds (find_step f t) (k + 1) Settled ≡ found
    unfolding tidy_at
    found_here =
        one_more ∙ ap (λ (b : Bool). cond b (tidy_edge f k t e) Settled) alive
        ∙ rw (found_is, beside_is, after_is, before_is, e_is) (tidy_edge_is f k t)

    pub find_on : settled found ≡ true → rounds (find_step f t) (k + 1) Settled ≡ Settled
    find_on h = found_here ∙ settled_is found h

    pub find_ends : k < 128 → settled found ≡ false → found ≡ find_tidy f t
    unfolding find_tidy find_step
    find_ends l h =
        sym (stays_to (find_step f t) Settled found (k + 1) 128 (omega arith) found_here (λ m. found_stays found (tidy_at f m t (edge f m)) h))

pub find_none : (f : List Edge) (t : Float) (k : ℕ) → k ≡ 128 → rounds (find_step f t) k Settled ≡ Settled → Settled ≡ find_tidy f t
unfolding find_tidy
find_none f t k e h = sym (ap (λ (m : ℕ). rounds (find_step f t) m Settled) (sym e) ∙ h)

-- ---- at one slot, by the tests in order

module _ (slot : ℕ) (t : Float) (before e beside after : Edge) (u w : PlanarPoint) (p : Bool) (u_is : u ≡ direction (edge_line e)) (w_is : w ≡ direction (edge_line after))
    (p_is : p ≡ opposed u w) where
  pub corner_spike : p ≡ true → Spike slot ≡ corner_between slot t before e beside after
  unfolding corner_between
  corner_spike h = rw (← u_is, ← w_is, ← p_is, h) refl

  module _ (h : p ≡ false) (q : Bool) (q_is : q ≡ same_way u w) where
    pub corner_straight : q ≡ true → Straight slot ≡ corner_between slot t before e beside after
    unfolding corner_between
    corner_straight i = rw (← u_is, ← w_is, ← p_is, h, ← q_is, i) refl

    pub corner_on :
        (from to : Option Moving) (long : Option Length) (r : Tidy) → q ≡ false → from ≡ vertex_by e t (velocity (edge_line before) (edge_line e)) →
        to ≡ vertex_by after t (velocity (edge_line beside) (edge_line after)) → long ≡ length_between e from to → r ≡ tidy_length slot t long →
        r ≡ corner_between slot t before e beside after
    unfolding corner_between
    corner_on from to long r i from_is to_is long-is r-is = rw (← u_is, ← w_is, ← p_is, h, ← q_is, i) (rw (r-is, long-is, to_is, from_is) refl)
