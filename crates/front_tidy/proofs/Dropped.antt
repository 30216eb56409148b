-- What tidying takes out: a ring, edge by edge; a spike. Assumes nothing.
use Prim.Native.Nat.{ℕ, ◌+◌, ◌<◌}
use native.Mathlib.Omega.{arith}
use mathlib.Core.Bool.{Bool, true, false, not, ◌||◌}
use mathlib.Core.List.{List}
use mathlib.Core.Path.{◌≡◌, refl, sym, ap, ◌∙◌}
use lib.Dec.{eqb}
use Rattle.base.specs.Loop.{rounds}
use Rattle.base.proofs.Laws.{next_round, stays_to}
use Rattle.front.specs.declared.Edge.{Edge}
use Rattle.front.specs.declared.Line.{Line}
use lib.Ieee.{Float}
use Rattle.plane.specs.declared.PlanarPoint.{PlanarPoint}
use Rattle.front.specs.declared.Front.{Front}
use Rattle.std.specs.Prelude.{Option, None, Some}
use Rattle.std.proofs.Common.{unwrap_or}
use Rattle.front.specs.declared.Tidy.TheVariants.{Spike}
use Rattle.front.specs.declared.Moving.{Moving}
use Rattle.front.specs.Lines.{meeting}
use Rattle.front.specs.Edges.{edge, edge_line, kill, remove, set_start, altered, stalled, vertex}
use Rattle.front.specs.Tidying.{Drop, drop_on, drop_step, drop_ring, midpoint, meeting_or, drop_both, spike_to, spike_from, drop_spike, tidy_by}

abbrev pub drop_at : List Edge → ℕ → Bool → Drop
drop_at f at closed = record { edges = f; at = at; closed = closed }

module _ (slot : ℕ) (start f g : List Edge) (at next k : ℕ) (n : Edge) (so_far : rounds (drop_step slot) k (drop_at start slot false) ≡ drop_at f at false)
    (next_is : next ≡ (edge f at).next) (g_is : g ≡ kill f at) (n_is : n ≡ edge g next) where
  one_more : (b : Bool) → (eqb next slot || not n.alive) ≡ b → rounds (drop_step slot) (k + 1) (drop_at start slot false) ≡ drop_at g next b
  unfolding drop_step drop_on
  one_more b h =
      next_round (drop_step slot) k (drop_at start slot false) ∙ ap (drop_step slot k) so_far
      ∙ rw (← h, n_is, g_is, next_is) refl

  pub drop_goes : (eqb next slot || not n.alive) ≡ false → rounds (drop_step slot) (k + 1) (drop_at start slot false) ≡ drop_at g next false
  drop_goes h = one_more false h

  pub drop_ends : k < 128 → (eqb next slot || not n.alive) ≡ true → g ≡ drop_ring start slot
  unfolding drop_ring drop_step
  drop_ends l h =
      sym
      (ap (λ (s : Drop). s.edges)
      (stays_to (drop_step slot) (drop_at start slot false) (drop_at g next true) (k + 1) 128 (omega arith) (one_more true h) (λ m. refl)))

pub drop_all :
    (slot : ℕ) (start f : List Edge) (at k : ℕ) → k ≡ 128 → rounds (drop_step slot) k (drop_at start slot false) ≡ drop_at f at false → f ≡ drop_ring start slot
unfolding drop_ring
drop_all slot start f at k e h =
    sym (ap (λ (s : Drop). s.edges) (ap (λ (m : ℕ). rounds (drop_step slot) m (drop_at start slot false)) (sym e) ∙ h))

-- ---- a spike

pub both_is :
    (f g h m : List Edge) (slot next after : ℕ) (start : PlanarPoint) (t : Float) (r : Front) → g ≡ remove f next → h ≡ remove g slot →
    m ≡ set_start h after start t → r ≡ altered m → r ≡ drop_both f slot next after start t
unfolding drop_both
both_is f g h m slot next after start t r a b c d = rw (d, c, b, a) refl

pub meets : (p q m : PlanarPoint) (x : Option PlanarPoint) → m ≡ midpoint p q → unwrap_or x m ≡ meeting_or p q x
unfolding meeting_or
meets p q m None h = h
meets p q m (Some r) h = refl

pub to_none :
    (f : List Edge) (slot before next after : ℕ) (t : Float) (p : PlanarPoint) (x : Option Moving) (r : Front) → x ≡ None → r ≡ stalled f →
    r ≡ spike_to f slot before next after t p x
unfolding spike_to
to_none f slot before next after t p x r h i = rw (h, i) refl

pub to_some :
    (f : List Edge) (slot before next after : ℕ) (t : Float) (p : PlanarPoint) (m : Moving) (x : Option Moving) (a b : Edge) (k l : Line) (y : Option PlanarPoint)
    (start : PlanarPoint) (r : Front) → x ≡ Some m → a ≡ edge f before → b ≡ edge f after → k ≡ edge_line a → l ≡ edge_line b → y ≡ meeting k l t →
    start ≡ meeting_or p m.at y → r ≡ drop_both f slot next after start t → r ≡ spike_to f slot before next after t p x
unfolding spike_to
to_some f slot before next after t p m x a b k l y start r h a-is b_is k_is l_is y_is start_is r-is =
    rw (h, r-is, start_is, y_is, l_is, k_is, b_is, a-is) refl

pub from_none :
    (f : List Edge) (slot : ℕ) (t : Float) (x : Option Moving) (r : Front) → x ≡ vertex f slot t → x ≡ None → r ≡ stalled f → r ≡ tidy_by f t (Spike slot)
unfolding tidy_by drop_spike spike_from
from_none f slot t x r h i j = rw (← h, i, j) refl

pub from_some :
    (f : List Edge) (slot : ℕ) (t : Float) (e n : Edge) (x : Option Moving) (m : Moving) (y : Option Moving) (r : Front) → e ≡ edge f slot → n ≡ edge f e.next →
    x ≡ vertex f slot t → x ≡ Some m → y ≡ vertex f n.next t → r ≡ spike_to f slot e.previous e.next n.next t m.at y → r ≡ tidy_by f t (Spike slot)
unfolding tidy_by drop_spike spike_from
from_some f slot t e n x m y r a b h i j k = rw (← a, ← b, ← h, i, ← j) k
