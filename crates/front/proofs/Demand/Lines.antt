-- Lines are only ever copied, and only a split begins a life: what holds of each live slot of a front of 128 edges and its line holds after each step.
use mathlib.Core.Path.{◌≡◌, sym, ◌∙◌, subst}
use mathlib.Core.Bool.{true, false, not, ◌&&◌, false≢true}
use mathlib.Core.List.{List}
use Prim.Native.Nat.{ℕ, ◌<◌}
use native.Mathlib.Omega.{arith}
use native.Mathlib.Decide.{dec_lt}
use lib.Ieee.{Float}
use lib.ListN.{length, set}
use Rattle.plane.specs.declared.PlanarPoint.{PlanarPoint}
use Rattle.front.specs.declared.Line.{Line}
use Rattle.front.specs.declared.Edge.{Edge}
use Rattle.front.specs.declared.Moving.{Moving}
use Rattle.std.specs.Prelude.{Option, None, Some}
use Rattle.front.specs.declared.Tidy.{Tidy}
use Rattle.front.specs.declared.Tidy.TheVariants.{Settled, SmallRing, Straight, Spike, Empty}
use Rattle.front.specs.declared.Front.{Front}
use Rattle.front.specs.Edges.{edge, edge_line, on_line_of, with_next, with_previous, with_start, dead, set_next, set_previous, set_start, kill, unlinked, remove, vertex, altered, stalled, anchor_at, anchor, then_remove, collapse}
use Rattle.front.specs.Tidying.{Drop, drop_on, drop_step, drop_ring, drop_straight, meeting_or, drop_both, spike_to, spike_from, drop_spike, find_tidy, tidy_by, tidy_once, tidy_step, tidy}
use Rattle.front.specs.Lines.{meeting}
use Rattle.front.specs.Splitting.{copy_of, cut, split_linked}
use Rattle.front.proofs.EdgeLaws.{edge_out}
use Rattle.front.proofs.Demand.Views.{edge_here, edge_there, set_length}
use Rattle.base.proofs.Laws.{rounds_keep}
use Rattle.base.proofs.Choices.{by_test, by_cases}

module _ (P : ℕ → Line → Type 0) where
  -- the edge of a slot is dead, or has such a line
  abbrev pub Fair : ℕ → Edge → Type 0
  Fair i e = e.alive ≡ true → P i (edge_line e)

  pub record Lined (f : List Edge) : Type 0 where
    pub lines : (i : ℕ) → Fair i (edge f i)
    pub size : length f ≡ 128

  pub put : (f : List Edge) (s : ℕ) (e : Edge) → Fair s e → Lined f → Lined (set f s e)
  put f s e p l = record {
    lines = λ i. by_cases i s
        (λ q. subst (λ (k : ℕ). Fair k (edge (set f s e) k)) (sym q) (inside (dec_lt s 128)))
        (λ d. subst (Fair i) (sym (edge_there f s i e d)) (l.lines i));
    size = set_length f s e l.size;
  }
    where
      inside : Dec (s < 128) → Fair s (edge (set f s e) s)
      inside (yes h) = subst (Fair s) (sym (edge_here f s e l.size h)) p
      inside (no h) = subst (Fair s) (edge_out f s (omega arith) ∙ sym (edge_out (set f s e) s (omega arith))) (l.lines s)

  next_lined : (f : List Edge) (s v : ℕ) → Lined f → Lined (set_next f s v)
  unfolding set_next with_next on_line_of
  next_lined f s v l = put f s (with_next (edge f s) v) (l.lines s) l

  previous_lined : (f : List Edge) (s v : ℕ) → Lined f → Lined (set_previous f s v)
  unfolding set_previous with_previous on_line_of
  previous_lined f s v l = put f s (with_previous (edge f s) v) (l.lines s) l

  start_lined : (f : List Edge) (s : ℕ) (p : PlanarPoint) (t : Float) → Lined f → Lined (set_start f s p t)
  unfolding set_start with_start on_line_of
  start_lined f s p t l = put f s (with_start (edge f s) p t) (l.lines s) l

  kill_lined : (f : List Edge) (s : ℕ) → Lined f → Lined (kill f s)
  unfolding kill dead on_line_of
  kill_lined f s l = put f s (dead (edge f s)) (λ q. absurd (false≢true q)) l

  remove_lined : (f : List Edge) (x : ℕ) → Lined f → Lined (remove f x)
  unfolding remove unlinked
  remove_lined f x l = kill_lined _ _ (previous_lined _ _ _ (next_lined _ _ _ l))

  anchor_lined : (f : List Edge) (s : ℕ) (t : Float) (v : Option Moving) → Lined f → Lined (anchor_at f s t v).edges
  unfolding anchor_at altered stalled
  anchor_lined f s t None l = l
  anchor_lined f s t (Some m) l = start_lined f s m.at t l

  then_lined : (x : ℕ) (s : Front) → Lined s.edges → Lined (then_remove x s).edges
  unfolding then_remove altered
  then_lined x s l = by_test (λ (r : Front). Lined r.edges) s.stalled (λ q. l) (λ q. remove_lined s.edges x l)

  pub collapse_lined : (f : List Edge) (x : ℕ) (t : Float) → Lined f → Lined (collapse f x t).edges
  unfolding collapse anchor
  collapse_lined f x t l =
      let n : ℕ = (edge f x).next in
      then_lined x (anchor_at f n t (vertex f n t)) (anchor_lined f n t (vertex f n t) l)

  -- ---- tidying

  drop_round : (x k : ℕ) (s : Drop) → Lined s.edges → Lined (drop_step x k s).edges
  unfolding drop_step drop_on
  drop_round x k s l = by_test (λ (r : Drop). Lined r.edges) s.closed (λ q. l) (λ q. kill_lined s.edges s.at l)

  drop_lined : (f : List Edge) (x : ℕ) → Lined f → Lined (drop_ring f x)
  unfolding drop_ring
  drop_lined f x l = rounds_keep (drop_step x) (λ i s. Lined s.edges) (record { edges = f; at = x; closed = false }) l (drop_round x) _

  both_lined : (f : List Edge) (x n after : ℕ) (p : PlanarPoint) (t : Float) → Lined f → Lined (drop_both f x n after p t).edges
  unfolding drop_both altered
  both_lined f x n after p t l = start_lined (remove (remove f n) x) after p t (remove_lined (remove f n) x (remove_lined f n l))

  to_lined : (f : List Edge) (x before n after : ℕ) (t : Float) (p : PlanarPoint) (v : Option Moving) → Lined f → Lined (spike_to f x before n after t p v).edges
  unfolding spike_to stalled
  to_lined f x before n after t p None l = l
  to_lined f x before n after t p (Some m) l = both_lined f x n after (meeting_or p m.at (meeting (edge_line (edge f before)) (edge_line (edge f after)) t)) t l

  from_lined : (f : List Edge) (x before n after : ℕ) (t : Float) (v : Option Moving) → Lined f → Lined (spike_from f x before n after t v).edges
  unfolding spike_from stalled
  from_lined f x before n after t None l = l
  from_lined f x before n after t (Some m) l = to_lined f x before n after t m.at (vertex f after t) l

  by_lined : (f : List Edge) (t : Float) (r : Tidy) → Lined f → Lined (tidy_by f t r).edges
  unfolding tidy_by altered drop_straight drop_spike anchor
  by_lined f t Settled l = l
  by_lined f t (SmallRing x) l = drop_lined f x l
  by_lined f t (Straight x) l =
      let n : ℕ = (edge f x).next in
      let a : ℕ = (edge f n).next in
      then_lined n (anchor_at f a t (vertex f a t)) (anchor_lined f a t (vertex f a t) l)
  by_lined f t (Spike x) l =
      let n : ℕ = (edge f x).next in
      from_lined f x (edge f x).previous n (edge f n).next t (vertex f x t) l
  by_lined f t (Empty x) l = collapse_lined f x t l

  tidy_round : (t : Float) (k : ℕ) (s : Front) → Lined s.edges → Lined (tidy_step t k s).edges
  unfolding tidy_step tidy_once
  tidy_round t k s l = by_test (λ (r : Front). Lined r.edges) (s.changed && not s.stalled) (λ q. by_lined s.edges t (find_tidy s.edges t) l) (λ q. l)

  pub tidy_lined : (f : List Edge) (t : Float) → Lined f → Lined (tidy f t).edges
  unfolding tidy altered
  tidy_lined f t l = rounds_keep (tidy_step t) (λ i s. Lined s.edges) (altered f) l (tidy_round t) _

  -- ---- a split

  pub split_lined : (f : List Edge) (v e s : ℕ) (p : PlanarPoint) (t : Float) → P s (edge_line (edge f e)) → Lined f
      → Lined (split_linked f v e s (edge f v).previous (edge f e) p t)
  unfolding split_linked cut copy_of on_line_of
  split_lined f v e s p t a l = start_lined _ _ _ _ (previous_lined _ _ _ (next_lined _ _ _ (previous_lined _ _ _ (next_lined _ _ _ (put _ _ _ (λ q. a) l)))))
