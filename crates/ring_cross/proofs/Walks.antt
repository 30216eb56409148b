-- The walks of `pair`: the first edge of a ring that a segment meets, and the first edge of one ring that meets another. Assumes nothing.
use Prim.Native.Nat.{ℕ, ◌+◌, ◌≤◌, ◌<◌}
use mathlib.Core.Path.{◌≡◌, refl, sym, ap, ◌∙◌}
use mathlib.Core.Bool.{Bool, true, false, cond}
use mathlib.Core.List.{List}
use lib.Ieee.{Float}
use Rattle.base.specs.Loop.{rounds}
use native.Mathlib.Omega.{arith}
use Rattle.base.proofs.Laws.{ends, no_round}
use Rattle.plane.specs.declared.PlanarPoint.{PlanarPoint}
use Rattle.segment.specs.Segments.{segments_meet}
use Rattle.ring.specs.Ring.{vertex_at, edge_end}
use Rattle.ring.proofs.Starts.{start_next, start_edge}
use Rattle.std.specs.Prelude.{Option, None}
use Rattle.std.specs.Option.{is_some, option_or}
use Rattle.ring_cross.specs.declared.EdgePair.{EdgePair}
use Rattle.ring_cross.specs.EdgePairs.{edges}
use Rattle.ring_cross.specs.Pair.{edge_step, edge_pair, walk_step, walk, second_outer, ring_pair}
use Rattle.ring_cross.proofs.First.{only_none}
use Rattle.ring_cross.proofs.First

-- as the code asks it
pub told_apart : {A : Type 0} (r s : Option A) (t : Bool) → r ≡ s → t ≡ is_some r → t ≡ false → s ≡ None
told_apart r s t e h f = sym e ∙ only_none r (sym h ∙ f)

-- ---- one edge of a ring after the other

-- the end of an edge is where the next one starts
pub next_start : (qs : List Float) (m k : ℕ) (b : PlanarPoint) → b ≡ edge_end qs m k → k + 1 < m → b ≡ vertex_at qs (k + 1)
next_start qs m k b e l = e ∙ start_next qs m k ∙ start_edge qs m (k + 1) l

-- as the code asks it
pub told_meets : (qs : List Float) (m : ℕ) (a1 a2 : PlanarPoint) (k : ℕ) {b1 b2 : PlanarPoint} {r t : Bool} → b1 ≡ vertex_at qs k → b2 ≡ edge_end qs m k → r ≡ segments_meet a1 a2 b1 b2 → r ≡ t →
    segments_meet a1 a2 (vertex_at qs k) (edge_end qs m k) ≡ t
told_meets qs m a1 a2 k e f h g = rw (← e, ← f) (sym h ∙ g)

module _ (qs : List Float) (m i : ℕ) (a1 a2 : PlanarPoint) where
  abbrev meets : ℕ → Bool
  meets k = segments_meet a1 a2 (vertex_at qs k) (edge_end qs m k)

  abbrev pub asked : ℕ → Option EdgePair
  asked k = cond (meets k) (edges i k) None

  pub edge_is : (k : ℕ) (s : Option EdgePair) → edge_step qs m i a1 a2 k s ≡ option_or s (asked k)
  unfolding edge_step
  edge_is k s = refl

  asked_none : (k : ℕ) → meets k ≡ false → asked k ≡ None
  asked_none k e = ap (λ (b : Bool). cond b (edges i k) None) e

  asked_found : (k : ℕ) → meets k ≡ true → asked k ≡ edges i k
  asked_found k e = ap (λ (b : Bool). cond b (edges i k) None) e

  abbrev after : ℕ → Option EdgePair
  after k = rounds (edge_step qs m i a1 a2) k None

  pub edge_none : (k : ℕ) → after k ≡ None → meets k ≡ false → after (k + 1) ≡ None
  edge_none k e h = First.none_yet asked (edge_step qs m i a1 a2) edge_is k e (asked_none k h)

  -- as the code goes on, past an edge that is not met
  pub goes_on : (k : ℕ) {b1 b2 : PlanarPoint} → b1 ≡ vertex_at qs k → b2 ≡ edge_end qs m k → after k ≡ None → segments_meet a1 a2 b1 b2 ≡ false →
      record { start : k + 1 < m → b2 ≡ vertex_at qs (k + 1); none : after (k + 1) ≡ None }
  goes_on k e f h x = record { start = next_start qs m k _ f; none = edge_none k h (told_meets qs m a1 a2 k e f refl x) }

  pub edge_found : (k n : ℕ) → k < n → after k ≡ None → meets k ≡ true → after n ≡ edges i k
  edge_found k n l e h =
      First.found asked (edge_step qs m i a1 a2) edge_is k e n l (ap is_some (asked_found k h)) ∙ asked_found k h

  -- edges that are not met
  pub edge_skipped : (a b : ℕ) → a ≤ b → ((k : ℕ) → a ≤ k → k < b → meets k ≡ false) → after a ≡ None → after b ≡ None
  edge_skipped a b l h e = First.skipped asked (edge_step qs m i a1 a2) edge_is a b l (λ k u v. asked_none k (h k u v)) ∙ e

  -- what is found among the first edges is what is found
  pub pair_upto : (k : ℕ) (r : Option EdgePair) → k ≤ m → r ≡ after k → is_some r ≡ true → r ≡ edge_pair qs m i a1 a2
  unfolding edge_pair
  pair_upto k r l e h = First.kept asked (edge_step qs m i a1 a2) edge_is k m r l e h

  -- no edge is met
  pub pair_missed : ((k : ℕ) → k < m → meets k ≡ false) → edge_pair qs m i a1 a2 ≡ None
  unfolding edge_pair
  pair_missed h = edge_skipped 0 m (omega arith) (λ k u v. h k v) (no_round (edge_step qs m i a1 a2) None)

  pub pair_found : (k : ℕ) → k < m → after k ≡ None → meets k ≡ true → edge_pair qs m i a1 a2 ≡ edges i k
  unfolding edge_pair
  pair_found k = edge_found k m

  pub pair_none : (k : ℕ) → k ≤ m → m ≤ k → after k ≡ None → edge_pair qs m i a1 a2 ≡ None
  unfolding edge_pair
  pair_none k l h e = sym (ends (edge_step qs m i a1 a2) None None k m l h (sym e))

-- ---- one edge of the outer ring after the other
module _ (ps : List Float) (n : ℕ) (qs : List Float) (m : ℕ) where
  abbrev pub row : ℕ → Option EdgePair
  row i = edge_pair qs m i (vertex_at ps i) (edge_end ps n i)

  pub row_is : (i : ℕ) (s : Option EdgePair) → walk_step ps n qs m i s ≡ option_or s (row i)
  unfolding walk_step
  row_is i s = refl

  -- as the code asks it
  pub told_row : (i : ℕ) {a1 a2 : PlanarPoint} {r : Option EdgePair} → a1 ≡ vertex_at ps i → a2 ≡ edge_end ps n i → r ≡ edge_pair qs m i a1 a2 → r ≡ row i
  told_row i e f h = rw (← e, ← f) h

  abbrev so_far : ℕ → Option EdgePair
  so_far i = rounds (walk_step ps n qs m) i None

  pub row_none : (i : ℕ) (r : Option EdgePair) → so_far i ≡ None → r ≡ row i → is_some r ≡ false → so_far (i + 1) ≡ None
  row_none i r e h f = First.none_yet row (walk_step ps n qs m) row_is i e (sym h ∙ only_none r f)

  pub row_found : (i : ℕ) (r : Option EdgePair) → i < n → so_far i ≡ None → r ≡ row i → is_some r ≡ true → walk ps n qs m ≡ r
  unfolding walk
  row_found i r l e h f = First.found row (walk_step ps n qs m) row_is i e n l (ap is_some (sym h) ∙ f) ∙ sym h

  pub walk_none : (i : ℕ) → i ≤ n → n ≤ i → so_far i ≡ None → walk ps n qs m ≡ None
  unfolding walk
  walk_none i l h e = sym (ends (walk_step ps n qs m) None None i n l h (sym e))

  -- no edge of the outer ring meets one of the other
  pub walk_apart : ((i k : ℕ) → i < n → k < m → segments_meet (vertex_at ps i) (edge_end ps n i) (vertex_at qs k) (edge_end qs m k) ≡ false) → walk ps n qs m ≡ None
  unfolding walk
  walk_apart h =
      First.skipped row (walk_step ps n qs m) row_is 0 n (omega arith)
      (λ i u v. pair_missed qs m i (vertex_at ps i) (edge_end ps n i) (λ k y. h i k v y))
      ∙ no_round (walk_step ps n qs m) None

-- ---- the shorter ring outside
module _ (ps : List Float) (n : ℕ) (qs : List Float) (m : ℕ) where
  pub outer_second : second_outer n m ≡ true → walk qs m ps n ≡ ring_pair ps n qs m
  unfolding ring_pair
  outer_second e = rw e refl

  pub outer_first : second_outer n m ≡ false → walk ps n qs m ≡ ring_pair ps n qs m
  unfolding ring_pair
  outer_first e = rw e refl
