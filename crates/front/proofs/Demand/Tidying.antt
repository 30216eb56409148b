-- Tidying keeps the rings, and ends with three edges or more in each.
use mathlib.Core.Path.{◌≡◌, refl, sym, ap, ◌∙◌, subst}
use mathlib.Core.Logic.{◌≢◌}
use mathlib.Core.Bool.{Bool, true, false, cond, not, ◌&&◌, ◌||◌, true≢false, false≢true}
use mathlib.Core.List.{List, [], ◌∷◌}
use Prim.Native.Nat.{ℕ, suc, ◌+◌, ◌≤◌, ◌<◌}
use native.Mathlib.Omega.{arith}
use lib.Ieee.{Float}
use borrow.Author.Tests.{ltb-true, ltb-false, eq-eqb, ne_eqb}
use lib.ListN.{length}
use Rattle.plane.specs.declared.PlanarPoint.{PlanarPoint}
use Rattle.front.specs.declared.Edge.{Edge}
use Rattle.front.specs.declared.Moving.{Moving}
use Rattle.front.specs.declared.Length.{Length}
use Rattle.std.specs.Prelude.{Option, None, Some}
use Rattle.front.specs.declared.Tidy.{Tidy}
use Rattle.front.specs.declared.Tidy.TheVariants.{Settled, SmallRing, Straight, Spike, Empty}
use Rattle.front.specs.declared.Front.{Front}
use Rattle.base.specs.Loop.{rounds}
use Rattle.front.specs.Edges.{edge, edge_line, set_start, kill, remove, ring_len, vertex, altered, stalled, anchor_at, anchor, then_remove, collapse, edge_length}
use Rattle.front.specs.Lines.{direction, meeting}
use Rattle.front.specs.Tidying.{empty, tidy_length, opposed, same_way, tidy_corner, few, tidy_edge, tidy_at, unless_found, find_step, find_tidy, Drop, drop_on, drop_step, drop_ring, drop_straight, meeting_or, drop_both, spike_to}
use Rattle.front.specs.Tidying.{spike_from, drop_spike, tidy_by, tidy_once, tidy_step, tidy}
use Rattle.front.specs.Links.{bit, links}
use Rattle.front.proofs.Demand.Links
use Rattle.front.proofs.Demand.KeepsRings
use Rattle.base.proofs.Laws.{stays_to, rounds_keep}
use Rattle.base.proofs.Choices.{by_test, by_cases}
use Rattle.base.proofs.Occurrences.{occ_cons, same_eq}
use Rattle.front.proofs.Demand.Rings.{ring, edges}
use Rattle.front.proofs.Demand.Total.{edges_le}
use Rattle.front.proofs.Demand.Links.{Dropped, RingsOf, From, from, alone, ring_len_is, live_next}
use Rattle.front.proofs.Demand.Sets.{SetDead, drop_by_one, drop_by_two}
use Rattle.front.proofs.Demand.Views.{live_in, alive_of, dead_set, kill_length, start_same}
use Rattle.front.proofs.Demand.Kept.{Kept, Less, less_of, out_of, removes, starts, ring_len_same}

-- ---- a ring of fewer than three edges

few_true : (n : ℕ) → few n ≡ true → n < 3
unfolding few
few_true n q = omega (arith, ltb-true n _ q)

few_false : (n : ℕ) → few n ≡ false → 3 ≤ n
unfolding few
few_false n q = omega (arith, ltb-false n _ q)

-- ---- the first slot at which something is wrong

module _ (f : List Edge) (t : Float) where
  -- what is found, of a live edge: its ring is small, or it is not
  abbrev Found : Tidy → Type 0
  Found Settled = Unit {0}
  Found (SmallRing k) = ((links f).live k ≡ 1) × (ring_len f k < 3)
  Found (Straight k) = ((links f).live k ≡ 1) × (3 ≤ ring_len f k)
  Found (Spike k) = ((links f).live k ≡ 1) × (3 ≤ ring_len f k)
  Found (Empty k) = ((links f).live k ≡ 1) × (3 ≤ ring_len f k)

  at_length : (x : ℕ) (l : Option Length) → (links f).live x ≡ 1 → 3 ≤ ring_len f x → Found (tidy_length x t l)
  unfolding tidy_length
  at_length x None a h = tt
  at_length x (Some l) a h = by_test Found (empty t l.value l.rate) (λ q. (a, h)) (λ q. tt)

  at_corner : (x : ℕ) (u w : PlanarPoint) → (links f).live x ≡ 1 → 3 ≤ ring_len f x → Found (tidy_corner f x t u w)
  unfolding tidy_corner
  at_corner x u w a h = by_test Found (opposed u w) (λ q. (a, h)) (λ q. by_test Found (same_way u w) (λ r. (a, h)) (λ r. at_length x (edge_length f x t) a h))

  at_edge : (x : ℕ) (e : Edge) → (links f).live x ≡ 1 → Found (tidy_edge f x t e)
  unfolding tidy_edge
  at_edge x e a = by_test Found (few (ring_len f x)) (λ q. (a, few_true (ring_len f x) q))
      (λ q. at_corner x (direction (edge_line e)) (direction (edge_line (edge f e.next))) a (few_false (ring_len f x) q))

  at_slot : (x : ℕ) → Found (tidy_at f x t (edge f x))
  unfolding tidy_at
  at_slot x = by_test Found (edge f x).alive (λ q. at_edge x (edge f x) (ap bit q)) (λ q. tt)

  found_on : (s r : Tidy) → Found s → Found r → Found (unless_found s r)
  unfolding unless_found
  found_on Settled r h k = k
  found_on (SmallRing x) r h k = h
  found_on (Straight x) r h k = h
  found_on (Spike x) r h k = h
  found_on (Empty x) r h k = h

  found : Found (find_tidy f t)
  unfolding find_tidy find_step
  found = rounds_keep (find_step f t) (λ i. Found) Settled tt (λ i s h. found_on s (tidy_at f i t (edge f i)) h (at_slot i)) 128

  -- ---- nothing is found

  is_settled : Tidy → Bool
  is_settled Settled = true
  is_settled (SmallRing k) = false
  is_settled (Straight k) = false
  is_settled (Spike k) = false
  is_settled (Empty k) = false

  settled_both : (s r : Tidy) → unless_found s r ≡ Settled → (s ≡ Settled) × (r ≡ Settled)
  unfolding unless_found is_settled
  settled_both Settled r q = (refl, q)
  settled_both (SmallRing k) r q = absurd (false≢true (ap is_settled q))
  settled_both (Straight k) r q = absurd (false≢true (ap is_settled q))
  settled_both (Spike k) r q = absurd (false≢true (ap is_settled q))
  settled_both (Empty k) r q = absurd (false≢true (ap is_settled q))

  settled_slots : find_tidy f t ≡ Settled → (x : ℕ) → x < 128 → tidy_at f x t (edge f x) ≡ Settled
  unfolding find_tidy find_step
  settled_slots =
      rounds_keep (find_step f t) (λ i s. s ≡ Settled → (x : ℕ) → x < i → tidy_at f x t (edge f x) ≡ Settled) Settled (λ q x h. absurd (omega arith))
      (λ i s h q x l. by_cases x i
      (λ e. subst (λ (k : ℕ). tidy_at f k t (edge f k) ≡ Settled) (sym e) (settled_both s (tidy_at f i t (edge f i)) q).1)
      (λ d. h (settled_both s (tidy_at f i t (edge f i)) q).0 x (omega arith)))
      128

  -- a live edge at which nothing is found: its ring has three edges or more, and it and its next do not face opposite ways
  record Right (x : ℕ) : Type 0 where
    three : 3 ≤ ring_len f x
    apart : opposed (direction (edge_line (edge f x))) (direction (edge_line (edge f (edge f x).next))) ≡ false

  right : find_tidy f t ≡ Settled → (x : ℕ) → (links f).live x ≡ 1 → Right x
  unfolding tidy_at tidy_edge tidy_corner is_settled
  right q x a = go (edge f x).alive (alive_of (edge f x).alive a) (few (ring_len f x)) refl (opposed u w) refl (settled_slots q x (live_in f x a))
    where
      u : PlanarPoint
      u = direction (edge_line (edge f x))

      w : PlanarPoint
      w = direction (edge_line (edge f (edge f x).next))

      rest : Tidy
      rest = cond (same_way u w) (Straight x) (tidy_length x t (edge_length f x t))

      go : (i : Bool) → i ≡ true → (b : Bool) → few (ring_len f x) ≡ b → (c : Bool) → opposed u w ≡ c
          → cond i (cond b (SmallRing x) (cond c (Spike x) rest)) Settled ≡ Settled → Right x
      go false i b qb c qc z = absurd (false≢true i)
      go true i true qb c qc z = absurd (false≢true (ap is_settled z))
      go true i false qb true qc z = absurd (false≢true (ap is_settled z))
      go true i false qb false qc z = record { three = few_false (ring_len f x) qb; apart = qc }

-- ---- a small ring dropped

module _ (f : List Edge) (l : length f ≡ 128) (x : ℕ) where
  abbrev n : ℕ
  n = (edge f x).next

  abbrev whole : Drop
  whole = record { edges = f; at = x; closed = false }

  done_one : Drop
  done_one = record { edges = kill f x; at = n; closed = true }

  half : Drop
  half = record { edges = kill f x; at = n; closed = false }

  done_two : Drop
  done_two = record { edges = kill (kill f x) n; at = (edge (kill f x) n).next; closed = true }

  round_one : n ≡ x → drop_step x 0 whole ≡ done_one
  unfolding drop_step drop_on done_one
  round_one q = ap (λ (b : Bool). record { edges = kill f x; at = n; closed = b || not (edge (kill f x) n).alive }) (eq-eqb n x q)

  round_half : n ≢ x → (edge (kill f x) n).alive ≡ true → drop_step x 0 whole ≡ half
  unfolding drop_step drop_on half
  round_half d a =
      ap (λ (b : Bool). record { edges = kill f x; at = n; closed = b || not (edge (kill f x) n).alive }) (ne_eqb n x d)
      ∙ ap (λ (b : Bool). record { edges = kill f x; at = n; closed = not b }) a

  round_two : (edge (kill f x) n).next ≡ x → drop_step x 1 half ≡ done_two
  unfolding drop_step drop_on half done_two
  round_two q =
      let g : List Edge = kill (kill f x) n in
      let m : ℕ = (edge (kill f x) n).next in
      ap (λ (b : Bool). record { edges = g; at = m; closed = b || not (edge g m).alive }) (eq-eqb m x q)

  stay_one : (k : ℕ) → drop_step x k done_one ≡ done_one
  unfolding drop_step done_one
  stay_one k = refl

  stay_two : (k : ℕ) → drop_step x k done_two ≡ done_two
  unfolding drop_step done_two
  stay_two k = refl

  drop_is_one : n ≡ x → drop_ring f x ≡ kill f x
  unfolding drop_ring rounds done_one
  drop_is_one q = ap (λ (s : Drop). s.edges) (stays_to (drop_step x) whole done_one 1 128 (omega arith) (round_one q) stay_one)

  drop_is_two : n ≢ x → (edge (kill f x) n).alive ≡ true → (edge (kill f x) n).next ≡ x → drop_ring f x ≡ kill (kill f x) n
  unfolding drop_ring rounds done_two
  drop_is_two d a q =
      ap (λ (s : Drop). s.edges) (stays_to (drop_step x) whole done_two 2 128 (omega arith) (ap (drop_step x 1) (round_half d a) ∙ round_two q) stay_two)

  -- what is left of a ring of one edge or two: nothing
  drop_dropped : x < 128 → n < 128 → (links f).live n ≡ 1 → (edge f n).next ≡ x → Dropped (links f) (links (drop_ring f x)) x × (length (drop_ring f x) ≡ 128)
  drop_dropped hx hn a q = by_cases n x
      (λ s. subst (λ (g : List Edge). Dropped (links f) (links g) x × (length g ≡ 128)) (sym (drop_is_one s))
      (drop_by_one (links f) (links (kill f x)) x dead_x s, kill_length f x l))
      (λ d. subst (λ (g : List Edge). Dropped (links f) (links g) x × (length g ≡ 128))
      (sym (drop_is_two d (alive_of (edge (kill f x) n).alive (dead_x.lives.there n d ∙ a)) (dead_x.nexts n ∙ q))) (
        drop_by_two (links f) (links (kill f x)) (links (kill (kill f x) n)) x dead_x (dead_set (kill f x) (kill_length f x l) n hn) d,
        kill_length (kill f x) n (kill_length f x l),
      ))
    where
      dead_x : SetDead (links f) (links (kill f x)) x
      dead_x = dead_set f l x hx

-- ---- one step mended

-- a step that met no vertex without a velocity left fewer edges
abbrev Mended : Front → ℕ → ℕ → ℕ → Type 0
Mended s events bound m = s.stalled ≡ false → Less s.edges events bound m

anchored : (f : List Edge) (events bound s x : ℕ) (t : Float) (k : Kept f events bound) → (links f).live x ≡ 1 → (v : Option Moving)
    → Mended (then_remove x (anchor_at f s t v)) events bound (edges k.held.rs)
unfolding then_remove anchor_at altered stalled starts
anchored f events bound s x t k a None = λ q. absurd (true≢false q)
anchored f events bound s x t k a (Some m) = λ q.
    removes (set_start f s m.at t) events bound x (starts f events bound s m.at t k) ((start_same f k.size s m.at t).lives x ∙ a)

-- an edge of a ring of three is not its own next
apart : (f : List Edge) (events bound x : ℕ) (k : Kept f events bound) → (links f).live x ≡ 1 → 3 ≤ ring_len f x → x ≢ (edge f x).next
apart f events bound x k a h =
    go w.others w.rings (omega (arith, ring_len_same f events bound x k a, ring_len_is 128 (links f) x w.others w.rest w.rings k.held.slots))
  where
    w : From (links f) x k.held.rs
    w = from (links f) x k.held.rs k.held.rings a

    go : (xs : List ℕ) → RingsOf (links f) (ring x xs ∷ w.rest) → 3 ≤ suc (length xs) → x ≢ (edge f x).next
    go [] R l = absurd (omega arith)
    go (y ∷ ys) R l = λ q. omega (arith, (alone (links f) x (y ∷ ys) w.rest R).0, occ_cons x y ys, same_eq x y (q ∙ R.linked.0.0))

both_gone : (f : List Edge) (events bound x : ℕ) (p : PlanarPoint) (t : Float) (k : Kept f events bound) → (links f).live x ≡ 1 → 3 ≤ ring_len f x
    → Mended (drop_both f x (edge f x).next (edge f (edge f x).next).next p t) events bound (edges k.held.rs)
unfolding drop_both altered starts
both_gone f events bound x p t k a h = λ q.
    let n : ℕ = (edge f x).next in
    let an : (links f).live n ≡ 1 = live_next (links f) k.held.rs k.held.rings x a in
    let one : Less (remove f n) events bound (edges k.held.rs) = removes f events bound n k an in
    let ax : (links (remove f n)).live x ≡ 1 = (out_of f events bound n k an).lives.there x (apart f events bound x k a h) ∙ a in
    let two : Less (remove (remove f n) x) events bound (edges one.kept.held.rs) = removes (remove f n) events bound x one.kept ax in
    record {
      kept = starts (remove (remove f n) x) events bound (edge f n).next p t two.kept;
      fewer = omega (arith, one.fewer, two.fewer);
    }

spike_to_gone : (f : List Edge) (events bound x before : ℕ) (t : Float) (p : PlanarPoint) (k : Kept f events bound) → (links f).live x ≡ 1 → 3 ≤ ring_len f x → (v : Option Moving)
    → Mended (spike_to f x before (edge f x).next (edge f (edge f x).next).next t p v) events bound (edges k.held.rs)
unfolding spike_to stalled
spike_to_gone f events bound x before t p k a h None = λ q. absurd (true≢false q)
spike_to_gone f events bound x before t p k a h (Some to) =
    both_gone f events bound x (meeting_or p to.at (meeting (edge_line (edge f before)) (edge_line (edge f (edge f (edge f x).next).next)) t)) t k a h

spike_from_gone : (f : List Edge) (events bound x before : ℕ) (t : Float) (k : Kept f events bound) → (links f).live x ≡ 1 → 3 ≤ ring_len f x → (v : Option Moving)
    → Mended (spike_from f x before (edge f x).next (edge f (edge f x).next).next t v) events bound (edges k.held.rs)
unfolding spike_from stalled
spike_from_gone f events bound x before t k a h None = λ q. absurd (true≢false q)
spike_from_gone f events bound x before t k a h (Some from) =
    spike_to_gone f events bound x before t from.at k a h (vertex f (edge f (edge f x).next).next t)

small_gone : (f : List Edge) (events bound x : ℕ) (k : Kept f events bound) → (links f).live x ≡ 1 → ring_len f x < 3
    → Less (drop_ring f x) events bound (edges k.held.rs)
small_gone f events bound x k a h =
    less_of (drop_ring f x) events bound (edges k.held.rs)
    (KeepsRings.drop_ring 128 (links f) (links (drop_ring f x)) events bound x k.held a (omega (arith, ring_len_same f events bound x k a)) gone.0)
    gone.1
  where
    an : (links f).live (edge f x).next ≡ 1
    an = live_next (links f) k.held.rs k.held.rings x a

    w : From (links f) x k.held.rs
    w = from (links f) x k.held.rs k.held.rings a

    round : (xs : List ℕ) → RingsOf (links f) (ring x xs ∷ w.rest) → suc (length xs) < 3 → (edge f (edge f x).next).next ≡ x
    round [] R l = ap (links f).next R.linked.0.0 ∙ R.linked.0.0
    round (y ∷ []) R l = ap (links f).next R.linked.0.0 ∙ R.linked.0.2.0
    round (y ∷ z ∷ zs) R l = absurd (omega arith)

    gone : Dropped (links f) (links (drop_ring f x)) x × (length (drop_ring f x) ≡ 128)
    gone = drop_dropped f k.size x (live_in f x a) (live_in f (edge f x).next an) an
        (round w.others w.rings (omega (arith, ring_len_same f events bound x k a, ring_len_is 128 (links f) x w.others w.rest w.rings k.held.slots)))

-- ---- the loop

-- after i rounds, all of them with velocities: each took an edge or more out, until one found nothing wrong
record Tried (events bound : ℕ) (t : Float) (i : ℕ) (s : Front) : Type 0 where
  kept : Kept s.edges events bound
  left : s.changed ≡ true → edges kept.held.rs + i ≤ 128
  settled : s.changed ≡ false → find_tidy s.edges t ≡ Settled

abbrev TriedAt : ℕ → ℕ → Float → ℕ → Front → Type 0
TriedAt events bound t i s = s.stalled ≡ false → Tried events bound t i s

module _ (events bound : ℕ) (t : Float) (f : List Edge) (k : Kept f events bound) (i : ℕ) (left : edges k.held.rs + i ≤ 128) where
  mended_on : (s : Front) → s.changed ≡ true → Mended s events bound (edges k.held.rs) → TriedAt events bound t (suc i) s
  mended_on s c m q = record {
    kept = (m q).kept;
    left = λ e. omega (arith, (m q).fewer);
    settled = λ e. absurd (true≢false (sym c ∙ e));
  }

  then_changed : (x : ℕ) (s : Front) → s.changed ≡ true → (then_remove x s).changed ≡ true
  unfolding then_remove altered
  then_changed x s c = by_test (λ (r : Front). r.changed ≡ true) s.stalled (λ q. c) (λ q. refl)

  anchor_changed : (g : List Edge) (x : ℕ) (v : Option Moving) → (anchor_at g x t v).changed ≡ true
  unfolding anchor_at altered stalled
  anchor_changed g x None = refl
  anchor_changed g x (Some m) = refl

  to_changed : (g : List Edge) (x before m after : ℕ) (p : PlanarPoint) (w : Option Moving) → (spike_to g x before m after t p w).changed ≡ true
  unfolding spike_to stalled drop_both altered
  to_changed g x before m after p None = refl
  to_changed g x before m after p (Some to) = refl

  spike_changed : (g : List Edge) (x before m after : ℕ) (v : Option Moving) → (spike_from g x before m after t v).changed ≡ true
  unfolding spike_from stalled
  spike_changed g x before m after None = refl
  spike_changed g x before m after (Some from) = to_changed g x before m after from.at (vertex g after t)

  once_case : (r : Tidy) → find_tidy f t ≡ r → Found f t r → TriedAt events bound t (suc i) (tidy_by f t r)
  unfolding tidy_by altered collapse anchor drop_straight drop_spike
  once_case Settled z h q = record { kept = k; left = λ e. absurd (false≢true e); settled = λ e. z }
  once_case (SmallRing x) z h q = mended_on (altered (drop_ring f x)) refl (λ e. small_gone f events bound x k h.0 h.1) q
  once_case (Straight x) z h q =
      let m : ℕ = (edge f x).next in
      let v : Option Moving = vertex f (edge f m).next t in
      mended_on (then_remove m (anchor_at f (edge f m).next t v)) (then_changed m (anchor_at f (edge f m).next t v) (anchor_changed f (edge f m).next v))
      (anchored f events bound (edge f m).next m t k (live_next (links f) k.held.rs k.held.rings x h.0) v) q
  once_case (Spike x) z h q =
      let m : ℕ = (edge f x).next in
      let v : Option Moving = vertex f x t in
      mended_on (spike_from f x (edge f x).previous m (edge f m).next t v) (spike_changed f x (edge f x).previous m (edge f m).next v)
      (spike_from_gone f events bound x (edge f x).previous t k h.0 h.1 v) q
  once_case (Empty x) z h q =
      let m : ℕ = (edge f x).next in
      let v : Option Moving = vertex f m t in
      mended_on (then_remove x (anchor_at f m t v)) (then_changed x (anchor_at f m t v) (anchor_changed f m v)) (anchored f events bound m x t k h.0 v) q

module _ (events bound : ℕ) (t : Float) where
  once_at : (f : List Edge) (i : ℕ) (k : Kept f events bound) → edges k.held.rs + i ≤ 128 → TriedAt events bound t (suc i) (tidy_once f t)
  unfolding tidy_once
  once_at f i k left = once_case events bound t f k i left (find_tidy f t) refl (found f t)

  step_case : (i : ℕ) (s : Front) → TriedAt events bound t i s → TriedAt events bound t (suc i) (tidy_step t i s)
  unfolding tidy_step
  step_case i s h = go s.changed refl s.stalled refl
    where
      go : (c : Bool) → s.changed ≡ c → (b : Bool) → s.stalled ≡ b → TriedAt events bound t (suc i) (cond (c && not b) (tidy_once s.edges t) s)
      go false qc b qb q = record { kept = (h q).kept; left = λ e. absurd (false≢true (sym qc ∙ e)); settled = (h q).settled }
      go true qc true qb q = absurd (true≢false (sym qb ∙ q))
      go true qc false qb q = once_at s.edges i (h qb).kept ((h qb).left qc) q

-- a front that is tidied at the offset t: nothing more is found, and its rings have three edges or more
pub record Tidied (f : List Edge) (t : Float) (events bound : ℕ) : Type 0 where
  pub kept : Kept f events bound
  pub settled : find_tidy f t ≡ Settled
  pub clean : Links.Tidy 128 (links f)

tidied_of : (f : List Edge) (t : Float) (events bound : ℕ) → Kept f events bound → find_tidy f t ≡ Settled → Tidied f t events bound
tidied_of f t events bound k q = record {
  kept = k;
  settled = q;
  clean = λ x a. subst (λ (m : ℕ). 3 ≤ m) (ring_len_same f events bound x k a) (right f t q x a).three;
}

-- an edge and its next do not face opposite ways
pub tidied_apart : (f : List Edge) (t : Float) (events bound : ℕ) → Tidied f t events bound → (x : ℕ) → (links f).live x ≡ 1
    → opposed (direction (edge_line (edge f x))) (direction (edge_line (edge f (edge f x).next))) ≡ false
tidied_apart f t events bound T x a = (right f t T.settled x a).apart

-- tidying, where it is not stalled, ends with a step that changes nothing
pub tidy_law : (f : List Edge) (events bound : ℕ) (t : Float) → Kept f events bound → (tidy f t).stalled ≡ false
    → ((tidy f t).changed ≡ false) × Tidied (tidy f t).edges t events bound
unfolding tidy altered
tidy_law f events bound t k = go _ _ (rounds_keep (tidy_step t) (TriedAt events bound t) (altered f) first (step_case events bound t) _) (omega arith)
  where
    first : TriedAt events bound t 0 (altered f)
    first q = record {
      kept = k;
      left = λ e. omega (arith, edges_le (links f).next (links f).prev (links f).live 128 k.held.rs k.held.rings k.held.slots);
      settled = λ e. absurd (true≢false e);
    }

    -- more steps than edges
    go : (n : ℕ) (s : Front) → TriedAt events bound t n s → 128 < n → s.stalled ≡ false → (s.changed ≡ false) × Tidied s.edges t events bound
    go n s h more q = settle s.changed refl
      where
        settle : (c : Bool) → s.changed ≡ c → (s.changed ≡ false) × Tidied s.edges t events bound
        settle false e = (e, tidied_of s.edges t events bound (h q).kept ((h q).settled e))
        settle true e = absurd (omega (arith, (h q).left e))
