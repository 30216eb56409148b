-- Where every live vertex has a velocity, the event search meets none without, and finds live edges only, at steps that go forward.
use mathlib.Core.Path.{◌≡◌, refl, sym, ap, ◌∙◌, subst}
use mathlib.Core.Logic.{◌≢◌}
use mathlib.Core.Bool.{Bool, true, false, cond, not, ◌&&◌, ◌||◌}
use mathlib.Core.List.{List}
use mathlib.Mathlib.Data.Bool.Basic.{and_elim_left, and_elim_right}
use Prim.Native.Nat.{ℕ}
use lib.Dec.{eqb}
use lib.Ieee.{Float, inf, lt, le, neg}
use borrow.Author.Tests.{eqb-false, not-true}
use Rattle.plane.specs.declared.PlanarPoint.{PlanarPoint}
use Rattle.front.specs.declared.Edge.{Edge}
use Rattle.front.specs.declared.Moving.{Moving}
use Rattle.front.specs.declared.Length.{Length}
use Rattle.std.specs.Prelude.{Option, None, Some}
use Rattle.front.specs.declared.SoonestCollapse.{SoonestCollapse}
use Rattle.front.specs.declared.SoonestSplit.{SoonestSplit}
use Rattle.front.specs.declared.EventSearch.{EventSearch}
use Rattle.front.specs.declared.Event.{Event}
use Rattle.front.specs.declared.Event.TheVariants.{Stalled, Never, Collapse, Split}
use Rattle.math.specs.Number
use Rattle.math.specs.Number.{one, add, mul, div, zero_float, fmax}
use Rattle.front.specs.Thresholds.{tie}
use Rattle.plane.specs.Plane.{dot, cross}
use Rattle.front.specs.Edges.{edge, edge_line, vertex, moved_by, length_to, length_from, edge_length}
use Rattle.front.specs.Lines.{direction, normal}
use Rattle.front.specs.NextEvent.{look_split, look_collapse, sooner, late, hit_within, hit_to, hit_from, hit_then, hit_after, hit_closing, hit_at, candidate, hit_step, hits, look_corner, shrinking, look_length, look_vertex, look_at}
use Rattle.front.specs.NextEvent.{look_step, look, choose, event_of, next_event}
use Rattle.front.specs.Links.{bit, links}
use Rattle.front.specs.Velocity.{Moves}
use Rattle.base.proofs.Laws.{rounds_keep}
use Rattle.base.proofs.Choices.{by_test}
use Rattle.front.proofs.Demand.Forward.{Forward, hit_forward, shrink_forward}
use Rattle.front.proofs.Demand.Events.{Hits}

-- what is found: live edges, at steps that go forward; no event is found at a vertex without a velocity
module _ (f : List Edge) where
  abbrev Gone : Option SoonestCollapse → Type 0
  Gone None = Unit {0}
  Gone (Some c) = ((links f).live c.edge ≡ 1) × Forward c.step

  abbrev Struck : Option SoonestSplit → Type 0
  Struck None = Unit {0}
  Struck (Some h) = Hits f h.vertex h.edge × Forward h.step

  abbrev pub EventIs : Event → Type 0
  EventIs Stalled = ⊥
  EventIs Never = Unit {0}
  EventIs (Collapse x s) = ((links f).live x ≡ 1) × Forward s
  EventIs (Split v e s) = Hits f v e × Forward s

-- no edge shrinks infinitely fast
abbrev pub Rates : List Edge → Float → Type 0
Rates f t = (x : ℕ) → (links f).live x ≡ 1 → (l : Length) → edge_length f x t ≡ Some l → l.rate ≢ inf true

-- from next to next, live edges only
abbrev pub On : List Edge → Type 0
On f = (x : ℕ) → (links f).live x ≡ 1 → (links f).live (edge f x).next ≡ 1

module _ (f : List Edge) (moves : Moves f) (on : On f) where
  -- what holds of every vertex that moves, and of every length that there is
  at_vertex : (Q : Option Moving → Type 0) (x : ℕ) → (links f).live x ≡ 1 → (at : Float) → ((m : Moving) → Q (Some m)) → Q (vertex f x at)
  at_vertex Q x a at h = let m : (m : Moving) × (vertex f x at ≡ Some m) = moves x a at in subst Q (sym m.1) (h m.0)

  length_there : (x : ℕ) → (links f).live x ≡ 1 → (t : Float) → (l : Length) × (edge_length f x t ≡ Some l)
  unfolding edge_length length_from length_to
  length_there x a t =
      let m : (m : Moving) × (vertex f x t ≡ Some m) = moves x a t in
      let n : (m : Moving) × (vertex f (edge f x).next t ≡ Some m) = moves (edge f x).next (on x a) t in
      (_, ap (length_from f (edge f x) t) m.1 ∙ ap (length_to (edge f x) m.0) n.1)

module _ (f : List Edge) (t : Float) (rates : Rates f t) (moves : Moves f) (on : On f) where
  record Fine (s : EventSearch) : Type 0 where
    gone : Gone f s.collapse
    struck : Struck f s.split
    moving : s.stalled ≡ false

  -- ---- a vertex against an edge

  module _ (v e : ℕ) (w : Hits f v e) where
    to_fine : (u : PlanarPoint) (step : Float) (p vel from : PlanarPoint) (s : EventSearch) (to : Moving) → lt step zero_float ≡ false → Fine s
        → Fine (hit_to v e u step (moved_by p vel step) from s (Some to))
    unfolding hit_to look_split
    to_fine u step p vel from s to q h = by_test Fine (hit_within u (moved_by p vel step) from to.at)
        (λ r. record { gone = h.gone; struck = (w, hit_forward u p vel from to.at step q r); moving = h.moving })
        (λ r. h)

    from_fine : (step at : Float) (p vel : PlanarPoint) (s : EventSearch) (from : Moving) → lt step zero_float ≡ false → Fine s
        → Fine (hit_from f v e (edge f e) step at (moved_by p vel step) s (Some from))
    unfolding hit_from
    from_fine step at p vel s from q h =
        at_vertex f moves on (λ x. Fine (hit_to v e (direction (edge_line (edge f e))) step (moved_by p vel step) from.at s x)) (edge f e).next (on e w.hit) at
        (λ to. to_fine (direction (edge_line (edge f e))) step p vel from.at s to q h)

    after_fine : (p vel : PlanarPoint) (step : Float) (s : EventSearch) → Fine s → Fine (hit_after f t v e (edge f e) p vel step s)
    unfolding hit_after hit_then
    after_fine p vel step s h = go (lt step zero_float) refl (late step s.split)
      where
        go : (b : Bool) → lt step zero_float ≡ b → (c : Bool) → Fine (cond (b || c) s (hit_from f v e (edge f e) step (add t step) (moved_by p vel step) s (vertex f e (add t step))))
        go true q c = h
        go false q true = h
        go false q false =
            at_vertex f moves on (λ x. Fine (hit_from f v e (edge f e) step (add t step) (moved_by p vel step) s x)) e w.hit (add t step)
            (λ from. from_fine step (add t step) p vel s from q h)

    at_fine : (p vel : PlanarPoint) (s : EventSearch) → Fine s → Fine (hit_at f t v e (edge f e) p vel s)
    unfolding hit_at hit_closing
    at_fine p vel s h =
        let closing : Float = Number.sub (dot (normal (edge_line (edge f e))) vel) one in
        let step : Float = div (Number.sub (add (edge_line (edge f e)).c t) (dot (normal (edge_line (edge f e))) p)) closing in
        by_test Fine (le zero_float closing) (λ r. h) (λ r. after_fine p vel step s h)

  hits_of : (v e : ℕ) (s : EventSearch) → (links f).live v ≡ 1 → candidate v (edge f v).previous e (edge f e) s ≡ true → Hits f v e
  unfolding candidate
  hits_of v e s a q =
      let r : _ = and_elim_right (not s.stalled) _ q in
      let apart : _ = and_elim_right (edge f e).alive _ r in
      record {
        vertex = a;
        hit = ap bit (and_elim_left (edge f e).alive _ r);
        other = eqb-false e v (not-true (eqb e v) (and_elim_left (not (eqb e v)) _ apart));
        off = eqb-false e (edge f v).previous (not-true (eqb e (edge f v).previous) (and_elim_right (not (eqb e v)) _ apart));
      }

  hits_fine : (v : ℕ) (p vel : PlanarPoint) (s : EventSearch) → (links f).live v ≡ 1 → Fine s → Fine (hits f t v (edge f v).previous p vel s)
  unfolding hits hit_step
  hits_fine v p vel s a h = rounds_keep (hit_step f t v (edge f v).previous p vel) (λ i r. Fine r) s h step 128
    where
      step : (e : ℕ) (r : EventSearch) → Fine r → Fine (cond (candidate v (edge f v).previous e (edge f e) r) (hit_at f t v e (edge f e) p vel r) r)
      step e r g = by_test Fine (candidate v (edge f v).previous e (edge f e) r) (λ q. at_fine v e (hits_of v e r a q) p vel r g) (λ q. g)

  -- ---- one edge

  sooner_fine : (x : ℕ) (step : Float) (c : Option SoonestCollapse) → (links f).live x ≡ 1 → Forward step → Gone f c → Gone f (Some (sooner x step c))
  unfolding sooner
  sooner_fine x step None a k g = (a, k)
  sooner_fine x step (Some c) a k g = by_test (λ (r : SoonestCollapse). Gone f (Some r)) (lt step c.step) (λ q. (a, k)) (λ q. g)

  shrinking_fine : (x : ℕ) (l : Length) (s : EventSearch) → (links f).live x ≡ 1 → edge_length f x t ≡ Some l → Fine s → Fine (shrinking x l.value l.rate s)
  unfolding shrinking look_collapse
  shrinking_fine x l s a q h = by_test Fine (lt l.rate zero_float)
      (λ r. record { gone = sooner_fine x (div (fmax l.value zero_float) (neg l.rate)) s.collapse a (shrink_forward l.value l.rate r (rates x a l q)) h.gone; struck = h.struck; moving = h.moving })
      (λ r. h)

  corner_fine : (x : ℕ) (p vel : PlanarPoint) (s : EventSearch) → (links f).live x ≡ 1 → Fine s → Fine (look_corner f t x (edge f x) p vel s)
  unfolding look_corner
  corner_fine x p vel s a h =
      by_test Fine (le zero_float (cross (direction (edge_line (edge f (edge f x).previous))) (direction (edge_line (edge f x))))) (λ q. h) (λ q. hits_fine x p vel s a h)

  vertex_fine : (x : ℕ) (s : EventSearch) → (links f).live x ≡ 1 → Fine s → Fine (look_vertex f t x (edge f x) s (vertex f x t))
  unfolding look_vertex look_length
  vertex_fine x s a h =
      at_vertex f moves on (λ v. Fine (look_vertex f t x (edge f x) s v)) x a t
      (λ m. let l : (l : Length) × (edge_length f x t ≡ Some l) = length_there f moves on x a t in
      subst (λ (r : Option Length). Fine (look_length f t x (edge f x) m.at m.velocity s r)) (sym l.1)
      (corner_fine x m.at m.velocity (shrinking x l.0.value l.0.rate s) a (shrinking_fine x l.0 s a l.1 h)))

  step_fine : (x : ℕ) (s : EventSearch) → Fine s → Fine (look_step f t x s)
  unfolding look_step look_at
  step_fine x s h = by_test Fine (not s.stalled && (edge f x).alive) (λ q. vertex_fine x s (ap bit (and_elim_right (not s.stalled) _ q)) h) (λ q. h)

  look_fine : Fine (look f t)
  unfolding look
  look_fine = rounds_keep (look_step f t) (λ i s. Fine s) (record { stalled = false; collapse = None; split = None }) (record { gone = tt; struck = tt; moving = refl }) step_fine 128

  -- ---- the event

  choose_fine : (c : Option SoonestCollapse) (h : Option SoonestSplit) → Gone f c → Struck f h → EventIs f (choose t c h)
  unfolding choose
  choose_fine None None g k = tt
  choose_fine None (Some h) g k = k
  choose_fine (Some c) None g k = g
  choose_fine (Some c) (Some h) g k = by_test (EventIs f) (lt h.step (Number.sub c.step (mul tie (add one t)))) (λ q. k) (λ q. g)

  pub event_fine : EventIs f (next_event f t)
  unfolding next_event event_of
  event_fine =
      subst (λ (b : Bool). EventIs f (cond b Stalled (choose t (look f t).collapse (look f t).split))) (sym look_fine.moving)
      (choose_fine (look f t).collapse (look f t).split look_fine.gone look_fine.struck)
