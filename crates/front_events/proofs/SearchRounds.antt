-- One round of each loop of the search, by what the code holds. Assumes nothing.
use Prim.Native.Nat.{ℕ}
use mathlib.Core.Path.{◌≡◌, refl, sym, ap, ◌∙◌}
use mathlib.Core.Bool.{Bool, true, false, cond, not, ◌&&◌, ◌||◌}
use mathlib.Core.List.{List}
use lib.Dec.{eqb}
use lib.Ieee.{Float, lt, le, neg}
use Rattle.plane.specs.declared.PlanarPoint.{PlanarPoint}
use Rattle.plane.specs.Plane.{dot, sub, cross}
use Rattle.math.specs.Number.{zero_float, div, fmax, add}
use Rattle.front.specs.declared.Edge.{Edge}
use Rattle.front.specs.declared.Moving.{Moving}
use Rattle.std.specs.Prelude.{Option, None, Some}
use Rattle.front.specs.declared.Length.{Length}
use Rattle.front.specs.declared.EventSearch.{EventSearch}
use Rattle.front.specs.declared.SoonestCollapse.{SoonestCollapse}
use Rattle.front.specs.Lines.{direction}
use Rattle.front.specs.Edges.{edge, edge_line, vertex_of, vertex, moved_by, length_to, edge_length}
use Rattle.front.specs.NextEvent.{look_stalled, look_split, look_collapse, sooner, late, hit_to, hit_from, hit_then, hit_after, hit_closing, hit_at, candidate, hit_step, hits, look_corner, shrinking, look_length, look_vertex, look_at}
use Rattle.front.specs.NextEvent.{look_step}
use Rattle.base.specs.Loop.{rounds}
use Rattle.base.proofs.Laws.{no_round}
use Rattle.front_lines.specs.Between.{length_between}
use Rattle.front_events.proofs.Used.{hits_used}
use Rattle.front_lines.proofs.Ends.{length_is}
use Rattle.front_events.specs.declared.Look.{Look}
use Rattle.front_events.specs.Found.{collapse_of, split_of, search_of, closing, step_to, strike, shrink, reflex, start_of, look_by, look_from, look_of, strike_at, used_slots}

-- ---- the state in scalars

late_of : (d : Bool) (x y : ℕ) (s step : Float) → late step (split_of d x y s) ≡ d && le s step
unfolding late split_of
late_of false x y s step = refl
late_of true x y s step = refl

search_or : (b : Bool) (k : ℕ) (soon : Float) (on d : Bool) (i j x y : ℕ) (q s : Float) →
    cond on (look_split (search_of b k soon d x y s) (record { vertex = i; edge = j; step = q })) (search_of b k soon d x y s)
    ≡ search_of b k soon (d || on) (cond on i x) (cond on j y) (cond on q s)
unfolding search_of split_of look_split
search_or b k soon true true i j x y q s = refl
search_or b k soon true false i j x y q s = refl
search_or b k soon false true i j x y q s = refl
search_or b k soon false false i j x y q s = refl

collapse_or : (r b : Bool) (a k : ℕ) (q soon : Float) →
    cond r (Some (sooner a q (collapse_of b k soon))) (collapse_of b k soon)
    ≡ collapse_of (b || (r && (not b || lt q soon))) (cond (r && (not b || lt q soon)) a k) (cond (r && (not b || lt q soon)) q soon)
unfolding collapse_of sooner
collapse_or false true a k q soon = refl
collapse_or false false a k q soon = refl
collapse_or true false a k q soon = refl
collapse_or true true a k q soon = go (lt q soon)
  where
    at : ℕ → Float → SoonestCollapse
    at edge step = record { edge = edge; step = step }

    go : (m : Bool) → Some (cond m (at a q) (at k soon)) ≡ Some (at (cond m a k) (cond m q soon))
    go true = refl
    go false = refl

-- the tests of the inner loop, in two
tests : {S : Type 0} (w q r l : Bool) (x y : S) → cond w (cond q y (cond (r || l) y x)) y ≡ cond (w && not q) (cond (not r && not l) x y) y
tests false q r l x y = refl
tests true true r l x y = refl
tests true false true l x y = refl
tests true false false true x y = refl
tests true false false false x y = refl

-- ---- the inner loop

struck_on : EventSearch → ℕ → ℕ → Float → Option Bool → EventSearch
struck_on s slot other step None = look_stalled s
struck_on s slot other step (Some on) = cond on (look_split s (record { vertex = slot; edge = other; step = step })) s

strikes : (f : List Edge) (slot other : ℕ) (g : Edge) (step at : Float) (p : PlanarPoint) (s : EventSearch) (x : Option Moving) →
    hit_from f slot other g step at p s x ≡ struck_on s slot other step (strike g p x (vertex f g.next at))
unfolding hit_from hit_to struck_on strike
strikes f slot other g step at p s None = refl
strikes f slot other g step at p s (Some from) = go (vertex f g.next at)
  where
    go : (y : Option Moving) → hit_to slot other (direction (edge_line g)) step p from.at s y ≡ struck_on s slot other step (strike g p (Some from) y)
    go None = refl
    go (Some to) = refl

module _ (f : List Edge) (t : Float) (slot before : ℕ) (p v : PlanarPoint) (other : ℕ) (b : Bool) (k : ℕ) (soon : Float) (d : Bool) (x y : ℕ) (step : Float) where
  abbrev here : EventSearch
  here = search_of b k soon d x y step

  -- the edge is alive, not one of the vertex's own, and comes closer; the step is not below 0, and sooner than the split in hand
  abbrev comes : Edge → Float → Bool
  comes g speed = (g.alive && (not (eqb other slot) && not (eqb other before))) && not (le zero_float speed)

  abbrev in_time : Float → Bool
  in_time q = not (lt q zero_float) && not (d && le step q)

  closes : (g : Edge) (w : Bool) (speed q : Float) →
      cond w (cond (le zero_float speed) here (cond (lt q zero_float || late q (split_of d x y step)) here (hit_then f t slot other g p v q here))) here
      ≡ cond (w && not (le zero_float speed)) (cond (in_time q) (hit_then f t slot other g p v q here) here) here
  closes g w speed q =
      rw (late_of d x y step q) (tests w (le zero_float speed) (lt q zero_float) (d && le step q) (hit_then f t slot other g p v q here) here)

  abbrev then_in_time : Edge → Float → EventSearch
  then_in_time g q = cond (in_time q) (hit_then f t slot other g p v q here) here

  asked : (g : Edge) → cond (candidate slot before other g here) (hit_at f t slot other g p v here) here
      ≡ cond (comes g (closing g v)) (then_in_time g (step_to g p t (closing g v))) here
  unfolding candidate hit_at hit_closing hit_after search_of closing step_to
  asked g = closes g (g.alive && (not (eqb other slot) && not (eqb other before))) (closing g v) (step_to g p t (closing g v))

  then_struck : (q : Float) → hit_then f t slot other (edge f other) p v q here
      ≡ struck_on here slot other q
      (strike_at (edge f (edge f other).previous) (edge f other) (edge f (edge f (edge f other).next).previous) (edge f (edge f other).next) p v q t)
  unfolding hit_then strike_at start_of vertex vertex_of
  then_struck q = strikes f slot other (edge f other) q (add t q) (moved_by p v q) here (vertex f other (add t q))

  module _ (g : Edge) (eg : g ≡ edge f other) (speed : Float) (es : speed ≡ closing g v) where
    by_edge : hit_step f t slot before p v other here ≡ cond (comes g speed) (then_in_time g (step_to g p t speed)) here
    unfolding hit_step
    by_edge = rw (← eg, es) (asked g)

    pub passes_edge : comes g speed ≡ false → hit_step f t slot before p v other here ≡ here
    passes_edge h = by_edge ∙ ap (λ (z : Bool). cond z (then_in_time g (step_to g p t speed)) here) h

    module _ (w : comes g speed ≡ true) (q : Float) (eq : q ≡ step_to g p t speed) where
      by_step : hit_step f t slot before p v other here ≡ then_in_time g q
      by_step = by_edge ∙ ap (λ (z : Bool). cond z (then_in_time g (step_to g p t speed)) here) w ∙ ap (then_in_time g) (sym eq)

      pub passes_step : in_time q ≡ false → hit_step f t slot before p v other here ≡ here
      passes_step h = by_step ∙ ap (λ (z : Bool). cond z (hit_then f t slot other g p v q here) here) h

      module _ (a : in_time q ≡ true) (first last own : Edge) (h : Option Bool) (ea : first ≡ edge f g.previous) (el : last ≡ edge f g.next)
          (eo : own ≡ edge f last.previous) (eh : h ≡ strike_at first g own last p v q t) where
        struck_as : hit_then f t slot other g p v q here ≡ struck_on here slot other q h
        struck_as = rw (eh, eo, el, ea, eg) (then_struck q)

        by_strike : hit_step f t slot before p v other here ≡ struck_on here slot other q h
        by_strike = by_step ∙ ap (λ (z : Bool). cond z (hit_then f t slot other g p v q here) here) a ∙ struck_as

        pub strikes_lost : h ≡ None → hit_step f t slot before p v other here ≡ look_stalled here
        unfolding struck_on
        strikes_lost l = by_strike ∙ rw l refl

        pub strikes_on : (on : Bool) (x' y' : ℕ) (step' : Float) → x' ≡ cond on slot x → y' ≡ cond on other y → step' ≡ cond on q step → h ≡ Some on →
            hit_step f t slot before p v other here ≡ search_of b k soon (d || on) x' y' step'
        unfolding struck_on
        strikes_on on x' y' step' ex ey ez l = by_strike ∙ rw (l, ex, ey, ez) (search_or b k soon on d slot other x y q step)

-- ---- the outer loop

module _ (f : List Edge) (t : Float) (slot : ℕ) (b : Bool) (k : ℕ) (soon : Float) (d : Bool) (x y : ℕ) (step : Float) where
  abbrev now : EventSearch
  now = search_of b k soon d x y step

  shrinks_by : (r : Bool) (q : Float) →
      cond r (look_collapse now (sooner slot q (collapse_of b k soon))) now
      ≡ search_of (b || (r && (not b || lt q soon))) (cond (r && (not b || lt q soon)) slot k) (cond (r && (not b || lt q soon)) q soon) d x y step
  unfolding search_of look_collapse
  shrinks_by true q = ap (λ (c : Option SoonestCollapse). record { stalled = false; collapse = c; split = split_of d x y step }) (collapse_or true b slot k q soon)
  shrinks_by false q = ap (λ (c : Option SoonestCollapse). record { stalled = false; collapse = c; split = split_of d x y step }) (collapse_or false b slot k q soon)

  corners : (before e : Edge) (p v : PlanarPoint) (s : EventSearch) → before ≡ edge f e.previous →
      look_corner f t slot e p v s ≡ rounds (hit_step f t slot e.previous p v) (cond (reflex (edge_line before) (edge_line e)) (used_slots f) 0) s
  unfolding look_corner hits reflex
  corners before e p v s h = rw h (go (le zero_float (cross (direction (edge_line (edge f e.previous))) (direction (edge_line e)))))
    where
      go : (z : Bool) → cond z s (rounds (hit_step f t slot e.previous p v) 128 s) ≡ rounds (hit_step f t slot e.previous p v) (cond (not z) (used_slots f) 0) s
      go true = sym (no_round (hit_step f t slot e.previous p v) s)
      go false = hits_used f t slot e.previous p v s

  abbrev shrunk : Look → EventSearch
  shrunk u = search_of (b || u.gone.sooner) (cond u.gone.sooner slot k) (cond u.gone.sooner u.gone.step soon) d x y step

  looked : Edge → Option Look → EventSearch
  looked e None = look_stalled now
  looked e (Some u) = rounds (hit_step f t slot e.previous u.start.at u.start.velocity) (cond u.reflex (used_slots f) 0) (shrunk u)

  with_length : Edge → Option Moving → Option Length → EventSearch
  with_length e None l = look_stalled now
  with_length e (Some m) l = look_length f t slot e m.at m.velocity now l

  looks : (e : Edge) (u : Option Moving) → look_vertex f t slot e now u ≡ with_length e u (edge_length f slot t)
  unfolding look_vertex with_length
  looks e None = refl
  looks e (Some m) = refl

  looked_as : (before e : Edge) (u w : Option Moving) → before ≡ edge f e.previous → with_length e u (length_between e u w) ≡ looked e (look_from before e u w b soon)
  unfolding with_length looked look_from look_by shrink length_between length_to look_length shrinking search_of
  looked_as before e None w h = refl
  looked_as before e (Some m) None h = refl
  looked_as before e (Some m) (Some n) h =
      corners before e m.at m.velocity _ h
      ∙ ap (rounds (hit_step f t slot e.previous m.at m.velocity) (cond (reflex (edge_line before) (edge_line e)) (used_slots f) 0))
      (shrinks_by (lt (dot (direction (edge_line e)) (sub n.velocity m.velocity)) zero_float)
      (div (fmax (dot (direction (edge_line e)) (sub n.at m.at)) zero_float) (neg (dot (direction (edge_line e)) (sub n.velocity m.velocity)))))

  live : (edge f slot).alive ≡ true →
      look_step f t slot now
      ≡ looked (edge f slot)
      (look_of (edge f (edge f slot).previous) (edge f slot) (edge f (edge f (edge f slot).next).previous) (edge f (edge f slot).next) t b soon)
  unfolding look_step look_at search_of look_of start_of vertex vertex_of
  live h =
      ap (λ (z : Bool). cond z (look_vertex f t slot (edge f slot) now (vertex f slot t)) now) h
      ∙ looks (edge f slot) (vertex f slot t)
      ∙ ap (with_length (edge f slot) (vertex f slot t)) (length_is f slot t)
      ∙ looked_as (edge f (edge f slot).previous) (edge f slot) (vertex f slot t) (vertex f (edge f slot).next t) refl

  module _ (e : Edge) (ee : e ≡ edge f slot) where
    module _ (before after back : Edge) (u : Option Look) (ea : e.alive ≡ true) (eb : before ≡ edge f e.previous) (en : after ≡ edge f e.next) (ek : back ≡ edge f after.previous)
        (eu : u ≡ look_of before e back after t b soon) where
      live_look : look_step f t slot now ≡ looked e u
      live_look = rw (eu, ek, en, eb, ee) (live (ap (λ (z : Edge). z.alive) (sym ee) ∙ ea))

      pub look_lost : u ≡ None → look_step f t slot now ≡ look_stalled now
      unfolding looked
      look_lost l = live_look ∙ rw l refl

      pub look_on : (w : Look) (k' : ℕ) (soon' : Float) → k' ≡ cond w.gone.sooner slot k → soon' ≡ cond w.gone.sooner w.gone.step soon → u ≡ Some w →
          look_step f t slot now
          ≡ rounds (hit_step f t slot e.previous w.start.at w.start.velocity) (cond w.reflex (used_slots f) 0) (search_of (b || w.gone.sooner) k' soon' d x y step)
      unfolding looked
      look_on w k' soon' ek' es l = live_look ∙ rw (l, ek', es) refl
