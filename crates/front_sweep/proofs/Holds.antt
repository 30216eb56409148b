-- The front between two steps, and what each act makes of it. Assumes nothing.
use Prim.Native.Nat.{ℕ, ◌+◌, ◌-◌, ◌*◌, ◌<◌, ◌≤◌}
use mathlib.Core.Bool.{Bool, true, false, cond, not, ◌&&◌, true≢false}
use mathlib.Core.List.{List}
use mathlib.Core.Path.{◌≡◌, refl, sym, ap, subst, ◌∙◌}
use native.Mathlib.Omega.{arith}
use native.Mathlib.Nat.{add-zero}
use borrow.Author.Tests.{ltb-true, ltb-false}
use lib.Dec.{ltb}
use lib.Ieee.{Float}
use Rattle.error.specs.declared.Refusal.{Refusal}
use Rattle.error.specs.declared.Refusal.TheVariants.{Granted, Splits}
use Rattle.error.specs.Refusals.{granted, number, values}
use Rattle.base.specs.Loop.{rounds}
use Rattle.base.proofs.Laws.{no_round}
use Rattle.front.specs.declared.Edge.{Edge}
use Rattle.front.specs.declared.Front.{Front}
use Rattle.front.specs.declared.Sweep.{Sweep}
use Rattle.front.specs.declared.Tidy.{Tidy}
use Rattle.front.specs.declared.Tidy.TheVariants.{Settled, SmallRing, Straight, Spike, Empty}
use Rattle.front.specs.declared.Moving.{Moving}
use Rattle.std.specs.Prelude.{Option, None, Some}
use Rattle.front_edges.proofs.Actions.{collapse_some}
use Rattle.front.specs.Edges.{edge, set_start, remove, altered, stalled, anchor_at, anchor, then_remove, collapse, vertex}
use Rattle.front.specs.declared.Event.{Event}
use Rattle.front.specs.declared.Event.TheVariants.{Never}
use Rattle.front.specs.NextEvent.{next_event}
use Rattle.front.specs.Tidying.{find_tidy, drop_straight, drop_both, spike_to, spike_from, drop_spike, drop_ring, tidy_by, tidy_step, tidy}
use Rattle.front.specs.Sweeps.{split, sweep_step, finished}
use Rattle.front_split.specs.Begun.{begun}
use Rattle.front_sweep.specs.declared.Plan.{Plan}
use Rattle.front_sweep.specs.declared.Plan.TheVariants.{Refuse, End, TakeCollapse, TakeSplit}
use Rattle.front_sweep.specs.Planning.{plan_of}
use Rattle.front_sweep.proofs.Stages.{Parted}
use Rattle.front_sweep.proofs.Loop.{swept, After, refuses, reaches, collapse_lost, collapses, parts, split_lost, split_on}
use Rattle.front_tidy.specs.Findings.{settled}
use Rattle.front_tidy.proofs.TidyRounds.{unchanged, tidy_none, tidy_ends, tidy_goes, tidy_all}
use Rattle.front_sweep.specs.declared.Act.{Act}
use Rattle.front_sweep.specs.declared.Act.TheVariants.{Stop, Finish, Shrink, Cut, DropRing, DropSpike}
use Rattle.front_sweep.specs.Acts.{act_by, act_of, refused, cleared}

-- ---- a sweep, cleared

pub clears : (f : List Edge) (t : Float) (c v j : ℕ) (r : Refusal) (s : Sweep) → granted r ≡ false → swept f t c v j false r ≡ s → refused t c v j r ≡ cleared s
unfolding cleared refused
clears f t c v j r s h e = rw (← e, h) refl

pub stays : (f : List Edge) (t : Float) (c v j : ℕ) (s : Sweep) → swept f t c v j true Granted ≡ s → swept f t c v j true Granted ≡ cleared s
unfolding cleared granted number values
stays f t c v j s e = rw (← e) refl

-- ---- whatever tidying takes out, the front is changed

removes_changed : (f : List Edge) (k n : ℕ) (t : Float) (x : Option Moving) → (then_remove k (anchor_at f n t x)).changed ≡ true
unfolding then_remove anchor_at altered stalled
removes_changed f k n t None = refl
removes_changed f k n t (Some m) = refl

spike_changed : (f : List Edge) (slot before next after : ℕ) (t : Float) (x y : Option Moving) → y ≡ vertex f after t → (spike_from f slot before next after t x).changed ≡ true
unfolding spike_from spike_to drop_both altered stalled
spike_changed f slot before next after t None y e = refl
spike_changed f slot before next after t (Some m) None e = rw (← e) refl
spike_changed f slot before next after t (Some m) (Some n) e = rw (← e) refl

changes : (f : List Edge) (t : Float) (x : Tidy) → settled x ≡ false → (tidy_by f t x).changed ≡ true
unfolding settled tidy_by altered drop_straight anchor drop_spike collapse
changes f t Settled h = absurd (true≢false h)
changes f t (SmallRing slot) h = refl
changes f t (Straight slot) h = removes_changed f _ _ t (vertex f _ t)
changes f t (Spike slot) h = spike_changed f slot _ _ _ t (vertex f slot t) _ refl
changes f t (Empty slot) h = removes_changed f _ _ t (vertex f _ t)

both : (a b : Bool) → a ≡ true → b ≡ false → (a && not b) ≡ true
both a b h i = rw (h, i) refl

neither : (a b : Bool) → b ≡ true → (a && not b) ≡ false
neither true b h = rw h refl
neither false b h = refl

-- ---- the front f after m steps of tidying and k stages, from the front `from` at the start of the stage

pub record Walked (d : Float) (f₀ : List Edge) (t₀ : Float) (f : List Edge) (t : Float) (c v j k m : ℕ) : Type 0 where
  pub within : k ≤ 387
  pub few : m ≤ 129
  pub collapses : c ≤ k
  pub divides : v ≤ k
  pub joins : j ≤ k
  pub from : List Edge
  pub after : After d f₀ t₀ from t c v j k
  pub steps : rounds (tidy_step t) m (altered from) ≡ altered f

module _ (d : Float) (f₀ : List Edge) (t₀ : Float) where
  abbrev pub Gone : Float → ℕ → ℕ → ℕ → Refusal → Type 0
  Gone t c v j r = refused t c v j r ≡ cleared (finished d (rounds (sweep_step d) 387 (begun f₀ t₀)))

  abbrev pub Reached : List Edge → Float → ℕ → ℕ → ℕ → Type 0
  Reached f t c v j = swept f t c v j true Granted ≡ cleared (finished d (rounds (sweep_step d) 387 (begun f₀ t₀)))

  -- a collapse or a tidying step, done: refused, or the front goes on
  pub record Taken (t : Float) (c v j : ℕ) (r : Front) (u : Float) (c' k' m' : ℕ) : Type 0 where
    pub lost : r.stalled ≡ true → Gone t c v j (Splits d)
    pub goes : r.stalled ≡ false → Walked d f₀ t₀ r.edges u c' v j k' m'

  pub record Split (t : Float) (c v j k : ℕ) (r : Sweep) : Type 0 where
    pub divides : r.divides ≤ 1
    pub joins : r.joins ≤ 1
    pub lost : granted r.refusal ≡ false → Gone t c v j r.refusal
    pub goes : granted r.refusal ≡ true → Walked d f₀ t₀ r.edges r.travelled c (v + r.divides) (j + r.joins) (k + 1) 0

  module _ (f : List Edge) (t : Float) (c v j k m : ℕ) where
    -- the edge that collapses
    abbrev pub which : Bool → ℕ → ℕ
    which following at = cond following (edge f at).next at

    unfoldable pub Holds : Act → Type 0
    Holds Stop = Gone t c v j (Splits d)
    Holds Finish = Reached f t c v j
    Holds (Shrink at u event following) =
        (r : Front) → r ≡ collapse f (which following at) u → Taken t c v j r u (c + cond event 1 0) (k + cond event 1 0) (cond event 0 (m + 1))
    Holds (Cut a b u) = (r : Sweep) → r ≡ split d (begun f t) f a b u → Split t c v j k r
    Holds (DropRing i) = (g : List Edge) → g ≡ drop_ring f i → Walked d f₀ t₀ g t c v j k (m + 1)
    Holds (DropSpike i) = (r : Front) → r ≡ tidy_by f t (Spike i) → Taken t c v j r t c k (m + 1)

    module _ (w : Walked d f₀ t₀ f t c v j k m) (l : k < 387) where
      -- ---- a step of tidying

      module _ (x : Tidy) (found : x ≡ find_tidy f t) (some : settled x ≡ false) (room : m < 129) where
        tidies : (r : Front) → r ≡ tidy_by f t x → Taken t c v j r t c k (m + 1)
        unfolding granted number values
        tidies r e = record { lost = lost; goes = goes }
          where
            lost : r.stalled ≡ true → Gone t c v j (Splits d)
            lost h =
                clears w.from t c v j (Splits d) _ refl
                (refuses d f₀ t₀ w.from t c v j k w.after r (next_event r.edges t) (plan_of d t (next_event r.edges t)) Refuse
                (tidy_ends w.from f t m x w.steps found r e room (neither r.changed r.stalled h)) refl refl (rw h refl) l refl)

            goes : r.stalled ≡ false → Walked d f₀ t₀ r.edges t c v j k (m + 1)
            goes h =
                record {
                  within = w.within;
                  few = omega arith;
                  collapses = w.collapses;
                  divides = w.divides;
                  joins = w.joins;
                  from = w.from;
                  after = w.after;
                  steps = tidy_goes w.from f t m x w.steps found r e (both r.changed r.stalled (ap (λ (z : Front). z.changed) e ∙ changes f t x some) h);
                }

        shrinks_away : (r : Front) → r ≡ tidy_by f t x → Taken t c v j r t (c + 0) (k + 0) (m + 1)
        shrinks_away r e = rw (add-zero, add-zero) (tidies r e)

      -- ---- a tidied front

      module _ (front : Front) (tidied : front ≡ tidy w.from t) (same : front.edges ≡ f) (moves : front.stalled ≡ false) where
        module _ (p : Plan) (planned : p ≡ plan_of d t (next_event f t)) where
          plans : p ≡ plan_of d t (next_event front.edges t)
          plans = planned ∙ ap (λ (z : List Edge). plan_of d t (next_event z t)) (sym same)

          is : p ≡ cond front.stalled Refuse p
          is = rw moves refl

          stops : p ≡ Refuse → Gone t c v j (Splits d)
          unfolding granted number values
          stops h = clears w.from t c v j (Splits d) _ refl (refuses d f₀ t₀ w.from t c v j k w.after front _ p p tidied refl plans is l h)

          ends : p ≡ End → Reached f t c v j
          ends h =
              stays f t c v j _
              (ap (λ (z : List Edge). swept z t c v j true Granted) (sym same) ∙ reaches d f₀ t₀ w.from t c v j k w.after front _ p p tidied refl plans is l h)

          shrinks : (i : ℕ) (u : Float) → p ≡ TakeCollapse i u → (r : Front) → r ≡ collapse f i u → Taken t c v j r u (c + 1) (k + 1) 0
          unfolding granted number values
          shrinks i u h r e = record { lost = lost; goes = goes }
            where
              again : r ≡ collapse front.edges i u
              again = e ∙ ap (λ (z : List Edge). collapse z i u) (sym same)

              lost : r.stalled ≡ true → Gone t c v j (Splits d)
              lost g =
                  clears w.from t c v j (Splits d) _ refl
                  (collapse_lost d f₀ t₀ w.from t c v j k w.after front _ p p tidied refl plans is i u r h again l g)

              goes : r.stalled ≡ false → Walked d f₀ t₀ r.edges u (c + 1) v j (k + 1) 0
              goes g =
                  record {
                    within = omega arith;
                    few = omega arith;
                    collapses = omega (arith, w.collapses);
                    divides = omega (arith, w.divides);
                    joins = omega (arith, w.joins);
                    from = r.edges;
                    after = collapses d f₀ t₀ w.from t c v j k w.after front _ p p tidied refl plans is i u r h again g;
                    steps = no_round (tidy_step u) (altered r.edges);
                  }

          cuts : (a b : ℕ) (u : Float) → p ≡ TakeSplit a b u → (r : Sweep) → r ≡ split d (begun f t) f a b u → Split t c v j k r
          cuts a b u h r e = record { divides = added.divides; joins = added.joins; lost = lost; goes = goes }
            where
              again : r ≡ split d (begun front.edges t) front.edges a b u
              again = e ∙ ap (λ (z : List Edge). split d (begun z t) z a b u) (sym same)

              added : Parted (swept w.from t c v j false Granted) (split d (swept w.from t c v j false Granted) front.edges a b u) r
              added = parts d f₀ t₀ w.from t c v j k w.after front _ p p tidied refl plans is a b u r h again

              lost : granted r.refusal ≡ false → Gone t c v j r.refusal
              lost g =
                  clears w.from t c v j r.refusal _ g
                  (split_lost d f₀ t₀ w.from t c v j k w.after front _ p p tidied refl plans is a b u r h again l g)

              goes : granted r.refusal ≡ true → Walked d f₀ t₀ r.edges r.travelled c (v + r.divides) (j + r.joins) (k + 1) 0
              goes g =
                  record {
                    within = omega arith;
                    few = omega arith;
                    collapses = omega (arith, w.collapses);
                    divides = omega (arith, w.divides, added.divides);
                    joins = omega (arith, w.joins, added.joins);
                    from = r.edges;
                    after = split_on d f₀ t₀ w.from t c v j k w.after front _ p p tidied refl plans is a b u r h again g;
                    steps = no_round (tidy_step r.travelled) (altered r.edges);
                  }

        acts : (p : Plan) → p ≡ plan_of d t (next_event f t) → Holds (act_by p)
        unfolding Holds act_by
        acts Refuse h = stops Refuse h refl
        acts End h = ends End h refl
        acts (TakeCollapse i u) h = shrinks (TakeCollapse i u) h i u refl
        acts (TakeSplit a b u) h = cuts (TakeSplit a b u) h a b u refl

      -- ---- each act, by what is found

      taken : (b : Bool) (x : Tidy) → ltb m 129 ≡ b → x ≡ cond b (find_tidy f t) Settled → settled x ≡ false → (x ≡ find_tidy f t) × (m < 129)
      unfolding settled
      taken true x e h i = (h, ltb-true m 129 e)
      taken false x e h i = absurd (true≢false (sym (ap settled h) ∙ i))

      rests : (b : Bool) → ltb m 129 ≡ b → Settled ≡ cond b (find_tidy f t) Settled → (p : Plan) → p ≡ plan_of d t (next_event f t) → Holds (act_by p)
      unfolding altered
      rests true e h = acts (unchanged f) (tidy_none w.from f t m Settled w.steps h (ltb-true m 129 e) refl) refl refl
      rests false e h = acts (altered f) (tidy_all w.from f t m w.steps (omega (arith, w.few, ltb-false m 129 e))) refl refl

      pub act_holds : (x : Tidy) → x ≡ cond (ltb m 129) (find_tidy f t) Settled → (p : Plan) → p ≡ cond (settled x) (plan_of d t (next_event f t)) End → Holds (act_of t x p)
      unfolding Holds act_of settled tidy_by drop_straight collapse altered
      act_holds Settled h p q = rests (ltb m 129) refl h p q
      act_holds (SmallRing i) h p q =
          let room : (SmallRing i ≡ find_tidy f t) × (m < 129) = taken (ltb m 129) (SmallRing i) refl h refl in
          λ g e. (tidies (SmallRing i) room.0 refl room.1 (altered g) (ap altered e)).goes refl
      act_holds (Straight i) h p q = shrinks_away (Straight i) (taken (ltb m 129) (Straight i) refl h refl).0 refl (taken (ltb m 129) (Straight i) refl h refl).1
      act_holds (Spike i) h p q = tidies (Spike i) (taken (ltb m 129) (Spike i) refl h refl).0 refl (taken (ltb m 129) (Spike i) refl h refl).1
      act_holds (Empty i) h p q = shrinks_away (Empty i) (taken (ltb m 129) (Empty i) refl h refl).0 refl (taken (ltb m 129) (Empty i) refl h refl).1

      -- no event is no plan
      planned : (b : Bool) (e : Event) → e ≡ cond b (next_event f t) Never → plan_of d t e ≡ cond b (plan_of d t (next_event f t)) End
      unfolding plan_of
      planned true e q = ap (plan_of d t) q
      planned false e q = ap (plan_of d t) q

      pub stage_holds :
          (x : Tidy) (b : Bool) (e : Event) (a : Act) → x ≡ cond (ltb m 129) (find_tidy f t) Settled → b ≡ settled x →
          e ≡ cond b (next_event f t) Never → a ≡ act_of t x (plan_of d t e) → Holds a
      stage_holds x b e a h u q g =
          subst Holds (sym g) (act_holds x h (plan_of d t e) (planned b e q ∙ ap (λ (z : Bool). cond z (plan_of d t (next_event f t)) End) u))

-- ---- what an act makes of the front, by the act

pub record Held (d : Float) (f₀ : List Edge) (t₀ : Float) (f : List Edge) (t : Float) (c v j k m : ℕ) (a : Act) : Type 0 where
  pub holds : Holds d f₀ t₀ f t c v j k m a

module _ {d : Float} {f₀ : List Edge} {t₀ : Float} {f : List Edge} {t : Float} {c v j k m : ℕ} where
  pub held :
      {y x : Tidy} {b : Bool} {e : Event} {a : Act} → Walked d f₀ t₀ f t c v j k m → k < 387 → y ≡ find_tidy f t → x ≡ cond (ltb m 129) y Settled → b ≡ settled x →
      e ≡ cond b (next_event f t) Never → a ≡ act_of t x (plan_of d t e) → Held d f₀ t₀ f t c v j k m a
  held {x = x} {b = b} {e = e} {a = a} w l i h u q g =
      record { holds = stage_holds d f₀ t₀ f t c v j k m w l x b e a (h ∙ ap (λ (z : Tidy). cond (ltb m 129) z Settled) i) u q g }

  module _ {a : Act} (h : Held d f₀ t₀ f t c v j k m a) where
    pub held_stop : a ≡ Stop → Gone d f₀ t₀ t c v j (Splits d)
    unfolding Holds
    held_stop e = subst (Holds d f₀ t₀ f t c v j k m) e h.holds

    pub held_finish : a ≡ Finish → Reached d f₀ t₀ f t c v j
    unfolding Holds
    held_finish e = subst (Holds d f₀ t₀ f t c v j k m) e h.holds

    pub held_shrink :
        {at : ℕ} {u : Float} {event following : Bool} {own : Edge} {slot : ℕ} {r : Front} → a ≡ Shrink at u event following → own ≡ edge f at →
        slot ≡ cond following own.next at → r ≡ collapse f slot u →
        Taken d f₀ t₀ t c v j r u (c + cond event 1 0) (k + cond event 1 0) (cond event 0 (m + 1))
    unfolding Holds
    held_shrink {at = at} {u = u} {event = event} {following = following} {own = own} {slot = slot} {r = r} e i g q =
        subst (Holds d f₀ t₀ f t c v j k m) e h.holds r
        (q ∙ ap (λ (z : ℕ). collapse f z u) (g ∙ ap (λ (z : Edge). cond following z.next at) i))

    pub held_cut : {i n : ℕ} {u : Float} {r : Sweep} → a ≡ Cut i n u → r ≡ split d (begun f t) f i n u → Split d f₀ t₀ t c v j k r
    unfolding Holds
    held_cut {r = r} e q = subst (Holds d f₀ t₀ f t c v j k m) e h.holds r q

    pub held_ring : {i : ℕ} {g : List Edge} → a ≡ DropRing i → g ≡ drop_ring f i → Walked d f₀ t₀ g t c v j k (m + 1)
    unfolding Holds
    held_ring {g = g} e q = subst (Holds d f₀ t₀ f t c v j k m) e h.holds g q

    pub held_spike : {i : ℕ} {r : Front} → a ≡ DropSpike i → r ≡ tidy_by f t (Spike i) → Taken d f₀ t₀ t c v j r t c k (m + 1)
    unfolding Holds
    held_spike {r = r} e q = subst (Holds d f₀ t₀ f t c v j k m) e h.holds r q

-- ---- the counts

-- after a collapse: it counts as one, and ends the stage, where an event asked for it; else it is one step more of tidying
pub record Shrunk (d : Float) (f₀ : List Edge) (t₀ : Float) (f : List Edge) (t : Float) (c v j k m : ℕ) (b : Bool) : Type 0 where
  pub walked : Walked d f₀ t₀ f t (c + cond b 1 0) v j (k + cond b 1 0) (cond b 0 (m + 1))

-- as the code comes by it: the start of the next edge, and the front without the edge
pub shrunk :
    {d : Float} {f₀ : List Edge} {t₀ : Float} {f : List Edge} {t : Float} {c v j k m : ℕ} {a : Act} {at : ℕ} {u : Float} {event following : Bool} {own e : Edge} {slot : ℕ}
    {x : Option Moving} {w : Moving} {g r : List Edge} → Held d f₀ t₀ f t c v j k m a → a ≡ Shrink at u event following → own ≡ edge f at →
    slot ≡ cond following own.next at → e ≡ edge f slot → x ≡ vertex f e.next u → x ≡ Some w → g ≡ set_start f e.next w.at u → r ≡ remove g slot →
    Shrunk d f₀ t₀ r u c v j k m event
unfolding altered
shrunk h q own_is slot_is e_is x_is some g_is r_is =
    record { walked = (held_shrink h q own_is slot_is (collapse_some _ _ _ _ _ (ap (λ (z : Edge). z.next) e_is) x_is _ _ _ some g_is r_is)).goes refl }

module _ {d : Float} {f₀ : List Edge} {t₀ : Float} {f : List Edge} {t : Float} {c v j k m : ℕ} {b : Bool} (s : Shrunk d f₀ t₀ f t c v j k m b) where
  pub counted : {x y z : ℕ} → x ≡ cond b 1 0 → y ≡ cond b 0 (m + 1) → z ≡ cond b 1 0 → Walked d f₀ t₀ f t (c + x) v j (k + z) y
  counted g h i = rw (g, h, i) s.walked

  -- the counts stay small, and fewer steps are left
  pub counts : {x : ℕ} → x ≡ cond b 1 0 → c + x ≤ 387
  counts e = omega (arith, s.walked.collapses, s.walked.within, e)

  pub stages : {x : ℕ} → x ≡ cond b 1 0 → k + x ≤ 387
  stages e = omega (arith, s.walked.within, e)

  pub shrink_falls : {x y : ℕ} → x ≡ cond b 1 0 → k < 387 → m ≤ 129 → y ≡ cond b 0 (m + 1) → (387 - (k + x)) * 130 + (129 - y) < (387 - k) * 130 + (129 - m)
  shrink_falls {x = x} {y = y} e l n y_is = go b e y_is s.walked.few
    where
      go : (z : Bool) → x ≡ cond z 1 0 → y ≡ cond z 0 (m + 1) → cond z 0 (m + 1) ≤ 129 → (387 - (k + x)) * 130 + (129 - y) < (387 - k) * 130 + (129 - m)
      go true g h i = omega arith
      go false g h i = omega arith

pub cut_falls : (k m : ℕ) → k < 387 → m ≤ 129 → (387 - (k + 1)) * 130 + (129 - 0) < (387 - k) * 130 + (129 - m)
cut_falls k m l n = omega arith

pub tidying_falls : (k m : ℕ) → m + 1 ≤ 129 → (387 - k) * 130 + (129 - (m + 1)) < (387 - k) * 130 + (129 - m)
tidying_falls k m l = omega arith
