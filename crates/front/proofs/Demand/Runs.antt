-- The run of a sweep: what holds of one stage holds of each, and the events of all of them add up.
use mathlib.Core.Path.{◌≡◌, refl, sym, ap, ◌∙◌, subst}
use mathlib.Core.Logic.{◌≢◌}
use mathlib.Core.Bool.{Bool, true, false, cond, false≢true}
use mathlib.Core.List.{List, [], ◌∷◌}
use Prim.Native.Nat.{ℕ, zero, suc, ◌+◌, ◌*◌, ◌≤◌}
use native.Mathlib.Omega.{arith}
use lib.ListN.{length, take, length-append}
use lib.Ieee.{lt, le}
use Rattle.front.specs.declared.Tidy.TheVariants.{Settled}
use Rattle.front.specs.declared.Event.TheVariants.{Stalled}
use Rattle.front.specs.declared.Sweep.{Sweep}
use Rattle.math.specs.Number.{add, infinity, finite}
use Rattle.error.specs.Refusals.{granted, number}
use Rattle.base.specs.Loop.{rounds}
use Rattle.front.specs.Sweeps.{sweep_tidied, sweep_step}
use Rattle.front.specs.Tidying.{find_tidy, tidy}
use Rattle.front.specs.Links.{links}
use Rattle.front.specs.Demand.{Givens, going, Stage, stage, stages, tidied, Looks, Leads, Each, found, Works, Finds, Reaches, Fills, completed, events}
use Rattle.front.specs.Edges.{edge, edge_line}
use Rattle.front.specs.Velocity.{LeftNormal}
use Rattle.base.proofs.Laws.{steady, still, rounds_keep}
use Rattle.front.proofs.Demand.Tallies.{Adds, adds_none, adds_then, Bound, bound_none, bound_then, by_any_point, completed_one}
use Rattle.front.proofs.Demand.Sweeps.{Stands, State, Staged, staged, stage_finds, stage_settled, stage_stands, stage_seeks, stage_lines, stage_lives, stage_never}

pub each : (P Q : Stage → Type 0) → ((t : Stage) → P t → Q t) → (ts : List Stage) → Each P ts → Each Q ts
each P Q f [] h = tt
each P Q f (t ∷ ts) h = (f t h.0, each P Q f ts h.1)

-- ---- the loop's own stages

step_going : (given : Givens) (s : Sweep) (k : ℕ) → going s ≡ true → sweep_step given.distance k s ≡ (stage given s).to
unfolding sweep_step
step_going given s k w = ap (λ (b : Bool). cond b (sweep_tidied given.distance s (tidy s.edges s.travelled)) s) w

step_done : (given : Givens) (s : Sweep) → going s ≡ false → (k : ℕ) → sweep_step given.distance k s ≡ s
unfolding sweep_step
step_done given s w k = ap (λ (b : Bool). cond b (sweep_tidied given.distance s (tidy s.edges s.travelled)) s) w

same_step : (given : Givens) (k m : ℕ) (s : Sweep) → sweep_step given.distance k s ≡ sweep_step given.distance m s
unfolding sweep_step
same_step given k m s = refl

rounds_going : (given : Givens) (s : Sweep) (m : ℕ) → going s ≡ true → rounds (sweep_step given.distance) (suc m) s ≡ rounds (sweep_step given.distance) m (stage given s).to
rounds_going given s m w = steady (sweep_step given.distance) (same_step given) m s ∙ ap (rounds (sweep_step given.distance) m) (step_going given s 0 w)

pub rounds_done : (given : Givens) (s : Sweep) (m : ℕ) → going s ≡ false → rounds (sweep_step given.distance) m s ≡ s
rounds_done given s m w = still (sweep_step given.distance) s (step_done given s w) m

module _ (given : Givens) (near : finite given.distance ≡ true) (b : ℕ) where
  pub record StageIs (t : Stage) : Type 0 where
    pub works : going t.to ≡ true → Works (tidied t).edges (found t) t.to.edges
    pub finds : Looks t → Finds (tidied t).edges (found t)
    pub lives : (x : ℕ) → (links (tidied t).edges).live x ≡ 1 → (links t.from.edges).live x ≡ 1
    pub stands : Looks t → Stands (tidied t).edges
    pub never : le given.distance (add t.from.travelled infinity) ≡ true
    pub before : going t.to ≡ true → lt t.to.travelled given.distance ≡ true
    pub settled : Looks t → ((tidied t).changed ≡ false) × (find_tidy (tidied t).edges t.from.travelled ≡ Settled)
    pub seeks : Looks t → found t ≢ Stalled
    pub lines : (x : ℕ) → (links (tidied t).edges).live x ≡ 1 → LeftNormal (edge_line (edge (tidied t).edges x))
    pub refused : number t.to.refusal ≡ 17 → (tidied t).stalled ≡ true
    pub reached : t.to.ended ≡ true → Looks t × Reaches given t.from (found t)
    pub slots : number t.to.refusal ≡ 15 → Looks t × Fills given t.from (tidied t).edges (found t)
    pub only : Looks t → granted t.to.refusal ≡ false → number t.to.refusal ≡ 15

  -- the stages ts from the sweep s on, of m rounds that lead to z
  pub record RunIs (m : ℕ) (s z : Sweep) (ts : List Stage) : Type 0 where
    pub leads : Leads given s ts z
    pub all : Each StageIs ts
    pub adds : Adds s z (events ts)
    pub bound : (k : ℕ) → Bound b s (take k (events ts))
    pub limit : length (events ts) ≤ m

  no_stage : (m : ℕ) (s z : Sweep) → s ≡ z → s.collapses + s.divides ≤ b + 3 * s.joins → RunIs m s z []
  unfolding events
  no_stage m s z q h = record {
    leads = q;
    all = tt;
    adds = subst (λ (y : Sweep). Adds s y []) q (adds_none s);
    bound = λ k. none k;
    limit = omega arith;
  }
    where
      none : (k : ℕ) → Bound b s (take k [])
      none zero = bound_none b s h
      none (suc k) = bound_none b s h

  module _ (i : ℕ) (s : Sweep) (h : State given near b i s) (w : going s ≡ true) where
    abbrev t : Stage
    t = stage given s

    now : Staged given near b i s t.to (tidied t).edges (found t) (tidied t).stalled
    now = staged given near b i s h w

    now_adds : Adds s t.to (completed t)
    unfolding completed
    now_adds = now.adds

    is : StageIs t
    is = record {
      works = now.works;
      finds = stage_finds given near b i s h w;
      lives = stage_lives given near b i s h w;
      stands = stage_stands given near b i s h w;
      never = stage_never given near b i s h w;
      before = now.before;
      settled = stage_settled given near b i s h w;
      seeks = stage_seeks given near b i s h w;
      lines = stage_lines given near b i s h w;
      refused = now.refused;
      reached = now.reached;
      slots = now.slots;
      only = now.only;
    }

    stage_more : (m : ℕ) (z : Sweep) (ts : List Stage) → RunIs m t.to z ts → RunIs (suc m) s z (t ∷ ts)
    unfolding events
    stage_more m z ts r = record {
      leads = (refl, refl, r.leads);
      all = (is, r.all);
      adds = adds_then s t.to z (completed t) (events ts) now_adds r.adds;
      bound = by_any_point (Bound b s) (completed t) (events ts) (completed_one t) (bound_none b s h.bounded)
          (λ k. bound_then b s t.to (completed t) (take k (events ts)) now_adds (r.bound k));
      limit = omega (arith, length-append (completed t) (events ts), completed_one t, r.limit);
    }

  pub run_law : (m i : ℕ) (s : Sweep) → State given near b i s → RunIs m s (rounds (sweep_step given.distance) m s) (stages given m s)
  unfolding stages rounds
  run_law zero i s h = no_stage 0 s s refl h.bounded
  run_law (suc m) i s h = go (going s) refl (λ w. run_law m (suc i) (stage given s).to (staged given near b i s h w).state)
    where
      go : (o : Bool) → going s ≡ o → (going s ≡ true → RunIs m (stage given s).to (rounds (sweep_step given.distance) m (stage given s).to) (stages given m (stage given s).to))
          → RunIs (suc m) s (rounds (sweep_step given.distance) (suc m) s) (cond o (stage given s ∷ stages given m (stage given s).to) [])
      go true w r = subst (λ (z : Sweep). RunIs (suc m) s z (stage given s ∷ stages given m (stage given s).to)) (sym (rounds_going given s m w)) (stage_more i s h w m _ _ (r w))
      go false w r = no_stage (suc m) s (rounds (sweep_step given.distance) (suc m) s) (sym (rounds_done given s (suc m) w)) h.bounded

  step_state : (i : ℕ) (s : Sweep) → State given near b i s → State given near b (suc i) (sweep_step given.distance i s)
  unfolding sweep_step
  step_state i s h = go (going s) refl
    where
      go : (o : Bool) → going s ≡ o → State given near b (suc i) (cond o (stage given s).to s)
      go true w = (staged given near b i s h w).state
      go false w = record {
        bounded = h.bounded;
        most = omega (arith, h.most);
        all = λ e. absurd (false≢true (sym w ∙ e));
        on = λ e. absurd (false≢true (sym w ∙ e));
        stops = h.stops;
        other = h.other;
      }

  pub rounds_state : (s : Sweep) → State given near b 0 s → (k : ℕ) → State given near b k (rounds (sweep_step given.distance) k s)
  rounds_state s h k = rounds_keep (sweep_step given.distance) (State given near b) s h step_state k
