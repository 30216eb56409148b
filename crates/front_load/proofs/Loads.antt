-- A round of the loading of a ring, and where it stops. Assumes nothing.
use Prim.Native.Nat.{ℕ, ◌+◌, ◌-◌, ◌≤◌, ◌<◌}
use mathlib.Core.Bool.{Bool, true, false, cond, ◌&&◌}
use mathlib.Core.List.{List}
use mathlib.Core.Path.{◌≡◌, refl, sym, ap, ◌∙◌}
use native.Mathlib.Omega.{arith}
use borrow.Author.Tests.{lt-ltb, le-ltb, ltb-true}
use lib.Dec.{ltb}
use lib.ListN.{set}
use lib.Ieee.{Float}
use Rattle.error.specs.declared.Refusal.{Refusal}
use Rattle.error.specs.declared.Refusal.TheVariants.{Granted, Slots, Collapses}
use Rattle.error.specs.Refusals.{granted, number, values}
use Rattle.error.proofs.Laws.{granted_is}
use Rattle.base.specs.Loop.{rounds}
use Rattle.base.proofs.Laws.{no_round, next_round, ends, stays_to, still, rounds_keep}
use Rattle.plane.specs.declared.PlanarPoint.{PlanarPoint}
use Rattle.ring.specs.Ring.{following}
use Rattle.front.specs.declared.Edge.{Edge}
use Rattle.front.specs.declared.Line.{Line}
use Rattle.front.specs.declared.Loaded.{Loaded}
use Rattle.std.specs.Prelude.{Option, None, Some}
use Rattle.front.specs.Lines.{through}
use Rattle.front.specs.Loading.{loaded_nothing, load_vertex, loaded_edge, has_room, load_line, load_edge, load_step, load_refused, ring_begun, load_ring}
use Rattle.front_load.specs.Next.{fits, load_next}

-- the front while a ring loads
abbrev pub loaded_at : List Edge → ℕ → ℕ → Refusal → Loaded
loaded_at f used rings r = record { edges = f; used = used; rings = rings; refusal = r }

-- the line of edge k, as the code comes by it
pub line_is : (ps : List Float) (n : ℕ) (back : Bool) (origin : PlanarPoint) (k : ℕ) (a : PlanarPoint) (x y : Option Line) →
    a ≡ load_vertex ps n back origin k → x ≡ through a (load_vertex ps n back origin (following n k)) → x ≡ y →
    through (load_vertex ps n back origin k) (load_vertex ps n back origin (following n k)) ≡ y
line_is ps n back origin k a x y ea ex ey = ap (λ (z : PlanarPoint). through z (load_vertex ps n back origin (following n k))) (sym ea) ∙ sym ex ∙ ey

module _ (ps : List Float) (n : ℕ) (back : Bool) (origin : PlanarPoint) (d : Float) (s₀ : Loaded) where
  abbrev step : ℕ → Loaded → Loaded
  step = load_step ps n back origin d s₀.used

  -- the front after k rounds: nothing is refused yet
  pub record So (s : Loaded) (k : ℕ) : Type 0 where
    pub same : s ≡ rounds step k (ring_begun s₀)
    pub refusal : s.refusal ≡ Granted
    pub used : s.used ≡ s₀.used + k

  -- before the first round; a front that is refused already makes none
  pub begins : granted s₀.refusal ≡ true → So (ring_begun s₀) 0
  unfolding ring_begun
  begins h = record { same = sym (no_round step _); refusal = granted_is s₀.refusal h; used = omega arith }

  pub refused_already : granted s₀.refusal ≡ false → ring_begun s₀ ≡ load_ring ps n back origin d s₀
  unfolding ring_begun load_ring load_step
  refused_already h = sym (still step (ring_begun s₀) (λ m. rw h refl) n)

  -- after the last one the ring is loaded
  pub ring_loaded : (s : Loaded) (k : ℕ) → k ≤ n → n ≤ k → So s k → s ≡ load_ring ps n back origin d s₀
  unfolding load_ring
  ring_loaded s k l h so = ends step (ring_begun s₀) s k n l h so.same

  module _ (s : Loaded) (k : ℕ) (so : So s k) (l : k < n) where
    round : (x : Option Line) → through (load_vertex ps n back origin k) (load_vertex ps n back origin (following n k)) ≡ x →
        rounds step (k + 1) (ring_begun s₀) ≡ load_line d s₀.used n k (load_vertex ps n back origin k) s x
    unfolding load_step load_edge granted number values
    round x e =
        let line : Option Line = through (load_vertex ps n back origin k) (load_vertex ps n back origin (following n k)) in
        next_round step k (ring_begun s₀) ∙ ap (step k) (sym so.same) ∙
        ap (λ (r : Refusal). cond (granted r) (load_line d s₀.used n k (load_vertex ps n back origin k) s line) s) so.refusal ∙
        ap (load_line d s₀.used n k (load_vertex ps n back origin k) s) e

    -- one edge more
    pub load_goes : (e : Line) (a : PlanarPoint) (x : Edge) →
        through (load_vertex ps n back origin k) (load_vertex ps n back origin (following n k)) ≡ Some e → s.used < 128 →
        a ≡ load_vertex ps n back origin k → x ≡ loaded_edge e s₀.used n k a → So (loaded_at (set s.edges s.used x) (s.used + 1) s.rings s.refusal) (k + 1)
    unfolding load_line has_room
    load_goes e a x is room ea ex = record {
      same = sym (round (Some e) is ∙ rw (lt-ltb s.used 128 room, ex, ea, so.refusal) refl);
      refusal = so.refusal;
      used = omega (arith, so.used);
    }

    -- the first refusal is the last
    stops : (q : Refusal) → granted q ≡ false → rounds step (k + 1) (ring_begun s₀) ≡ load_refused s q → load_refused s q ≡ load_ring ps n back origin d s₀
    unfolding load_step load_ring load_refused
    stops q g e = sym (stays_to step (ring_begun s₀) (load_refused s q) (k + 1) n (omega arith) e (λ m. rw g refl))

    -- an edge of no length
    pub stops_empty : through (load_vertex ps n back origin k) (load_vertex ps n back origin (following n k)) ≡ None →
        load_refused s (Collapses d) ≡ load_ring ps n back origin d s₀
    unfolding load_line granted number values
    stops_empty x = stops (Collapses d) refl (round None x)

    -- no room
    pub stops_full : (e : Line) → 128 ≤ s.used → through (load_vertex ps n back origin k) (load_vertex ps n back origin (following n k)) ≡ Some e →
        load_refused s (Slots (s.used + (n - k))) ≡ load_ring ps n back origin d s₀
    unfolding load_line has_room granted number values
    stops_full e full x = stops (Slots (s.used + (n - k))) refl (round (Some e) x ∙ rw (le-ltb s.used 128 full) refl)

-- ---- the next ring, for callers: where the numbers fit it is loaded, and they still fit

pub next_is : (ps : List Float) (n : ℕ) (back : Bool) (origin : PlanarPoint) (d : Float) (s : Loaded) → s.used < 129 → s.rings < 129 → n < 129 →
    load_next ps n back origin d s ≡ load_ring ps n back origin d s
unfolding load_next fits
next_is ps n back origin d s u r l = rw (lt-ltb s.used 129 u, lt-ltb s.rings 129 r, lt-ltb n 129 l) refl

-- at most 128 slots are in use, in so many rings
abbrev InUse : ℕ → Loaded → Type 0
InUse r s = (s.used < 129) × (s.rings ≡ r)

module _ (d : Float) (first n k r : ℕ) (a : PlanarPoint) (s : Loaded) (h : InUse r s) where
  line_keeps : (x : Option Line) → InUse r (load_line d first n k a s x)
  unfolding load_line load_refused has_room
  line_keeps None = h
  line_keeps (Some l) = go (ltb s.used 128) refl
    where
      go : (b : Bool) → ltb s.used 128 ≡ b →
          InUse r (cond b
          (loaded_at (set s.edges s.used (loaded_edge l first n k a)) (s.used + 1) s.rings Granted)
          (loaded_at s.edges s.used s.rings (Slots (s.used + (n - k)))))
      go true e = let i : s.used < 128 = ltb-true s.used 128 e in (omega arith, h.1)
      go false e = h

module _ (ps : List Float) (n : ℕ) (back : Bool) (origin : PlanarPoint) (d : Float) where
  step_keeps : (first k r : ℕ) (s : Loaded) → InUse r s → InUse r (load_step ps n back origin d first k s)
  unfolding load_step load_edge
  step_keeps first k r s h = go (granted s.refusal)
    where
      go : (b : Bool) → InUse r (cond b (load_edge d first n k (load_vertex ps n back origin k) (load_vertex ps n back origin (following n k)) s) s)
      go true = line_keeps d first n k r _ s h (through (load_vertex ps n back origin k) (load_vertex ps n back origin (following n k)))
      go false = h

  pub ring_keeps : (s : Loaded) → s.used < 129 → ((load_ring ps n back origin d s).used < 129) × ((load_ring ps n back origin d s).rings ≡ s.rings + 1)
  unfolding load_ring ring_begun
  ring_keeps s u =
      rounds_keep (load_step ps n back origin d s.used) (λ m. InUse (s.rings + 1)) (ring_begun s) (u, refl) (λ k a h. step_keeps s.used k (s.rings + 1) a h) n

pub nothing_in_use : (loaded_nothing.used < 129) × (loaded_nothing.rings ≡ 0)
unfolding loaded_nothing
nothing_in_use = (omega arith, refl)
