-- Past the last live slot no round of the search changes anything. Assumes nothing.
use Prim.Native.Nat.{ℕ, zero, suc, ◌+◌, ◌<◌, ◌≤◌}
use mathlib.Core.Path.{◌≡◌, refl, sym, ap, ◌∙◌}
use mathlib.Core.Bool.{Bool, true, false, cond, not, ◌&&◌}
use mathlib.Core.List.{List}
use native.Mathlib.Omega.{arith}
use borrow.Author.Tests.{eqb-true, eqb-false}
use lib.Dec.{eqb}
use lib.Ieee.{Float}
use Rattle.plane.specs.declared.PlanarPoint.{PlanarPoint}
use Rattle.front.specs.declared.Edge.{Edge}
use Rattle.front.specs.declared.EventSearch.{EventSearch}
use Rattle.front.specs.Edges.{edge, vertex}
use Rattle.front.specs.NextEvent.{candidate, hit_at, hit_step, look_vertex, look_at, look_step}
use Rattle.base.specs.Loop.{rounds}
use Rattle.base.proofs.Laws.{goes_on, idle}
use Rattle.front_events.specs.Found.{used_step, used_slots}

-- the count, slot by slot
pub used_on : (f : List Edge) (k used more : ℕ) (e : Edge) → used ≡ rounds (used_step f) k 0 → e ≡ edge f k → more ≡ cond e.alive (k + 1) used → more ≡ rounds (used_step f) (k + 1) 0
unfolding used_step
used_on f k used more e h i j = goes_on (used_step f) 0 used more k h (j ∙ ap (λ (z : Edge). cond z.alive (k + 1) used) i)

pub used_most : (f : List Edge) (m : ℕ) → rounds (used_step f) m 0 ≤ m
unfolding rounds used_step
used_most f zero = omega arith
used_most f (suc m) = go (edge f m).alive (used_most f m)
  where
    go : (b : Bool) → rounds (used_step f) m 0 ≤ m → cond b (m + 1) (rounds (used_step f) m 0) ≤ suc m
    go true h = omega arith
    go false h = omega arith

apart : {k m : ℕ} → (k ≡ m → ⊥) → k < suc m → k < m
apart h i = omega arith

beyond : {k m : ℕ} → m + 1 ≤ k → k < suc m → ⊥
beyond a i = omega arith

used_last : (f : List Edge) (m k : ℕ) → rounds (used_step f) m 0 ≤ k → k < m → (edge f k).alive ≡ false
unfolding rounds used_step
used_last f zero k l i = absurd (omega arith)
used_last f (suc m) k l i = go (edge f m).alive refl l (λ a b. used_last f m k a b)
  where
    same : (b : Bool) → eqb k m ≡ b → (edge f m).alive ≡ false → (k < m → (edge f k).alive ≡ false) → (edge f k).alive ≡ false
    same true e h rest = ap (λ (z : ℕ). (edge f z).alive) (eqb-true k m e) ∙ h
    same false e h rest = rest (apart (eqb-false k m e) i)

    go : (b : Bool) → (edge f m).alive ≡ b → cond b (m + 1) (rounds (used_step f) m 0) ≤ k →
        (rounds (used_step f) m 0 ≤ k → k < m → (edge f k).alive ≡ false) → (edge f k).alive ≡ false
    go true e a rest = absurd (beyond a i)
    go false e a rest = same (eqb k m) refl e (rest a)

pub used_room : (f : List Edge) → used_slots f ≤ 128
unfolding used_slots
used_room f = used_most f 128

dead_past : (f : List Edge) (k : ℕ) → used_slots f ≤ k → k < 128 → (edge f k).alive ≡ false
unfolding used_slots
dead_past f k l i = used_last f 128 k l i

-- a round at a dead slot
neither : {S : Type 0} (b : Bool) (x y : S) → cond (b && false) x y ≡ y
neither true x y = refl
neither false x y = refl

dead_look : (f : List Edge) (t : Float) (k : ℕ) (s : EventSearch) → (edge f k).alive ≡ false → look_step f t k s ≡ s
unfolding look_step look_at
dead_look f t k s h =
    ap (λ (z : Bool). cond (not s.stalled && z) (look_vertex f t k (edge f k) s (vertex f k t)) s) h ∙ neither (not s.stalled) _ s

dead_hit : (f : List Edge) (t : Float) (slot before : ℕ) (p v : PlanarPoint) (k : ℕ) (s : EventSearch) → (edge f k).alive ≡ false → hit_step f t slot before p v k s ≡ s
unfolding hit_step candidate
dead_hit f t slot before p v k s h =
    ap (λ (z : Bool). cond (not s.stalled && (z && (not (eqb k slot) && not (eqb k before)))) (hit_at f t slot k (edge f k) p v s) s) h
    ∙ neither (not s.stalled) _ s

pub looks_used : (f : List Edge) (t : Float) (s : EventSearch) → rounds (look_step f t) 128 s ≡ rounds (look_step f t) (used_slots f) s
looks_used f t s = idle (look_step f t) s (used_slots f) 128 (used_room f) (λ k l i x. dead_look f t k x (dead_past f k l i))

pub hits_used : (f : List Edge) (t : Float) (slot before : ℕ) (p v : PlanarPoint) (s : EventSearch) →
    rounds (hit_step f t slot before p v) 128 s ≡ rounds (hit_step f t slot before p v) (used_slots f) s
hits_used f t slot before p v s =
    idle (hit_step f t slot before p v) s (used_slots f) 128 (used_room f) (λ k l i x. dead_hit f t slot before p v k x (dead_past f k l i))

pub dead_slot : (f : List Edge) (t : Float) (k : ℕ) (s : EventSearch) (e : Edge) → e ≡ edge f k → e.alive ≡ false → look_step f t k s ≡ s
dead_slot f t k s e i h = dead_look f t k s (ap (λ (z : Edge). z.alive) (sym i) ∙ h)
