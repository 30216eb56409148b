-- A collapse and a split on a tidied front keep the rings, and pay for themselves.
use mathlib.Core.Path.{◌≡◌, refl, sym, ap, ◌∙◌, subst}
use mathlib.Core.Logic.{◌≢◌}
use mathlib.Core.Bool.{Bool, true, false}
use mathlib.Core.List.{List}
use Prim.Native.Nat.{ℕ, suc, ◌+◌, ◌≤◌, ◌<◌}
use native.Mathlib.Omega.{arith}
use lib.Dec.{ltb}
use lib.ListN.{length}
use lib.Ieee.{Float}
use borrow.Author.Tests.{ltb-true, ltb-false}
use Rattle.plane.specs.declared.PlanarPoint.{PlanarPoint}
use Rattle.front.specs.declared.Edge.{Edge}
use Rattle.front.specs.declared.Front.{Front}
use Rattle.front.specs.declared.Moving.{Moving}
use Rattle.std.specs.Prelude.{Option, Some}
use Rattle.front.specs.Edges.{edge, set_start, remove, vertex, altered, anchor_at, anchor, then_remove, collapse}
use Rattle.front.specs.Splitting.{free_step, free, one_ring, split_linked}
use Rattle.front.specs.Links.{bit, links, Out, Met}
use Rattle.front.specs.Velocity.{Moves}
use Rattle.front.proofs.Demand.Links
use Rattle.front.proofs.Demand.KeepsRings
use Rattle.front.proofs.Demand.Links.{RingsOf, live_next, live_prev, prev_next, Same, out_after}
use Rattle.front.proofs.Demand.KeepsRings.{Parted}
use Rattle.front.proofs.Demand.Views.{live_in, remove_length, start_same, start_length, split_length, split_met}
use Rattle.base.proofs.Laws.{rounds_keep}
use Rattle.base.proofs.Choices.{by_test}
use Rattle.front.proofs.Demand.Kept.{Kept, out_of, starts, one_ring_same}
use Rattle.front.proofs.Demand.Tidying.{Tidied}

-- ---- a collapse

-- the front g after the collapse of x in f
abbrev pub Collapsed : List Edge → ℕ → ℕ → ℕ → Front → Type 0
Collapsed f events bound x g = (g.stalled ≡ false) × Kept g.edges (suc events) bound × Out (links f) (links g.edges) x

collapse_at : (f : List Edge) (at : Float) (events bound x s : ℕ) (t : Float) → Tidied f at events bound → (links f).live x ≡ 1 → (m : Moving)
    → Collapsed f events bound x (then_remove x (anchor_at f s t (Some m)))
unfolding then_remove anchor_at altered
collapse_at f at events bound x s t k a m =
    let g : List Edge = set_start f s m.at t in
    let z : Same (links f) (links g) = start_same f k.kept.size s m.at t in
    let u : Out (links f) (links (remove g x)) x =
    out_after (links f) (links g) (links (remove g x)) x z (out_of g events bound x (starts f events bound s m.at t k.kept) (z.lives x ∙ a)) in
    (refl, record { held = KeepsRings.collapse 128 (links f) (links (remove g x)) events bound x k.kept.held k.clean a u; size = remove_length g x (start_length f s m.at t k.kept.size) }, u)

pub collapse_law : (f : List Edge) (at : Float) (events bound x : ℕ) (t : Float) → Tidied f at events bound → Moves f → (links f).live x ≡ 1
    → Collapsed f events bound x (collapse f x t)
unfolding collapse anchor
collapse_law f at events bound x t k moves a =
    let n : ℕ = (edge f x).next in
    let m : (m : Moving) × (vertex f n t ≡ Some m) = moves n (live_next (links f) k.kept.held.rs k.kept.held.rings x a) t in
    subst (λ (v : Option Moving). Collapsed f events bound x (then_remove x (anchor_at f n t v))) (sym m.1) (collapse_at f at events bound x n t k a m.0)

-- ---- a split

free_round : (f : List Edge) (k s : ℕ) → (s < 128 → (links f).live s ≡ 0) → free_step f k s < 128 → (links f).live (free_step f k s) ≡ 0
unfolding free_step
free_round f k s h =
    by_test (λ (n : ℕ). n < 128 → (links f).live n ≡ 0) (ltb s 128) (λ q. h)
    (λ q. by_test (λ (n : ℕ). n < 128 → (links f).live n ≡ 0) (edge f k).alive (λ e l. absurd (omega arith)) (λ e l. ap bit e))

-- the slot found, if one is, is not alive
pub free_law : (f : List Edge) → free f < 128 → (links f).live (free f) ≡ 0
unfolding free
free_law f = rounds_keep (free_step f) (λ i s. s < 128 → (links f).live s ≡ 0) 128 (λ h. absurd (omega arith)) (free_round f) 128

-- it is the first: each slot before it is alive
record FreeAt (f : List Edge) (k s : ℕ) : Type 0 where
  past : s < 128 → s < k
  taken : (x : ℕ) → x < s → x < 128 → x < k → (links f).live x ≡ 1

free_at : (f : List Edge) (k s : ℕ) → FreeAt f k s → FreeAt f (suc k) (free_step f k s)
unfolding free_step
free_at f k s h =
    by_test (FreeAt f (suc k)) (ltb s 128)
    (λ q. record { past = λ l. omega (arith, h.past l); taken = λ x a b c. h.taken x a b (omega (arith, h.past (ltb-true s 128 q))) })
    (λ q. by_test (FreeAt f (suc k)) (edge f k).alive
    (λ e. record { past = λ l. absurd (omega arith); taken = λ x a b c. go x b c e (ltb-false s 128 q) (ltb x k) refl })
    (λ e. record { past = λ l. omega arith; taken = λ x a b c. h.taken x (omega (arith, ltb-false s 128 q)) b a }))
  where
    go : (x : ℕ) → x < 128 → x < suc k → (edge f k).alive ≡ true → 128 ≤ s → (b : Bool) → ltb x k ≡ b → (links f).live x ≡ 1
    go x a c e z true q = h.taken x (omega arith) a (ltb-true x k q)
    go x a c e z false q = subst (λ (y : ℕ). (links f).live y ≡ 1) (omega (arith, ltb-false x k q)) (ap bit e)

pub free_first : (f : List Edge) (x : ℕ) → x < free f → x < 128 → (links f).live x ≡ 1
unfolding free
free_first f x a b = (rounds_keep (free_step f) (FreeAt f) 128 (record { past = λ l. absurd (omega arith); taken = λ y l m n. absurd (omega arith) }) (free_at f) 128).taken x a b b

-- what the event search owes: live edges, the one hit neither the vertex's own nor the one before it
pub record Hits (f : List Edge) (v e : ℕ) : Type 0 where
  pub vertex : (links f).live v ≡ 1
  pub hit : (links f).live e ≡ 1
  pub other : e ≢ v
  pub off : e ≢ (edge f v).previous

abbrev pub Parts : ℕ → ℕ → Bool → List Edge → Type 0
Parts events bound true g = Kept g (suc events) bound
Parts events bound false g = Kept g events (bound + 3)

live_apart : (f : List Edge) (x s : ℕ) → (links f).live x ≡ 1 → (links f).live s ≡ 0 → x ≢ s
live_apart f x s a z q = omega (arith, ap (links f).live q)

module _ (f : List Edge) (at : Float) (events bound v e s : ℕ) (p : PlanarPoint) (t : Float) (k : Tidied f at events bound) (w : Hits f v e) (h : s < 128) (z : (links f).live s ≡ 0) where
  abbrev g : List Edge
  g = split_linked f v e s (edge f v).previous (edge f e) p t

  -- what a split does to the links
  pub split_links : Met (links f) (links g) v e s
  split_links = split_met f v e s p t k.kept.size h
      (live_in f (edge f v).previous before) (live_in f (edge f e).next after) (live_in f e w.hit) (live_in f v w.vertex)
      (live_apart f (edge f v).previous s before z) (live_apart f (edge f e).next s after z) (live_apart f e s w.hit z) (live_apart f v s w.vertex z)
      (λ q. w.off (sym q))
      (λ q. w.off (sym (prev_next (links f) k.kept.held.rs R e w.hit) ∙ ap (links f).prev q))
    where
      R : RingsOf (links f) k.kept.held.rs
      R = k.kept.held.rings

      before : (links f).live (edge f v).previous ≡ 1
      before = live_prev (links f) k.kept.held.rs R v w.vertex

      after : (links f).live (edge f e).next ≡ 1
      after = live_next (links f) k.kept.held.rs R e w.hit

  pub split_law : Parts events bound (one_ring f v e) g
  split_law =
      subst (λ (b : Bool). Parts events bound b g) (sym (one_ring_same f events bound v e k.kept w.vertex w.other))
      (sized (Links.one_ring 128 (links f) v e)
      (KeepsRings.split 128 (links f) (links g) events bound v e s k.kept.held
      (record { vertex = w.vertex; edge = w.hit; apart = w.other; off = w.off; free = z; slot = h })
      split_links))
    where
      size : length g ≡ 128
      size = split_length f v e s (edge f v).previous (edge f e) p t k.kept.size

      sized : (b : Bool) → Parted 128 (links g) events bound b → Parts events bound b g
      sized true i = record { held = i; size = size }
      sized false i = record { held = i; size = size }
