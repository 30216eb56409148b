-- Loading puts each ring into the slots after those in use.
use mathlib.Core.Path.{◌≡◌, refl, sym, ap, ◌∙◌, subst}
use mathlib.Core.Logic.{◌≢◌, ◌⊎◌, inl, inr}
use mathlib.Core.Bool.{Bool, true, false, true≢false, false≢true}
use mathlib.Core.List.{List, [], ◌∷◌}
use Prim.Native.Nat.{ℕ, suc, ◌+◌, ◌*◌, ◌≤◌, ◌<◌}
use native.Mathlib.Omega.{arith}
use native.Mathlib.Decide.{dec_lt}
use lib.Ieee.{Float}
use borrow.Author.Tests.{ltb-true, eq-eqb, ne_eqb, lt-ltb, le-ltb}
use lib.ListN.{set, replicate, length-replicate, get_or-replicate}
use Rattle.plane.specs.declared.PlanarPoint.{PlanarPoint}
use Rattle.front.specs.declared.Line.{Line}
use Rattle.front.specs.declared.Edge.{Edge}
use Rattle.std.specs.Prelude.{Option, None, Some}
use Rattle.front.specs.declared.Loaded.{Loaded}
use Rattle.error.specs.declared.Refusal.{Refusal}
use Rattle.error.specs.declared.Refusal.TheVariants.{Granted, Collapses}
use Rattle.error.specs.Refusals.{granted, number, values}
use Rattle.ring.specs.Ring.{following}
use Rattle.base.specs.Loop.{rounds}
use Rattle.front.specs.Edges.{unused, blank, edge}
use Rattle.front.specs.Lines.{through}
use Rattle.front.specs.Loading.{no_front, loaded_nothing, load_refused, load_vertex, loaded_edge, has_room, load_line, load_edge, load_step, ring_begun, load_ring}
use Rattle.front.specs.Links.{bit, links}
use Rattle.front.proofs.Demand.Rings.{Ring, spare, Threes, occs_nil}
use Rattle.front.proofs.Demand.Links.{RingsOf}
use Rattle.front.proofs.Demand.Load.{RingAt, last_ring, last_spare, last_threes, add_ring}
use Rattle.front.proofs.EdgeLaws.{edge_in, edge_out}
use Rattle.front.proofs.Demand.Views.{edge_here, edge_there}
use Rattle.base.proofs.Laws.{rounds_keep}
use Rattle.base.proofs.Choices.{by_test, by_cases}
use Rattle.front.proofs.Demand.Lines.{Lined, put}

spare_none : spare [] + 2 * 0 ≡ 0
unfolding spare
spare_none = omega arith

room_below : (s : Loaded) → has_room s ≡ true → s.used < 128
unfolding has_room
room_below s q = omega (arith, ltb-true s.used _ q)

-- the slot s is the edge of a ring of c edges from `first` on
record Slot (f : List Edge) (first c s : ℕ) : Type 0 where
  live : (links f).live s ≡ 1
  on : suc s < first + c → (links f).next s ≡ suc s
  last : suc s ≡ first + c → (links f).next s ≡ first
  back : first < s → suc ((links f).prev s) ≡ s
  wrap : s ≡ first → suc ((links f).prev s) ≡ first + c

slot_of : (f : List Edge) (first c k : ℕ) (l : Line) (a : PlanarPoint) → k < c → edge f (first + k) ≡ loaded_edge l first c k a → Slot f first c (first + k)
unfolding loaded_edge following
slot_of f first c k l a h q = record {
  live = ap (λ (e : Edge). bit e.alive) q;
  on = λ g. ap (λ (e : Edge). e.next) q ∙ rw (lt-ltb (k + 1) c (omega arith)) (omega arith);
  last = λ g. ap (λ (e : Edge). e.next) q ∙ rw (le-ltb (k + 1) c (omega arith)) (omega arith);
  back = λ g. ap (λ (e : Edge). suc e.previous) q ∙ rw (ne_eqb k 0 (λ i. omega arith)) (omega arith);
  wrap = λ g. ap (λ (e : Edge). suc e.previous) q ∙ rw (eq-eqb k 0 (omega arith)) (omega arith);
}

slot_same : (f g : List Edge) (first c s : ℕ) → edge g s ≡ edge f s → Slot f first c s → Slot g first c s
slot_same f g first c s q r = record {
  live = ap (λ (e : Edge). bit e.alive) q ∙ r.live;
  on = λ h. ap (λ (e : Edge). e.next) q ∙ r.on h;
  last = λ h. ap (λ (e : Edge). e.next) q ∙ r.last h;
  back = λ h. ap (λ (e : Edge). suc e.previous) q ∙ r.back h;
  wrap = λ h. ap (λ (e : Edge). suc e.previous) q ∙ r.wrap h;
}

ring_at : (f : List Edge) (first c : ℕ) → 0 < c → ((s : ℕ) → first ≤ s → s < first + c → Slot f first c s) → RingAt (links f) first c
ring_at f first c p r = record {
  lives = λ s h l. (r s h l).live;
  on = λ s h l. (r s h (omega arith)).on l;
  back = λ s h l. omega (arith, (r (suc s) (omega arith) l).back (omega arith));
  close = λ s h l. ((r s h (omega arith)).last l, omega (arith, (r first (omega arith) (omega arith)).wrap refl));
}

module _ (P : Line → Type 0) where
  -- the rings loaded so far: n edges in r rings
  pub record RingsIn (n r : ℕ) (s : Loaded) : Type 0 where
    pub rs : List Ring
    pub rings : RingsOf (links s.edges) rs
    pub live : (x : ℕ) → x < n → (links s.edges).live x ≡ 1
    pub rest : (x : ℕ) → n ≤ x → (links s.edges).live x ≡ 0
    pub used : s.used ≡ n
    pub count : s.rings ≡ r
    pub fits : n ≤ 128
    pub spares : spare rs + 2 * r ≡ n
    pub threes : Threes rs
    pub lined : Lined (λ i. P) s.edges

  abbrev pub LoadIs : ℕ → ℕ → Loaded → Type 0
  LoadIs n r s = granted s.refusal ≡ true → RingsIn n r s

  module _ (ps : List Float) (c : ℕ) (back : Bool) (origin : PlanarPoint) (d : Float) (s₀ : Loaded)
      (sound : (k : ℕ) → k < c → (l : Line) → through (load_vertex ps c back origin k) (load_vertex ps c back origin (following c k)) ≡ Some l → P l) where
    abbrev first : ℕ
    first = s₀.used

    -- after i edges of the ring
    record Part (i : ℕ) (s : Loaded) : Type 0 where
      before : granted s₀.refusal ≡ true
      used : s.used ≡ first + i
      count : s.rings ≡ s₀.rings + 1
      fits : first + i ≤ 128
      lined : Lined (λ i. P) s.edges
      old : (x : ℕ) → x < first → edge s.edges x ≡ edge s₀.edges x
      new : (x : ℕ) → first ≤ x → x < first + i → Slot s.edges first c x
      rest : (x : ℕ) → first + i ≤ x → (links s.edges).live x ≡ 0

    abbrev PartIs : ℕ → Loaded → Type 0
    PartIs i s = i ≤ c → granted s.refusal ≡ true → Part i s

    refused_part : (i : ℕ) (s : Loaded) (r : Refusal) → granted r ≡ false → PartIs i (load_refused s r)
    unfolding load_refused
    refused_part i s r q h g = absurd (false≢true (sym q ∙ g))

    line_part : (k : ℕ) (s : Loaded) (a : PlanarPoint) (x : Option Line) → (k < c → (l : Line) → x ≡ Some l → P l) → PartIs k s → granted s.refusal ≡ true → PartIs (suc k) (load_line d first c k a s x)
    unfolding load_line granted number values loaded_edge
    line_part k s a None good p g = refused_part (suc k) s (Collapses d) refl
    line_part k s a (Some l) good p g = by_test (PartIs (suc k)) (has_room s) stored (λ q. refused_part (suc k) s _ refl)
      where
        e : Edge
        e = loaded_edge l first c k a

        f : List Edge
        f = set s.edges s.used e

        stored : has_room s ≡ true → PartIs (suc k) (record { edges = f; used = s.used + 1; rings = s.rings; refusal = Granted })
        stored q h z =
            let w : Part k s = p (omega arith) g in
            let here : edge f (first + k) ≡ e = subst (λ (i : ℕ). edge f i ≡ e) w.used (edge_here s.edges s.used e w.lined.size (room_below s q)) in
            let there : (x : ℕ) → x ≢ first + k → edge f x ≡ edge s.edges x = λ x n. edge_there s.edges s.used x e (λ i. n (i ∙ w.used)) in
            record {
              before = w.before;
              used = omega (arith, w.used);
              count = w.count;
              fits = omega (arith, w.used, room_below s q);
              lined = put (λ i. P) s.edges s.used e (λ z. good (omega arith) l refl) w.lined;
              old = λ x i. there x (λ n. omega arith) ∙ w.old x i;
              new = λ x i j. by_cases x (first + k)
                  (λ n. subst (λ (y : ℕ). Slot f first c y) (sym n) (slot_of f first c k l a (omega arith) here))
                  (λ n. slot_same s.edges f first c x (there x n) (w.new x i (omega arith)));
              rest = λ x i. ap (λ (y : Edge). bit y.alive) (there x (λ n. omega arith)) ∙ w.rest x (omega arith);
            }

    step_part : (k : ℕ) (s : Loaded) → PartIs k s → PartIs (suc k) (load_step ps c back origin d first k s)
    unfolding load_step load_edge
    step_part k s p =
        by_test (PartIs (suc k)) (granted s.refusal) (λ q. line_part k s (load_vertex ps c back origin k) _ (sound k) p q) (λ q h g. absurd (false≢true (sym q ∙ g)))

    -- a ring of three or more is loaded after the others
    pub load_law : (n r : ℕ) → 3 ≤ c → LoadIs n r s₀ → LoadIs (n + c) (suc r) (load_ring ps c back origin d s₀)
    unfolding load_ring ring_begun
    load_law n r three h = go (rounds (load_step ps c back origin d first) c (ring_begun s₀)) (rounds_keep (load_step ps c back origin d first) PartIs (ring_begun s₀) start step_part c)
      where
        start : PartIs 0 (ring_begun s₀)
        start z g =
            let w : RingsIn n r s₀ = h g in
            record {
              before = g;
              used = omega arith;
              count = refl;
              fits = omega (arith, w.used, w.fits);
              lined = w.lined;
              old = λ x i. refl;
              new = λ x i j. absurd (omega arith);
              rest = λ x i. w.rest x (omega (arith, w.used));
            }

        go : (s : Loaded) → PartIs c s → LoadIs (n + c) (suc r) s
        go s p g = grown (p (omega arith) g) (h (p (omega arith) g).before)
          where
            grown : Part c s → RingsIn n r s₀ → RingsIn (n + c) (suc r) s
            grown w v =
                let at : first ≡ n = v.used in
                record {
                  rs = last_ring first c ∷ v.rs;
                  rings = add_ring (links s₀.edges) (links s.edges) first c v.rs three v.rings
                      (λ x i. v.rest x (omega arith))
                      (λ x i. (ap (λ (e : Edge). e.next) (w.old x i), ap (λ (e : Edge). e.previous) (w.old x i), ap (λ (e : Edge). bit e.alive) (w.old x i)))
                      (ring_at s.edges first c (omega arith) w.new)
                      w.rest;
                  live = λ x i. all x (omega arith) (dec_lt x first);
                  rest = λ x i. w.rest x (omega arith);
                  used = omega (arith, w.used);
                  count = omega (arith, w.count, v.count);
                  fits = omega (arith, w.fits);
                  spares = omega (arith, last_spare first c v.rs three, v.spares);
                  threes = last_threes first c v.rs three v.threes;
                  lined = w.lined;
                }
              where
                all : (x : ℕ) → x < first + c → Dec (x < first) → (links s.edges).live x ≡ 1
                all x i (yes j) = ap (λ (e : Edge). bit e.alive) (w.old x j) ∙ v.live x (omega (arith, v.used))
                all x i (no j) = (w.new x (omega arith) i).live

  -- the empty front
  nothing_edge : (i : ℕ) → edge no_front i ≡ unused
  unfolding no_front
  nothing_edge i = go (dec_lt i 128)
    where
      go : Dec (i < 128) → edge (replicate 128 unused) i ≡ unused
      go (yes h) = edge_in (replicate 128 unused) i h ∙ get_or-replicate 128 i unused blank h
      go (no h) = edge_out (replicate 128 unused) i (omega arith)

  pub load_none : LoadIs 0 0 loaded_nothing
  unfolding loaded_nothing no_front
  load_none g = record {
    rs = [];
    rings = record { linked = tt; once = λ s. occs_nil s ∙ sym (dead s); bit = λ s. omega (arith, dead s) };
    live = λ x i. absurd (omega arith);
    rest = λ x i. dead x;
    used = refl;
    count = refl;
    fits = omega arith;
    spares = spare_none;
    threes = tt;
    lined = record { lines = λ i a. absurd (false≢true (sym (ap (λ (e : Edge). e.alive) (nothing_edge i)) ∙ a)); size = length-replicate 128 unused };
  }
    where
      dead : (x : ℕ) → (links no_front).live x ≡ 0
      dead x = ap (λ (e : Edge). bit e.alive) (nothing_edge x)

-- ---- what loading may refuse with: a zero length, or the room

abbrev pub LoadRefusal : Refusal → Type 0
LoadRefusal r = granted r ≡ false → (number r ≡ 15) ⊎ (number r ≡ 16)

line_refusal : (d : Float) (first c k : ℕ) (a : PlanarPoint) (s : Loaded) (x : Option Line) → LoadRefusal (load_line d first c k a s x).refusal
unfolding load_line load_refused granted number values
line_refusal d first c k a s None = λ q. inr refl
line_refusal d first c k a s (Some l) = by_test (λ (x : Loaded). LoadRefusal x.refusal) (has_room s) (λ b q. absurd (true≢false q)) (λ b q. inl refl)

step_refusal : (ps : List Float) (c : ℕ) (back : Bool) (origin : PlanarPoint) (d : Float) (first k : ℕ) (s : Loaded) → LoadRefusal s.refusal
    → LoadRefusal (load_step ps c back origin d first k s).refusal
unfolding load_step load_edge
step_refusal ps c back origin d first k s h =
    by_test (λ (x : Loaded). LoadRefusal x.refusal) (granted s.refusal) (λ q. line_refusal d first c k (load_vertex ps c back origin k) s _) (λ q. h)

pub ring_refusal : (ps : List Float) (c : ℕ) (back : Bool) (origin : PlanarPoint) (d : Float) (s : Loaded) → LoadRefusal s.refusal
    → LoadRefusal (load_ring ps c back origin d s).refusal
unfolding load_ring ring_begun
ring_refusal ps c back origin d s h =
    rounds_keep (load_step ps c back origin d s.used) (λ i r. LoadRefusal r.refusal) (ring_begun s) h (step_refusal ps c back origin d s.used) c

pub none_refusal : LoadRefusal loaded_nothing.refusal
unfolding loaded_nothing granted number values
none_refusal q = absurd (true≢false q)
