-- Each step of an offset keeps the front's links those of rings.
use mathlib.Core.Path.{◌≡◌, refl, sym, ap, ◌∙◌, subst}
use mathlib.Core.Logic.{◌≢◌}
use mathlib.Core.Bool.{Bool, true, false}
use mathlib.Core.List.{List, [], ◌∷◌, ◌++◌}
use Prim.Native.Nat.{ℕ, suc, ◌+◌, ◌≤◌, ◌<◌}
use native.Mathlib.Omega.{arith}
use native.Mathlib.Decide.{dec_lt}
use lib.ListN.{length}
use Rattle.base.proofs.Occurrences.{same_eq, same_ne, occ, occ_nil, occ_cons, Cut, cut}
use Rattle.base.proofs.Choices.{by_cases}
use Rattle.front.specs.Links.{Links, Out, Met}
use Rattle.front.proofs.Demand.Chain.{Chain, chain_cut}
use Rattle.front.proofs.Demand.Rings.{Ring, ring, occs, occs_cons, spare, spare_cons, edges, edges_cons, linked_frame, Focus, focus}
use Rattle.front.proofs.Demand.Remove.{without, remove_rings, remove_spare, remove_spare_le, remove_edges}
use Rattle.front.proofs.Demand.Split.{divide_rings, join_rings, divide_spare, join_spare}
use Rattle.front.proofs.Demand.Walk.{meets_in, meets_out}
use Rattle.front.proofs.Demand.Links.{Dropped, RingsOf, Held, From, from, ring_len, alone, short, ring_len_is, one_ring, Tidy}

module _ (room : ℕ) where
  -- ---- an edge is taken out

  out_slots : (L L' : Links) (x : ℕ) → Out L L' x → ((s : ℕ) → room ≤ s → L.live s ≡ 0) → (s : ℕ) → room ≤ s → L'.live s ≡ 0
  out_slots L L' x u b s k = by_cases s x
      (λ e. ap L'.live e ∙ u.lives.here)
      (λ d. u.lives.there s d ∙ b s k)

  -- the front after a step, with fewer edges
  pub record Fewer (L' : Links) (events bound size : ℕ) : Type 0 where
    pub held : Held room L' events bound
    pub less : edges held.rs < size

  pub take_out : (L L' : Links) (events bound x : ℕ) (h : Held room L events bound) → L.live x ≡ 1 → Out L L' x → Fewer L' events bound (edges h.rs)
  take_out L L' events bound x h a u =
      let f : From L x h.rs = from L x h.rs h.rings a in
      record {
        held = record {
          rs = without f.others f.rest;
          rings = remove_rings L.next L.prev L.live L'.next L'.prev L'.live x f.others f.rest f.rings u;
          within = omega (arith, h.within, f.spares, remove_spare_le L.next L.prev L.live L'.next L'.prev L'.live x f.others f.rest);
          slots = out_slots L L' x u h.slots;
        };
        less = omega (arith, f.sizes, remove_edges L.next L.prev L.live L'.next L'.prev L'.live x f.others f.rest);
      }

  pub collapse : (L L' : Links) (events bound x : ℕ) → Held room L events bound → Tidy room L → L.live x ≡ 1 → Out L L' x → Held room L' (suc events) bound
  collapse L L' events bound x h t a u =
      let f : From L x h.rs = from L x h.rs h.rings a in
      let three : 2 ≤ length f.others = omega (arith, t x a, ring_len_is room L x f.others f.rest f.rings h.slots) in
      record {
        rs = without f.others f.rest;
        rings = remove_rings L.next L.prev L.live L'.next L'.prev L'.live x f.others f.rest f.rings u;
        within = omega (arith, h.within, f.spares, remove_spare L.next L.prev L.live L'.next L'.prev L'.live x f.others f.rest three);
        slots = out_slots L L' x u h.slots;
      }

  -- ---- a small ring is dropped

  pub drop_ring : (L L' : Links) (events bound x : ℕ) (h : Held room L events bound) → L.live x ≡ 1 → ring_len room L x < 3 → Dropped L L' x
      → Fewer L' events bound (edges h.rs)
  drop_ring L L' events bound x h a small u =
      let f : From L x h.rs = from L x h.rs h.rings a in
      record {
        held = record {
          rs = f.rest;
          rings = gone f.others f.rest f.rings (omega (arith, ring_len_is room L x f.others f.rest f.rings h.slots));
          within = omega (arith, h.within, f.spares, spare_cons x f.others f.rest);
          slots = λ s k. by_cases s x
              (λ e. ap L'.live e ∙ u.first)
              (λ d. by_cases s (L.next x)
              (λ e. ap L'.live e ∙ u.second)
              (λ g. u.rest s d g ∙ h.slots s k));
        };
        less = omega (arith, f.sizes, edges_cons x f.others f.rest);
      }
    where
      two : (xs : List ℕ) → Chain L.next L.prev x xs x → length xs ≤ 1 → (s : ℕ) → s ≢ x → s ≢ L.next x → occ s xs ≡ 0
      two [] c l s d g = occ_nil s
      two (y ∷ []) c l s d g = omega (arith, occ_cons s y [], occ_nil s, same_ne s y (λ q. g (q ∙ sym c.0)))
      two (y ∷ z ∷ zs) c l s d g = absurd (omega arith)

      second_in : (xs : List ℕ) → Chain L.next L.prev x xs x → 0 < occ (L.next x) (x ∷ xs)
      second_in [] c = omega (arith, occ_cons (L.next x) x [], same_eq (L.next x) x c.0)
      second_in (y ∷ ys) c = omega (arith, occ_cons (L.next x) x (y ∷ ys), occ_cons (L.next x) y ys, same_eq (L.next x) y c.0)

      gone : (xs : List ℕ) (rest : List Ring) → RingsOf L (ring x xs ∷ rest) → length xs ≤ 1 → RingsOf L' rest
      gone xs rest R l =
          let n : ℕ = L.next x in
          record {
            linked = linked_frame L.next L.prev L'.next L'.prev rest R.linked.1 (λ s k. u.nexts s) (λ s k. u.prevs s);
            once = λ s. by_cases s x
                (λ e. omega (arith, ap (λ (k : ℕ). occs k rest) e, ap L'.live e, u.first, (alone L x xs rest R).1))
                (λ d. by_cases s n
                (λ e. omega (arith, ap (λ (k : ℕ). occs k rest) e, ap L'.live e, u.second, second_in xs R.linked.0, R.once n, R.bit n, occs_cons n x xs rest, occ_cons n x xs))
                (λ g. omega (arith, u.rest s d g, R.once s, occs_cons s x xs rest, same_ne s x d, two xs R.linked.0 l s d g)));
            bit = λ s. by_cases s x
                (λ e. omega (arith, ap L'.live e, u.first))
                (λ d. by_cases s n
                (λ e. omega (arith, ap L'.live e, u.second))
                (λ g. omega (arith, u.rest s d g, R.bit s)));
          }

  -- ---- a split

  met_slots : (L L' : Links) (v e s : ℕ) → Met L L' v e s → s < room → ((t : ℕ) → room ≤ t → L.live t ≡ 0) → (t : ℕ) → room ≤ t → L'.live t ≡ 0
  met_slots L L' v e s u r b t k = u.lives.there t (λ q. omega arith) ∙ b t k

  -- a split that works: its two edges are live and apart, its slot is free
  pub record Fit (L : Links) (v e s : ℕ) : Type 0 where
    pub vertex : L.live v ≡ 1
    pub edge : L.live e ≡ 1
    pub apart : e ≢ v
    pub off : e ≢ L.prev v
    pub free : L.live s ≡ 0
    pub slot : s < room

  abbrev pub Parted : Links → ℕ → ℕ → Bool → Type 0
  Parted L' events bound true = Held room L' (suc events) bound
  Parted L' events bound false = Held room L' events (bound + 3)

  pub split : (L L' : Links) (events bound v e s : ℕ) → Held room L events bound → Fit L v e s → Met L L' v e s → Parted L' events bound (one_ring room L v e)
  split L L' events bound v e s h w u = go (dec_lt 0 (occ e f.others))
    where
      f : From L v h.rs
      f = from L v h.rs h.rings w.vertex

      sized : length f.others < room
      sized = short room L v f.others f.rest f.rings h.slots

      divides : (c : Cut e f.others) (B : List ℕ) → c.after ≡ B → Held room L' (suc events) bound
      divides c [] q =
          let l : Chain L.next L.prev v (c.before ++ e ∷ []) v = subst (λ (k : List ℕ). Chain L.next L.prev v k v) (c.is ∙ ap (λ (k : List ℕ). c.before ++ e ∷ k) q) f.rings.linked.0 in
          absurd (w.off (sym (chain_cut L.next L.prev v c.before e [] v l).1.1))
      divides c (b ∷ B) q =
          let is : f.others ≡ c.before ++ e ∷ b ∷ B = c.is ∙ ap (λ (k : List ℕ). c.before ++ e ∷ k) q in
          record {
            rs = ring v (c.before ++ e ∷ []) ∷ ring s (b ∷ B) ∷ f.rest;
            rings = divide_rings L.next L.prev L.live L'.next L'.prev L'.live v e s w.free u c.before b B f.rest
                (subst (λ (k : List ℕ). RingsOf L (ring v k ∷ f.rest)) is f.rings);
            within = omega (arith, h.within, f.spares, divide_spare v e s c.before b B f.rest, ap (λ (k : List ℕ). spare (ring v k ∷ f.rest)) is);
            slots = met_slots L L' v e s u w.slot h.slots;
          }

      joins : occ e f.others ≡ 0 → Held room L' events (bound + 3)
      joins none =
          let g : Focus L.next L.prev e f.rest = focus L.next L.prev e f.rest f.rings.linked.1
          (omega (arith, f.rings.once e, w.edge, occs_cons e v f.others f.rest, same_ne e v w.apart)) in
          let R : RingsOf L (ring v f.others ∷ ring e g.others ∷ g.rest) = record {
            linked = (f.rings.linked.0, g.linked);
            once = λ t. omega (arith, g.counts t, f.rings.once t, occs_cons t v f.others f.rest, occs_cons t v f.others (ring e g.others ∷ g.rest));
            bit = f.rings.bit;
          } in
          record {
            rs = ring v (f.others ++ s ∷ (g.others ++ e ∷ [])) ∷ g.rest;
            rings = join_rings L.next L.prev L.live L'.next L'.prev L'.live v e s w.free u f.others g.others g.rest R;
            within = omega (arith, h.within, f.spares, g.spares, spare_cons v f.others f.rest, spare_cons v f.others (ring e g.others ∷ g.rest), join_spare v e s f.others g.others g.rest);
            slots = met_slots L L' v e s u w.slot h.slots;
          }

      alone_v : occ v f.others ≡ 0
      alone_v = (alone L v f.others f.rest f.rings).0

      go : Dec (0 < occ e f.others) → Parted L' events bound (one_ring room L v e)
      go (yes k) =
          let c : Cut e f.others = cut e f.others k in
          subst (Parted L' events bound) (sym (meets_in L.next L.prev v f.others v e room f.rings.linked.0 alone_v sized k)) (divides c c.after refl)
      go (no k) =
          subst (Parted L' events bound) (sym (meets_out L.next L.prev v f.others v e room f.rings.linked.0 alone_v sized (omega arith))) (joins (omega arith))
