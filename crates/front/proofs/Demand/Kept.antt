-- A front of 128 edges whose links are those of rings: what is read off by walking, an edge taken out, a vertex stored.
use mathlib.Core.Path.{◌≡◌, refl, sym, ap, ◌∙◌, subst}
use mathlib.Core.Logic.{◌≢◌, ◌⊎◌, inl, inr}
use mathlib.Core.Bool.{Bool, true, false, cond, true≢false, false≢true}
use mathlib.Core.List.{List, [], ◌∷◌}
use Prim.Native.Nat.{ℕ, zero, suc, ◌+◌, ◌≤◌, ◌<◌}
use native.Mathlib.Omega.{arith}
use native.Mathlib.Numerals.{add-one}
use native.Mathlib.Decide.{dec_lt}
use lib.Dec.{eqb}
use lib.Ieee.{Float}
use borrow.Author.Tests.{eq-eqb, ne_eqb, eqb-true, eqb-false}
use lib.ListN.{length}
use Rattle.plane.specs.declared.PlanarPoint.{PlanarPoint}
use Rattle.front.specs.declared.Edge.{Edge}
use Rattle.front.specs.declared.Round.{Round}
use Rattle.front.specs.declared.Reach.{Reach}
use Rattle.base.specs.Loop.{rounds}
use Rattle.front.specs.Edges.{edge, set_start, remove, round_on, round_step, ring_len}
use Rattle.front.specs.Splitting.{reach_on, reach_step, one_ring}
use Rattle.front.specs.Links.{links, along, Out}
use Rattle.front.proofs.Demand.Links
use Rattle.base.proofs.Laws.{stays_to, rounds_keep}
use Rattle.base.proofs.Occurrences.{same_eq, same_ne, same_self, same_pos, occ, occ_nil, occ_cons}
use Rattle.base.proofs.Choices.{by_cases}
use Rattle.front.proofs.Demand.Chain.{Chain}
use Rattle.front.proofs.Demand.Rings.{Ring, ring, edges}
use Rattle.front.proofs.Demand.Walk.{along_end, along_in, meets_in, meets_out}
use Rattle.front.proofs.Demand.Links.{RingsOf, Held, From, from, alone, short, ring_len_is, live_next, live_prev, Same, same_rings}
use Rattle.front.proofs.Demand.KeepsRings.{Fewer, take_out}
use Rattle.front.proofs.Demand.Views.{live_in, remove_length, remove_out, start_same, start_length}

pub record Kept (f : List Edge) (events bound : ℕ) : Type 0 where
  pub held : Held 128 (links f) events bound
  pub size : length f ≡ 128

pub kept_le : (f : List Edge) (e b e' b' : ℕ) → Kept f e b → e' + b ≤ e + b' → Kept f e' b'
kept_le f e b e' b' k h = record {
  held = record { rs = k.held.rs; rings = k.held.rings; within = omega (arith, k.held.within); slots = k.held.slots };
  size = k.size;
}

-- ---- an edge taken out, a vertex stored

pub out_of : (f : List Edge) (events bound x : ℕ) → Kept f events bound → (links f).live x ≡ 1 → Out (links f) (links (remove f x)) x
out_of f events bound x k a =
    remove_out f x k.size (live_in f x a)
    (live_in f (edge f x).previous (live_prev (links f) k.held.rs k.held.rings x a))
    (live_in f (edge f x).next (live_next (links f) k.held.rs k.held.rings x a))

-- a step that leaves fewer edges
pub record Less (f : List Edge) (events bound n : ℕ) : Type 0 where
  pub kept : Kept f events bound
  pub fewer : edges kept.held.rs < n

pub less_of : (f : List Edge) (events bound n : ℕ) → Fewer 128 (links f) events bound n → length f ≡ 128 → Less f events bound n
less_of f events bound n w l = record { kept = record { held = w.held; size = l }; fewer = w.less }

pub removes : (f : List Edge) (events bound x : ℕ) (k : Kept f events bound) → (links f).live x ≡ 1 → Less (remove f x) events bound (edges k.held.rs)
removes f events bound x k a =
    less_of (remove f x) events bound (edges k.held.rs)
    (take_out 128 (links f) (links (remove f x)) events bound x k.held a (out_of f events bound x k a))
    (remove_length f x k.size)

unfoldable pub starts : (f : List Edge) (events bound s : ℕ) (p : PlanarPoint) (t : Float) → Kept f events bound → Kept (set_start f s p t) events bound
starts f events bound s p t k =
    let q : Same (links f) (links (set_start f s p t)) = start_same f k.size s p t in
    record {
      held = record {
        rs = k.held.rs;
        rings = same_rings (links f) (links (set_start f s p t)) k.held.rs q k.held.rings;
        within = k.held.within;
        slots = λ r h. q.lives r ∙ k.held.slots r h;
      };
      size = start_length f s p t k.size;
    }

-- ---- `ring_len`

pub along_suc : (next : ℕ → ℕ) (i a : ℕ) → next (along next i a) ≡ along next (suc i) a
unfolding along
along_suc next zero a = refl
along_suc next (suc i) a = along_suc next i (next a)

module _ (f : List Edge) (x : ℕ) (xs : List ℕ) (rest : List Ring) (R : RingsOf (links f) (ring x xs ∷ rest)) where
  abbrev N : ℕ → ℕ
  N s = (edge f s).next

  passed : ℕ → Round
  passed i = record { at = along N i x; count = i; closed = false }

  came_round : Round
  came_round = record { at = along N (length xs) x; count = length xs + 1; closed = true }

  stage : (i : ℕ) → i < length xs → round_step f x i (passed i) ≡ passed (suc i)
  unfolding round_step round_on passed
  stage i h =
      ap (λ (b : Bool). cond b (record { at = along N i x; count = i + 1; closed = true }) (record { at = N (along N i x); count = i + 1; closed = false }))
      (ne_eqb (N (along N i x)) x (λ q. omega (
        arith,
        along_in N (λ s. (edge f s).previous) x xs x R.linked.0 i h,
        (alone (links f) x xs rest R).0,
        ap (λ (j : ℕ). occ j xs) (sym (along_suc N i x) ∙ q),
      )))
      ∙ (λ j. record { at = along_suc N i x j; count = add-one i j; closed = false })

  walks : (i : ℕ) → i ≤ length xs → rounds (round_step f x) i (passed 0) ≡ passed i
  unfolding rounds
  walks zero h = refl
  walks (suc i) h = ap (round_step f x i) (walks i (omega arith)) ∙ stage i h

  last_round : round_step f x (length xs) (passed (length xs)) ≡ came_round
  unfolding round_step round_on passed came_round
  last_round =
      ap (λ (b : Bool). cond b (record { at = along N (length xs) x; count = length xs + 1; closed = true }) (record { at = N (along N (length xs) x); count = length xs + 1; closed = false }))
      (eq-eqb (N (along N (length xs) x)) x (along_suc N (length xs) x ∙ along_end N (λ s. (edge f s).previous) x xs x R.linked.0))

  comes_round : rounds (round_step f x) (suc (length xs)) (passed 0) ≡ came_round
  unfolding rounds
  comes_round = ap (round_step f x (length xs)) (walks (length xs) (omega arith)) ∙ last_round

  rests : (k : ℕ) → round_step f x k came_round ≡ came_round
  unfolding round_step came_round
  rests k = refl

  -- the walk counts the ring
  ring_len_counts : length xs < 128 → ring_len f x ≡ suc (length xs)
  unfolding ring_len passed came_round along
  ring_len_counts h = ap (λ (r : Round). r.count) (stays_to (round_step f x) (passed 0) came_round (suc (length xs)) 128 h comes_round rests) ∙ add-one (length xs)

-- the count by rounds is the count of the laws
pub ring_len_same : (f : List Edge) (events bound x : ℕ) (k : Kept f events bound) → (links f).live x ≡ 1 → ring_len f x ≡ Links.ring_len 128 (links f) x
ring_len_same f events bound x k a =
    let w : From (links f) x k.held.rs = from (links f) x k.held.rs k.held.rings a in
    ring_len_counts f x w.others w.rest w.rings (short 128 (links f) x w.others w.rest w.rings k.held.slots)
    ∙ sym (ring_len_is 128 (links f) x w.others w.rest w.rings k.held.slots)

-- ---- `one_ring`

-- an edge of the ring is come to in fewer steps than the ring has edges
reached : (next prev : ℕ → ℕ) (a : ℕ) (xs : List ℕ) (z b : ℕ) → Chain next prev a xs z → 0 < occ b xs → (j : ℕ) × (j < length xs) × (along next (suc j) a ≡ b)
unfolding along
reached next prev a [] z b c h = absurd (omega (arith, occ_nil b))
reached next prev a (x ∷ xs) z b c h = by_cases b x
    (λ q. (0, omega arith, c.0 ∙ sym q))
    (λ d. let r : (j : ℕ) × (j < length xs) × (along next (suc j) x ≡ b) = reached next prev x xs z b c.2 (omega (arith, occ_cons b x xs, same_ne b x d)) in
    (suc r.0, omega (arith, r.1), ap (λ (k : ℕ). along next (suc r.0) k) c.0 ∙ r.2))

-- a step stays in the ring
next_in : (next prev : ℕ → ℕ) (a : ℕ) (xs : List ℕ) (z s : ℕ) → Chain next prev a xs z → 0 < occ s (a ∷ xs) → (0 < occ (next s) xs) ⊎ (next s ≡ z)
next_in next prev a [] z s c h = inr (ap next (same_pos s a (omega (arith, occ_cons s a [], occ_nil s))) ∙ c.0)
next_in next prev a (x ∷ xs) z s c h = by_cases s a
    (λ q. inl (omega (arith, occ_cons (next s) x xs, same_eq (next s) x (ap next q ∙ c.0))))
    (λ d. go (next_in next prev x xs z s c.2 (omega (arith, occ_cons s a (x ∷ xs), same_ne s a d))))
  where
    go : (0 < occ (next s) xs) ⊎ (next s ≡ z) → (0 < occ (next s) (x ∷ xs)) ⊎ (next s ≡ z)
    go (inl h) = inl (omega (arith, occ_cons (next s) x xs))
    go (inr q) = inr q

stays_in : (next prev : ℕ → ℕ) (a : ℕ) (xs : List ℕ) → Chain next prev a xs a → (i : ℕ) → 0 < occ (along next i a) (a ∷ xs)
unfolding along
stays_in next prev a xs c zero = omega (arith, occ_cons a a xs, same_self a)
stays_in next prev a xs c (suc i) = subst (λ (k : ℕ). 0 < occ k (a ∷ xs)) (along_suc next i a) (go (next_in next prev a xs a (along next i a) c (stays_in next prev a xs c i)))
  where
    go : (0 < occ (next (along next i a)) xs) ⊎ (next (along next i a) ≡ a) → 0 < occ (next (along next i a)) (a ∷ xs)
    go (inl h) = omega (arith, occ_cons (next (along next i a)) a xs)
    go (inr q) = omega (arith, occ_cons (next (along next i a)) a xs, same_eq (next (along next i a)) a q)

-- after i rounds: met b on the way, came round without it, or i steps on with neither
record Sought (next : ℕ → ℕ) (a b i : ℕ) (r : Reach) : Type 0 where
  met : r.found ≡ true → (j : ℕ) × (along next j a ≡ b)
  here : r.closed ≡ false → r.at ≡ along next i a
  none : r.closed ≡ false → (j : ℕ) → 0 < j → j ≤ i → along next j a ≢ b
  shut : r.closed ≡ true → r.found ≡ false → (j : ℕ) × (0 < j) × (along next j a ≡ a) × ((k : ℕ) → 0 < k → k ≤ j → along next k a ≢ b)

module _ (f : List Edge) (a b : ℕ) (other : b ≢ a) where
  abbrev M : ℕ → ℕ
  M s = (edge f s).next

  abbrev from_a : Reach
  from_a = record { at = a; found = false; closed = false }

  seek_first : Sought M a b 0 from_a
  unfolding along
  seek_first = record {
    met = λ q. absurd (false≢true q);
    here = λ q. refl;
    none = λ q j p h. absurd (omega arith);
    shut = λ q. absurd (false≢true q);
  }

  seek_step : (k : ℕ) (r : Reach) → Sought M a b k r → Sought M a b (suc k) (reach_step f a b k r)
  unfolding reach_step reach_on
  seek_step k r w = go r.closed refl
    where
      n : ℕ
      n = M r.at

      stop : Reach
      stop = record { at = n; found = false; closed = true }

      found : Reach
      found = record { at = n; found = true; closed = true }

      on : Reach
      on = record { at = n; found = false; closed = false }

      open_go : r.closed ≡ false → (x : Bool) → eqb n a ≡ x → (y : Bool) → eqb n b ≡ y → Sought M a b (suc k) (cond x stop (cond y found on))
      open_go e true p y q =
          let at : n ≡ along M (suc k) a = ap M (w.here e) ∙ along_suc M k a in
          let round : along M (suc k) a ≡ a = sym at ∙ eqb-true n a p in
          record {
            met = λ z. absurd (false≢true z);
            here = λ z. absurd (true≢false z);
            none = λ z. absurd (true≢false z);
            shut = λ z v. (
              suc k,
              omega arith,
              round,
              λ j g h s. by_cases j (suc k)
                  (λ c. other (sym s ∙ ap (λ (i : ℕ). along M i a) c ∙ round))
                  (λ c. w.none e j g (omega arith) s),
            );
          }
      open_go e false p true q =
          let at : n ≡ along M (suc k) a = ap M (w.here e) ∙ along_suc M k a in
          record {
            met = λ z. (suc k, sym at ∙ eqb-true n b q);
            here = λ z. absurd (true≢false z);
            none = λ z. absurd (true≢false z);
            shut = λ z v. absurd (true≢false v);
          }
      open_go e false p false q =
          let at : n ≡ along M (suc k) a = ap M (w.here e) ∙ along_suc M k a in
          record {
            met = λ z. absurd (false≢true z);
            here = λ z. at;
            none = λ z j g h s. by_cases j (suc k)
                (λ c. eqb-false n b q (at ∙ ap (λ (i : ℕ). along M i a) (sym c) ∙ s))
                (λ c. w.none e j g (omega arith) s);
            shut = λ z. absurd (false≢true z);
          }

      go : (c : Bool) → r.closed ≡ c → Sought M a b (suc k) (cond c r (cond (eqb n a) stop (cond (eqb n b) found on)))
      go true e = record {
        met = w.met;
        here = λ z. absurd (true≢false (sym e ∙ z));
        none = λ z. absurd (true≢false (sym e ∙ z));
        shut = w.shut;
      }
      go false e = open_go e (eqb n a) refl (eqb n b) refl

  abbrev at_last : Reach
  at_last = rounds (reach_step f a b) 128 from_a

  seek : Sought M a b 128 at_last
  seek = rounds_keep (reach_step f a b) (Sought M a b) from_a seek_first seek_step 128

  sought : (xs : List ℕ) (rest : List Ring) → RingsOf (links f) (ring a xs ∷ rest) → length xs < 128 → one_ring f a b ≡ Links.one_ring 128 (links f) a b
  unfolding one_ring
  sought xs rest R h = go (dec_lt 0 (occ b xs))
    where
      P : ℕ → ℕ
      P s = (edge f s).previous

      c : Chain M P a xs a
      c = R.linked.0

      lone : occ a xs ≡ 0
      lone = (alone (links f) a xs rest R).0

      returns : (j : ℕ) → 0 < j → along M j a ≡ a → length xs < j
      returns zero p e = absurd (omega arith)
      returns (suc i) p e = past (dec_lt i (length xs))
        where
          past : Dec (i < length xs) → length xs < suc i
          past (yes l) = absurd (omega (arith, along_in M P a xs a c i l, lone, ap (λ (s : ℕ). occ s xs) e))
          past (no l) = omega arith

      finds : 0 < occ b xs → (o : Bool) → at_last.found ≡ o → (p : Bool) → at_last.closed ≡ p → o ≡ true
      finds k true e p g = refl
      finds k false e false g =
          let r : (j : ℕ) × (j < length xs) × (along M (suc j) a ≡ b) = reached M P a xs a b c k in
          absurd (seek.none g (suc r.0) (omega arith) (omega (arith, r.1)) r.2)
      finds k false e true g =
          let r : (j : ℕ) × (j < length xs) × (along M (suc j) a ≡ b) = reached M P a xs a b c k in
          let s : (j : ℕ) × (0 < j) × (along M j a ≡ a) × ((i : ℕ) → 0 < i → i ≤ j → along M i a ≢ b) = seek.shut g e in
          absurd (s.3 (suc r.0) (omega arith) (omega (arith, r.1, returns s.0 s.1 s.2)) r.2)

      misses : occ b xs ≡ 0 → (o : Bool) → at_last.found ≡ o → o ≡ false
      misses k false e = refl
      misses k true e =
          let r : (j : ℕ) × (along M j a ≡ b) = seek.met e in
          absurd (omega (arith, subst (λ (i : ℕ). 0 < occ i (a ∷ xs)) r.1 (stays_in M P a xs c r.0), occ_cons b a xs, same_ne b a other))

      go : Dec (0 < occ b xs) → at_last.found ≡ Links.one_ring 128 (links f) a b
      go (yes k) = finds k at_last.found refl at_last.closed refl ∙ sym (meets_in M P a xs a b 128 c lone h k)
      go (no k) = misses (omega arith) at_last.found refl ∙ sym (meets_out M P a xs a b 128 c lone h (omega arith))

pub one_ring_same : (f : List Edge) (events bound a b : ℕ) (k : Kept f events bound) → (links f).live a ≡ 1 → b ≢ a → one_ring f a b ≡ Links.one_ring 128 (links f) a b
one_ring_same f events bound a b k l d =
    let w : From (links f) a k.held.rs = from (links f) a k.held.rs k.held.rings l in
    sought f a b d w.others w.rest w.rings (short 128 (links f) a w.others w.rest w.rings k.held.slots)

-- what `one_ring` tells: going from next to next from a comes to b, or never does
pub one_ring_meets : (f : List Edge) (a b : ℕ) → b ≢ a → one_ring f a b ≡ true → (j : ℕ) × (along (links f).next j a ≡ b)
unfolding one_ring
one_ring_meets f a b d q = (seek f a b d).met q

pub one_ring_misses : (f : List Edge) (events bound a b : ℕ) (k : Kept f events bound) → (links f).live a ≡ 1 → b ≢ a → one_ring f a b ≡ false
    → (j : ℕ) → along (links f).next j a ≢ b
one_ring_misses f events bound a b k l d q j z =
    let w : From (links f) a k.held.rs = from (links f) a k.held.rs k.held.rings l in
    let c : Chain (links f).next (links f).prev a w.others a = w.rings.linked.0 in
    let here : 0 < occ b w.others =
    omega (arith, subst (λ (i : ℕ). 0 < occ i (a ∷ w.others)) z (stays_in (links f).next (links f).prev a w.others c j), occ_cons b a w.others, same_ne b a d) in
    false≢true (sym q ∙ one_ring_same f events bound a b k l d
    ∙ meets_in (links f).next (links f).prev a w.others a b 128 c (alone (links f) a w.others w.rest w.rings).0
    (short 128 (links f) a w.others w.rest w.rings k.held.slots) here)
