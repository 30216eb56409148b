-- The pair that comes with a yes: there is one exactly where rings meet, and it is the lowest. Assumes nothing.
use Prim.Native.Nat.{ℕ, ◌≤◌, ◌<◌}
use native.Mathlib.Omega.{arith}
use mathlib.Core.Path.{◌≡◌, refl, sym, ap, ◌∙◌, subst}
use mathlib.Core.Bool.{Bool, true, false, cond, true≢false}
use mathlib.Core.List.{List}
use borrow.Author.Tests.{lt-ltb, le-ltb}
use lib.Ieee.{Float}
use Rattle.plane.specs.declared.PlanarPoint.{PlanarPoint}
use Rattle.segment.specs.Segments.{segments_meet}
use Rattle.segment.proofs.Symmetric.{alike}
use Rattle.ring.specs.Ring.{vertex_at, edge_end}
use Rattle.std.specs.Prelude.{Option, None, Some}
use Rattle.std.specs.Option.{is_some}
use Rattle.ring_cross.specs.declared.EdgePair.{EdgePair}
use Rattle.ring_cross.specs.EdgePairs.{edges}
use Rattle.ring_cross.specs.Meet.{rings_meet}
use Rattle.ring_cross.specs.Pair.{edge_step, edge_pair, walk_step, walk, second_outer, ring_pair}
use Rattle.ring_cross.specs.PairLaws.{EdgesMeet, LowestPair, PairTells}
use Rattle.ring_cross.proofs.First.{only_none, no_edges, same_edges}
use Rattle.ring_cross.proofs.First
use Rattle.ring_cross.proofs.Walks.{asked, edge_is, row, row_is, outer_first, outer_second}
use Rattle.ring_cross.proofs.MetPairs.{MetPair, met_pair, pair_met, either_way}

-- ---- the inner walk
module _ (qs : List Float) (m i : ℕ) (a1 a2 : PlanarPoint) where
  abbrev meets : ℕ → Bool
  meets k = segments_meet a1 a2 (vertex_at qs k) (edge_end qs m k)

  not_met : (k : ℕ) → asked qs m i a1 a2 k ≡ None → meets k ≡ true → ⊥
  not_met k e h = no_edges i k (sym e ∙ ap (λ (b : Bool). cond b (edges i k) None) h)

  none_meets : edge_pair qs m i a1 a2 ≡ None → (k : ℕ) → k < m → meets k ≡ true → ⊥
  unfolding edge_pair
  none_meets e k l = not_met k (First.all_none (asked qs m i a1 a2) (edge_step qs m i a1 a2) (edge_is qs m i a1 a2) m e k l)

  -- the edge that is found
  record Inner (j k : ℕ) : Type 0 where
    same : i ≡ j
    under : k < m
    meet : meets k ≡ true
    lowest : (l : ℕ) → l < k → meets l ≡ true → ⊥

  inner : (j k : ℕ) → edge_pair qs m i a1 a2 ≡ edges j k → Inner j k
  unfolding edge_pair
  inner j k e =
      let r = First.found_in (asked qs m i a1 a2) (edge_step qs m i a1 a2) (edge_is qs m i a1 a2) m (ap is_some e) in
      go r.at r.under r.before (meets r.at) refl (r.gives ∙ e)
    where
      go : (a : ℕ) → a < m → ((l : ℕ) → l < a → asked qs m i a1 a2 l ≡ None) → (t : Bool) → meets a ≡ t → cond t (edges i a) None ≡ edges j k → Inner j k
      go a l h false t e = absurd (no_edges j k e)
      go a l h true t e = at (same_edges i a j k e)
        where
          at : (i ≡ j) × (a ≡ k) → Inner j k
          at w = record {
            same = w.0;
            under = subst (λ (x : ℕ). x < m) w.1 l;
            meet = subst (λ (x : ℕ). meets x ≡ true) w.1 t;
            lowest = λ x q. not_met x (h x (omega (arith, w.1, q)));
          }

-- ---- both walks
module _ (ps : List Float) (n : ℕ) (qs : List Float) (m : ℕ) where
  walk_lowest : (i k : ℕ) → walk ps n qs m ≡ edges i k → LowestPair ps n qs m i k
  unfolding walk
  walk_lowest i k e =
      let r = First.found_in (row ps n qs m) (walk_step ps n qs m) (row_is ps n qs m) n (ap is_some e) in
      let w = inner qs m r.at (vertex_at ps r.at) (edge_end ps n r.at) i k (r.gives ∙ e) in
      go r.at r.under r.before w
    where
      go : (a : ℕ) → a < n → ((j : ℕ) → j < a → row ps n qs m j ≡ None) → Inner qs m a (vertex_at ps a) (edge_end ps n a) i k → LowestPair ps n qs m i k
      go a l h w = subst (λ (x : ℕ). LowestPair ps n qs m x k) w.same (record {
        outer = l;
        inner = w.under;
        meet = w.meet;
        lowest_outer = λ j b u v. none_meets qs m j (vertex_at ps j) (edge_end ps n j) (h j u) b v;
        lowest_inner = w.lowest;
      })

  nothing_met : walk ps n qs m ≡ None → MetPair ps n qs m → ⊥
  unfolding walk
  nothing_met e w =
      none_meets qs m w.first (vertex_at ps w.first) (edge_end ps n w.first)
      (First.all_none (row ps n qs m) (walk_step ps n qs m) (row_is ps n qs m) n e w.first w.first_under) w.second w.second_under w.meet

  walk_as_before : is_some (walk ps n qs m) ≡ rings_meet ps n qs m
  walk_as_before = alike (is_some (walk ps n qs m)) (rings_meet ps n qs m) (λ e. yes (walk ps n qs m) refl e) (λ e. still e (is_some (walk ps n qs m)) refl)
    where
      yes : (r : Option EdgePair) → walk ps n qs m ≡ r → is_some r ≡ true → rings_meet ps n qs m ≡ true
      yes None e h = absurd (true≢false (sym h))
      yes (Some p) e h =
          let w = walk_lowest p.first p.second e in
          pair_met ps n qs m (record { first = p.first; first_under = w.outer; second = p.second; second_under = w.inner; meet = w.meet })

      still : rings_meet ps n qs m ≡ true → (t : Bool) → is_some (walk ps n qs m) ≡ t → is_some (walk ps n qs m) ≡ true
      still e true h = h
      still e false h = absurd (nothing_met (only_none (walk ps n qs m) h) (met_pair ps n qs m e))

  -- there is one lowest pair
  walk_told : (i k : ℕ) → LowestPair ps n qs m i k → walk ps n qs m ≡ edges i k
  walk_told i k w = go (walk ps n qs m) refl
    where
      same : (a b : ℕ) → LowestPair ps n qs m a b → edges a b ≡ edges i k
      same a b v = at (order a i (λ l. w.lowest_outer a b l v.inner v.meet) (λ l. v.lowest_outer i k l w.inner w.meet))
        where
          order : (x y : ℕ) → (x < y → ⊥) → (y < x → ⊥) → x ≡ y
          order x y f g = omega (arith, f, g)

          at : a ≡ i → edges a b ≡ edges i k
          at e = ap (λ (x : ℕ). edges x b) e ∙ ap (edges i) (order b k
              (λ l. w.lowest_inner b l (subst (λ (x : ℕ). EdgesMeet ps n qs m x b) e v.meet))
              (λ l. v.lowest_inner k l (subst (λ (x : ℕ). EdgesMeet ps n qs m x k) (sym e) w.meet)))

      go : (r : Option EdgePair) → walk ps n qs m ≡ r → r ≡ edges i k
      go None e = absurd (nothing_met e (record { first = i; first_under = w.outer; second = k; second_under = w.inner; meet = w.meet }))
      go (Some p) e = same p.first p.second (walk_lowest p.first p.second e)

-- ---- the shorter ring outside
module _ (ps : List Float) (n : ℕ) (qs : List Float) (m : ℕ) where
  first_walk : n ≤ m → ring_pair ps n qs m ≡ walk ps n qs m
  unfolding second_outer
  first_walk l = sym (outer_first ps n qs m (le-ltb m n l))

  second_walk : m < n → ring_pair ps n qs m ≡ walk qs m ps n
  unfolding second_outer
  second_walk l = sym (outer_second ps n qs m (lt-ltb m n l))

  pub met_as_before : is_some (ring_pair ps n qs m) ≡ rings_meet ps n qs m
  unfolding ring_pair
  met_as_before = go (second_outer n m)
    where
      go : (t : Bool) → is_some (cond t (walk qs m ps n) (walk ps n qs m)) ≡ rings_meet ps n qs m
      go true = walk_as_before qs m ps n ∙ either_way ps n qs m
      go false = walk_as_before ps n qs m

pub pair_tells : PairTells
pair_tells = record {
  as_before = met_as_before;
  either_way = either_way;
  first_outer = λ ps n qs m i k l e. walk_lowest ps n qs m i k (sym (first_walk ps n qs m l) ∙ e);
  first_told = λ ps n qs m i k l w. first_walk ps n qs m l ∙ walk_told ps n qs m i k w;
  second_outer = λ ps n qs m i k l e. walk_lowest qs m ps n i k (sym (second_walk ps n qs m l) ∙ e);
  second_told = λ ps n qs m i k l w. second_walk ps n qs m l ∙ walk_told qs m ps n i k w;
}
