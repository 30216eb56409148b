-- The walks of the ring check, left at the first refusal. Assumes nothing.
use Prim.Native.Nat.{ℕ, ◌+◌, ◌<◌}
use native.Mathlib.Omega.{arith}
use mathlib.Core.Path.{◌≡◌, refl, sym, ap, ◌∙◌}
use mathlib.Core.Bool.{Bool, true, false, cond, not, ◌&&◌, ◌||◌, true≢false, false≢true}
use mathlib.Core.List.{List}
use borrow.Author.Count.{below_more}
use borrow.Author.Tests.{not-false}
use lib.Dec.{ltb}
use lib.Ieee.{Float, le, neg}
use Rattle.plane.specs.declared.PlanarPoint.{PlanarPoint}
use Rattle.error.specs.declared.Refusal.{Refusal}
use Rattle.error.specs.declared.Refusal.TheVariants.{Granted, Range, Room}
use Rattle.error.specs.Refusals.{values, number, granted}
use Rattle.ring.specs.Ring.{vertex_at, edge_end}
use Rattle.ring.proofs.Vertices.{following_on}
use Rattle.base.specs.Loop.{rounds}
use Rattle.base.proofs.Laws.{next_round, stays_to}
use Rattle.base.proofs.Tests.{found_at, none_all, all_pass, pass_all}
use Rattle.std.specs.Bool.{MatchBool}
use Rattle.ring_check.specs.Checks.{max_coordinate, beyond, vertex_refusal, range_step, check_range}
use Rattle.ring_check.specs.Walks.{Passing, NoneYet, NonePasses, passes}
use Rattle.ring_check.proofs.Reach.{in_reach_is}

-- ---- a number beyond the range

pub beyond_is : (x : Float) → not (le (neg max_coordinate) x && le x max_coordinate) ≡ beyond x
unfolding beyond
beyond_is x = ap not (in_reach_is x)

-- ---- the range of every vertex

sorted : (a b c : Bool) (x y z : Refusal) → (c && not (a || b)) ≡ true → cond a x (cond b y (cond c Granted z)) ≡ Granted
sorted true b c x y z h = absurd (go c h)
  where
    go : (c : Bool) → (c && false) ≡ true → ⊥
    go true h = false≢true h
    go false h = false≢true h
sorted false true c x y z h = absurd (go c h)
  where
    go : (c : Bool) → (c && false) ≡ true → ⊥
    go true h = false≢true h
    go false h = false≢true h
sorted false false true x y z h = refl
sorted false false false x y z h = absurd (false≢true h)

refused : (a b c : Bool) (i n r : ℕ) (x y : Float) → (c && not (a || b)) ≡ false → granted (cond a (Range i x) (cond b (Range i y) (cond c Granted (Room i n r)))) ≡ false
unfolding granted number values
refused true b c i n r x y h = refl
refused false true c i n r x y h = refl
refused false false true i n r x y h = absurd (true≢false h)
refused false false false i n r x y h = refl

module _ (room ring n : ℕ) (ps : List Float) where
  module _ (k : ℕ) (v : PlanarPoint) (e : v ≡ vertex_at ps k) (so_far : rounds (range_step room ring ps n) k Granted ≡ Granted) where
    step : rounds (range_step room ring ps n) (k + 1) Granted ≡ vertex_refusal room ring n k v
    unfolding range_step granted number values
    step = next_round (range_step room ring ps n) k Granted ∙ ap (range_step room ring ps n k) so_far ∙ ap (vertex_refusal room ring n k) (sym e)

    pub range_goes_on : (b : Bool) → b ≡ passes room k v → b ≡ true → rounds (range_step room ring ps n) (k + 1) Granted ≡ Granted
    unfolding passes vertex_refusal
    range_goes_on b p t = step ∙ sorted (beyond v.east) (beyond v.north) (ltb k room) (Range ring v.east) (Range ring v.north) (Room ring n room) (sym p ∙ t)

    not_granted : passes room k v ≡ false → granted (vertex_refusal room ring n k v) ≡ false
    unfolding passes vertex_refusal
    not_granted h = refused (beyond v.east) (beyond v.north) (ltb k room) ring n room v.east v.north h

    pub range_refused : (b : Bool) (r : Refusal) → k < n → b ≡ passes room k v → b ≡ false → r ≡ vertex_refusal room ring n k v → r ≡ check_range room ring ps n
    unfolding check_range range_step
    range_refused b r l p t q =
        let g : granted (vertex_refusal room ring n k v) ≡ false = not_granted (sym p ∙ t) in
        q ∙ sym (stays_to (range_step room ring ps n) Granted (vertex_refusal room ring n k v) (k + 1) n (omega arith) step (λ m. rw g refl))

-- ---- an edge's test, which a walk over the edges asks

module _ (ps : List Float) (n k : ℕ) (v w : PlanarPoint) (e : v ≡ vertex_at ps k) (f : w ≡ edge_end ps n k) where
  pub asked : (test : PlanarPoint → PlanarPoint → Bool) {b c : Bool} → b ≡ test v w → b ≡ c → test (vertex_at ps k) (edge_end ps n k) ≡ c
  asked test g t = ap (test (vertex_at ps k)) (sym f) ∙ ap (λ (z : PlanarPoint). test z w) (sym e) ∙ sym g ∙ t

-- ---- what a walk over the edges tells by a test, whose answer is told to be `test`

module _ (ps : List Float) (n : ℕ) (post : PlanarPoint → PlanarPoint → Bool → Type 0) where
  abbrev edge_by : (PlanarPoint → PlanarPoint → Bool) → ℕ → Bool
  edge_by test k = test (vertex_at ps k) (edge_end ps n k)

  -- that one passes, or none does
  pub any_told :
      (f : ℕ → Bool → Bool) (test : PlanarPoint → PlanarPoint → Bool) → ((k : ℕ) (s : Bool) → f k s ≡ (s || edge_by test k)) →
      ((a b : PlanarPoint) (t : Bool) → post a b t → t ≡ test a b) → (r : Bool) → MatchBool r (Passing post ps n) (NonePasses post ps n) → r ≡ rounds f n false
  any_told f test body is true w = sym (found_at f (edge_by test) body n w.at w.under (sym (is _ _ _ w.is)))
  any_told f test body is false w = sym (none_all f (edge_by test) body n (λ k l. sym (is _ _ _ (w k l))))

  -- that one fails, or none does
  pub all_told :
      (f : ℕ → Bool → Bool) (test : PlanarPoint → PlanarPoint → Bool) → ((k : ℕ) (s : Bool) → f k s ≡ (s && edge_by test k)) →
      ((a b : PlanarPoint) (t : Bool) → post a b t → t ≡ not (test a b)) → (r : Bool) → MatchBool r (Passing post ps n) (NonePasses post ps n) → not r ≡ rounds f n true
  all_told f test body is true w = go (rounds f n true) refl
    where
      go : (t : Bool) → rounds f n true ≡ t → false ≡ t
      go false e = refl
      go true e =
          let passes : test (vertex_at ps w.at) (edge_end ps n w.at) ≡ true = all_pass f (edge_by test) body n e w.at w.under in
          absurd (true≢false (is _ _ _ w.is ∙ ap not passes))
  all_told f test body is false w = sym (pass_all f (edge_by test) body n (λ k l. not-false _ (sym (is _ _ _ (w k l)))))

-- one more that does not pass
pub one_more :
    (post : PlanarPoint → PlanarPoint → Bool → Type 0) (ps : List Float) (n k : ℕ) {a b : PlanarPoint} → NoneYet post ps n k → a ≡ vertex_at ps k → b ≡ edge_end ps n k →
    post a b false → NoneYet post ps n (k + 1)
one_more post ps n k w e f h = below_more (λ (j : ℕ). post (vertex_at ps j) (edge_end ps n j) false) k w (rw (← e, ← f) h)

pub one_passes : (post : PlanarPoint → PlanarPoint → Bool → Type 0) (ps : List Float) (n k : ℕ) {a b : PlanarPoint} → k < n → a ≡ vertex_at ps k → b ≡ edge_end ps n k →
    post a b true → Passing post ps n
one_passes post ps n k l e f h = record { at = k; under = l; is = rw (← e, ← f) h }

-- the next edge starts where edge k ends
pub starts : (ps : List Float) (n k : ℕ) (w : PlanarPoint) → w ≡ edge_end ps n k → k + 1 < n → w ≡ vertex_at ps (k + 1)
unfolding edge_end
starts ps n k w e l = e ∙ ap (vertex_at ps) (sym (following_on n k (omega arith)))
