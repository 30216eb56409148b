-- The two walks of `check_simple`: what they give where no pair is found so far, and where one is. Assumes nothing.
use Prim.Native.Nat.{ℕ, zero, suc, ◌+◌, ◌-◌, ◌<◌, ◌≤◌}
use native.Mathlib.Nat.{add-zero, le_antisymm}
use mathlib.Core.Path.{◌≡◌, refl, sym, ap, ◌∙◌, subst}
use mathlib.Core.Bool.{Bool, true, false, cond, ◌&&◌}
use mathlib.Core.List.{List}
use native.Mathlib.Omega.{arith}
use borrow.Author.Tests.{eqb-true, eqb-false, eq-eqb, ne_eqb}
use lib.Dec.{eqb}
use lib.Ieee.{Float}
use Rattle.plane.specs.declared.PlanarPoint.{PlanarPoint}
use Rattle.base.specs.Loop.{rounds}
use Rattle.base.proofs.Laws.{no_round, next_round, stays_to}
use Rattle.segment.specs.Segments.{segments_meet, folds_back}
use Rattle.ring.specs.Ring.{stored_at, following}
use Rattle.ring.proofs.Vertices.{following_on}
use Rattle.std.specs.Prelude.{None}
use Rattle.ring_cross.specs.EdgePairs.{edges}
use Rattle.ring_cross.specs.Simple.{crossing, crossing_by, pair_step, edge_step, check_simple}

module _ (ps : List Float) (n : ℕ) (back : Bool) where
  module _ (i k : ℕ) (so_far : rounds (pair_step ps n back i) k None ≡ None) where
    pair_none : crossing ps n back i (i + 1 + k) ≡ false → rounds (pair_step ps n back i) (k + 1) None ≡ None
    unfolding pair_step
    pair_none e = simp (next_round, so_far, e)

    pair_found : crossing ps n back i (i + 1 + k) ≡ true → rounds (pair_step ps n back i) (k + 1) None ≡ edges i (i + 1 + k)
    unfolding pair_step
    pair_found e = simp (next_round, so_far, e)

    row_found : k < n - (i + 1) → crossing ps n back i (i + 1 + k) ≡ true → rounds (pair_step ps n back i) (n - (i + 1)) None ≡ edges i (i + 1 + k)
    unfolding pair_step
    row_found l e = stays_to (pair_step ps n back i) None (edges i (i + 1 + k)) (k + 1) (n - (i + 1)) (omega arith) (pair_found e) (λ m. refl)

  module _ (i : ℕ) (so_far : rounds (edge_step ps n back) i None ≡ None) where
    pub row_none : rounds (pair_step ps n back i) (n - (i + 1)) None ≡ None → rounds (edge_step ps n back) (i + 1) None ≡ None
    unfolding edge_step
    row_none e = simp (next_round, so_far, e)

    found_at : (a b : ℕ) → i < n → rounds (pair_step ps n back i) (n - (i + 1)) None ≡ edges a b → check_simple ps n back ≡ edges a b
    unfolding check_simple edge_step
    found_at a b l e = stays_to (edge_step ps n back) None (edges a b) (i + 1) n (omega arith) (simp (next_round, so_far, e)) (λ m. refl)

-- the last edge has no pair left
pub none_found : (ps : List Float) (n : ℕ) (back : Bool) (i : ℕ) → i ≤ n - 1 → n - 1 ≤ i → rounds (edge_step ps n back) i None ≡ None → None ≡ check_simple ps n back
unfolding check_simple
none_found ps zero back i l h e = sym (no_round (edge_step ps 0 back) None)
none_found ps (suc m) back i l h e =
    let a : i ≡ m = omega arith in
    let b : suc m - (m + 1) ≡ 0 = omega arith in
    let c : rounds (edge_step ps (suc m) back) m None ≡ None = subst (λ (x : ℕ). rounds (edge_step ps (suc m) back) x None ≡ None) a e in
    let d : m + 1 ≡ suc m = omega arith in
    sym
    (subst (λ (x : ℕ). rounds (edge_step ps (suc m) back) x None ≡ None) d
    (row_none ps (suc m) back m c (ap (λ (x : ℕ). rounds (pair_step ps (suc m) back m) x None) b ∙ no_round (pair_step ps (suc m) back m) None)))

-- a vertex that was read at another's number
pub read_at : (ps : List Float) (n : ℕ) (back : Bool) {p : PlanarPoint} {x y : ℕ} → p ≡ stored_at ps n back x → x ≡ y → p ≡ stored_at ps n back y
read_at ps n back e f = rw (← f) e

-- ---- edge i and the next are neighbours

module _ (ps : List Float) (n : ℕ) (back : Bool) (i : ℕ) (a1 a2 : PlanarPoint) where
  next_asks :
      (b1 : PlanarPoint) → a1 ≡ stored_at ps n back i → a2 ≡ stored_at ps n back (following n i) → b1 ≡ stored_at ps n back (following n (i + 1)) →
      folds_back a2 a1 b1 ≡ crossing ps n back i (i + 1)
  unfolding crossing crossing_by
  next_asks b1 e1 e2 e3 = rw (← e1, ← e2, ← e3, eq-eqb (i + 1) (i + 1) refl) refl

  pub found_next :
      (b1 : PlanarPoint) (x : Bool) → rounds (edge_step ps n back) i None ≡ None → i < n - 1 → a1 ≡ stored_at ps n back i → a2 ≡ stored_at ps n back (following n i) →
      b1 ≡ stored_at ps n back (following n (i + 1)) → x ≡ folds_back a2 a1 b1 → x ≡ true → edges i (i + 1) ≡ check_simple ps n back
  found_next b1 x so_far l e1 e2 e3 p q =
      let z : i + 1 + 0 ≡ i + 1 = add-zero (i + 1) in
      sym
      (found_at ps n back i so_far i (i + 1) (omega arith)
      (row_found ps n back i 0 (no_round (pair_step ps n back i) None) (omega arith) (ap (crossing ps n back i) z ∙ sym (next_asks b1 e1 e2 e3) ∙ sym p ∙ q) ∙ ap (edges i) z))

-- ---- one row: edge i and the edges after it

module _ (ps : List Float) (n : ℕ) (back : Bool) (i : ℕ) (a1 a2 : PlanarPoint) (stop : ℕ) where
  -- the first k pairs do not cross, and b1 is the start of the next edge; the pairs up to `stop` are of no neighbours
  pub record Row (k : ℕ) (b1 : PlanarPoint) : Type 0 where
    pub begun : 1 ≤ k
    pub within : k ≤ n - (i + 1)
    pub until : stop ≡ cond (eqb i 0) (n - (i + 1) - 1) (n - (i + 1))
    pub none : rounds (pair_step ps n back i) k None ≡ None
    pub from : a1 ≡ stored_at ps n back i
    pub to : a2 ≡ stored_at ps n back (following n i)
    pub next : b1 ≡ stored_at ps n back (following n (i + k))

  pub row_begins :
      (b1 : PlanarPoint) (x : Bool) → i < n - 1 → x ≡ folds_back a2 a1 b1 → x ≡ false → a1 ≡ stored_at ps n back i → a2 ≡ stored_at ps n back (following n i) →
      stop ≡ cond (eqb i 0) (n - (i + 1) - 1) (n - (i + 1)) → b1 ≡ stored_at ps n back (following n (i + 1)) → Row 1 b1
  row_begins b1 x lt p c e1 e2 s e5 =
      let none = pair_none ps n back i 0 (no_round (pair_step ps n back i) None) (rw add-zero (sym (next_asks ps n back i a1 a2 b1 e1 e2 e5) ∙ sym p ∙ c)) in
      record { begun = omega arith; within = omega arith; until = s; none = none; from = e1; to = e2; next = e5 }

  module _ (k : ℕ) (b1 : PlanarPoint) (r : Row k b1) where
    -- whether edge i is the first, by `stop`
    by_first : (P : Bool → Type 0) → (i ≡ 0 → stop ≡ n - (i + 1) - 1 → P true) → ((i ≡ 0 → ⊥) → stop ≡ n - (i + 1) → P false) → P (eqb i 0)
    by_first P x y = go (eqb i 0) refl r.until
      where
        go : (b : Bool) → eqb i 0 ≡ b → stop ≡ cond b (n - (i + 1) - 1) (n - (i + 1)) → P b
        go true e s = x (eqb-true i 0 e) s
        go false e s = y (eqb-false i 0 e) s

    pub bound : stop ≤ n - (i + 1)
    bound = by_first (λ (b : Bool). stop ≤ n - (i + 1)) (λ z s. omega arith) (λ f s. omega arith)

    -- the closing pair is the last
    last : stop ≤ k → k < n - (i + 1) → k + 1 ≡ n - (i + 1)
    last m l = by_first (λ (b : Bool). k + 1 ≡ n - (i + 1)) (λ z s. omega arith) (λ f s. omega arith)

    starts : k < n - (i + 1) → b1 ≡ stored_at ps n back (i + 1 + k)
    starts l =
        let e : i + k + 1 ≡ i + 1 + k = omega arith in
        r.next ∙ ap (stored_at ps n back) (sym (following_on n (i + k) (omega arith)) ∙ e)

    beyond : eqb (i + 1 + k) (i + 1) ≡ false
    beyond = let g : 1 ≤ k = r.begun in ne_eqb (i + 1 + k) (i + 1) (λ q. omega arith)

    -- edges i and i + 1 + k are no neighbours
    far : k < stop → (eqb i 0 && eqb (i + 1 + k) (n - 1)) ≡ false
    far l = by_first (λ (b : Bool). (b && eqb (i + 1 + k) (n - 1)) ≡ false) (λ z s. ne_eqb (i + 1 + k) (n - 1) (λ q. omega arith)) (λ f s. refl)

    not_both : {a b : ℕ} → a ≤ b → b < a → ⊥
    not_both l h = omega arith

    -- the closing pair is of neighbours
    closing : stop ≤ k → k < n - (i + 1) → (eqb i 0 && eqb (i + 1 + k) (n - 1)) ≡ true
    closing m l = by_first (λ (b : Bool). (b && eqb (i + 1 + k) (n - 1)) ≡ true) (λ z s. eq-eqb (i + 1 + k) (n - 1) (omega arith)) (λ f s. absurd (not_both (omega arith) l))

    row_asks : (b2 : PlanarPoint) → k < stop → b2 ≡ stored_at ps n back (following n (i + 1 + k)) → segments_meet a1 a2 b1 b2 ≡ crossing ps n back i (i + 1 + k)
    unfolding crossing crossing_by
    row_asks b2 l e = let b = bound in rw (← r.from, ← r.to, ← starts (omega arith), ← e, beyond, far l) refl

    closing_asks : stop ≤ k → k < n - (i + 1) → folds_back a1 a2 b1 ≡ crossing ps n back i (i + 1 + k)
    unfolding crossing crossing_by
    closing_asks m l = rw (← r.from, ← r.to, ← starts l, beyond, closing m l) refl

    pub row_goes_on : (b2 : PlanarPoint) (m : Bool) → k < stop → b2 ≡ stored_at ps n back (following n (i + 1 + k)) → m ≡ segments_meet a1 a2 b1 b2 → m ≡ false → Row (k + 1) b2
    row_goes_on b2 m l p s t =
        let b = bound in
        let a : i + 1 + k ≡ i + (k + 1) = omega arith in
        record {
          begun = omega arith;
          within = omega arith;
          until = r.until;
          none = pair_none ps n back i k r.none (sym (row_asks b2 l p) ∙ sym s ∙ t);
          from = r.from;
          to = r.to;
          next = p ∙ ap (λ (x : ℕ). stored_at ps n back (following n x)) a;
        }

    -- the walk of the first edge ends before the closing pair, if there is one
    before_last : i ≡ 0 → 1 < n - (i + 1) → (1 ≤ stop → k ≤ stop) → k < n - (i + 1)
    before_last z l e = by_first (λ (b : Bool). k < n - (i + 1)) (λ y s. omega arith) (λ f s. absurd (f z))

    -- that of another edge, or of one that has a single pair, at the end
    pub row_ends : stop ≤ k → (i ≡ 0 → 1 < n - (i + 1) → ⊥) → rounds (pair_step ps n back i) (n - (i + 1)) None ≡ None
    row_ends m g =
        let e = r.within in
        let a = r.begun in
        let u : n - (i + 1) ≤ k = by_first (λ (b : Bool). n - (i + 1) ≤ k) (λ z s. omega (arith, g z)) (λ f s. omega arith) in
        ap (λ (x : ℕ). rounds (pair_step ps n back i) x None) (le_antisymm u e) ∙ r.none

    pub row_closes : (x : Bool) → stop ≤ k → i ≡ 0 → 1 < n - (i + 1) → (1 ≤ stop → k ≤ stop) → x ≡ folds_back a1 a2 b1 → x ≡ false → rounds (pair_step ps n back i) (n - (i + 1)) None ≡ None
    row_closes x m z l e p q =
        let u = before_last z l e in
        ap (λ (x : ℕ). rounds (pair_step ps n back i) x None) (sym (last m u)) ∙ pair_none ps n back i k r.none (sym (closing_asks m u) ∙ sym p ∙ q)

    module _ (so_far : rounds (edge_step ps n back) i None ≡ None) (below : i < n) where
      found : (x : Bool) → k < n - (i + 1) → x ≡ crossing ps n back i (i + 1 + k) → x ≡ true → edges i (i + 1 + k) ≡ check_simple ps n back
      found x l p q = sym (found_at ps n back i so_far i (i + 1 + k) below (row_found ps n back i k r.none l (sym p ∙ q)))

      pub found_last : (x : Bool) → stop ≤ k → i ≡ 0 → 1 < n - (i + 1) → (1 ≤ stop → k ≤ stop) → x ≡ folds_back a1 a2 b1 → x ≡ true → edges 0 (n - 1) ≡ check_simple ps n back
      found_last x m z l e p q =
          let u = before_last z l e in
          let v = last m u in
          let w : n - 1 ≡ i + 1 + k = omega arith in
          rw (w, ← z) (found x u (p ∙ closing_asks m u) q)

      pub found_far :
          (b2 : PlanarPoint) (m : Bool) → k < stop → b2 ≡ stored_at ps n back (following n (i + 1 + k)) → m ≡ segments_meet a1 a2 b1 b2 → m ≡ true →
          edges i (i + 1 + k) ≡ check_simple ps n back
      found_far b2 m l p s t = let b = bound in found m (omega arith) (s ∙ row_asks b2 l p) t
