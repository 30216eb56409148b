-- What the library's chains over the whole numbers below n come to, as counted loops. Assumes nothing.
use Prim.Native.Nat.{ℕ, zero, suc, ◌+◌}
use native.Mathlib.Omega.{arith}
use mathlib.Core.Path.{◌≡◌, refl, sym, ap, ◌∙◌}
use mathlib.Core.Bool.{Bool, true, false, ◌&&◌}
use mathlib.Core.List.{List, [], ◌∷◌, ◌++◌}
use denote.Param.Members.{Mut}
use Rattle.std.specs.declared.ops.Range.{Range}
use Rattle.std.specs.declared.option.Option.{Option}
use Rattle.std.specs.Option.{MatchOption}
use Rattle.std.specs.Fn.{Called}
use Rattle.std.specs.Iterator.{YieldsThen, Drains}
use Rattle.std.specs.List.{range_with_len, list_all, fold, FoldsTo}
use Rattle.std.proofs.iter.Yields.{nat_range_steps}
use Rattle.std.proofs.lemmas.Fn.{fold_over}
use Rattle.std.proofs.lemmas.Iterator.{YieldsList-from_range}
use Rattle.std.proofs.lemmas.Iterator.Search.{all_from_yields_List}
use Rattle.std.proofs.lemmas.List.Folds.{list_all-append}
use Rattle.std.proofs.lemmas.List.Sums.{fold-append}
use Rattle.base.specs.Loop.{rounds}

-- one number more
more : (a n : ℕ) → range_with_len a (suc n) ≡ range_with_len a n ++ (a + n) ∷ []
more a zero = let e : a ≡ a + 0 = omega arith in ap (λ (x : ℕ). x ∷ []) e
more a (suc n) =
    let e : a + 1 + n ≡ a + suc n = omega arith in
    ap (λ (l : List ℕ). a ∷ l) (more (a + 1) n ∙ ap (λ (x : ℕ). range_with_len (a + 1) n ++ x ∷ []) e)

below_next : (n : ℕ) → range_with_len 0 (suc n) ≡ range_with_len 0 n ++ n ∷ []
below_next n =
    let e : 0 + n ≡ n = omega arith in
    more 0 n ∙ ap (λ (x : ℕ). range_with_len 0 n ++ x ∷ []) e

and_true : (s t : Bool) → (s && (t && true)) ≡ (s && t)
and_true s true = refl
and_true s false = refl

-- `all`: a walk that asks whether every round's test is passed
module _ (f : ℕ → Bool → Bool) (test : ℕ → Bool) (body : (k : ℕ) (s : Bool) → f k s ≡ (s && test k)) where
  all_rounds : (n : ℕ) → list_all test (range_with_len 0 n) ≡ rounds f n true
  unfolding rounds
  all_rounds zero = refl
  all_rounds (suc n) =
      ap (list_all test) (below_next n) ∙ list_all-append test (range_with_len 0 n) (n ∷ []) ∙ and_true _ (test n)
      ∙ ap (λ (s : Bool). s && test n) (all_rounds n) ∙ sym (body n _)

  module _ {F : Type 0} {g : Mut F (ℕ × Unit {0}) Bool} (n : ℕ) (u : Range ℕ) (k : F) (r : Bool) where
    pub all_told : (xs : List ℕ) × (o : Option ℕ) × (j : F) × YieldsThen nat_range_steps (record { start = 0; end = n }) xs o u
        × FoldsTo (λ p x q. Called g p (x, tt) true q) k xs j × MatchOption o (r ≡ true) (λ x. (r ≡ false) × ((h : F) × Called g j (x, tt) false h))
        → ((x : ℕ) (b : Bool) (q : F) → Called g k (x, tt) b q → (q ≡ k) × (b ≡ test x)) → r ≡ rounds f n true
    all_told ran each = all_from_yields_List test u k r ran (YieldsList-from_range 0 n n refl (omega arith)) each ∙ all_rounds n

-- `fold`: the state after a round for each number
fold_rounds : {A : Type 0} (f : ℕ → A → A) (s : A) (n : ℕ) → fold (λ (a : A) (k : ℕ). f k a) s (range_with_len 0 n) ≡ rounds f n s
unfolding rounds
fold_rounds f s zero = refl
fold_rounds f s (suc n) =
    ap (fold (λ a k. f k a) s) (below_next n) ∙ fold-append (λ a k. f k a) s (range_with_len 0 n) (n ∷ []) ∙ ap (f n) (fold_rounds f s n)

pub fold_told : {A F : Type 0} {g : Mut F (A × (ℕ × Unit {0})) A} (f : ℕ → A → A) (a : A) (n : ℕ) (k : F) (r : A)
    → (xs : List ℕ) × (j : F) × Drains nat_range_steps (record { start = 0; end = n }) xs × FoldsTo {P = F × A} (λ p x q. Called g p.0 (p.1, (x, tt)) q.1 q.0) (k, a) xs (j, r)
    → ((s : A) (x : ℕ) (b : A) (q : F) → Called g k (s, (x, tt)) b q → (q ≡ k) × (b ≡ f x s)) → r ≡ rounds f n a
fold_told {A} {F} {g} f a n k r ran each =
    fold_over nat_range_steps (λ x. x) g (λ ys b. b ≡ fold (λ (s : A) (x : ℕ). f x s) a ys) k
    (λ ys s x b q j c.
    let e = each s x b q c in
    (e.1 ∙ ap (f x) j ∙ sym (fold-append (λ (s : A) (x : ℕ). f x s) a ys (x ∷ [])), e.0))
    (record { start = 0; end = n }) (range_with_len 0 n) a r (YieldsList-from_range 0 n n refl (omega arith)).runs refl ran ∙ fold_rounds f a n
