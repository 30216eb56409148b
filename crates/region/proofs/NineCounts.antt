-- The counts that a write tells: those of the rings, by place, and what storing them one after the other in nine zeros gives.
-- Assumes nothing.
use Prim.Native.Nat.{ℕ, zero, suc, ◌+◌, ◌-◌, ◌≤◌, ◌<◌}
use native.Mathlib.Nat.{le_refl}
use native.Mathlib.Omega.{arith}
use mathlib.Core.Bool.{Bool, true, false}
use mathlib.Core.Path.{◌≡◌, refl, sym, ◌∙◌, subst}
use mathlib.Core.List.{List, [], ◌∷◌, ◌++◌}
use borrow.Author.Tests.{leb-true, leb-false}
use lib.Dec.{leb}
use lib.ListN.{get_or, set, length, take, replicate, length-set, length-append, length-replicate, get_or-replicate}
use lib.ListN.{get_or-eq_default}
use lib.Seq.{ext_get_or, get_or-take, length-take-le, get_or-set_same, get_or-set_other}
use Rattle.base.specs.Loop.{rounds}
use Rattle.base.proofs.Laws.{rounds_keep}
use Rattle.base.proofs.Elements.{made, made_length, made_at}
use Rattle.base.proofs.Choices.{by_cases}
use Rattle.region.specs.declared.Region.{Region}
use Rattle.region.specs.Regions.{ring_count, ring_count_step, ring_counts}
use Rattle.region.specs.Queries.{nine_counts}

-- zeros after a list are what is read past its end
with_zeros : (w : ℕ) (xs : List ℕ) (k : ℕ) → k < w → get_or (xs ++ replicate w 0) k 0 ≡ get_or xs k 0
with_zeros w [] k l = get_or-replicate w k 0 0 l
with_zeros w (x ∷ xs) zero l = refl
with_zeros w (x ∷ xs) (suc k) l = with_zeros w xs k (omega arith)

-- ---- numbers stored one after the other in zeros

module _ (g : ℕ → ℕ) where
  past : (n k : ℕ) → n ≤ k → get_or (made g n) k 0 ≡ 0
  past n k l = get_or-eq_default (made g n) 0 (subst (λ (m : ℕ). m ≤ k) (sym (made_length g n)) l)

  -- one element more changes no other
  made_other : (n k : ℕ) → (k ≡ n → ⊥) → get_or (made g n) k 0 ≡ get_or (made g (suc n)) k 0
  made_other n k e = go (leb (suc k) n) refl
    where
      go : (t : Bool) → leb (suc k) n ≡ t → get_or (made g n) k 0 ≡ get_or (made g (suc n)) k 0
      go true t =
          let l = leb-true (suc k) n t in
          made_at g n k 0 l ∙ sym (made_at g (suc n) k 0 (omega arith))
      go false t =
          let l = leb-false (suc k) n t in
          past n k (omega arith) ∙ sym (past (suc n) k (omega arith))

  module _ (w : ℕ) where
    record Stored (n : ℕ) (s : List ℕ) : Type 0 where
      size : length s ≡ w
      each : (k : ℕ) → k < w → get_or s k 0 ≡ get_or (made g n) k 0

    stored_more : (n : ℕ) (s : List ℕ) → Stored n s → Stored (suc n) (set s n (g n))
    stored_more n s h = record {
      size = length-set s n (g n) ∙ h.size;
      each = λ k l. by_cases k n
          (λ e. rw e (get_or-set_same s n (g n) 0 (omega (arith, h.size, e)) ∙ sym (made_at g (suc n) n 0 (le_refl (suc n)))))
          (λ e. get_or-set_other s n k (g n) 0 e ∙ h.each k l ∙ made_other n k e);
    }

    all_stored : (n : ℕ) → Stored n (rounds (λ k s. set s k (g k)) n (replicate w 0))
    all_stored =
        rounds_keep (λ k s. set s k (g k)) Stored (replicate w 0)
        (record { size = length-replicate {A = ℕ} w 0; each = λ k l. get_or-replicate w k 0 0 l ∙ sym (past 0 k (omega arith)) })
        stored_more

    front_is : (n : ℕ) → take w (made g n ++ replicate w 0) ≡ rounds (λ k s. set s k (g k)) n (replicate w 0)
    front_is n =
        ext_get_or 0 (take w (made g n ++ replicate w 0)) (rounds (λ k s. set s k (g k)) n (replicate w 0)) (size ∙ sym (all_stored n).size)
        (λ k l.
        let h : k < w = subst (λ (m : ℕ). k < m) size l in
        get_or-take w (made g n ++ replicate w 0) k 0 h ∙ with_zeros w (made g n) k h ∙ sym ((all_stored n).each k h))
      where
        size : length (take w (made g n ++ replicate w 0)) ≡ w
        size =
            length-take-le w (made g n ++ replicate w 0)
            (omega (arith, length-append (made g n) (replicate w 0), length-replicate {A = ℕ} w 0))

-- ---- the counts of a region's rings

-- stored one after the other
pub counts_stored : (r : Region) → nine_counts r ≡ rounds (λ k s. set s k (ring_count r k)) (r.holes + 1) (replicate 9 0)
unfolding nine_counts ring_counts ring_count_step
counts_stored r = front_is (ring_count r) 9 (r.holes + 1)

-- by place
pub counts_told : (r : Region) (k : ℕ) → k < 9 → k < r.holes + 1 → get_or (nine_counts r) k 0 ≡ ring_count r k
unfolding nine_counts ring_counts ring_count_step
counts_told r k l h =
    get_or-take 9 (made (ring_count r) (r.holes + 1) ++ replicate 9 0) k 0 l
    ∙ with_zeros 9 (made (ring_count r) (r.holes + 1)) k l
    ∙ made_at (ring_count r) (r.holes + 1) k 0 h
