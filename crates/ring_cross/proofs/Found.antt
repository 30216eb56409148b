-- What `check_simple` tells: `None` where no pair crosses or touches, and a pair only where it does. Assumes nothing.
use Prim.Native.Nat.{ℕ, ◌+◌, ◌-◌, ◌<◌}
use mathlib.Core.Path.{◌≡◌, refl, sym, ap, ◌∙◌, subst}
use mathlib.Core.Bool.{Bool, true, false, cond}
use mathlib.Core.List.{List}
use native.Mathlib.Omega.{arith}
use lib.Ieee.{Float}
use Rattle.base.specs.Loop.{rounds}
use Rattle.std.specs.Prelude.{Option, None}
use Rattle.std.specs.Option.{is_some, option_or}
use Rattle.ring_cross.specs.declared.EdgePair.{EdgePair}
use Rattle.ring_cross.specs.EdgePairs.{edges}
use Rattle.ring_cross.proofs.First.{no_edges, same_edges}
use Rattle.ring_cross.proofs.First
use Rattle.ring_cross.specs.Simple.{crossing, pair_step, edge_step, check_simple}

-- edges i and j of n, i the lower, cross or touch
pub record Crosses (ps : List Float) (n : ℕ) (back : Bool) (i j : ℕ) : Type 0 where
  pub lower : i < j
  pub under : j < n
  pub is : crossing ps n back i j ≡ true

module _ (ps : List Float) (n : ℕ) (back : Bool) where
  abbrev pair : ℕ → ℕ → Option EdgePair
  pair i k = cond (crossing ps n back i (i + 1 + k)) (edges i (i + 1 + k)) None

  abbrev row : ℕ → Option EdgePair
  row i = rounds (pair_step ps n back i) (n - (i + 1)) None

  pair_is : (i k : ℕ) (s : Option EdgePair) → pair_step ps n back i k s ≡ option_or s (pair i k)
  unfolding pair_step
  pair_is i k s = refl

  row_is : (i : ℕ) (s : Option EdgePair) → edge_step ps n back i s ≡ option_or s (row i)
  unfolding edge_step
  row_is i s = refl

  -- no pair of a simple ring crosses
  pub none_crosses : check_simple ps n back ≡ None → (i j : ℕ) → i < j → j < n → crossing ps n back i j ≡ false
  unfolding check_simple
  none_crosses e i j l m =
      let r = First.all_none row (edge_step ps n back) row_is n e i (omega arith) in
      let p = First.all_none (pair i) (pair_step ps n back i) (pair_is i) (n - (i + 1)) r (j - (i + 1)) (omega arith) in
      let b : i + 1 + (j - (i + 1)) ≡ j = omega arith in
      subst (λ (x : ℕ). crossing ps n back i x ≡ false) b (not_found (crossing ps n back i (i + 1 + (j - (i + 1)))) i (i + 1 + (j - (i + 1))) p)
    where
      not_found : (t : Bool) (i j : ℕ) → cond t (edges i j) None ≡ None → t ≡ false
      not_found true i j e = absurd (no_edges i j (sym e))
      not_found false i j e = refl

  -- and the pair that is named does
  pub named_crosses : (i j : ℕ) → check_simple ps n back ≡ edges i j → Crosses ps n back i j
  unfolding check_simple
  named_crosses i j e =
      let r = First.found_in row (edge_step ps n back) row_is n (ap is_some e) in
      let f = r.gives ∙ e in
      let p = First.found_in (pair r.at) (pair_step ps n back r.at) (pair_is r.at) (n - (r.at + 1)) (ap is_some f) in
      go r.at p.at p.under (crossing ps n back r.at (r.at + 1 + p.at)) refl (p.gives ∙ f)
    where
      go : (a k : ℕ) → k < n - (a + 1) → (t : Bool) → crossing ps n back a (a + 1 + k) ≡ t → cond t (edges a (a + 1 + k)) None ≡ edges i j → Crosses ps n back i j
      go a k l false c e = absurd (no_edges i j e)
      go a k l true c e = at i j (same_edges a (a + 1 + k) i j e)
        where
          at : (i j : ℕ) → (a ≡ i) × (a + 1 + k ≡ j) → Crosses ps n back i j
          at i j w = record {
            lower = omega (arith, w.0, w.1);
            under = omega (arith, w.0, w.1);
            is = subst (λ (y : ℕ). crossing ps n back i y ≡ true) w.1 (subst (λ (x : ℕ). crossing ps n back x (a + 1 + k) ≡ true) w.0 c);
          }
