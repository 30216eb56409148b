-- A ring that passes 4 to 9 passes 21 and `check_simple` as it is stored. Assumes nothing.
use Prim.Native.Nat.{ℕ, ◌+◌, ◌-◌, ◌*◌, ◌≤◌, ◌<◌}
use mathlib.Core.Path.{◌≡◌, refl, ap, ◌∙◌}
use mathlib.Core.Bool.{Bool, true, false, ◌&&◌}
use mathlib.Core.List.{List}
use native.Mathlib.Omega.{arith}
use borrow.Author.Tests.{not-false, le-leb}
use lib.ListN.{get_or}
use lib.Ieee.{Float, nan, le}
use Rattle.base.proofs.Laws.{rounds_same}
use Rattle.base.proofs.Tests.{pass_all}
use Rattle.std.specs.Prelude.{Option, None}
use Rattle.ring_cross.specs.declared.EdgePair.{EdgePair}
use Rattle.math.specs.Number.{abs}
use Rattle.ring.specs.Ring.{vertex_at, following, source, stored_at}
use Rattle.ring.proofs.Vertices.{following_lt, by_pairs, number_same}
use Rattle.ring.proofs.Sources.{source_lt}
use Rattle.ring_cross.specs.Simple.{crossing, pair_step, edge_step, check_simple}
use Rattle.ring_check.specs.Checks.{max_coordinate, beyond}
use Rattle.outline.specs.Outlines.{in_range_step, in_range, proper}
use Rattle.ring_check.proofs.Sound.{Within, Passed}

-- ---- `check_simple` of the ring as it is stored

module _ (ps qs : List Float) (n : ℕ) (back : Bool) (same : (k : ℕ) → k < n → vertex_at qs k ≡ stored_at ps n back k) where
  read : (k : ℕ) → k < n → stored_at qs n false k ≡ stored_at ps n back k
  unfolding stored_at source
  read k l = same k l

  crossing_same : (i j : ℕ) → i < n → j < n → crossing qs n false i j ≡ crossing ps n back i j
  unfolding crossing
  crossing_same i j h l = rw (read i h, read (following n i) (following_lt n i h), read j l, read (following n j) (following_lt n j l)) refl

  pair_same : (i : ℕ) → i < n → (k : ℕ) → k < n - (i + 1) → (s : Option EdgePair) → pair_step qs n false i k s ≡ pair_step ps n back i k s
  unfolding pair_step
  pair_same i h k l s = rw (crossing_same i (i + 1 + k) h (omega arith)) refl

  edge_same : (i : ℕ) → i < n → (s : Option EdgePair) → edge_step qs n false i s ≡ edge_step ps n back i s
  unfolding edge_step
  edge_same i h s = rw (rounds_same (pair_step qs n false i) (pair_step ps n back i) (n - (i + 1)) None (pair_same i h)) refl

  simple_same : check_simple qs n false ≡ check_simple ps n back
  unfolding check_simple
  simple_same = rounds_same (edge_step qs n false) (edge_step ps n back) n None edge_same

-- ---- question 21

within_le : (x : Float) → beyond x ≡ false → le (abs x) max_coordinate ≡ true
unfolding beyond
within_le x q = not-false (le (abs x) max_coordinate) q

pub proper_same : (room : ℕ) (qs rs : List Float) (n : ℕ) → ((k : ℕ) → k < n → vertex_at rs k ≡ vertex_at qs k) → proper room qs n ≡ true → proper room rs n ≡ true
unfolding proper in_range in_range_step
proper_same room qs rs n same q =
    rw (rounds_same (in_range_step rs) (in_range_step qs) (2 * n) true (λ i l s. ap (λ (x : Float). s && le (abs x) max_coordinate) (number_same qs rs n same i l))) q

-- ---- the stored ring

pub record GoodRing (room : ℕ) (qs : List Float) (n : ℕ) : Type 0 where
  pub three : 3 ≤ n
  pub fits : n ≤ room
  pub within : (k : ℕ) → k < n → Within (vertex_at qs k)
  pub simple : check_simple qs n false ≡ None

module _ (room : ℕ) (qs : List Float) (n : ℕ) (g : GoodRing room qs n) where
  number_near : (i : ℕ) → i < 2 * n → le (abs (get_or qs i nan)) max_coordinate ≡ true
  unfolding vertex_at
  number_near =
      by_pairs (λ (i : ℕ). le (abs (get_or qs i nan)) max_coordinate ≡ true) n
      (λ k l. (within_le (get_or qs (2 * k) nan) (g.within k l).east, within_le (get_or qs (2 * k + 1) nan) (g.within k l).north))

  pub good_proper : proper room qs n ≡ true
  unfolding proper in_range in_range_step
  good_proper =
      rw (le-leb 3 n g.three, le-leb n room g.fits, pass_all (in_range_step qs) (λ i. le (abs (get_or qs i nan)) max_coordinate) (λ i s. refl) (2 * n) number_near) refl

  -- another list with the same vertices
  pub good_same : (rs : List Float) → ((k : ℕ) → k < n → vertex_at rs k ≡ vertex_at qs k) → GoodRing room rs n
  unfolding stored_at source
  good_same rs same = record {
    three = g.three;
    fits = g.fits;
    within = λ k l. rw (same k l) (g.within k l);
    simple = simple_same qs rs n false same ∙ g.simple;
  }

pub good_ring : (room : ℕ) (ps : List Float) (n m : ℕ) (back : Bool) (qs : List Float) → Passed room ps n m back
    → ((k : ℕ) → k < m → vertex_at qs k ≡ stored_at ps m back k) → GoodRing room qs m
unfolding stored_at
good_ring room ps n m back qs p same = record {
  three = p.three;
  fits = p.fits;
  within = λ k l. rw (same k l) (p.within (source m back k) (source_lt m back k l));
  simple = simple_same ps qs m back same ∙ p.simple;
}
