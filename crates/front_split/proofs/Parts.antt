-- The split, by what the code does one after the other; and a split front, counted as divided or as joined. Assumes nothing.
use Prim.Native.Nat.{ℕ, ◌<◌, ◌≤◌}
use mathlib.Core.Bool.{Bool, true, false, cond}
use mathlib.Core.List.{List}
use mathlib.Core.Path.{◌≡◌, refl}
use borrow.Author.Tests.{lt-ltb, le-ltb}
use lib.ListN.{set}
use lib.Ieee.{Float}
use Rattle.error.specs.declared.Refusal.TheVariants.{Granted, Slots, Splits}
use Rattle.plane.specs.declared.PlanarPoint.{PlanarPoint}
use Rattle.front.specs.declared.Edge.{Edge}
use Rattle.std.specs.Prelude.{Option, None, Some}
use Rattle.front.specs.declared.Moving.{Moving}
use Rattle.front.specs.declared.Sweep.{Sweep}
use Rattle.front.specs.Edges.{edge, set_next, set_previous, set_start, vertex}
use Rattle.front.specs.Splitting.{copy_of, cut, split_linked, free, one_ring}
use Rattle.front.specs.Sweeps.{sweep_refused, swept_split, swept_divide, swept_join, split_into, split_of, split_at, split}
use Rattle.front_split.specs.Begun.{begun}

abbrev counted : List Edge → Float → ℕ → ℕ → Sweep
counted f t m n = record { edges = f; travelled = t; collapses = 0; divides = m; joins = n; ended = false; refusal = Granted }

pub parted_is : (f : List Edge) (t : Float) (b : Bool) (m n : ℕ) → m ≡ cond b 1 0 → n ≡ cond b 0 1 → counted f t m n ≡ swept_split (begun f t) t b f
unfolding swept_split swept_divide swept_join begun
parted_is f t b m n p q = rw (p, q) (go b)
  where
    go : (b : Bool) → counted f t (cond b 1 0) (cond b 0 1) ≡ cond b (counted f t 1 0) (counted f t 0 1)
    go true = refl
    go false = refl

module _ (f : List Edge) (v e : ℕ) (p : PlanarPoint) (t : Float) where
  pub cut_is : (g r : List Edge) → g ≡ set_previous f v e → r ≡ set_start g v p t → r ≡ cut f v e p t
  unfolding cut
  cut_is g r a b = rw (b, a) refl

  pub linked_is :
      (copy before : ℕ) (hit x : Edge) (g h i j r : List Edge) → x ≡ copy_of hit before p t → g ≡ set f copy x → h ≡ set_next g before copy →
      i ≡ set_previous h hit.next copy → j ≡ set_next i e v → r ≡ cut j v e p t → r ≡ split_linked f v e copy before hit p t
  unfolding split_linked
  linked_is copy before hit x g h i j r a b c d k l = rw (l, k, d, c, b, a) refl

  module _ (travelled : Float) (b : Bool) (copy : ℕ) where
    pub split_fits :
        (at hit : Edge) (g : List Edge) (r : Sweep) → copy < 128 → at ≡ edge f v → hit ≡ edge f e → g ≡ split_linked f v e copy at.previous hit p t →
        r ≡ swept_split (begun g t) t b g → r ≡ split_into (begun f travelled) f v e p t b copy
    unfolding split_into swept_split swept_divide swept_join begun
    split_fits at hit g r l h i j k = rw (lt-ltb copy 128 l, k, j, i, h) refl

    pub split_full : (r : Sweep) → 128 ≤ copy → r ≡ sweep_refused (begun f travelled) (Slots 129) → r ≡ split_into (begun f travelled) f v e p t b copy
    unfolding split_into
    split_full r l h = rw (le-ltb copy 128 l, h) refl

module _ (d : Float) (f : List Edge) (travelled : Float) (v e : ℕ) (t : Float) (x : Option Moving) (r : Sweep) (is : x ≡ vertex f v t) where
  pub split_lost : x ≡ None → r ≡ sweep_refused (begun f travelled) (Splits d) → r ≡ split d (begun f travelled) f v e t
  unfolding split split_at
  split_lost a b = rw (b, ← is, a) refl

  pub split_is :
      (m : Moving) (b : Bool) (copy : ℕ) → x ≡ Some m → b ≡ one_ring f v e → copy ≡ free f →
      r ≡ split_into (begun f travelled) f v e m.at t b copy → r ≡ split d (begun f travelled) f v e t
  unfolding split split_at split_of
  split_is m b copy a h i j = rw (j, i, h, ← is, a) refl
