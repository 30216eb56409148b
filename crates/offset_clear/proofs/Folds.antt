-- The least gap over the edges is below a number exactly where one of the gaps is. Assumes nothing.
use Prim.Native.Nat.{ℕ, zero, suc}
use mathlib.Core.Path.{◌≡◌, refl, ◌∙◌}
use mathlib.Core.Bool.{Bool, true, false, cond, ◌||◌}
use mathlib.Core.List.{List}
use lib.Ieee.{Float, nan, inf, fin, lt, le, eq, is_nan}
use Rattle.math.specs.Number.{infinity, open_number}
use Rattle.plane.specs.declared.PlanarPoint.{PlanarPoint}
use Rattle.ring.specs.Ring.{vertex_at, edge_end}
use Rattle.base.specs.Loop.{rounds}
use Rattle.ring_near.specs.declared.Nearest.{Nearest}
use Rattle.ring_near.specs.Near.{nearer, gap_to, nearest_step, none_yet, nearest}
use Rattle.offset_clear.specs.Gaps.{falls_short}
use Rattle.math.proofs.Order.{under_not_over, at_least, lt_trans, lt_from, lt_number}

-- one edge more
unfoldable pub short_step : List Float → ℕ → PlanarPoint → Float → ℕ → Bool → Bool
short_step ps n p least k s = s || falls_short p (vertex_at ps k) (edge_end ps n k) least

-- the nearest so far is at a number, and s says whether that is below
record Stands (least : Float) (t : Nearest) (s : Bool) : Type 0 where
  number : is_nan t.gap ≡ false
  below : lt t.gap least ≡ s

stands_first : (p : PlanarPoint) (least : Float) → Stands least (none_yet p) false
unfolding is_nan lt open_number
stands_first p least = record { number = refl; below = go least }
  where
    go : (b : Float) → lt infinity b ≡ false
    go nan = refl
    go (inf t) = refl
    go (fin t n d) = refl

stands_nearer : (least : Float) (c t : Nearest) (s : Bool) → Stands least t s → Stands least (nearer c t) (s || lt c.gap least)
unfolding nearer
stands_nearer least c t s w = go (lt c.gap t.gap) s refl w.below
  where
    taken : (s : Bool) → lt t.gap least ≡ s → lt c.gap t.gap ≡ true → lt c.gap least ≡ (s || lt c.gap least)
    taken true h e = lt_trans c.gap t.gap least e h
    taken false h e = refl

    left : (s u : Bool) → lt t.gap least ≡ s → lt c.gap least ≡ u → lt c.gap t.gap ≡ false → lt t.gap least ≡ (s || u)
    left true u h g e = h
    left false false h g e = h
    left false true h g e = lt_from c.gap t.gap least w.number g e

    go : (b s : Bool) → lt c.gap t.gap ≡ b → lt t.gap least ≡ s → Stands least (cond b c t) (s || lt c.gap least)
    go true s e h = record { number = lt_number c.gap t.gap e; below = taken s h e }
    go false s e h = record { number = w.number; below = left s (lt c.gap least) h refl e }

stands_step : (ps : List Float) (n : ℕ) (p : PlanarPoint) (least : Float) (k : ℕ) (t : Nearest) (s : Bool) → Stands least t s → Stands least (nearest_step ps n p k t) (short_step ps n p least k s)
unfolding nearest_step short_step gap_to falls_short
stands_step ps n p least k t s w = stands_nearer least (gap_to p _) t s w

stands : (ps : List Float) (n : ℕ) (p : PlanarPoint) (least : Float) (k : ℕ) → Stands least (rounds (nearest_step ps n p) k (none_yet p)) (rounds (short_step ps n p least) k false)
unfolding rounds
stands ps n p least zero = stands_first p least
stands ps n p least (suc k) = stands_step ps n p least k _ _ (stands ps n p least k)

-- the least gap is a number, and below `least` exactly where an edge falls short
pub gap_number : (ps : List Float) (n : ℕ) (p : PlanarPoint) → is_nan (nearest ps n p).gap ≡ false
unfolding nearest
gap_number ps n p = (stands ps n p infinity n).number

pub gap_below : (ps : List Float) (n : ℕ) (p : PlanarPoint) (least : Float) → lt (nearest ps n p).gap least ≡ rounds (short_step ps n p least) n false
unfolding nearest
gap_below ps n p least = (stands ps n p least n).below

-- an edge falls short: the least gap is not at least the number
pub gap_short : (ps : List Float) (n : ℕ) (p : PlanarPoint) (least : Float) → rounds (short_step ps n p least) n false ≡ true → le least (nearest ps n p).gap ≡ false
gap_short ps n p least h = under_not_over _ least (gap_below ps n p least ∙ h)

-- none does: it is, where the number is one
pub gap_long : (ps : List Float) (n : ℕ) (p : PlanarPoint) (least : Float) → rounds (short_step ps n p least) n false ≡ false → le least (nearest ps n p).gap ≡ eq least least
gap_long ps n p least h = at_least least _ (gap_number ps n p) (gap_below ps n p least ∙ h)
