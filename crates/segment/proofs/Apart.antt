-- Segments in boxes apart do not meet. Assumes nothing.
use mathlib.Core.Path.{◌≡◌, refl, sym, ◌∙◌}
use mathlib.Core.Bool.{Bool, true, false, cond, ◌&&◌, ◌||◌, false≢true, and-false}
use mathlib.Mathlib.Data.Bool.Basic.{and_elim_left, or_inl}
use Prim.Native.Nat.{ℕ, ◌<◌}
use native.Mathlib.Nat.{lt_irrefl}
use lib.Ieee.{Float, lt}
use borrow.Author.Tests.{leb-false}
use Rattle.math.proofs.Order.{irreflexive, lt_trans}
use Rattle.plane.specs.declared.PlanarPoint.{PlanarPoint}
use Rattle.turn.specs.Turns.{DoublePoint, place, turn, is_straight, apart, place_at}
use Rattle.segment.specs.Segments.{within_box, touches, meet_by, segments_meet}
use Rattle.segment.specs.Meeting.{Shared}
use Rattle.segment.proofs.Shared.{flip, no_share}
use Rattle.segment.proofs.Floats.{Number, east_number, north_number, le_places}
use Rattle.segment.proofs.Theorem.{share_of}
use Rattle.segment.proofs.Sides.{Ends, ends_finite, sides}
use Rattle.segment.specs.Boxes.{greater, lesser, low, high, beside, boxes_apart, Within, BoxesNoMeet, ApartNoMeet, PassedOver}
use Rattle.segment.proofs.Outside.{not_at_most, outside}

-- ---- numbers that lie apart, as places
record Under (x y z w : ℕ) : Type 0 where
  xz : x < z
  xw : x < w
  yz : y < z
  yw : y < w

under : (a b x1 x2 y1 y2 : Float) → Number x1 → Number x2 → Number y1 → Number y2 → lt a b ≡ true → lt a x1 ≡ false → lt a x2 ≡ false →
    lt y1 b ≡ false → lt y2 b ≡ false → Under (place x1) (place x2) (place y1) (place y2)
under a b x1 x2 y1 y2 f1 f2 g1 g2 h e f g k = record { xz = over x1 y1 f1 g1 e g; xw = over x1 y2 f1 g2 e k; yz = over x2 y1 f2 g1 f g; yw = over x2 y2 f2 g2 f k }
  where
    over : (x y : Float) → Number x → Number y → lt a x ≡ false → lt y b ≡ false → place x < place y
    over x y u v e g = leb-false (place y) (place x) (sym (le_places y x v u) ∙ not_at_most a b x y h e g)

-- ---- no point is shared: along one axis, or the other
module _ (p1 p2 q1 q2 : PlanarPoint) (s : Shared p1 p2 q1 q2) where
  east_apart : Under (place p1.east) (place p2.east) (place q1.east) (place q2.east) → 0 < 0
  east_apart u = no_share s.i' s.i s.k' s.k (place p1.east) (place p2.east) (place q1.east) (place q2.east) s.whole s.some s.east u.xz u.xw u.yz u.yw

  north_apart : Under (place p1.north) (place p2.north) (place q1.north) (place q2.north) → 0 < 0
  north_apart u = no_share s.i' s.i s.k' s.k (place p1.north) (place p2.north) (place q1.north) (place q2.north) s.whole s.some s.north u.xz u.xw u.yz u.yw

module _ (l h l2 h2 p1 p2 q1 q2 : PlanarPoint) (e : Within l h p1) (f : Within l h p2) (g : Within l2 h2 q1) (k : Within l2 h2 q2) (n : Ends p1 p2 q1 q2) (s : Shared p1 p2 q1 q2) where
  other : Shared q1 q2 p1 p2
  other = flip (place_at p1) (place_at p2) (place_at q1) (place_at q2) s

  nowhere : boxes_apart l h l2 h2 ≡ true → 0 < 0
  unfolding boxes_apart
  nowhere t = go _ _ _ _ refl refl refl refl t
    where
      e1 : Number p1.east
      e1 = east_number p1 n.p1_finite

      e2 : Number p2.east
      e2 = east_number p2 n.p2_finite

      e3 : Number q1.east
      e3 = east_number q1 n.q1_finite

      e4 : Number q2.east
      e4 = east_number q2 n.q2_finite

      n1 : Number p1.north
      n1 = north_number p1 n.p1_finite

      n2 : Number p2.north
      n2 = north_number p2 n.p2_finite

      n3 : Number q1.north
      n3 = north_number q1 n.q1_finite

      n4 : Number q2.north
      n4 = north_number q2 n.q2_finite

      go :
          (w x y z : Bool) → lt h2.east l.east ≡ w → lt h.east l2.east ≡ x → lt h2.north l.north ≡ y →
          lt h.north l2.north ≡ z → (w || (x || (y || z))) ≡ true → 0 < 0
      go true x y z a b c d t = east_apart q1 q2 p1 p2 other (under _ _ _ _ _ _ e3 e4 e1 e2 a g.east k.east e.west f.west)
      go false true y z a b c d t = east_apart p1 p2 q1 q2 s (under _ _ _ _ _ _ e1 e2 e3 e4 b e.east f.east g.west k.west)
      go false false true z a b c d t = north_apart q1 q2 p1 p2 other (under _ _ _ _ _ _ n3 n4 n1 n2 c g.north k.north e.south f.south)
      go false false false true a b c d t = north_apart p1 p2 q1 q2 s (under _ _ _ _ _ _ n1 n2 n3 n4 d e.north f.north g.south k.south)
      go false false false false a b c d t = absurd (false≢true t)

-- ---- whatever the numbers are
only_across : (c s1 s2 s3 s4 w1 w2 w3 w4 : Bool) → w1 ≡ false → w2 ≡ false → w3 ≡ false → w4 ≡ false → c ≡ false → (c || ((s1 && w1) || ((s2 && w2) || ((s3 && w3) || (s4 && w4))))) ≡ false
only_across c s1 s2 s3 s4 w1 w2 w3 w4 e1 e2 e3 e4 e = rw (e, e1, e2, e3, e4, and-false s1, and-false s2, and-false s3, and-false s4) refl

module _ (l h l2 h2 p1 p2 q1 q2 : PlanarPoint) (f1 : DoublePoint p1) (f2 : DoublePoint p2) (g1 : DoublePoint q1) (g2 : DoublePoint q2)
    (u : Within l h p1) (v : Within l h p2) (w : Within l2 h2 q1) (z : Within l2 h2 q2) (b : boxes_apart l h l2 h2 ≡ true) where
  abbrev crossing : Bool
  crossing = apart (turn q1 q2 p1) (turn q1 q2 p2) && apart (turn p1 p2 q1) (turn p1 p2 q2)

  across_meets : crossing ≡ true → segments_meet p1 p2 q1 q2 ≡ true
  unfolding segments_meet meet_by
  across_meets h = or_inl crossing (touches (turn q1 q2 p1) q1 q2 p1 || (touches (turn q1 q2 p2) q1 q2 p2 || (touches (turn p1 p2 q1) p1 p2 q1 || touches (turn p1 p2 q2) p1 p2 q2))) h

  crossed : crossing ≡ true → ⊥
  crossed e =
      let x = sides (turn q1 q2 p1) (turn q1 q2 p2) (and_elim_left (apart (turn q1 q2 p1) (turn q1 q2 p2)) (apart (turn p1 p2 q1) (turn p1 p2 q2)) e) in
      let k = ends_finite p1 p2 q1 q2 f1 f2 g1 g2 x.0 x.1 in
      let s = share_of p1 p2 q1 q2 k.p1_finite k.p2_finite k.q1_finite k.q2_finite (across_meets e) in
      lt_irrefl 0 (nowhere l h l2 h2 p1 p2 q1 q2 u v w z k s b)

  no_crossing : (t : Bool) → crossing ≡ t → crossing ≡ false
  no_crossing true e = absurd (crossed e)
  no_crossing false e = e

  no_meeting : segments_meet p1 p2 q1 q2 ≡ false
  unfolding segments_meet meet_by touches
  no_meeting = let o = outside p1 p2 q1 q2 l h l2 h2 u v w z b in
      only_across crossing (is_straight (turn q1 q2 p1)) (is_straight (turn q1 q2 p2)) (is_straight (turn p1 p2 q1)) (is_straight (turn p1 p2 q2)) (within_box q1 q2 p1) (within_box q1 q2 p2) (within_box p1 p2 q1) (within_box p1 p2 q2)
      o.first o.second o.third o.fourth (no_crossing crossing refl)

pub boxes_no_meet : BoxesNoMeet
boxes_no_meet l h l2 h2 p1 p2 q1 q2 f1 f2 g1 g2 u v w z b = no_meeting l h l2 h2 p1 p2 q1 q2 f1 f2 g1 g2 u v w z b

-- ---- the box of a segment, and of points one after the other
module _ (a b : Float) where
  first_not_below : lt a (lesser a b) ≡ false
  unfolding lesser
  first_not_below = go (lt a b) refl
    where
      go : (t : Bool) → lt a b ≡ t → lt a (cond t a b) ≡ false
      go true e = irreflexive a
      go false e = e

  first_not_above : lt (greater a b) a ≡ false
  unfolding greater
  first_not_above = go (lt b a) refl
    where
      go : (t : Bool) → lt b a ≡ t → lt (cond t a b) a ≡ false
      go true e = irreflexive a
      go false e = e

  -- what is not below b is not below the lesser
  pub still_not_below : (p : Float) → lt p b ≡ false → lt p (lesser a b) ≡ false
  unfolding lesser
  still_not_below p f = go (lt a b) refl
    where
      go : (t : Bool) → lt a b ≡ t → lt p (cond t a b) ≡ false
      go true e = never (lt p a) refl
        where
          never : (u : Bool) → lt p a ≡ u → lt p a ≡ false
          never true d = absurd (false≢true (sym f ∙ lt_trans p a b d e))
          never false d = d
      go false e = f

  pub still_not_above : (p : Float) → lt b p ≡ false → lt (greater a b) p ≡ false
  unfolding greater
  still_not_above p f = go (lt b a) refl
    where
      go : (t : Bool) → lt b a ≡ t → lt (cond t a b) p ≡ false
      go true e = never (lt a p) refl
        where
          never : (u : Bool) → lt a p ≡ u → lt a p ≡ false
          never true d = absurd (false≢true (sym f ∙ lt_trans b a p e d))
          never false d = d
      go false e = f

-- a box of one point
pub alone : (p : PlanarPoint) → Within p p p
alone p = record { west = irreflexive _; east = irreflexive _; south = irreflexive _; north = irreflexive _ }

-- a box made larger by a point v holds v, and what it held before
pub taken_in : (l h v : PlanarPoint) → Within (low v l) (high v h) v
unfolding low high
taken_in l h v = record { west = first_not_below _ _; east = first_not_above _ _; south = first_not_below _ _; north = first_not_above _ _ }

pub still_in : (l h v p : PlanarPoint) → Within l h p → Within (low v l) (high v h) p
unfolding low high
still_in l h v p w = record {
  west = still_not_below _ _ _ w.west;
  east = still_not_above _ _ _ w.east;
  south = still_not_below _ _ _ w.south;
  north = still_not_above _ _ _ w.north;
}

-- a segment's own box holds both ends
module _ (a b : PlanarPoint) where
  holds_start : Within (low a b) (high a b) a
  holds_start = taken_in b b a

  holds_end : Within (low a b) (high a b) b
  holds_end = still_in b b a b (alone b)

-- a segment in a box does not meet one beside it
beside_no_meet : (l h p1 p2 q1 q2 : PlanarPoint) → DoublePoint p1 → DoublePoint p2 → DoublePoint q1 → DoublePoint q2 → Within l h p1 → Within l h p2 → beside l h q1 q2 ≡ true → segments_meet p1 p2 q1 q2 ≡ false
unfolding beside boxes_apart low high
beside_no_meet l h p1 p2 q1 q2 f1 f2 g1 g2 v w b =
    boxes_no_meet l h (low q1 q2) (high q1 q2) p1 p2 q1 q2 f1 f2 g1 g2 v w (holds_start q1 q2) (holds_end q1 q2) b

pub apart_no_meet : ApartNoMeet
apart_no_meet p1 p2 q1 q2 f1 f2 g1 g2 b = beside_no_meet (low p1 p2) (high p1 p2) p1 p2 q1 q2 f1 f2 g1 g2 (holds_start p1 p2) (holds_end p1 p2) b

pub passed_over : (l h p q : PlanarPoint) (r : Bool) → DoublePoint p → DoublePoint q → r ≡ beside l h p q → PassedOver r l h p q
passed_over l h p q r f g e k a1 a2 f1 f2 v w = beside_no_meet l h a1 a2 p q f1 f2 f g v w (sym e ∙ k)

-- a test as `PassedOver` has it, of a segment's own box
pub over_own : (l h p q : PlanarPoint) (r : Bool) → PassedOver r l h p q → r ≡ true → (a1 a2 : PlanarPoint) → DoublePoint a1 → DoublePoint a2 → l ≡ low a1 a2 → h ≡ high a1 a2 → segments_meet a1 a2 p q ≡ false
over_own l h p q r t k a1 a2 f g x y = t k a1 a2 f g (rw (x, y) (holds_start a1 a2)) (rw (x, y) (holds_end a1 a2))
