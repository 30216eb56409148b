-- Two segments do not meet where one lies on one side of the other's line. Assumes nothing.
use mathlib.Core.Path.{◌≡◌, refl, sym, ap, ◌∙◌}
use mathlib.Core.Logic.{◌⊎◌, inl, inr}
use mathlib.Core.Bool.{Bool, true, false, cond, ◌&&◌, false≢true, and-eq-true_iff}
use mathlib.Mathlib.Data.Bool.Basic.{and_elim_left, and_elim_right}
use Prim.Native.Nat.{ℕ, ◌+◌, ◌*◌, ◌<◌}
use native.Mathlib.Nat.{add_comm, le_of_lt, lt_irrefl, mul-lt-mul_of_pos_right}
use native.Mathlib.Omega.{arith}
use Rattle.plane.specs.declared.PlanarPoint.{PlanarPoint}
use Rattle.turn.specs.declared.Turn.{Turn}
use Rattle.turn.specs.declared.Turn.TheVariants.{Unknown}
use Rattle.turn.specs.Turns.{DoublePoint, Finite, turn, by_sums, finite_point, left_sum, right_sum, is_left, is_right, apart, place_at}
use Rattle.turn.proofs.Places.{all_finite}
use Rattle.segment.specs.Segments.{segments_meet}
use Rattle.segment.specs.Meeting.{one_side, OneSideNoMeet}
use Rattle.segment.proofs.Meet.{balanced}
use Rattle.segment.proofs.Shared.{over, times, zero_or}
use Rattle.turn.proofs.Places.{or_either}
use Rattle.segment.proofs.Theorem.{ls, rs, turn_is, left_is, right_is, share_of}
use Rattle.segment.proofs.Symmetric.{meet_symmetric}

-- ---- a turn to the left or to the right has finite points
abbrev pub Aside : Turn → Type 0
Aside d = (is_left d ≡ true) ⊎ (is_right d ≡ true)

abbrev three : PlanarPoint → PlanarPoint → PlanarPoint → Bool
three a b c = finite_point a && (finite_point b && finite_point c)

told_finite : (a b c : PlanarPoint) → Aside (turn a b c) → three a b c ≡ true
unfolding turn is_left is_right
told_finite a b c h = go (three a b c) refl h
  where
    go : (t : Bool) → three a b c ≡ t → Aside (cond t (by_sums (left_sum a b c) (right_sum a b c)) Unknown) → three a b c ≡ true
    go true e h = e
    go false e (inl h) = absurd (false≢true h)
    go false e (inr h) = absurd (false≢true h)

-- four ends that are finite
pub record Ends (p1 p2 q1 q2 : PlanarPoint) : Type 0 where
  pub p1_finite : Finite p1
  pub p2_finite : Finite p2
  pub q1_finite : Finite q1
  pub q2_finite : Finite q2

pub ends_finite :
    (p1 p2 q1 q2 : PlanarPoint) → DoublePoint p1 → DoublePoint p2 → DoublePoint q1 → DoublePoint q2 → Aside (turn q1 q2 p1) → Aside (turn q1 q2 p2) → Ends p1 p2 q1 q2
ends_finite p1 p2 q1 q2 f1 f2 g1 g2 s t =
    let x = all_finite q1 q2 p1 (told_finite q1 q2 p1 s) in
    let y = all_finite q1 q2 p2 (told_finite q1 q2 p2 t) in
    record {
      p1_finite = record { doubles = f1; both_finite = x.1.1 };
      p2_finite = record { doubles = f2; both_finite = y.1.1 };
      q1_finite = record { doubles = g1; both_finite = x.0 };
      q2_finite = record { doubles = g2; both_finite = x.1.0 };
    }

pub sides : (d e : Turn) → apart d e ≡ true → Aside d × Aside e
unfolding apart
sides d e h = elim (or_either (is_left d && is_right e) (is_right d && is_left e) h) [
  | inl x ↦ (inl (and_elim_left (is_left d) (is_right e) x), inr (and_elim_right (is_left d) (is_right e) x))
  | inr x ↦ (inr (and_elim_left (is_right d) (is_left e) x), inl (and_elim_right (is_right d) (is_left e) x))
]

-- ---- two turns to one side do not balance
later : (u v : ℕ) → u ≡ 0 → 0 < u + v → 0 < v
later u v z h = omega arith

uneven : (u v l r l' r' : ℕ) → 0 < u + v → r < l → r' < l' → u * l + v * l' ≡ u * r + v * r' → 0 < 0
uneven u v l r l' r' w h k e = go (zero_or u)
  where
    go : (u ≡ 0) ⊎ (0 < u) → 0 < 0
    go (inr a) = over u v l r l' r' (mul-lt-mul_of_pos_right h a) (times v r' l' (le_of_lt k)) e
    go (inl z) =
        over v u l' r' l r (mul-lt-mul_of_pos_right k (later u v z w)) (times u r l (le_of_lt h))
        (add_comm (v * l') (u * l) ∙ e ∙ add_comm (u * r) (v * r'))

module _ (p1 p2 q1 q2 : PlanarPoint) (f1 : DoublePoint p1) (f2 : DoublePoint p2) (g1 : DoublePoint q1) (g2 : DoublePoint q2) (m : segments_meet p1 p2 q1 q2 ≡ true) where
  lefts : is_left (turn q1 q2 p1) ≡ true → is_left (turn q1 q2 p2) ≡ true → 0 < 0
  lefts h k =
      let f = ends_finite p1 p2 q1 q2 f1 f2 g1 g2 (inl h) (inl k) in
      let s = share_of p1 p2 q1 q2 f.p1_finite f.p2_finite f.q1_finite f.q2_finite m in
      uneven s.i' s.i (ls q1 q2 p1) (rs q1 q2 p1) (ls q1 q2 p2) (rs q1 q2 p2) s.some
      (left_is (ls q1 q2 p1) (rs q1 q2 p1) (sym (ap is_left (turn_is q1 q2 p1 f.q1_finite f.q2_finite f.p1_finite)) ∙ h))
      (left_is (ls q1 q2 p2) (rs q1 q2 p2) (sym (ap is_left (turn_is q1 q2 p2 f.q1_finite f.q2_finite f.p2_finite)) ∙ k))
      (balanced (place_at p1) (place_at p2) (place_at q1) (place_at q2) s)

  rights : is_right (turn q1 q2 p1) ≡ true → is_right (turn q1 q2 p2) ≡ true → 0 < 0
  rights h k =
      let f = ends_finite p1 p2 q1 q2 f1 f2 g1 g2 (inr h) (inr k) in
      let s = share_of p1 p2 q1 q2 f.p1_finite f.p2_finite f.q1_finite f.q2_finite m in
      uneven s.i' s.i (rs q1 q2 p1) (ls q1 q2 p1) (rs q1 q2 p2) (ls q1 q2 p2) s.some
      (right_is (ls q1 q2 p1) (rs q1 q2 p1) (sym (ap is_right (turn_is q1 q2 p1 f.q1_finite f.q2_finite f.p1_finite)) ∙ h))
      (right_is (ls q1 q2 p2) (rs q1 q2 p2) (sym (ap is_right (turn_is q1 q2 p2 f.q1_finite f.q2_finite f.p2_finite)) ∙ k))
      (sym (balanced (place_at p1) (place_at p2) (place_at q1) (place_at q2) s))

  none : one_side (turn q1 q2 p1) (turn q1 q2 p2) ≡ true → 0 < 0
  unfolding one_side
  none h = elim (or_either (is_left (turn q1 q2 p1) && is_left (turn q1 q2 p2)) (is_right (turn q1 q2 p1) && is_right (turn q1 q2 p2)) h) [
    | inl x ↦ let y = (and-eq-true_iff (is_left (turn q1 q2 p1)) (is_left (turn q1 q2 p2))).0 x in lefts y.0 y.1
    | inr x ↦ let y = (and-eq-true_iff (is_right (turn q1 q2 p1)) (is_right (turn q1 q2 p2))).0 x in rights y.0 y.1
  ]

module _ (p1 p2 q1 q2 : PlanarPoint) (f1 : DoublePoint p1) (f2 : DoublePoint p2) (g1 : DoublePoint q1) (g2 : DoublePoint q2) where
  beside_second : one_side (turn q1 q2 p1) (turn q1 q2 p2) ≡ true → segments_meet p1 p2 q1 q2 ≡ false
  beside_second h = go (segments_meet p1 p2 q1 q2) refl
    where
      go : (t : Bool) → segments_meet p1 p2 q1 q2 ≡ t → segments_meet p1 p2 q1 q2 ≡ false
      go true m = absurd (lt_irrefl 0 (none p1 p2 q1 q2 f1 f2 g1 g2 m h))
      go false m = m

pub one_side_no_meet : OneSideNoMeet
one_side_no_meet = record {
  beside_second = beside_second;
  beside_first = λ p1 p2 q1 q2 f1 f2 g1 g2 h. meet_symmetric.exchanged q1 q2 p1 p2 ∙ beside_second q1 q2 p1 p2 g1 g2 f1 f2 h;
}
