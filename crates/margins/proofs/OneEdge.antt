-- The margin from one edge, whatever its length: the sizes of its numbers, and the cases of `ComputedEdge`. Assumes nothing.
use mathlib.Core.Path.{◌≡◌, sym, ◌∙◌, subst}
use mathlib.Core.Logic.{◌⊎◌, inl, inr}
use mathlib.Core.Bool.{Bool, true, false, true≢false}
use Prim.Native.Nat.{ℕ, ◌+◌, ◌*◌, ◌^◌, ◌≤◌, ◌<◌}
use native.Mathlib.Nat.{le_trans, le_of_eq, le-add_right, le-add_left}
use native.Mathlib.Omega.{arith}
use lib.Dec.{leb→le}
use lib.Ieee.{Float, lt, le}
use Rattle.math.specs.Number.{zero_float}
use Rattle.plane.specs.declared.PlanarPoint.{PlanarPoint}
use Rattle.plane.specs.Plane.{sub, dot}
use Rattle.plane.specs.Points.{length_of}
use Rattle.hypotenuse.proofs.Order.{le_or_lt}
use Rattle.math.proofs.Naturals.{larger}
use Rattle.math.proofs.Signed.{Signed, ◌⊟◌, total, size, square, past, Small, small_more, Vector, from_to, norm}
use Rattle.math.proofs.Operations.{unit, Is, total_small}
use Rattle.margins.proofs.Scale.{Range, Scale, coarse_enough, below_limit}
use Rattle.margins.proofs.DotProduct.{At}
use Rattle.margins.proofs.Apart.{apart}
use Rattle.margins.proofs.Values.{above, not_zero}
use Rattle.margins.proofs.Gaps.{Asked, gap_of}
use Rattle.margins.proofs.ExactEdge.{Kept, kept_unless, reach_axis}
use Rattle.margins.proofs.ComputedEdge.{Sized, Figure, found, squared, long_length, far_long, far_start, far_between}

-- ---- sizes

-- along one axis: with the ends within M and p within |b - a| + D of the start
sized : {p : Float} {A B P : Signed} (u D M R H : ℕ) → R ≡ u + D + M → Range R → Is p P → total A ≤ M → total B ≤ M
    → Small (P ⊟ A) (size (B ⊟ A) + D) → size (B ⊟ A) ≤ H → Sized A B P R H
sized {p} {A} {B} {P} u D M R H r range ip am bm near h = record {
  edge = record { small = record { above = omega arith; below = omega arith }; fine = below_limit (total B + total A) range (omega arith) };
  vector = record { small = small_more near wide; fine = below_limit (total P + total A) range (omega (arith, total_small ip point)) };
  placed = record { start = record { above = omega arith; below = omega arith }; point = point };
}
  where
    wide : size (B ⊟ A) + D ≤ 2 * R
    wide = omega arith

    up : (p q a b x : ℕ) → a + b ≤ M → x ≤ 2 * M → p + b ≤ q + a + (x + D) → p ≤ q + 3 * R
    up p q a b x k l h = omega arith

    point : Small P (3 * R)
    point = record {
      above = up P.plus P.minus A.plus A.minus (size (B ⊟ A)) am (omega arith) near.above;
      below = up P.minus P.plus A.minus A.plus (size (B ⊟ A)) (omega arith) (omega arith) near.below;
    }

-- no coordinate is larger than M units
pub record Within (v : Vector) (M : ℕ) : Type 0 where
  pub east : total v.east ≤ M
  pub north : total v.north ≤ M

-- the larger of both sides and 2 ^ 52
record Width (x y : ℕ) : Type 0 where
  H : ℕ
  east : x ≤ H
  north : y ≤ H
  wide : 2 ^ 52 ≤ H
  one : ((H ≡ x) ⊎ (H ≡ y)) ⊎ (H ≡ 2 ^ 52)

width : (x y : ℕ) → Width x y
width x y =
    let s = larger x y in
    let t = larger s.most (2 ^ 52) in
    record {
      H = t.most;
      east = le_trans s.left t.left;
      north = le_trans s.right t.left;
      wide = t.right;
      one = go s.most t.most s.one t.one;
    }
  where
    go : (m H : ℕ) → (m ≡ x) ⊎ (m ≡ y) → (H ≡ m) ⊎ (H ≡ 2 ^ 52) → ((H ≡ x) ⊎ (H ≡ y)) ⊎ (H ≡ 2 ^ 52)
    go m H (inl e) (inl f) = inl (inl (f ∙ e))
    go m H (inr e) (inl f) = inl (inr (f ∙ e))
    go m H e (inr f) = inr f

module _ {a b p : PlanarPoint} {z : Float} {A B P : Vector} {D M R n : ℕ} (ia : At a A) (ib : At b B) (ip : At p P)
    (wa : Within A M) (wb : Within B M) (asked : Asked z D M R n) (fine : R ≤ 2 ^ 1115) (i j : ℕ) (ij : i ≤ j) (jp : 0 < j) where
  abbrev x : Vector
  x = from_to A B

  abbrev w : Vector
  w = from_to A P

  R_is : R ≡ unit + D + M
  R_is = asked.margin.R_is

  range : Range R
  range = record { above_one = last unit R_is; fine = fine }
    where
      last : (u : ℕ) → R ≡ u + D + M → u ≤ R
      last u r = omega arith

  -- a side of the edge
  side : (c d : Signed) → total c ≤ M → total d ≤ M → size (d ⊟ c) ≤ 2 * R
  side c d h k = last unit R_is
    where
      last : (u : ℕ) → R ≡ u + D + M → size (d ⊟ c) ≤ 2 * R
      last u r = omega arith

  scale : (s : Width (size x.east) (size x.north)) → Scale R s.H
  scale s = record { range = range; wide = s.wide; width = go s.H s.one }
    where
      go : (H : ℕ) → ((H ≡ size x.east) ⊎ (H ≡ size x.north)) ⊎ (H ≡ 2 ^ 52) → H ≤ 2 * R
      go H (inl (inl e)) = le_trans (le_of_eq e) (side A.east B.east wa.east wb.east)
      go H (inl (inr e)) = le_trans (le_of_eq e) (side A.north B.north wa.north wb.north)
      go H (inr e) = le_trans (le_of_eq e) (coarse_enough range)

  -- where the edge is not tiny, H is one of its sides
  square_in : (s : Width (size x.east) (size x.north)) → R < 2 ^ 45 * s.H → s.H * s.H ≤ norm x
  square_in s long = go s.H s.one long
    where
      go : (H : ℕ) → ((H ≡ size x.east) ⊎ (H ≡ size x.north)) ⊎ (H ≡ 2 ^ 52) → R < 2 ^ 45 * H → H * H ≤ norm x
      go H (inl (inl e)) l = subst (λ (y : ℕ). y * y ≤ norm x) (sym e) (le-add_right (square x.east) (square x.north))
      go H (inl (inr e)) l = subst (λ (y : ℕ). y * y ≤ norm x) (sym e) (le-add_left (square x.north) (square x.east))
      go H (inr e) l = absurd (no R H (le_trans (leb→le (2 ^ 97) unit tt) range.above_one) e l)
        where
          no : (R H : ℕ) → 2 ^ 97 ≤ R → H ≡ 2 ^ 52 → R < 2 ^ 45 * H → ⊥
          no R H u e h = omega arith

  -- ---- with a point of the edge nearer than the margin, p is near
  module _ (near : 10 ^ 15 * 10 ^ 15 * apart w x i j ≤ n * n * (j * j)) where
    nD : n ≤ 10 ^ 15 * D
    nD = last (2 * 10 ^ 6 * R) (10 ^ 15 * D) asked.margin.n_is
      where
        last : (a b : ℕ) → n + a + M ≡ b → n ≤ b
        last a b e = omega arith

    reach : (v y : Signed) → square (past v y i j) ≤ apart w x i j → Small v (size y + D)
    reach v y h = reach_axis v y i j D (10 ^ 15) n (apart w x i j) jp ij nD (omega arith) near h

    figure : (s : Width (size x.east) (size x.north)) → Figure A B P R s.H
    figure s = record {
      scale = scale s;
      east = sized unit D M R s.H R_is range ip.east wa.east wb.east
          (reach w.east x.east (le-add_right (square (past w.east x.east i j)) (square (past w.north x.north i j)))) s.east;
      north = sized unit D M R s.H R_is range ip.north wa.north wb.north
          (reach w.north x.north (le-add_left (square (past w.north x.north i j)) (square (past w.east x.east i j)))) s.north;
    }

    -- by the computed squared length and the size
    by_size : (o : Bool) → le (dot (sub b a) (sub b a)) zero_float ≡ o → lt (length_of (sub (found a b p o) p)) z ≡ false → Kept n w x i j
    by_size o h l = go (le_or_lt (2 ^ 45 * s.H) R) o h l
      where
        s : Width (size x.east) (size x.north)
        s = width (size x.east) (size x.north)

        f : Figure A B P R (width (size x.east) (size x.north)).H
        f = figure (width (size x.east) (size x.north))

        go : (2 ^ 45 * s.H ≤ R) ⊎ (R < 2 ^ 45 * s.H) → (o : Bool) → le (dot (sub b a) (sub b a)) zero_float ≡ o
            → lt (length_of (sub (found a b p o) p)) z ≡ false → Kept n w x i j
        go (inl t) true h l = far_start ia ib ip f t i j ij jp (gap_of asked a p l)
        go (inl t) false h l = far_between ia ib ip f t (above (squared ia ib ip f).is h) i j ij jp (gap_of asked (found a b p false) p l)
        go (inr t) true h l = absurd (true≢false (sym h ∙ not_zero (dot (sub b a) (sub b a)) (long_length ia ib ip f t (square_in s t))))
        go (inr t) false h l = far_long ia ib ip f t (square_in s t) i j ij jp (gap_of asked (found a b p false) p l)

  -- where the computed gap is not below z, the point i / j of the edge keeps the margin
  pub edge_kept : (o : Bool) → le (dot (sub b a) (sub b a)) zero_float ≡ o → lt (length_of (sub (found a b p o) p)) z ≡ false → Kept n w x i j
  edge_kept o h l = kept_unless n w x i j (λ near. by_size near o h l)
