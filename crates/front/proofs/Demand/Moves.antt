-- The live vertices of a tidied front all have a velocity: a vertex without one stands between two edges that face opposite ways, which tidying takes out.
use lib.Ieee
use mathlib.Core.Path.{◌≡◌, refl, ap, ◌∙◌, subst}
use mathlib.Core.Bool.{Bool, true, false, cond, not}
use mathlib.Core.List.{List}
use Prim.Native.Nat.{ℕ, ◌*◌}
use lib.Dec.{eqb}
use lib.Ieee.{Float, nan, inf, fin, binary64, lt, neg, round, unlike, up, down}
use Rattle.plane.specs.declared.PlanarPoint.{PlanarPoint}
use Rattle.front.specs.declared.Line.{Line}
use Rattle.front.specs.declared.Edge.{Edge}
use Rattle.std.specs.Prelude.{None, Some}
use Rattle.math.specs.Number
use Rattle.math.specs.Number.{add, mul, div, one}
use Rattle.math.proofs.Swap.{add_swap}
use Rattle.plane.specs.Plane.{dot}
use Rattle.front.specs.Thresholds.{opposite}
use Rattle.front.specs.Lines.{direction, normal, velocity_by, velocity}
use Rattle.front.specs.Edges.{edge, edge_line, moved_by, vertex_by, vertex_of, vertex}
use Rattle.front.specs.Tidying.{opposed}
use Rattle.front.specs.Links.{links}
use Rattle.front.specs.Velocity.{LeftNormal, SameBits, Moves}
use Rattle.front.proofs.Demand.Links.{live_prev, next_prev}
use Rattle.front.proofs.Demand.Tidying.{Tidied, tidied_apart}
use Rattle.front.proofs.Demand.Views.{alive_of}
use Rattle.front.proofs.Demand.Lines.{Lined}

-- ---- the sign of a product

unlike_not : (s t : Bool) → unlike (not s) (not t) ≡ unlike s t
unlike_not true true = refl
unlike_not true false = refl
unlike_not false true = refl
unlike_not false false = refl

mul_neg : (x y : Float) → mul (neg x) (neg y) ≡ mul x y
unfolding lib.Ieee.mul neg
mul_neg nan y = refl
mul_neg (inf s) nan = refl
mul_neg (inf s) (inf t) = ap inf (unlike_not s t)
mul_neg (inf s) (fin t n d) = ap (λ (b : Bool). cond (eqb n 0) nan (inf b)) (unlike_not s t)
mul_neg (fin s m e) nan = refl
mul_neg (fin s m e) (inf t) = ap (λ (b : Bool). cond (eqb m 0) nan (inf b)) (unlike_not s t)
mul_neg (fin s m e) (fin t n d) = ap (λ (b : Bool). round binary64 b (m * up e * (n * up d)) (down e * down d)) (unlike_not s t)

pub same_bits : SameBits
unfolding dot
same_bits a b p q =
    ap (λ (x : Float). add (mul x b.n0) (mul a.n1 b.n1)) p.0
    ∙ ap (λ (x : Float). add (mul (neg a.u1) x) (mul a.n1 b.n1)) q.0
    ∙ ap (λ (x : Float). add x (mul a.n1 b.n1)) (mul_neg a.u1 b.u1)
    ∙ ap (λ (x : Float). add (mul a.u1 b.u1) (mul x b.n1)) p.1
    ∙ ap (λ (x : Float). add (mul a.u1 b.u1) (mul a.u0 x)) q.1
    ∙ add_swap (mul a.u1 b.u1) (mul a.u0 b.u0)

-- ---- a velocity

has_velocity : (a b : Line) → LeftNormal a → LeftNormal b → opposed (direction a) (direction b) ≡ false → (v : PlanarPoint) × (velocity a b ≡ Some v)
unfolding velocity velocity_by opposed
has_velocity a b p q h =
    let scale : Float = add one (dot (normal a) (normal b)) in (
      _,
      ap (λ (o : Bool). cond o None (Some (record { east = div (add a.n0 b.n0) scale; north = div (add a.n1 b.n1) scale })))
          (ap (λ (x : Float). lt (add one x) opposite) (same_bits a b p q) ∙ h),
    )

pub moves : (P : Line → Type 0) → ((l : Line) → P l → LeftNormal l) → (f : List Edge) (t : Float) (events bound : ℕ) → Tidied f t events bound → Lined (λ i. P) f → Moves f
unfolding vertex vertex_of vertex_by
moves P left f t events bound T l x a now =
    let p : ℕ = (edge f x).previous in
    let ap_live : (links f).live p ≡ 1 = live_prev (links f) T.kept.held.rs T.kept.held.rings x a in
    let n : (edge f p).next ≡ x = next_prev (links f) T.kept.held.rs T.kept.held.rings x a in
    let w : (v : PlanarPoint) × (velocity (edge_line (edge f p)) (edge_line (edge f x)) ≡ Some v) =
    has_velocity (edge_line (edge f p)) (edge_line (edge f x))
    (left (edge_line (edge f p)) (l.lines p (alive_of (edge f p).alive ap_live))) (left (edge_line (edge f x)) (l.lines x (alive_of (edge f x).alive a)))
    (subst (λ (k : ℕ). opposed (direction (edge_line (edge f p))) (direction (edge_line (edge f k))) ≡ false) n (tidied_apart f t events bound T p ap_live)) in
    (record { at = moved_by (edge f x).start w.0 (Number.sub now (edge f x).since); velocity = w.0 }, ap (vertex_by (edge f x) now) w.1)
