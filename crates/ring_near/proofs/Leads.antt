-- The walk that takes roots only where two squares are close ends where the definition's walk ends. Assumes nothing.
use mathlib.Core.Path.{◌≡◌, refl, sym, ap, ◌∙◌, subst}
use mathlib.Core.Bool.{Bool, true, false, cond, ◌||◌, beq, false≢true, and-eq-true_iff}
use mathlib.Core.List.{List}
use mathlib.Mathlib.Data.Bool.Basic.{and_elim_left}
use Prim.Native.Nat.{ℕ, zero, suc, ◌+◌, ◌*◌, ◌^◌, ◌<◌}
use native.Mathlib.Nat.{mul_right_comm}
use borrow.Author.Tests.{eqb-true}
use lib.Dec.{T, eqb}
use lib.IntN.{ℤ}
use lib.Ieee.{Float, nan, inf, fin, binary64, up, down, lt, eq, fits}
use lib.Ieee.Fits.{sub-fits, down_pos}
use lib.Ieee.Nearest.{div_same}
use lib.Ieee.Bits.{of_bits-fits}
use Rattle.hypotenuse.specs.Hypot.{hypot, round_root, count}
use Rattle.math.proofs.Order.{one_way, irreflexive}
use Rattle.math.specs.Number.{mul, open_number}
use Rattle.math.proofs.Values.{hypot_swap}
use Rattle.plane.specs.declared.PlanarPoint.{PlanarPoint}
use Rattle.plane.specs.Plane.{sub, dot, same}
use Rattle.plane.specs.Points.{length_of}
use Rattle.segment.specs.Segments.{closest_on_segment}
use Rattle.ring.proofs.Starts.{start, start_edge}
use Rattle.ring.specs.Ring.{vertex_at, edge_end}
use Rattle.base.specs.Loop.{rounds}
use Rattle.ring_near.specs.declared.Nearest.{Nearest}
use Rattle.ring_near.specs.declared.Lead.{Lead}
use Rattle.ring_near.specs.Near
use Rattle.ring_near.specs.Near.{nearer, gap_to, nearest_step, none_yet, nearest, clearly, lead_to, no_lead, closer, leader, lead_between, lead_step, reached}
use Rattle.ring_near.proofs.Rounded
use Rattle.ring_near.proofs.Clear.{tiny_number, clearly_less, clearly_past}

-- ---- a lead whose square is its vector's
record Good (s : Lead) : Type 0 where
  pub square : s.square ≡ dot s.offset s.offset
  pub east : T (fits binary64 s.offset.east)
  pub north : T (fits binary64 s.offset.north)

good_to : (p q : PlanarPoint) → Good (lead_to p q)
unfolding lead_to sub
good_to p q = record { square = refl; east = sub-fits binary64 q.east p.east; north = sub-fits binary64 q.north p.north }

good_none : (p : PlanarPoint) → Good (no_lead p)
unfolding no_lead dot open_number
good_none p = record { square = refl; east = of_bits-fits binary64 0x7ff0000000000000; north = of_bits-fits binary64 0x0 }

-- the numbers of the definition
pub more_is : Near.more ≡ Rounded.more
unfolding open_number
more_is = refl

pub tiny_is : Near.tiny ≡ tiny_number
unfolding open_number
tiny_is = refl

-- what `clearly` says
told_clearly : (v w : Float) → clearly v w ≡ true → (lt (mul Rounded.more v) w ≡ true) × (lt tiny_number w ≡ true)
unfolding clearly
told_clearly v w h =
    let c = (and-eq-true_iff (lt (mul Near.more v) w) (lt Near.tiny w)).0 h in
    (subst (λ (m : Float). lt (mul m v) w ≡ true) more_is c.0, subst (λ (m : Float). lt m w ≡ true) tiny_is c.1)

pub vectors_apart :
    (d e : PlanarPoint) → T (fits binary64 d.east) → T (fits binary64 d.north) → T (fits binary64 e.east) → T (fits binary64 e.north) → clearly (dot d d) (dot e e) ≡ true →
    lt (length_of d) (length_of e) ≡ true
unfolding dot length_of
vectors_apart d e fx fy fz ft h = let c = told_clearly (dot d d) (dot e e) h in clearly_less d.east d.north e.east e.north fx fy fz ft c.0 c.1

-- a vector whose square is clearly above a number's is not shorter than the number
pub not_shorter : (x : Float) (v : PlanarPoint) → T (fits binary64 x) → T (fits binary64 v.east) → T (fits binary64 v.north) → clearly (mul x x) (dot v v) ≡ true → lt (length_of v) x ≡ false
unfolding dot length_of open_number
not_shorter x v fx fe fn h = let c = told_clearly (mul x x) (dot v v) h in clearly_past x v.east v.north fx fe fn c.0 c.1

leads_apart : (c s : Lead) → Good c → Good s → clearly c.square s.square ≡ true → lt (length_of c.offset) (length_of s.offset) ≡ true
leads_apart c s g f h = vectors_apart c.offset s.offset g.east g.north f.east f.north (rw (← g.square, ← f.square) h)

-- ---- equal vectors have equal lengths

pub count_level : (m : ℕ) (e : ℤ) (n : ℕ) (d : ℤ) → m * up e * down d ≡ n * up d * down e → count m e ≡ count n d
count_level m e n d h = div_same (m * up e * 2 ^ 1074) (down e) (n * up d * 2 ^ 1074) (down d) (down_pos e) (down_pos d) (swap (m * up e) (down d) ∙ ap (λ (z : ℕ). z * 2 ^ 1074) h ∙ sym (swap (n * up d) (down e)))
  where
    swap : (x y : ℕ) → x * 2 ^ 1074 * y ≡ x * y * 2 ^ 1074
    swap x y = mul_right_comm x (2 ^ 1074) y

hypot_level : (x z y : Float) → eq x z ≡ true → hypot x y ≡ hypot z y
unfolding eq hypot
hypot_level nan z y h = absurd (false≢true h)
hypot_level (inf s) nan y h = absurd (false≢true h)
hypot_level (inf s) (inf t) y h = refl
hypot_level (inf s) (fin t n d) y h = absurd (false≢true h)
hypot_level (fin s m e) nan y h = absurd (false≢true h)
hypot_level (fin s m e) (inf t) y h = absurd (false≢true h)
hypot_level (fin s m e) (fin t n d) nan h = refl
hypot_level (fin s m e) (fin t n d) (inf u) h = refl
hypot_level (fin s m e) (fin t n d) (fin u l c) h =
    ap (λ (a : ℕ). round_root binary64 (a * a + count l c * count l c))
    (count_level m e n d (eqb-true (m * up e * down d) (n * up d * down e) (and_elim_left (eqb (m * up e * down d) (n * up d * down e)) (beq s t || eqb (m * up e * down d) 0) h)))

same_length : (d e : PlanarPoint) → same d e ≡ true → length_of d ≡ length_of e
unfolding same length_of
same_length d e h =
    let c = (and-eq-true_iff (eq d.east e.east) (eq d.north e.north)).0 h in
    hypot_level d.east e.east d.north c.0 ∙ hypot_swap e.east d.north ∙ hypot_level d.north e.north e.east c.1 ∙ hypot_swap e.north e.east

closer_is : (c s : Lead) → closer c s ≡ cond (lt (length_of c.offset) (length_of s.offset)) c s
unfolding closer
closer_is c s = go (same c.offset s.offset) refl
  where
    go : (t : Bool) → same c.offset s.offset ≡ t → cond t s (cond (lt (length_of c.offset) (length_of s.offset)) c s) ≡ cond (lt (length_of c.offset) (length_of s.offset)) c s
    go true h = rw (same_length c.offset s.offset h, irreflexive (length_of s.offset)) refl
    go false h = refl

-- ---- a step
record Steps (r c s : Lead) : Type 0 where
  pub good : Good r
  pub same : reached r ≡ cond (lt (length_of c.offset) (length_of s.offset)) (reached c) (reached s)

leader_steps : (c s : Lead) → Good c → Good s → Steps (leader c s) c s
unfolding leader
leader_steps c s g f = rw (closer_is c s)
    (go (clearly s.square c.square) (clearly c.square s.square) (lt (length_of c.offset) (length_of s.offset)) refl
    (λ h. one_way (length_of s.offset) (length_of c.offset) (leads_apart s c f g h)) (leads_apart c s g f))
  where
    go : (x y z : Bool) → lt (length_of c.offset) (length_of s.offset) ≡ z → (x ≡ true → lt (length_of c.offset) (length_of s.offset) ≡ false) →
        (y ≡ true → lt (length_of c.offset) (length_of s.offset) ≡ true) → Steps (cond x s (cond y c (cond z c s))) c s
    go true y z e h k = record { good = f; same = rw (h refl) refl }
    go false true z e h k = record { good = g; same = rw (k refl) refl }
    go false false true e h k = record { good = g; same = rw e refl }
    go false false false e h k = record { good = f; same = rw e refl }

-- ---- the walk
reached_to : (p q : PlanarPoint) → reached (lead_to p q) ≡ gap_to p q
unfolding reached lead_to gap_to
reached_to p q = refl

reached_none : (p : PlanarPoint) → reached (no_lead p) ≡ none_yet p
unfolding reached no_lead length_of hypot open_number
reached_none p = refl

nearer_is : (c s : Lead) → cond (lt (length_of c.offset) (length_of s.offset)) (reached c) (reached s) ≡ nearer (reached c) (reached s)
unfolding nearer reached
nearer_is c s = refl

record Walked (ps : List Float) (n : ℕ) (p : PlanarPoint) (s : Lead) (t : Nearest) : Type 0 where
  pub good : Good s
  pub same : reached s ≡ t

step_walked : (ps : List Float) (n k : ℕ) (p : PlanarPoint) (s : Lead) (t : Nearest) → Walked ps n p s t → Walked ps n p (lead_step ps n p k s) (nearest_step ps n p k t)
unfolding lead_step lead_between nearest_step
step_walked ps n k p s t w =
    let q = closest_on_segment p (vertex_at ps k) (edge_end ps n k) in
    let l = leader_steps (lead_to p q) s (good_to p q) w.good in
    record { good = l.good; same = l.same ∙ nearer_is (lead_to p q) s ∙ ap (λ (c : Nearest). nearer c (reached s)) (reached_to p q) ∙ ap (nearer (gap_to p q)) w.same }

walked : (ps : List Float) (n : ℕ) (p : PlanarPoint) (k : ℕ) → Walked ps n p (rounds (lead_step ps n p) k (no_lead p)) (rounds (nearest_step ps n p) k (none_yet p))
unfolding rounds
walked ps n p zero = record { good = good_none p; same = reached_none p }
walked ps n p (suc k) = step_walked ps n k p (rounds (lead_step ps n p) k (no_lead p)) (rounds (nearest_step ps n p) k (none_yet p)) (walked ps n p k)

-- where the code's walk ends
pub walk_ends : (ps : List Float) (n : ℕ) (p : PlanarPoint) → reached (rounds (lead_step ps n p) n (no_lead p)) ≡ nearest ps n p
unfolding nearest
walk_ends ps n p = (walked ps n p n).same

-- the code's step is that of the walk
pub step_is : (ps : List Float) (n k : ℕ) (p a b : PlanarPoint) (s r : Lead) → k < n → a ≡ start ps n k → b ≡ edge_end ps n k → r ≡ lead_between p a b s → r ≡ lead_step ps n p k s
unfolding lead_step
step_is ps n k p a b s r l ea eb er =
    er ∙ ap (λ (v : PlanarPoint). lead_between p v b s) (ea ∙ start_edge ps n k l) ∙ ap (λ (v : PlanarPoint). lead_between p (vertex_at ps k) v s) eb

-- where the squares do not tell, the roots do
pub closer_told :
    (c s r : Lead) (x t : Bool) (g l : Float) → x ≡ same c.offset s.offset → x ≡ false → g ≡ length_of c.offset → l ≡ length_of s.offset → lt g l ≡ t → r ≡ cond t c s → r ≡ closer c s
unfolding closer
closer_told c s r x t g l ex fx eg el et er = rw (sym ex ∙ fx, ← eg, ← el, et) er
