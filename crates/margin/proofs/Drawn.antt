-- The margin from what was drawn: an outline's numbers. Assumes nothing.
use Prim.Native.Nat.{ℕ, ◌+◌, ◌-◌, ◌/◌, ◌%◌, ◌≤◌, ◌<◌}
use native.Mathlib.Nat.{zero-add}
use native.Mathlib.Omega.{arith}
use mathlib.Core.Path.{◌≡◌, refl, sym, ◌∙◌, subst}
use mathlib.Core.Logic.{inl, inr}
use mathlib.Core.Bool.{Bool, true, false, ◌&&◌, false≢true}
use mathlib.Core.List.{List}
use mathlib.Mathlib.Data.Bool.Basic.{and_elim_left, and_elim_right}
use borrow.Author.Tests.{ltb-true}
use lib.Dec.{ltb, eqb}
use lib.ListN.{replicate, length, length-replicate}
use lib.Ieee.{Float, lt}
use Rattle.base.proofs.Choices.{by_test}
use Rattle.base.proofs.Choices.{both}
use Rattle.error.specs.declared.Refusal.{Refusal}
use Rattle.error.specs.declared.Refusal.TheVariants.{Odd}
use Rattle.error.specs.Refusals.{number, values, granted}
use Rattle.math.specs.Number.{zero_float}
use Rattle.margins.specs.Far.{over}
use Rattle.plane.specs.Plane.{same}
use Rattle.ring.specs.Ring.{vertex_at, stored_at}
use Rattle.ring.specs.Store.{stored}
use Rattle.ring_check.specs.declared.Checked.{Checked}
use Rattle.ring_check.specs.Checks.{kept, check_door}
use Rattle.ring_check.proofs.Sound.{check_sound}
use Rattle.outline.specs.declared.Outline.{Outline}
use Rattle.outline.specs.declared.NewOutline.{NewOutline}
use Rattle.outline.specs.Outlines.{stored_outline, outline_refused, outline_of, new_outline, check_finite, outline_if, outline}
use Rattle.outline.proofs.Outlines.{new_outline_proper}
use Rattle.offset.specs.Offsets.{offset}
use Rattle.ring.proofs.Storing.{stored_new}
use Rattle.margin.specs.Margin.{Doubles, largest_of}
use Rattle.margin.specs.Drawn.{DrawnMargin, NewOutlineMargin, OutlineMargin}
use Rattle.margin.proofs.Extents.{largest_is}
use Rattle.margin.proofs.DoublesKept.{outline_doubles}
use Rattle.margin.proofs.Outlines.{offset_margin}
use Rattle.margin.proofs.Stands.{Left, Stands, drawn_far, drawn_largest}

-- ---- what 4 to 9 and 27 leave of n vertices

kept_left : (ps : List Float) (n : ℕ) → Left ps n (kept ps n)
unfolding kept
kept_left ps n =
    let t : Bool = same (vertex_at ps (n - 1)) (vertex_at ps 0) in
    by_test (Left ps n) (ltb 1 n && t)
    (λ h. inr (less n (ltb-true 1 n (and_elim_left (ltb 1 n) t h)), and_elim_right (ltb 1 n) t h))
    (λ h. inl refl)
  where
    less : (n : ℕ) → 1 < n → n ≡ n - 1 + 1
    less n l = omega arith

pub check_left : (room ring : ℕ) (ps : List Float) (n : ℕ) → granted (check_door room ring ps n).refusal ≡ true → Left ps n (check_door room ring ps n).count
check_left room ring ps n g = subst (Left ps n) (sym (check_sound true room ring ps n g).left) (kept_left ps n)

-- vertices that are stored as they were checked stand for what was drawn
pub checked_stands : (room ring : ℕ) (ps : List Float) (n : ℕ) (qs : List Float) → granted (check_door room ring ps n).refusal ≡ true
    → ((k : ℕ) → k < (check_door room ring ps n).count → vertex_at qs k ≡ stored_at ps (check_door room ring ps n).count (check_door room ring ps n).back k)
    → Stands qs (check_door room ring ps n).count ps n
checked_stands room ring ps n qs g e = record {
  back = (check_door room ring ps n).back;
  some = (check_sound true room ring ps n g).three;
  left = check_left room ring ps n g;
  each = e;
}

-- ---- a stored outline

pub stored_vertices : (ps : List Float) (m : ℕ) (back : Bool) → m ≤ 128 → (k : ℕ) → k < m → vertex_at (stored_outline ps m back).points k ≡ stored_at ps m back k
unfolding stored_outline
stored_vertices ps m back z k l =
    let out : List Float = replicate 256 zero_float in
    subst (λ (i : ℕ). vertex_at (stored ps m back 0 out) i ≡ stored_at ps m back k) (zero-add k) (stored_new ps m back 0 out (omega (arith, length-replicate 256 zero_float)) k l)

pub outline_stands : (ps : List Float) (n : ℕ) → granted (check_door 128 0 ps n).refusal ≡ true
    → Stands (stored_outline ps (check_door 128 0 ps n).count (check_door 128 0 ps n).back).points (check_door 128 0 ps n).count ps n
outline_stands ps n g =
    let c : Checked = check_door 128 0 ps n in
    checked_stands 128 0 ps n (stored_outline ps c.count c.back).points g (stored_vertices ps c.count c.back (check_sound true 128 0 ps n g).fits)

pub record NewStands (ps : List Float) (n : ℕ) (a : NewOutline) : Type 0 where
  pub stands : granted a.refusal ≡ true → Stands a.shape.points a.shape.count ps n
  pub doubles : granted a.refusal ≡ true → Doubles ps → Doubles a.shape.points

pub new_stands : (ps : List Float) (n : ℕ) → NewStands ps n (new_outline ps n)
unfolding new_outline outline_of outline_refused stored_outline
new_stands ps n =
    let c : Checked = check_door 128 0 ps n in
    by_test (NewStands ps n) (granted c.refusal)
    (λ g. record { stands = λ q. outline_stands ps n g; doubles = λ q d. (outline_doubles ps c.count c.back d).all })
    (λ g. record { stands = λ q. absurd (false≢true (sym g ∙ q)); doubles = λ q. absurd (false≢true (sym g ∙ q)) })

pub new_outline_margin : NewOutlineMargin
new_outline_margin ps n d pd fd g h l =
    let o : Outline = (new_outline ps n).shape in
    let s : Stands o.points o.count ps n = (new_stands ps n).stands g in
    let od : Doubles o.points = (new_stands ps n).doubles g pd in
    record {
      most = largest_of o;
      largest = drawn_largest o.points o.count ps n s (largest_of o) pd (largest_is o od (new_outline_proper ps n g));
      far = drawn_far o.points o.count ps n s (over d) (largest_of o) (offset o false d).shape.points (offset o false d).shape.count pd (offset_margin o d od fd h l);
    }

-- an accepted outline is what 4 to 9 and 27 make of its numbers
pub record Accepted (ps : List Float) (a : NewOutline) : Type 0 where
  pub is : granted a.refusal ≡ true → a ≡ new_outline ps (length ps / 2)

refused_not : (ps : List Float) (r : Refusal) → granted r ≡ false → Accepted ps (outline_refused r)
unfolding outline_refused
refused_not ps r h = record { is = λ q. absurd (false≢true (sym h ∙ q)) }

pub outline_is : (ps : List Float) → Accepted ps (outline ps)
unfolding outline outline_if granted number values
outline_is ps =
    both (Accepted ps) (eqb (length ps % 2) 0)
    (by_test (Accepted ps) (granted (check_finite ps)) (λ f. record { is = λ q. refl }) (λ f. refused_not ps (check_finite ps) f))
    (refused_not ps Odd refl)

pub outline_margin : OutlineMargin
outline_margin ps d pd fd g = go (outline ps) ((outline_is ps).is g) g
  where
    n : ℕ
    n = length ps / 2

    go : (a : NewOutline) → a ≡ new_outline ps n → granted a.refusal ≡ true → granted (offset a.shape false d).refusal ≡ true → lt zero_float d ≡ true
        → DrawnMargin d ps n (offset a.shape false d).shape.points (offset a.shape false d).shape.count
    go a e =
        subst (λ (a : NewOutline). granted a.refusal ≡ true → granted (offset a.shape false d).refusal ≡ true → lt zero_float d ≡ true
        → DrawnMargin d ps n (offset a.shape false d).shape.points (offset a.shape false d).shape.count)
        (sym e) (new_outline_margin ps n d pd fd)
