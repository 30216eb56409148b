-- An edge that reaches 0.000001 on an axis: its ends differ, and its length is not below that. So a ring of such edges is granted 7 and 27. Assumes
-- nothing.
use Prim.Native.Nat.{ℕ, ◌<◌}
use mathlib.Core.Path.{◌≡◌, refl, sym, ap, ◌∙◌}
use mathlib.Core.Bool.{Bool, true, false, cond, ◌&&◌, ◌||◌, true≢false}
use mathlib.Core.List.{List}
use lib.Dec.{T}
use lib.Ieee.{Float, binary64, lt, le, eq, fits, of_bits}
use lib.Ieee.Fits.{sub-fits}
use Rattle.error.specs.declared.Refusal.{Refusal}
use Rattle.error.specs.declared.Refusal.TheVariants.{Granted, Repeated, Hairline}
use Rattle.error.specs.Refusals.{values, number, granted}
use Rattle.math.specs.Number
use Rattle.math.specs.Number.{abs, zero_float}
use Rattle.math.proofs.Differences.{abs_sub, equal_sub}
use Rattle.math.proofs.Laws.{hypot_not_below}
use Rattle.math.proofs.Order.{under_not_over}
use Rattle.math.proofs.Values.{hypot_swap}
use Rattle.hypotenuse.specs.Hypot.{hypot}
use Rattle.plane.specs.declared.PlanarPoint.{PlanarPoint}
use Rattle.plane.specs.Plane.{same, sub}
use Rattle.plane.specs.Points.{length_of}
use Rattle.ring.specs.Ring.{vertex_at, edge_end}
use Rattle.ring_measure.specs.Measures.{signed_area}
use Rattle.base.proofs.Choices.{yes, no}
use Rattle.base.proofs.Tests.{all_pass, none_all}
use Rattle.ring_check.specs.declared.Checked.{Checked}
use Rattle.ring_check.specs.Checks.{hairline_length, repeat_step, repeats, short_edge, hairline_step, hairline, refused, check_area, check_shape}
use Rattle.ring_check.specs.Walks.{reaches, wide, wide_step, all_wide, edge_refusal}
use Rattle.ring_check.proofs.Reach.{past_is}

some_length : lt zero_float hairline_length ≡ true
unfolding lt of_bits
some_length = refl

reaches_not_under : (x : Float) → reaches x ≡ true → lt (abs x) hairline_length ≡ false
reaches_not_under x h = go (lt (abs x) hairline_length) refl
  where
    go : (b : Bool) → lt (abs x) hairline_length ≡ b → b ≡ false
    go true e = absurd (true≢false (sym h ∙ past_is x ∙ under_not_over (abs x) hairline_length e))
    go false e = refl

-- two that are equal are not apart on that axis
equal_no_width : (x y : Float) → eq x y ≡ true → reaches (Number.sub y x) ≡ false
equal_no_width x y h = past_is (Number.sub y x) ∙ ap (le hairline_length) (abs_sub y x) ∙ equal_sub hairline_length some_length x y h

pub wide_differs : (a b : PlanarPoint) → wide a b ≡ true → same a b ≡ false
unfolding wide same sub
wide_differs a b h = go (eq a.east b.east) (eq a.north b.north) refl refl
  where
    go : (p q : Bool) → eq a.east b.east ≡ p → eq a.north b.north ≡ q → (p && q) ≡ false
    go false q e f = refl
    go true false e f = refl
    go true true e f =
        absurd (true≢false (sym h ∙ ap (λ (t : Bool). t || reaches (Number.sub b.north a.north)) (equal_no_width a.east b.east e) ∙ equal_no_width a.north b.north f))

not_under : (x y : Float) (t : Bool) → T (fits binary64 x) → T (fits binary64 y) → reaches x ≡ t → (t || reaches y) ≡ true
    → lt (hypot x y) hairline_length ≡ false
not_under x y true f g e h = hypot_not_below x y hairline_length f (reaches_not_under x e)
not_under x y false f g e h =
    ap (λ (r : Float). lt r hairline_length) (hypot_swap x y) ∙ hypot_not_below y x hairline_length g (reaches_not_under y h)

pub wide_long : (a b : PlanarPoint) → wide a b ≡ true → lt (length_of (sub b a)) hairline_length ≡ false
unfolding wide length_of sub
wide_long a b h = not_under _ _ _ (sub-fits binary64 b.east a.east) (sub-fits binary64 b.north a.north) refl h

module _ (ps : List Float) (n : ℕ) (h : all_wide ps n ≡ true) where
  each : (k : ℕ) → k < n → wide (vertex_at ps k) (edge_end ps n k) ≡ true
  unfolding all_wide wide_step
  each = all_pass (wide_step ps n) (λ k. wide (vertex_at ps k) (edge_end ps n k)) (λ k s. refl) n h

  wide_no_repeat : repeats ps n ≡ false
  unfolding repeats repeat_step
  wide_no_repeat =
      none_all (repeat_step ps n) (λ k. same (vertex_at ps k) (edge_end ps n k)) (λ k s. refl) n (λ k l. wide_differs (vertex_at ps k) (edge_end ps n k) (each k l))

  wide_no_hairline : hairline ps n ≡ false
  unfolding hairline hairline_step short_edge
  wide_no_hairline =
      none_all (hairline_step ps n) (short_edge ps n) (λ k s. refl) n (λ k l. wide_long (vertex_at ps k) (edge_end ps n k) (each k l))

  pub wide_granted : (door : Bool) (ring : ℕ) → Granted ≡ edge_refusal door ring ps n
  unfolding edge_refusal
  wide_granted false ring = rw wide_no_repeat refl
  wide_granted true ring = rw (wide_no_repeat, wide_no_hairline) refl

-- ---- what the edges are refused with, as the code asks it

module _ (door : Bool) (ring : ℕ) (ps : List Float) (n : ℕ) (b : Bool) (e : b ≡ repeats ps n) where
  pub refused_seven : b ≡ true → Repeated ring ≡ edge_refusal door ring ps n
  unfolding edge_refusal
  refused_seven h = rw (sym e ∙ h) refl

  pub asked_at_door : (h : Bool) → b ≡ false → door ≡ true → hairline ps n ≡ h → cond h (Hairline ring) Granted ≡ edge_refusal door ring ps n
  unfolding edge_refusal
  asked_at_door h no at f = rw (sym e ∙ no, at, f) refl

  pub granted_within : b ≡ false → door ≡ false → Granted ≡ edge_refusal door ring ps n
  unfolding edge_refusal
  granted_within no within = rw (sym e ∙ no, within) refl

-- the check of the shape goes by that
by_edges : (door : Bool) (ring : ℕ) (ps : List Float) (n : ℕ)
    → cond (granted (edge_refusal door ring ps n)) (check_area ring ps n (signed_area ps n)) (refused (edge_refusal door ring ps n)) ≡ check_shape door ring ps n
unfolding check_shape edge_refusal granted number values
by_edges door ring ps n = go (repeats ps n) (door && hairline ps n)
  where
    edges : Bool → Bool → Refusal
    edges p q = cond p (Repeated ring) (cond q (Hairline ring) Granted)

    go : (p q : Bool) → cond (granted (edges p q)) (check_area ring ps n (signed_area ps n)) (refused (edges p q)) ≡
        cond p (refused (Repeated ring)) (cond q (refused (Hairline ring)) (check_area ring ps n (signed_area ps n)))
    go true q = refl
    go false true = refl
    go false false = refl

module _ (door : Bool) (ring : ℕ) (ps : List Float) (n : ℕ) (r : Refusal) (c : Checked) (e : r ≡ edge_refusal door ring ps n) where
  pub shape_yes : granted r ≡ true → c ≡ check_area ring ps n (signed_area ps n) → c ≡ check_shape door ring ps n
  shape_yes g h = yes _ _ _ _ h (ap granted (sym e) ∙ g) ∙ by_edges door ring ps n

  pub shape_no : granted r ≡ false → c ≡ refused r → c ≡ check_shape door ring ps n
  shape_no g h = no _ _ _ _ (h ∙ ap refused e) (ap granted (sym e) ∙ g) ∙ by_edges door ring ps n
