-- The least of a number and of all that something holds of: how it grows, and that there is only one. Assumes nothing.
use mathlib.Core.Path.{◌≡◌, refl, sym, ◌∙◌, subst}
use mathlib.Core.Logic.{◌⊎◌, inl, inr}
use mathlib.Core.Bool.{Bool, true, false, cond, true≢false}
use lib.Ieee.{Float, binary64, lt, eq, is_nan}
use lib.Ieee.Bits.{of_bits-fits}
use Rattle.math.specs.Number.{infinity, fmin, open_number}
use Rattle.math.proofs.Order.{irreflexive, lt_trans, lt_from, lt_number, itself}
use Rattle.ring_gap.specs.Blocks.{Least, taken}
use Rattle.ring_gap.proofs.Alike.{Unsigned, alike}

-- what is below y is below what y is below
not_under : (x y z : Float) → lt y z ≡ true → lt x z ≡ false → lt x y ≡ false
not_under x y z h g = go (lt x y) refl
  where
    go : (b : Bool) → lt x y ≡ b → lt x y ≡ false
    go true e = absurd (true≢false (sym (lt_trans x y z e h) ∙ g))
    go false e = e

-- ---- what P holds of is not below s
pub least_still : (P : Float → Type 0) (s : Float) → ((x : Float) → P x → lt x s ≡ false) → Least P s s
least_still P s h = record { start = λ x g. g; each = h; one = inl refl }

-- ---- one number more
pub least_taken : (P : Float → Type 0) (s g : Float) → P g → ((x : Float) → P x → x ≡ g) → Least P s (taken s g)
unfolding taken
least_taken P s g p only = go (lt g s) refl
  where
    go : (b : Bool) → lt g s ≡ b → Least P s (cond b g s)
    go true e = record {
      start = λ x h. not_under x g s e h;
      each = λ x h. rw (only x h) (irreflexive g);
      one = inr (p, lt_number g s e);
    }
    go false e = record { start = λ x h. h; each = λ x h. rw (only x h) e; one = inl refl }

-- ---- infinity
top : Unsigned infinity
unfolding open_number is_nan
top = record { double = of_bits-fits binary64 0x7ff0000000000000; plain = refl; number = refl }

pub least_number : (P : Float → Type 0) (r : Float) → Least P infinity r → is_nan r ≡ false
least_number P r l = elim l.one [ inl e ↦ rw e top.number | inr h ↦ h.1 ]

-- ---- both: R is P or Q
module _ (P Q R : Float → Type 0) (split : (x : Float) → R x → P x ⊎ Q x) (first : (x : Float) → P x → R x) (second : (x : Float) → Q x → R x) where
  -- the one after the other
  pub least_join : (s r t : Float) → Least P s r → Least Q r t → Least R s t
  least_join s r t p q = record {
    start = λ x h. q.start x (p.start x h);
    each = λ x h. elim (split x h) [ inl a ↦ q.start x (p.each x a) | inr b ↦ q.each x b ];
    one = elim q.one [
      | inl e ↦ elim p.one [ inl d ↦ inl (e ∙ d) | inr h ↦ inr (subst (λ (z : Float). R z × (is_nan z ≡ false)) (sym e) (first r h.0, h.1)) ]
      | inr h ↦ inr (second t h.0, h.1)
    ];
  }

  -- the lesser of both
  pub least_lesser : (a b : Float) → Least P infinity a → Least Q infinity b → Least R infinity (fmin a b)
  unfolding fmin is_nan
  least_lesser a b p q = go (lt a b) refl (eq b b) refl
    where
      under : (x : Float) → lt a b ≡ false → lt x a ≡ false → lt x b ≡ false
      under x e h = step (lt x b) refl
        where
          step : (c : Bool) → lt x b ≡ c → lt x b ≡ false
          step true g = absurd (true≢false (sym (lt_from x a b (least_number P a p) g h) ∙ e))
          step false g = g

      go : (c : Bool) → lt a b ≡ c → (d : Bool) → eq b b ≡ d → Least R infinity (cond c a (cond d b a))
      go true e d f = record {
        start = p.start;
        each = λ x h. elim (split x h) [ inl l ↦ p.each x l | inr l ↦ not_under x a b e (q.each x l) ];
        one = elim p.one [ inl z ↦ inl z | inr h ↦ inr (first a h.0, h.1) ];
      }
      go false e true f = record {
        start = q.start;
        each = λ x h. elim (split x h) [ inl l ↦ under x e (p.each x l) | inr l ↦ q.each x l ];
        one = elim q.one [ inl z ↦ inl z | inr h ↦ inr (second b h.0, h.1) ];
      }
      go false e false f = absurd (true≢false (sym (subst (λ (z : Float). is_nan z ≡ true) (sym (itself b f)) refl) ∙ least_number Q b q))

-- ---- there is only one
module _ (P : Float → Type 0) (doubles : (x : Float) → P x → is_nan x ≡ false → Unsigned x) where
  unsigned : (r : Float) → Least P infinity r → Unsigned r
  unsigned r l = elim l.one [ inl e ↦ rw e top | inr h ↦ doubles r h.0 h.1 ]

  not_below : (r t : Float) → Least P infinity r → Least P infinity t → lt r t ≡ false
  not_below r t l k = elim l.one [ inl e ↦ rw e (k.start infinity (irreflexive infinity)) | inr h ↦ k.each r h.0 ]

  pub least_unique : (r t : Float) → Least P infinity r → Least P infinity t → r ≡ t
  least_unique r t l k = alike r t (unsigned r l) (unsigned t k) (not_below r t l k) (not_below t r k l)
