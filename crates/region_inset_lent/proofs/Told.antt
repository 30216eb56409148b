-- An inset's answer that goes into lent output: what is answered, and that 21 makes no difference to an inset. Assumes nothing.
use mathlib.Core.Path.{◌≡◌, refl, sym, ap, ◌∙◌}
use mathlib.Core.Bool.{Bool, true, false, not, cond, false≢true}
use mathlib.Core.List.{List}
use lib.Ieee.{Float}
use borrow.Author.Tests.{not-true, not-false}
use Rattle.error.specs.declared.Refusal.{Refusal}
use Rattle.region.specs.declared.Region.{Region}
use Rattle.region.specs.declared.RegionOffset.{RegionOffset}
use Rattle.region.specs.declared.RegionWritten.{RegionWritten}
use Rattle.region.specs.declared.InsetWritten.{InsetWritten}
use Rattle.error.specs.Refusals.{granted}
use Rattle.outline.specs.Outlines.{ask}
use Rattle.region.specs.Insets.{region_inset}
use Rattle.region.specs.Queries.{ask_region, write_rings, no_rings, rings_told, write_region, region_write, written_region, write_inset, inset_told, inset_write, inset_over, written_inset}
use Rattle.region.specs.Answers.{RingsWrote}
use Rattle.region.proofs.Accepted.{inset_proper}
use Rattle.region_inset_lent.specs.Asked.{ask_inset, inset_answer, inset_after, InsetLike, InsetAsked, InsetIs, InsetsAsked}

abbrev pub Answered : RegionOffset → List Float → InsetWritten → List Float → Type 0
Answered a out x w = (x ≡ inset_answer a out) × ((w ≡ inset_after a out) × RingsWrote x.refusal a.shape out w)

kept : (u : Refusal) (r : Region) (out : List Float) → granted u ≡ false → RingsWrote u r out out
kept u r out h = record { refused = λ q. refl; size = refl; numbers = λ q. absurd (false≢true (sym h ∙ q)); rest = λ i l. refl }

told_refusal : (a : RegionOffset) (w : RegionWritten) → (inset_told a w).refusal ≡ w.refusal
unfolding inset_told
told_refusal a w = refl

none_refusal : (u : Refusal) → (no_rings u).refusal ≡ u
unfolding no_rings
none_refusal u = refl

asks_nothing : (a : RegionOffset) (out : List Float) → granted a.refusal ≡ false → ask_inset a out ≡ a.refusal
unfolding ask_inset
asks_nothing a out h = rw h refl

asks_shape : (a : RegionOffset) (out : List Float) → granted a.refusal ≡ true → ask_inset a out ≡ write_region a.shape out
unfolding ask_inset
asks_shape a out h = rw h refl

module _ (a : RegionOffset) (out : List Float) (x : InsetWritten) (w : RegionWritten) (q : x ≡ inset_told a w) (g : Bool) (e : g ≡ granted a.refusal) where
  pub refused : not g ≡ true → w ≡ no_rings a.refusal → Answered a out x out
  unfolding inset_answer inset_after rings_told
  refused t i =
      let h : granted a.refusal ≡ false = sym e ∙ not-true g t in
      (q ∙ rw (i, asks_nothing a out h, h) refl, (rw (asks_nothing a out h, h) refl, rw (q, told_refusal a w, i, none_refusal a.refusal) (kept a.refusal a.shape out h)))

  pub handed : (v : List Float) → not g ≡ false → w ≡ region_write a.shape out → v ≡ written_region a.shape out → RingsWrote w.refusal a.shape out v → Answered a out x v
  unfolding inset_answer inset_after region_write written_region
  handed v t i j k =
      let h : granted a.refusal ≡ true = sym e ∙ not-false g t in
      (q ∙ rw (i, asks_shape a out h) refl, (j ∙ rw (asks_shape a out h) refl, rw (q, told_refusal a w) k))

-- ---- 21 makes no difference to an inset

ask_is : (a : RegionOffset) (out : List Float) → InsetLike a → ask_inset a out ≡ write_inset a out
unfolding ask_inset write_inset write_region ask_region ask
ask_is a out l = go (granted a.refusal) refl
  where
    go : (b : Bool) → granted a.refusal ≡ b → ask_inset a out ≡ write_inset a out
    go true h = rw (h, l.proper h) refl
    go false h = rw h refl

pub inset_is : InsetIs
unfolding inset_answer inset_after inset_over
inset_is a out l = record {
  answer = ap (λ (u : Refusal). inset_told a (rings_told a.shape u)) (ask_is a out l);
  after = ap (λ (u : Refusal). cond (granted u) (write_rings a.shape out) out) (ask_is a out l);
}

pub insets_asked : InsetsAsked
unfolding inset_write written_inset
insets_asked r d out =
    let i : InsetAsked (region_inset r d) out = inset_is (region_inset r d) out (record { proper = inset_proper r d }) in
    record { answer = i.answer; after = i.after }

-- ---- what is answered of an inset, and the lent numbers afterwards
pub told : (r : Region) (d : Float) (out : List Float) (a : RegionOffset) (x : InsetWritten) (w : List Float) → a ≡ region_inset r d → x ≡ inset_answer a out → w ≡ inset_after a out →
    (x ≡ inset_write r d out) × (w ≡ written_inset r d out)
told r d out a x w e f g = (
  f ∙ ap (λ (z : RegionOffset). inset_answer z out) e ∙ (insets_asked r d out).answer,
  g ∙ ap (λ (z : RegionOffset). inset_after z out) e ∙ (insets_asked r d out).after,
)
