-- An offset of an outline, step by step, as the code takes them. Assumes nothing.
use Prim.Native.Nat.{ℕ}
use mathlib.Core.Path.{◌≡◌, refl, sym, ap, ◌∙◌, subst}
use mathlib.Core.Bool.{Bool, true, false, false≢true, cond, not}
use lib.Ieee.{Float, eq}
use Rattle.error.specs.declared.Refusal.{Refusal}
use Rattle.error.specs.declared.Refusal.TheVariants.{Granted, Shape}
use Rattle.error.specs.Refusals.{granted}
use Rattle.plane.specs.declared.PlanarPoint.{PlanarPoint}
use Rattle.outline.specs.declared.Outline.{Outline}
use Rattle.outline.specs.declared.NewOutline.{NewOutline}
use Rattle.front.specs.declared.Loaded.{Loaded}
use Rattle.front.specs.declared.Sweep.{Sweep}
use Rattle.front_sweep.specs.Acts.{cleared}
use Rattle.offset.specs.declared.Offset.{Offset}
use Rattle.offset.specs.declared.Pieces.{Pieces}
use Rattle.math.specs.Number.{zero_float}
use Rattle.ring.specs.Ring.{vertex_at}
use Rattle.ring_measure.specs.Measures.{extent}
use Rattle.outline.specs.Outlines.{no_outline, outline_refused, offset_tolerance, proper, ask, ask_ring}
use Rattle.outline.proofs.Asked.{asked_yes}
use Rattle.front.specs.Loading.{no_front, load_ring, loaded_nothing}
use Rattle.front.specs.Sweeps.{offset_rings}
use Rattle.offset.specs.Offsets.{check_distance, pieces, offset_finished, offset_swept, offset_counted, offset_plain, sweep, offset_from, offset_by, offset}
use Rattle.offset.specs.Answers.{AnswerDemand}
use Rattle.offset.proofs.DemandAnswered.{offset_demand}
use Rattle.offset_run.specs.Found.{found_refusal, offset_refused, offset_moved}
use Rattle.offset_run.proofs.Found.{answer, found_answer}

-- what a test says of a bool that it negates
pub told_no : (g h : Bool) → g ≡ h → not g ≡ true → h ≡ false
told_no true h e t = absurd (false≢true t)
told_no false h e t = sym e

pub told_yes : (g h : Bool) → g ≡ h → not g ≡ false → h ≡ true
told_yes true h e t = sym e
told_yes false h e t = absurd (false≢true (sym t))

-- 21 is asked first
asked_no : (b : Bool) (c : Refusal) (moved : Offset) → granted (ask b c) ≡ false → offset_plain (ask b c) no_outline ≡ cond b (cond (granted c) moved (offset_plain c no_outline)) (offset_plain Shape no_outline)
unfolding ask
asked_no true c m h = rw h refl
asked_no false c m h = refl

pub refused_as : (u : Refusal) (c d j : ℕ) (q : Outline) → q ≡ no_outline → record { refusal = u; shape = q; collapses = c; divides = d; joins = j } ≡ offset_refused u c d j
unfolding offset_refused
refused_as u c d j q e = ap (λ (x : Outline). record { refusal = u; shape = x; collapses = c; divides = d; joins = j }) e

module _ (o : Outline) (outward : Bool) (d : Float) where
  -- ---- the front at the distance
  module _ (s : Sweep) where
    pub sweep_refused : (a : Offset) → granted s.refusal ≡ false → a ≡ offset_refused s.refusal s.collapses s.divides s.joins → a ≡ offset_from o outward d s
    unfolding offset_from offset_counted offset_swept outline_refused offset_refused
    sweep_refused a h e = rw h e

    module _ (h : granted s.refusal ≡ true) (e t : Float) (v : PlanarPoint) (p : Pieces) (u : Refusal) (ee : e ≡ extent o.points o.count) (et : t ≡ offset_tolerance d e)
        (ev : v ≡ vertex_at o.points 0) (ep : p ≡ pieces s.edges v outward d t) (eu : u ≡ found_refusal o outward d t p.refusal p.found p.shape) where
      swept_is : offset_swept o outward d s ≡ answer u p.shape
      unfolding offset_swept offset_finished
      swept_is = rw (h, ← ee, ← et, ← ev, ← ep, eu) (found_answer o outward d t p)

      pub from_refused : (a : Offset) → granted u ≡ false → a ≡ offset_refused u s.collapses s.divides s.joins → a ≡ offset_from o outward d s
      unfolding offset_from offset_counted outline_refused offset_refused
      from_refused a g i = i ∙ sym (ap (λ (x : NewOutline). offset_counted x s) (swept_is ∙ rw g refl))

      pub from_granted : granted u ≡ true → record { refusal = Granted; shape = p.shape; collapses = s.collapses; divides = s.divides; joins = s.joins } ≡ offset_from o outward d s
      unfolding offset_from offset_counted
      from_granted g = sym (ap (λ (x : NewOutline). offset_counted x s) (swept_is ∙ rw g refl))

  swept_from : (v : PlanarPoint) (l : Loaded) (s : Sweep) → v ≡ vertex_at o.points 0 → l ≡ load_ring o.points o.count outward v d loaded_nothing → s ≡ cleared (offset_rings d l) → s ≡ cleared (sweep o outward d)
  unfolding sweep
  swept_from v l s e f g = g ∙ rw (f, e) refl

  -- the front of a refused sweep is not read
  unfoldable bare : Sweep → Sweep
  bare s = record { edges = no_front; travelled = s.travelled; collapses = s.collapses; divides = s.divides; joins = s.joins; ended = s.ended; refusal = s.refusal }

  kept : (s : Sweep) → granted s.refusal ≡ true → cleared s ≡ s
  unfolding cleared
  kept s h = rw h refl

  bared : (s : Sweep) → granted s.refusal ≡ false → cleared s ≡ bare s
  unfolding cleared bare
  bared s h = rw h refl

  bare_swept : (s : Sweep) → granted s.refusal ≡ false → offset_swept o outward d (bare s) ≡ offset_swept o outward d s
  unfolding offset_swept bare
  bare_swept s h = rw h refl

  bare_same : (s : Sweep) → granted s.refusal ≡ false → offset_from o outward d (bare s) ≡ offset_from o outward d s
  unfolding offset_from offset_counted bare
  bare_same s h = ap (λ (x : NewOutline). offset_counted x s) (bare_swept s h)

  cleared_same : (s : Sweep) → offset_from o outward d (cleared s) ≡ offset_from o outward d s
  cleared_same s = go (granted s.refusal) refl
    where
      go : (b : Bool) → granted s.refusal ≡ b → offset_from o outward d (cleared s) ≡ offset_from o outward d s
      go true h = ap (offset_from o outward d) (kept s h)
      go false h = ap (offset_from o outward d) (bared s h) ∙ bare_same s h

  pub from_front :
      (v : PlanarPoint) (l : Loaded) (s : Sweep) → v ≡ vertex_at o.points 0 → l ≡ load_ring o.points o.count outward v d loaded_nothing → s ≡ cleared (offset_rings d l) →
      (a : Offset) → a ≡ offset_from o outward d s → a ≡ offset_moved o outward d
  unfolding offset_moved
  from_front v l s e f g a i = i ∙ ap (offset_from o outward d) (swept_from v l s e f g) ∙ cleared_same (sweep o outward d)

  -- ---- 21, 13 and 14, and an offset by 0
  module _ (c r : Refusal) (e : c ≡ check_distance d) (f : r ≡ ask_ring o.points o.count c) (a : Offset) where
    asked : ask (proper 128 o.points o.count) (check_distance d) ≡ r
    unfolding ask_ring
    asked = ap (ask (proper 128 o.points o.count)) (sym e) ∙ sym f

    pub plain : granted r ≡ false → a ≡ offset_refused r 0 0 0 → a ≡ offset o outward d
    unfolding offset offset_by offset_refused offset_plain
    plain h i =
        i ∙ ap (λ (x : Refusal). offset_plain x no_outline) (sym asked) ∙
        asked_no (proper 128 o.points o.count) (check_distance d) (cond (eq d zero_float) (offset_plain Granted o) (offset_from o outward d (sweep o outward d))) (ap granted asked ∙ h)

    both : granted r ≡ true → (proper 128 o.points o.count ≡ true) × (granted (check_distance d) ≡ true)
    both h = asked_yes (proper 128 o.points o.count) (check_distance d) (ap granted asked ∙ h)

    pub unmoved : granted r ≡ true → eq d zero_float ≡ true → a ≡ offset_plain Granted o → a ≡ offset o outward d
    unfolding offset offset_by
    unmoved h z i = rw ((both h).0, (both h).1, z) i

    pub moved : granted r ≡ true → eq d zero_float ≡ false → a ≡ offset_moved o outward d → a ≡ offset o outward d
    unfolding offset offset_by offset_moved
    moved h z i = rw ((both h).0, (both h).1, z) i

  -- ---- demand 3 of what is handed back
  pub demanded : (a : Offset) → a ≡ offset o outward d → proper 128 o.points o.count ≡ true → AnswerDemand o.count 1 a.refusal a.collapses a.divides a.joins
  demanded a e h = subst (λ (x : Offset). AnswerDemand o.count 1 x.refusal x.collapses x.divides x.joins) (sym e) (offset_demand o outward d h)
