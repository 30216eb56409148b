-- What the pieces of an outline's offset come to, branch by branch of the code, and the shape beside it. Assumes nothing.
use mathlib.Core.Path.{◌≡◌, refl}
use mathlib.Core.Bool.{Bool, true, false, cond, not, ◌&&◌}
use lib.Ieee.{Float}
use Rattle.error.specs.declared.Refusal.{Refusal}
use Rattle.error.specs.declared.Refusal.TheVariants.{Granted, Splits, Collapses}
use Rattle.error.specs.Refusals.{values, number, granted}
use Rattle.math.specs.Number
use Rattle.ring_cross.specs.Meet.{rings_meet}
use Rattle.outline.specs.declared.Outline.{Outline}
use Rattle.outline.specs.declared.NewOutline.{NewOutline}
use Rattle.outline.specs.Outlines.{outline_refused}
use Rattle.offset.specs.declared.Pieces.{Pieces}
use Rattle.offset.specs.Offsets.{keeps_clear, offset_clear, offset_found}
use Rattle.offset_run.specs.Found.{clear_refusal, found_refusal}

-- ---- what the pieces come to, branch by branch of the code
module _ (o : Outline) (outward : Bool) (d tolerance : Float) (u : Refusal) (found : Bool) (q : Outline) where
  pub pieces_refused : granted u ≡ false → u ≡ found_refusal o outward d tolerance u found q
  unfolding found_refusal
  pieces_refused h = rw h refl

  module _ (g : granted u ≡ true) where
    pub none_found : found ≡ false → Collapses d ≡ found_refusal o outward d tolerance u found q
    unfolding found_refusal
    none_found f = rw (g, f) refl

    pub one_found :
        found ≡ true → (b : Bool) (v : Refusal) → b ≡ (keeps_clear outward (Number.sub d tolerance) o.points o.count q.points q.count && not (rings_meet q.points q.count o.points o.count)) →
        v ≡ cond b Granted (Splits d) → v ≡ found_refusal o outward d tolerance u found q
    unfolding found_refusal clear_refusal
    one_found f b v i j = rw (g, f, ← i) j

-- ---- the shape beside the refusal
abbrev pub answer : Refusal → Outline → NewOutline
answer v q = cond (granted v) (record { refusal = Granted; shape = q }) (outline_refused v)

refused_answer : (v : Refusal) (q : Outline) → granted v ≡ false → outline_refused v ≡ answer v q
refused_answer v q h = rw h refl

module _ (o : Outline) (outward : Bool) (d tolerance : Float) where
  clear_answer : (q : Outline) → offset_clear o outward d tolerance q ≡ answer (clear_refusal o outward d tolerance q) q
  unfolding offset_clear clear_refusal granted number values
  clear_answer q = go (keeps_clear outward (Number.sub d tolerance) o.points o.count q.points q.count && not (rings_meet q.points q.count o.points o.count))
    where
      go : (b : Bool) → cond b (record { refusal = Granted; shape = q }) (outline_refused (Splits d)) ≡ answer (cond b Granted (Splits d)) q
      go true = refl
      go false = refl

  pub found_answer : (p : Pieces) → offset_found o outward d tolerance p ≡ answer (found_refusal o outward d tolerance p.refusal p.found p.shape) p.shape
  unfolding offset_found found_refusal granted number values
  found_answer p = go (granted p.refusal) p.found refl
    where
      go : (a b : Bool) → granted p.refusal ≡ a → cond a (cond b (offset_clear o outward d tolerance p.shape) (outline_refused (Collapses d))) (outline_refused p.refusal)
          ≡ answer (cond a (cond b (clear_refusal o outward d tolerance p.shape) (Collapses d)) p.refusal) p.shape
      go true true h = clear_answer p.shape
      go true false h = refl
      go false b h = refused_answer p.refusal p.shape h
