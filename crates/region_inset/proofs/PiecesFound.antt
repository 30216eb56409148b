-- What the pieces of a region's inset come to, branch by branch of the code, and the shape beside it. Assumes nothing.
use mathlib.Core.Path.{◌≡◌, refl}
use mathlib.Core.Bool.{Bool, true, false, cond, not, ◌&&◌, ◌||◌}
use lib.Dec.{eqb}
use lib.Ieee.{Float}
use Rattle.base.proofs.Choices.{both}
use Rattle.error.specs.declared.Refusal.{Refusal}
use Rattle.error.specs.declared.Refusal.TheVariants.{Granted, Splits, Collapses}
use Rattle.error.specs.Refusals.{values, number, granted, region_failure}
use Rattle.math.specs.Number
use Rattle.region.specs.declared.Region.{Region}
use Rattle.region.specs.declared.NewRegion.{NewRegion}
use Rattle.region.specs.declared.RegionPieces.{RegionPieces}
use Rattle.region.specs.Checks.{check_region, region_refused}
use Rattle.region.specs.Insets.{region_keeps_clear, crosses, inset_clear, inset_checked, inset_found}
use Rattle.region_inset.specs.Found.{clear_refusal, checked_refusal, found_refusal}

-- ---- what the pieces come to, branch by branch of the code
module _ (r : Region) (d tolerance : Float) (u : Refusal) (found : Bool) (q : Region) where
  pub pieces_refused : granted u ≡ false → u ≡ found_refusal r d tolerance u found q
  unfolding found_refusal
  pieces_refused h = rw h refl

  module _ (g : granted u ≡ true) where
    pub none_found : found ≡ false → Collapses d ≡ found_refusal r d tolerance u found q
    unfolding found_refusal
    none_found f = rw (g, f) refl

    module _ (f : found ≡ true) (c : Refusal) (e : c ≡ check_region q) where
      pub not_checked : granted c ≡ false → (v : Refusal) → v ≡ region_failure d c → v ≡ found_refusal r d tolerance u found q
      unfolding found_refusal checked_refusal
      not_checked h v i = rw (g, f, ← e, h) i

      pub checked : granted c ≡ true → (b : Bool) (v : Refusal) → b ≡ (region_keeps_clear (Number.sub d tolerance) r q && not (crosses r q)) → v ≡ cond b Granted (Splits d) → v ≡ found_refusal r d tolerance u found q
      unfolding found_refusal checked_refusal clear_refusal
      checked h b v i j = rw (g, f, ← e, h, ← i) j

-- ---- the shape beside the refusal
abbrev pub answer : Refusal → Region → NewRegion
answer v q = cond (granted v) (record { refusal = Granted; shape = q }) (region_refused v)

failure_refused : (d : Float) (c : Refusal) → granted c ≡ false → granted (region_failure d c) ≡ false
unfolding region_failure granted number values
failure_refused d c h = both (λ (v : Refusal). granted v ≡ false) (eqb (number c) 11 || eqb (number c) 12) refl h

refused_answer : (v : Refusal) (q : Region) → granted v ≡ false → region_refused v ≡ answer v q
refused_answer v q h = rw h refl

module _ (r : Region) (d tolerance : Float) where
  clear_answer : (q : Region) → inset_clear r d tolerance q ≡ answer (clear_refusal r d tolerance q) q
  unfolding inset_clear clear_refusal granted number values
  clear_answer q = go (region_keeps_clear (Number.sub d tolerance) r q && not (crosses r q))
    where
      go : (b : Bool) → cond b (record { refusal = Granted; shape = q }) (region_refused (Splits d)) ≡ answer (cond b Granted (Splits d)) q
      go true = refl
      go false = refl

  checked_answer : (q : Region) (c : Refusal) → inset_checked r d tolerance q c ≡ answer (checked_refusal r d tolerance q c) q
  unfolding inset_checked checked_refusal
  checked_answer q c = go (granted c) refl
    where
      go : (b : Bool) → granted c ≡ b → cond b (inset_clear r d tolerance q) (region_refused (region_failure d c)) ≡ answer (cond b (clear_refusal r d tolerance q) (region_failure d c)) q
      go true h = clear_answer q
      go false h = refused_answer (region_failure d c) q (failure_refused d c h)

  pub found_answer : (p : RegionPieces) → inset_found r d tolerance p ≡ answer (found_refusal r d tolerance p.refusal p.found p.shape) p.shape
  unfolding inset_found found_refusal granted number values
  found_answer p = go (granted p.refusal) p.found refl
    where
      go : (a b : Bool) → granted p.refusal ≡ a → cond a (cond b (inset_checked r d tolerance p.shape (check_region p.shape)) (region_refused (Collapses d))) (region_refused p.refusal)
          ≡ answer (cond a (cond b (checked_refusal r d tolerance p.shape (check_region p.shape)) (Collapses d)) p.refusal) p.shape
      go true true h = checked_answer p.shape (check_region p.shape)
      go true false h = refl
      go false b h = refused_answer p.refusal p.shape h
