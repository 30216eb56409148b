-- The answers of the check that stores nothing are those of the outline. Assumes nothing.
use Prim.Native.Nat.{ℕ, ◌*◌, ◌/◌, ◌%◌, ◌≤◌, ◌<◌}
use native.Mathlib.Nat.{zero-add}
use native.Mathlib.Omega.{arith}
use mathlib.Core.Path.{◌≡◌, refl, sym, ap, ◌∙◌, subst}
use mathlib.Core.Bool.{Bool, true, false, cond}
use mathlib.Core.List.{List}
use borrow.Author.Tests.{le-leb, lt-leb}
use lib.Dec.{eqb}
use lib.ListN.{length, replicate, length-replicate}
use lib.Ieee.{Float}
use Rattle.math.specs.Number.{zero_float}
use Rattle.error.specs.declared.Refusal.{Refusal}
use Rattle.error.specs.declared.Refusal.TheVariants.{Granted, Odd, Short}
use Rattle.error.specs.Refusals.{values, number, granted}
use Rattle.ring.specs.Ring.{vertex_at, stored_at}
use Rattle.ring.specs.Store.{stored}
use Rattle.ring_check.specs.declared.Checked.{Checked}
use Rattle.ring_check.specs.Checks.{check_door, refused}
use Rattle.outline.specs.declared.NewOutline.{NewOutline}
use Rattle.outline.specs.Outlines.{outline, outline_if, new_outline, outline_of, outline_refused, no_outline, stored_outline, check_finite, proper, ask, ask_ring}
use Rattle.outline.proofs.Outlines.{outline_proper}
use Rattle.outline_lent.specs.Writes.{write_refusal, ring_write, written_ring}
use Rattle.outline_lent.proofs.Asked.{fits_room}
use Rattle.ring.proofs.Storing.{stored_new}
use Rattle.outline_lent.specs.Direct.{check_if, check_numbers, counted, outline_told, told, over_outline}
use Rattle.outline_lent.proofs.Straight.{straight}

-- the outline is what its check says
pub outline_is : (ps : List Float) → outline ps ≡ outline_of ps (check_numbers ps)
unfolding outline outline_if new_outline outline_of check_numbers check_if refused granted number values
outline_is ps = go (eqb (length ps % 2) 0)
  where
    finite : (r : Refusal) (b : Bool) → granted r ≡ b → cond b (new_outline ps (length ps / 2)) (outline_refused r) ≡ outline_of ps (cond b (check_door 128 0 ps (length ps / 2)) (refused r))
    finite r true e = refl
    finite r false e = rw e refl

    go : (b : Bool) → cond b (outline_if ps (check_finite ps)) (outline_refused Odd) ≡ outline_of ps (cond b (check_if ps (check_finite ps)) (refused Odd))
    go true = finite (check_finite ps) (granted (check_finite ps)) refl
    go false = refl

-- what a write of a proper ring answers
module _ (qs : List Float) (n : ℕ) (out : List Float) (p : proper 128 qs n ≡ true) where
  pub fits : n ≤ 128
  unfolding ask_ring ask granted number values
  fits = fits_room qs n Granted (rw p refl)

  write_fits : 2 * n ≤ length out → ring_write qs n out ≡ Granted
  unfolding ring_write ask_ring ask write_refusal
  write_fits l = rw (p, le-leb (2 * n) (length out) l) refl

  write_short : length out < 2 * n → ring_write qs n out ≡ Short (2 * n)
  unfolding ring_write ask_ring ask write_refusal
  write_short l = rw (p, lt-leb (2 * n) (length out) l) refl

-- c is the check of the numbers ps
module _ (ps : List Float) (c : Checked) (e : c ≡ check_numbers ps) where
  pub granted_outline : granted c.refusal ≡ true → outline ps ≡ record { refusal = Granted; shape = stored_outline ps c.count c.back }
  unfolding outline_of
  granted_outline h = outline_is ps ∙ ap (outline_of ps) (sym e) ∙ rw h refl

  pub refused_outline : granted c.refusal ≡ false → outline ps ≡ outline_refused c.refusal
  unfolding outline_of
  refused_outline h = outline_is ps ∙ ap (outline_of ps) (sym e) ∙ rw h refl

  pub counted_yes : granted c.refusal ≡ true → record { refusal = Granted; count = c.count } ≡ counted (outline ps)
  unfolding counted stored_outline
  counted_yes h = rw (granted_outline h) refl

  pub counted_no : granted c.refusal ≡ false → record { refusal = c.refusal; count = 0 } ≡ counted (outline ps)
  unfolding counted outline_refused no_outline
  counted_no h = rw (refused_outline h) refl

  abbrev points : List Float
  points = stored ps c.count c.back 0 (replicate 256 zero_float)

  is_proper : granted c.refusal ≡ true → proper 128 points c.count ≡ true
  unfolding stored_outline granted number values
  is_proper h = subst (λ (o : NewOutline). granted o.refusal ≡ true → proper 128 o.shape.points o.shape.count ≡ true) (granted_outline h) (outline_proper ps) refl

  pub count_fits : granted c.refusal ≡ true → c.count ≤ 128
  count_fits h = fits points c.count points (is_proper h)

  reads_back : c.count ≤ 128 → (k : ℕ) → k < c.count → vertex_at points k ≡ stored_at ps c.count c.back k
  reads_back f k l = subst (λ (i : ℕ). vertex_at points i ≡ stored_at ps c.count c.back k) (zero-add k)
      (stored_new ps c.count c.back 0 (replicate 256 zero_float) (omega (arith, length-replicate 256 zero_float, f)) k l)

  -- lent output that is long enough, too short, and of a refused outline
  module _ (out : List Float) where
    pub told_yes :
        (w : List Float) → granted c.refusal ≡ true → c.count ≤ length out / 2 → w ≡ stored ps c.count c.back 0 out →
        (record { refusal = Granted; count = c.count } ≡ told (outline ps) out) × (w ≡ over_outline (outline ps) out)
    unfolding told outline_told over_outline written_ring stored_outline granted number values
    told_yes w h l q =
        let g : ring_write points c.count out ≡ Granted = write_fits points c.count out (is_proper h) (omega (arith, l)) in
        (rw (granted_outline h, g) refl, rw (granted_outline h, g) (q ∙ sym (straight points ps c.count c.back out (reads_back (count_fits h)))))

    pub told_short :
        granted c.refusal ≡ true → length out / 2 < c.count →
        (record { refusal = Short (2 * c.count); count = 0 } ≡ told (outline ps) out) × (out ≡ over_outline (outline ps) out)
    unfolding told outline_told over_outline written_ring stored_outline granted number values
    told_short h l =
        let g : ring_write points c.count out ≡ Short (2 * c.count) = write_short points c.count out (is_proper h) (omega (arith, l)) in
        (rw (granted_outline h, g) refl, rw (granted_outline h, g) refl)

    pub told_no :
        granted c.refusal ≡ false → (record { refusal = c.refusal; count = 0 } ≡ told (outline ps) out) × (out ≡ over_outline (outline ps) out)
    unfolding told outline_told over_outline outline_refused no_outline
    told_no h = (rw (refused_outline h) (rw (h, h) refl), rw (refused_outline h) (rw h refl))
