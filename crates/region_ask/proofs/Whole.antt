-- 256 numbers are read as they are; what a reader answers. Assumes nothing.
use Prim.Native.Nat.{ℕ, ◌*◌}
use native.Mathlib.Nat.{zero-add}
use native.Mathlib.Omega.{arith}
use mathlib.Core.Path.{◌≡◌, refl, sym, ap, ◌∙◌, subst}
use mathlib.Core.Bool.{Bool, true, false}
use mathlib.Core.List.{List}
use lib.ListN.{get_or, length, replicate, length-replicate}
use lib.Seq.{ext_get_or}
use lib.Ieee.{Float, nan}
use Rattle.error.specs.declared.Refusal.TheVariants.{Granted, Shape}
use Rattle.outline.specs.declared.Outline.{Outline}
use Rattle.outline.specs.declared.NewOutline.{NewOutline}
use Rattle.region.specs.declared.Region.{Region}
use Rattle.math.specs.Number.{zero_float}
use Rattle.outline.specs.Outlines.{outline_refused, stored_outline}
use Rattle.base.specs.Loop.{rounds}
use Rattle.outline_lent.specs.Writes.{write_step, write_ring}
use Rattle.outline_lent.proofs.Written.{Writing, ring_writing}
use Rattle.region.specs.Checks.{proper_region}
use Rattle.region.specs.Queries.{read_outline, region_outer}
use Rattle.region_ask.specs.Reads.{outline_as, outer_of, OuterWhole}

blank : List Float
blank = replicate 256 zero_float

blank_length : length blank ≡ 256
unfolding blank
blank_length = length-replicate 256 zero_float

all_written : (ps : List Float) → length ps ≡ 256 → write_ring ps 128 0 blank ≡ ps
all_written ps e =
    let w : Writing ps 128 0 blank (2 * 128) (write_ring ps 128 0 blank) = ring_writing ps 128 0 blank in
    ext_get_or nan (write_ring ps 128 0 blank) ps (w.size ∙ blank_length ∙ sym e)
    (λ i l. subst (λ (j : ℕ). get_or (write_ring ps 128 0 blank) j nan ≡ get_or ps i nan) (zero-add i) (w.new i (omega (arith, w.size, blank_length)) (omega (arith, blank_length))))

numbers_as : (ps : List Float) → length ps ≡ 256 → rounds (write_step ps 0) (length ps) (replicate 256 zero_float) ≡ ps
unfolding blank write_ring
numbers_as ps e = rw e (all_written ps e)

pub outer_whole : OuterWhole
unfolding outer_of outline_as region_outer
outer_whole r e = ap (λ (ps : List Float). read_outline r (record { points = ps; count = r.outer.count })) (numbers_as r.outer.points e)

-- where 21 is granted, and where it is refused
module _ (r : Region) (g : Bool) (e : g ≡ proper_region r) where
  pub read_yes : (x o : Outline) → x ≡ o → g ≡ true → record { refusal = Granted; shape = x } ≡ read_outline r o
  unfolding read_outline
  read_yes x o q h = let t : proper_region r ≡ true = sym e ∙ h in rw (t, q) refl

  pub read_no : (x : NewOutline) (o : Outline) → x ≡ outline_refused Shape → g ≡ false → x ≡ read_outline r o
  unfolding read_outline
  read_no x o q h = let t : proper_region r ≡ false = sym e ∙ h in rw t q

-- the outer ring: what is answered, and that 256 numbers are handed back as they are
pub outer_answers : (r : Region) (x : NewOutline) → x ≡ outer_of r → (x ≡ outer_of r) × (length r.outer.points ≡ 256 → x ≡ region_outer r)
outer_answers r x q = (q, λ l. q ∙ outer_whole r l)

pub outline_is : (ps : List Float) (n : ℕ) (out : List Float) → out ≡ rounds (write_step ps 0) (length ps) (replicate 256 zero_float) → record { points = out; count = n } ≡ outline_as ps n
unfolding outline_as
outline_is ps n out e = rw e refl

-- the numbers and the count of a hole, each known by an equation
pub stored_same : (x : Outline) (ps hs : List Float) (n m : ℕ) → x ≡ stored_outline ps n false → ps ≡ hs → n ≡ m → x ≡ stored_outline hs m false
stored_same x ps hs n m e p q = e ∙ rw (p, q) refl
