-- Lent output: a refused write changes nothing, and a granted one only the numbers that it writes. Assumes nothing.
use Prim.Native.Nat.{ℕ, ◌*◌, ◌≤◌}
use native.Mathlib.Nat.{zero-add}
use mathlib.Core.Path.{◌≡◌, refl, sym, ◌∙◌, subst}
use mathlib.Core.Bool.{true, false, false≢true}
use mathlib.Core.List.{List}
use native.Mathlib.Omega.{arith}
use lib.ListN.{get_or, length}
use lib.Ieee.{Float, nan}
use Rattle.error.specs.declared.Refusal.{Refusal}
use Rattle.error.specs.Refusals.{granted}
use Rattle.base.proofs.Choices.{by_test}
use Rattle.outline.specs.declared.Outline.{Outline}
use Rattle.outline.specs.Outlines.{proper}
use Rattle.outline_lent.specs.Writes.{write_ring, write_refusal, ring_write, written_ring, outline_write, written_outline}
use Rattle.outline_lent.proofs.Written.{Writing, ring_writing, Fits, refusal_fits, ask_fits}
use Rattle.outline.specs.Outlines.{ask_ring}
use Rattle.offset.specs.declared.Offset.{Offset}
use Rattle.offset.specs.Offsets.{offset}
use Rattle.offset.specs.Lent.{write_offset, offset_told, offset_write, offset_over, written_offset}
use Rattle.offset.specs.Answers.{Wrote, OutlineLent, OffsetLent}

pub kept : (u : Refusal) (needed : ℕ) (ps out : List Float) → granted u ≡ false → Wrote u needed ps out out
kept u needed ps out h = record { refused = λ q. refl; size = refl; numbers = λ q. absurd (false≢true (sym h ∙ q)); rest = λ i l. refl }

-- an outline's numbers over the first ones
ring_wrote : (u : Refusal) (ps : List Float) (n : ℕ) (out : List Float) → granted u ≡ true → 2 * n ≤ length out → Wrote u (2 * n) ps out (write_ring ps n 0 out)
ring_wrote u ps n out g l =
    let w : Writing ps n 0 out (2 * n) (write_ring ps n 0 out) = ring_writing ps n 0 out in
    record {
      refused = λ q. absurd (false≢true (sym q ∙ g));
      size = w.size;
      numbers = λ q i z. subst (λ (j : ℕ). get_or (write_ring ps n 0 out) j nan ≡ get_or ps i nan) (zero-add i) (w.new i z (omega arith));
      rest = λ i z. w.above i (omega arith);
    }

outline_fits : (o : Outline) (out : List Float) → Fits (2 * o.count) out (outline_write o out)
unfolding outline_write ring_write ask_ring
outline_fits o out = ask_fits (2 * o.count) out (proper 128 o.points o.count) (write_refusal (2 * o.count) out) (refusal_fits (2 * o.count) out)

pub outline_lent : OutlineLent
unfolding written_outline written_ring outline_write
outline_lent o out =
    let u : Refusal = outline_write o out in
    by_test (Wrote u (2 * o.count) o.points out) (granted u)
    (λ g. ring_wrote u o.points o.count out g ((outline_fits o out).fits g)) (λ g. kept u (2 * o.count) o.points out g)

offset_fits : (a : Offset) (out : List Float) → Fits (2 * a.shape.count) out (write_offset a out)
unfolding write_offset
offset_fits a out =
    by_test (Fits (2 * a.shape.count) out) (granted a.refusal) (λ h. refusal_fits (2 * a.shape.count) out) (λ h. record { fits = λ q. absurd (false≢true (sym h ∙ q)) })

over_lent : (a : Offset) (out : List Float) → Wrote (write_offset a out) (2 * a.shape.count) a.shape.points out (offset_over a out)
unfolding offset_over
over_lent a out =
    let u : Refusal = write_offset a out in
    by_test (Wrote u (2 * a.shape.count) a.shape.points out) (granted u)
    (λ g. ring_wrote u a.shape.points a.shape.count out g ((offset_fits a out).fits g)) (λ g. kept u (2 * a.shape.count) a.shape.points out g)

pub offset_lent : OffsetLent
unfolding offset_write offset_told written_offset
offset_lent o outward d out = over_lent (offset o outward d) out
