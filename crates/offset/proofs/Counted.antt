-- The counts that an outline's offset hands back, to lent output too: the tally of the front's whole list of events. Assumes nothing.
use Prim.Native.Nat.{ℕ, ◌*◌}
use mathlib.Core.Path.{◌≡◌, ap}
use mathlib.Core.Bool.{Bool, true, false, cond}
use mathlib.Core.List.{List}
use native.Mathlib.Omega.{arith}
use lib.Dec.{leb}
use lib.ListN.{length}
use lib.Ieee.{Float, eq}
use Rattle.base.proofs.Choices.{both}
use Rattle.error.specs.declared.Refusal.{Refusal}
use Rattle.error.specs.declared.Refusal.TheVariants.{Granted, Shape}
use Rattle.outline.specs.declared.Outline.{Outline}
use Rattle.front.specs.declared.Loaded.{Loaded}
use Rattle.offset.specs.declared.Offset.{Offset}
use Rattle.math.specs.Number.{zero_float}
use Rattle.error.specs.Refusals.{number, values, granted}
use Rattle.outline.specs.Outlines.{proper, no_outline}
use Rattle.outline_lent.specs.Writes.{write_refusal}
use Rattle.front.specs.Demand.{givens, run, events, tally}
use Rattle.offset.specs.Offsets.{check_distance, outline_load, sweep, offset_counted, offset_plain, offset_from, offset_by, offset}
use Rattle.offset.specs.Lent.{write_offset, offset_told, offset_write}
use Rattle.offset.specs.Answers.{AnswerDemand, NoEvent, OffsetCounted, WriteAccounts}
use Rattle.offset.proofs.Other.{Other, granted_other}
use Rattle.offset.proofs.Demand.{outline_demand}
use Rattle.offset.proofs.DemandAnswered.{distance_finite, Own, other_own, self_own, answer_demand, offset_demand, offset_before}

module _ (o : Outline) (outward : Bool) (d : Float) where
  abbrev a : Offset
  a = offset o outward d

  abbrev l : Loaded
  l = outline_load o outward d

  swept_counts : proper 128 o.points o.count ≡ true → granted (check_distance d) ≡ true → eq d zero_float ≡ false
      → record { c = a.collapses; d = a.divides; j = a.joins } ≡ tally (events (run (givens d l) l))
  unfolding offset offset_by offset_from offset_counted sweep
  swept_counts q g z = rw (q, g, z) (outline_demand o outward d q (distance_finite d g)).counted

  plain_counts : (u : Refusal) (p : Outline) → a ≡ offset_plain u p → NoEvent a.collapses a.divides a.joins
  unfolding offset_plain
  plain_counts u p e = record { collapses = ap (λ (x : Offset). x.collapses) e; divides = ap (λ (x : Offset). x.divides) e; joins = ap (λ (x : Offset). x.joins) e }

pub offset_counts : OffsetCounted
offset_counts o outward d = record {
  passed = λ q. record {
    swept = swept_counts o outward d q;
    refused = λ g. plain_counts o outward d (check_distance d) no_outline ((offset_before o outward d).refused q g);
    unmoved = λ z. plain_counts o outward d Granted o ((offset_before o outward d).unmoved q z);
  };
  refused = λ q. plain_counts o outward d Shape no_outline ((offset_before o outward d).improper q);
}

-- ---- to lent output

-- 20 is not 18
pub write_other : (needed : ℕ) (out : List Float) → Other (write_refusal needed out)
unfolding write_refusal number values
write_other needed out = both Other (leb needed (length out)) granted_other (record { no = λ q. omega arith })

pub write_own : (u : Refusal) (b : Bool) (needed : ℕ) (out : List Float) → Own u (cond b (write_refusal needed out) u)
write_own u b needed out = both (Own u) b (other_own u (write_refusal needed out) (write_other needed out)) (self_own u)

-- the bounds pass on to an answer that has no 18 of its own
pub handed_on : (n r : ℕ) (u v : Refusal) (c e j : ℕ) → AnswerDemand n r u c e j → Own u v → AnswerDemand n r v c e j
handed_on n r u v c e j h o = answer_demand n r u v c e j h.counts h.most h.unfinished (record { carried = h.carried }) o

pub write_accounts : WriteAccounts
unfolding offset_write offset_told write_offset
write_accounts o outward d out =
    let a : Offset = offset o outward d in
    record {
      passed = λ q. record {
        bounds = handed_on o.count 1 a.refusal (write_offset a out) a.collapses a.divides a.joins (offset_demand o outward d q)
            (write_own a.refusal (granted a.refusal) (2 * a.shape.count) out);
        counted = (offset_counts o outward d).passed q;
      };
      refused = (offset_counts o outward d).refused;
    }
