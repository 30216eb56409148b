-- What holds of the answers about an outline, whatever the shape, the side and the distance, finite or not: demand 3 of what is handed
-- back, the empty shape beside a refusal, the counts before loading, what an accepted offset has passed, and lent output. Proved in
-- `proofs/DemandAnswered.antt`, `proofs/Counted.antt`, `proofs/Accepted.antt` and `proofs/Lent.antt`. Assumes nothing.
use Rattle.std.specs.Prelude.{ℕ, ◌+◌, ◌*◌, ◌≤◌, ◌<◌, ◌≡◌, Bool, true, false, cond, List, [], ◌∷◌, get_or, length, replicate, Float, None}
use Rattle.std.specs.Float.{nan}
use Rattle.std.specs.Float.Ieee.{lt, le, eq}
use Rattle.plane.specs.declared.Containment.TheVariants.{Inside, Outside}
use Rattle.error.specs.declared.Refusal.{Refusal}
use Rattle.error.specs.declared.Refusal.TheVariants.{Granted, Shape}
use Rattle.outline.specs.declared.Outline.{Outline}
use Rattle.math.specs.Number
use Rattle.math.specs.Number.{zero_float, one, add, mul}
use Rattle.error.specs.Refusals.{number, values, granted}
use Rattle.segment.specs.Segments.{segments_meet}
use Rattle.ring.specs.Ring.{vertex_at, edge_end}
use Rattle.ring_measure.specs.Measures.{extent}
use Rattle.ring_cross.specs.Simple.{check_simple}
use Rattle.ring_contain.specs.Contains.{ring_contains}
use Rattle.ring_near.specs.Near.{nearest}
use Rattle.outline.specs.Outlines.{new_outline, outline, proper, no_outline, relative_tolerance}
use Rattle.front.specs.declared.Loaded.{Loaded}
use Rattle.front.specs.Demand.{tally, events, givens, run}
use Rattle.outline_lent.specs.Writes.{outline_write, written_outline}
use Rattle.offset.specs.Offsets.{offset, offset_plain, check_distance, outline_load}
use Rattle.offset.specs.Lent.{offset_write, written_offset}

-- ---- demand 3 of an answer

-- of n vertices in r rings: the refusal u, and c collapses, e divisions and j joins beside it
pub record AnswerDemand (n r : ℕ) (u : Refusal) (c e j : ℕ) : Type 0 where
  pub counts : c + e + 2 * r ≤ n + 3 * j
  pub most : c + e + j ≤ 387
  -- 18 only when 4j ≥ 387 - n + 2r, and it carries 387
  pub unfinished : number u ≡ 18 → 387 + 2 * r ≤ n + 4 * j
  pub carried : number u ≡ 18 → (values u).wholes ≡ 387 ∷ []

abbrev pub OffsetDemand : Type 0
OffsetDemand =
    (o : Outline) (outward : Bool) (d : Float) → proper 128 o.points o.count ≡ true →
    AnswerDemand o.count 1 (offset o outward d).refusal (offset o outward d).collapses (offset o outward d).divides
    (offset o outward d).joins

-- ---- the counts handed back are those of the front's whole list of events

-- no front was swept
pub record NoEvent (c e j : ℕ) : Type 0 where
  pub collapses : c ≡ 0
  pub divides : e ≡ 0
  pub joins : j ≡ 0

-- c collapses, e divisions and j joins, by a distance, of the loaded front l
pub record Counted (distance : Float) (l : Loaded) (c e j : ℕ) : Type 0 where
  -- past 13 and 14 the front is swept
  pub swept : granted (check_distance distance) ≡ true → eq distance zero_float ≡ false →
      record { c = c; d = e; j = j } ≡ tally (events (run (givens distance l) l))
  -- refused by 13 or 14, and by 0 or −0, it is not
  pub refused : granted (check_distance distance) ≡ false → NoEvent c e j
  pub unmoved : eq distance zero_float ≡ true → NoEvent c e j

-- the same of a shape that passes 21 or, refused by it, comes to no front
pub record ShapeCounted (passes : Bool) (distance : Float) (l : Loaded) (c e j : ℕ) : Type 0 where
  pub passed : passes ≡ true → Counted distance l c e j
  pub refused : passes ≡ false → NoEvent c e j

abbrev pub OffsetCounted : Type 0
OffsetCounted =
    (o : Outline) (outward : Bool) (distance : Float) →
    ShapeCounted (proper 128 o.points o.count) distance (outline_load o outward distance) (offset o outward distance).collapses
    (offset o outward distance).divides (offset o outward distance).joins

-- the bounds and the counts, of whatever hands them on
pub record Accounts (n r : ℕ) (distance : Float) (l : Loaded) (u : Refusal) (c e j : ℕ) : Type 0 where
  pub bounds : AnswerDemand n r u c e j
  pub counted : Counted distance l c e j

pub record ShapeAccounts (passes : Bool) (n r : ℕ) (distance : Float) (l : Loaded) (u : Refusal) (c e j : ℕ) : Type 0 where
  pub passed : passes ≡ true → Accounts n r distance l u c e j
  pub refused : passes ≡ false → NoEvent c e j

-- of an offset to lent output, whether or not 20 refuses it
abbrev pub WriteAccounts : Type 0
WriteAccounts =
    (o : Outline) (outward : Bool) (distance : Float) (out : List Float) →
    ShapeAccounts (proper 128 o.points o.count) o.count 1 distance (outline_load o outward distance)
    (offset_write o outward distance out).refusal (offset_write o outward distance out).collapses
    (offset_write o outward distance out).divides (offset_write o outward distance out).joins

-- ---- the shape beside a refusal is empty

pub record EmptyOutline (o : Outline) : Type 0 where
  pub count : o.count ≡ 0
  pub numbers : o.points ≡ replicate 256 zero_float

abbrev pub OutlineEmpty : Type 0
OutlineEmpty = (ps : List Float) → granted (outline ps).refusal ≡ false → EmptyOutline (outline ps).shape

abbrev pub OffsetEmpty : Type 0
OffsetEmpty = (o : Outline) (outward : Bool) (d : Float) → granted (offset o outward d).refusal ≡ false →
    EmptyOutline (offset o outward d).shape

-- ---- before the front is loaded the counts are 0: `offset_plain` has no events

pub record BeforeLoading (o : Outline) (outward : Bool) (d : Float) : Type 0 where
  -- 21
  pub improper : proper 128 o.points o.count ≡ false → offset o outward d ≡ offset_plain Shape no_outline
  -- 13 and 14
  pub refused : proper 128 o.points o.count ≡ true → granted (check_distance d) ≡ false →
      offset o outward d ≡ offset_plain (check_distance d) no_outline
  -- 0 and −0: the source itself
  pub unmoved : proper 128 o.points o.count ≡ true → eq d zero_float ≡ true → offset o outward d ≡ offset_plain Granted o
  -- 15 and 16 while loading
  pub loading : proper 128 o.points o.count ≡ true → granted (check_distance d) ≡ true → eq d zero_float ≡ false →
      granted (outline_load o outward d).refusal ≡ false →
      offset o outward d ≡ offset_plain (outline_load o outward d).refusal no_outline

abbrev pub OffsetBefore : Type 0
OffsetBefore = (o : Outline) (outward : Bool) (d : Float) → BeforeLoading o outward d

-- ---- an offset q of o, accepted at a distance d above 0

pub record KeptClear (o : Outline) (outward : Bool) (d : Float) (q : Outline) : Type 0 where
  -- it has passed `check_simple`
  pub simple : check_simple q.points q.count false ≡ None
  -- each vertex tests on the right side
  pub side : (k : ℕ) → k < q.count → ring_contains o.points o.count (vertex_at q.points k) ≡ cond outward Outside Inside
  -- its gap is at least distance − 1e-9 × (1 + distance + extent)
  pub gap : (k : ℕ) → k < q.count →
      le (Number.sub d (mul relative_tolerance (add (add one d) (extent o.points o.count))))
      (nearest o.points o.count (vertex_at q.points k)).gap ≡ true
  -- no edge meets the source
  pub apart : (i k : ℕ) → i < q.count → k < o.count →
      segments_meet (vertex_at q.points i) (edge_end q.points q.count i) (vertex_at o.points k)
      (edge_end o.points o.count k) ≡ false

abbrev pub OffsetAccepted : Type 0
OffsetAccepted =
    (o : Outline) (outward : Bool) (d : Float) → granted (offset o outward d).refusal ≡ true → lt zero_float d ≡ true →
    KeptClear o outward d (offset o outward d).shape

-- ---- what is accepted passes 21 again

-- 4 to 9 and 27 alone, of any numbers and any count
abbrev pub NewOutlineProper : Type 0
NewOutlineProper =
    (ps : List Float) (n : ℕ) → granted (new_outline ps n).refusal ≡ true →
    proper 128 (new_outline ps n).shape.points (new_outline ps n).shape.count ≡ true

abbrev pub OutlineProper : Type 0
OutlineProper = (ps : List Float) → granted (outline ps).refusal ≡ true →
    proper 128 (outline ps).shape.points (outline ps).shape.count ≡ true

abbrev pub OffsetProper : Type 0
OffsetProper =
    (o : Outline) (outward : Bool) (d : Float) → granted (offset o outward d).refusal ≡ true →
    proper 128 (offset o outward d).shape.points (offset o outward d).shape.count ≡ true

-- ---- lent output: a refused write changes nothing, and a granted one only the numbers that it writes

-- `needed` numbers of ps go over the first ones of `out`, which is `now` afterwards
pub record Wrote (u : Refusal) (needed : ℕ) (ps out now : List Float) : Type 0 where
  pub refused : granted u ≡ false → now ≡ out
  pub size : length now ≡ length out
  pub numbers : granted u ≡ true → (i : ℕ) → i < needed → get_or now i nan ≡ get_or ps i nan
  pub rest : (i : ℕ) → needed ≤ i → get_or now i nan ≡ get_or out i nan

abbrev pub OutlineLent : Type 0
OutlineLent = (o : Outline) (out : List Float) → Wrote (outline_write o out) (2 * o.count) o.points out (written_outline o out)

abbrev pub OffsetLent : Type 0
OffsetLent =
    (o : Outline) (outward : Bool) (d : Float) (out : List Float) →
    Wrote (offset_write o outward d out).refusal (2 * (offset o outward d).shape.count) (offset o outward d).shape.points out
    (written_offset o outward d out)
