-- What is proved, in one file and in reading order: begin here.
--
-- Parts 1 to 6 are the promises of README.md, "What is promised", by their numbers. Each part is a record whose fields are the promises,
-- with plain words before them. `Promises`, at the end, has all of them, and `proofs/Promises.antt` proves it by citing the theorem of each
-- crate: where a theorem no longer says as much as is said here, this crate is refused. A name that is used here and not explained is a
-- definition of the crate from which it comes, and what is left to believe. Assumes nothing.
--
-- The promises are about definitions. That the code does what its definition says is the contract of each function, beside it in `src/`:
-- `result ≡ definition arguments`, and of lent memory `out.new ≡ definition out.old`. The definitions most used here:
--
--   hypot x y                            `hypot`, `lw_hypot`                           hypotenuse/specs/Hypot.antt
--   outline ps                           numbers to an outline                         outline/specs/Outlines.antt
--   contains, nearest, area              what is asked of an outline                   outline_ask/specs/Queries.antt
--   offset o outward d                   `inset`, or `outset` where outward is true    offset/specs/Offsets.antt
--   offset_write, written_offset         to lent output: the answer, and the memory    offset/specs/Lent.antt
--   region lengths ps                    rings of numbers to a region                  region/specs/Checks.antt
--   stored_region lengths ps             rings handed in as they are written           region_stored/specs/Stored.antt
--   region_inset r d                     `inset` of a region                           region/specs/Insets.antt
--   inset_write, written_inset           the same to lent output                       region/specs/Queries.antt
--   job outward d lengths ps             a job on numbers                              job/specs/Jobs.antt
--   answer_line line, answers input      a job line, and a whole input, to bytes       job/specs/AnswerLines.antt, Stream.antt
--   told_offset, told_inset, ..          what the functions for C hand back            lizardwire_c/specs/Exports.antt and
--                                                                                      region_c/specs/Told.antt
--   lw_feed, lw_feed_state, ..           a call for C on a stream, and the state after stream_c/specs/Calls.antt
--
-- How to read it: an `abbrev` stands for its right side everywhere. `P × Q` is P and Q, `P ⊎ Q` is P or Q, `(i : ℕ) × P i` is an i
-- with P i, and `P → ⊥` says that P does not hold. `get_or ps k nan` is number k of the list ps, and NaN past its end. A ring is a list
-- of numbers, east then north, and a count of vertices.
use Rattle.std.specs.Prelude.{ℕ, suc, ◌+◌, ◌-◌, ◌*◌, ◌/◌, ◌%◌, ◌^◌, ◌≤◌, ◌<◌, ◌≡◌, ◌⊎◌, Bool, true, false, cond, ◌&&◌, List, [], ◌∷◌, ◌++◌, map, T, leb, get_or, length, replicate, take, drop, Float, None}
use Rattle.std.specs.Float.{nan, inf, binary64}
use Rattle.std.specs.Float.Ieee.{fits, lt, le, eq, of_bits}
use Rattle.std.specs.Float.Ieee.Exact.{HasValue}
use Rattle.error.specs.declared.Refusal.{Refusal}
use Rattle.error.specs.declared.Refusal.TheVariants.{Granted, Short, Shape, Hairline}
use Rattle.error.specs.Refusals.{number, values, granted}
use Rattle.hypotenuse.specs.Hypot.{hypot}
use Rattle.hypotenuse.specs.Nearest.{HasUnits, Infinite, Held, edge, IsHypot}
use Rattle.math.specs.Number
use Rattle.math.specs.Parts.{units_of}
use Rattle.math.specs.Number.{zero_float, one, add, mul, abs, finite}
use Rattle.plane.specs.declared.PlanarPoint.{PlanarPoint}
use Rattle.plane.specs.declared.Containment.TheVariants.{Inside, OnBoundary, Outside}
use Rattle.plane.specs.Points.{origin, from_metres}
use Rattle.areas.specs.Areas.{from_square_metres}
use Rattle.turn.specs.Turns.{place, place_of, turn, by_sums, Finite}
use Rattle.turn.specs.Laws.{cross_plus, cross_minus}
use Rattle.segment.specs.Segments.{segments_meet, closest_on_segment}
use Rattle.ring.specs.Ring.{vertex_at, edge_end}
use Rattle.ring_measure.specs.Measures.{extent}
use Rattle.ring_contain.specs.Contains.{ring_contains}
use Rattle.ring_near.specs.Near as Near
use Rattle.ring_cross.specs.Meet.{rings_meet}
use Rattle.ring_cross.specs.EdgePairs.{edges}
use Rattle.ring_cross.specs.Simple.{check_simple}
use Rattle.ring_cross.specs.SimpleExact.{FiniteRing, Folded, Why}
use Rattle.ring_check.specs.Checks.{kept, hairline, refused, check_ring, check_door}
use Rattle.ring_check.specs.Door.{past_seven}
use Rattle.margins.specs.Far.{over, under, magnitude, field_units, sign_of, field_of, digits_of, squared_apart}
use Rattle.outline.specs.declared.Outline.{Outline}
use Rattle.outline.specs.Outlines.{outline, check_finite, stored_outline, proper, relative_tolerance}
use Rattle.outline_ask.specs.Queries as Query
use Rattle.outline_ask.specs.Queries.{measured, footed, edged, contains, nearest, area}
use Rattle.outline_lent.specs.Writes.{outline_write, written_outline}
use Rattle.front.specs.declared.Edge.{Edge}
use Rattle.front.specs.declared.Loaded.{Loaded}
use Rattle.front.specs.Links.{links, along}
use Rattle.front.specs.Demand.{Counts, Demand, givens, run, Each, Looks, tidied, events, tally, swept}
use Rattle.offset.specs.Rings.{check_piece}
use Rattle.offset.specs.Offsets.{offset, inset, outline_load, check_distance}
use Rattle.offset.specs.Lent.{offset_write, written_offset}
use Rattle.region.specs.declared.Region.{Region}
use Rattle.region.specs.declared.NewRegion.{NewRegion}
use Rattle.region.specs.declared.RegionOffset.{RegionOffset}
use Rattle.region.specs.Regions.{ring_points, ring_count, region_contains, distance_to_boundary, region_extent}
use Rattle.region.specs.Checks.{lengths_fit, region, region_given, without_holes, proper_region, check_region, total}
use Rattle.region.specs.Insets.{region_inset}
use Rattle.region.specs.Queries as Asked
use Rattle.region.specs.Queries.{ask_region, read_outline, before, needed, region_write, written_region, inset_write, written_inset}
use Rattle.region.specs.Demand.{edges_of, region_load}
use Rattle.region_ask.specs.Boundary.{NearestParts, region_nearest}
use Rattle.format.specs.Fields.{line_feed, lines}
use Rattle.format.specs.Texts.{bytes_of}
use Rattle.format.specs.Numerals.{is_float, bits_of, bits_digits, is_count, count_of, count_digits}
use Rattle.job.specs.Jobs.{job, as_region}
use Rattle.job.specs.Counted.{JobAccounts}
use Rattle.job.specs.AnswerLines.{answer_line}
use Rattle.format.specs.Lines.{no_line, ok_word, no_word, with_field, bytes_written}
use Rattle.job.specs.Stream.{answers, all_answered, joined, written}
use Rattle.job.specs.Table as Lines
use Rattle.job_answer.specs.Writing.{bytes_answered, answered, answer_written}
use Rattle.format_job.specs.Reads.{parse_answered, lengths_written, coordinates_written}
use Rattle.outline_lent.specs.Direct
use Rattle.outline_lent.specs.Direct.{over_outline}
use Rattle.job_stream.specs.Feeding.{fed, machine, outcome_refusal, Call, all_taken, all_written}
use Rattle.job_stream.specs.Progress.{rounds_start, blocks_taken_in, all_sent}
use Rattle.job_lines.specs.Wire.{held_of, out_of, stream_fed, feed_told, finish_told, finish_written, EndedBy}
use Rattle.stream_c.specs.State.{said, passes}
use Rattle.stream_c.specs.Calls.{made, made_state, lw_feed, lw_feed_state, lw_feed_out, lw_finish, lw_finish_state, lw_finish_out}
use Rattle.stream_c.specs.Streamed.{Made, Kept, Behind, Judged, FeedGranted, FeedShort, FinishGranted, FinishShort, all_fed}
use Rattle.stream_c.specs.Streamed as Streamed
use Rattle.region_c.specs.Counted.{RegionTold}
use Rattle.region_stored.specs.Stored.{stored_region, given_region, AsHanded}
use Rattle.region_stored.specs.AsOutlines.{outlines_of}
use Rattle.region_stored.specs.Rewritten.{SameRings, handed_back}
use Rattle.region_c.specs.Told.{told_region, region_made, region_over, told_inset, inset_made, inset_over}
use Rattle.region_c.specs.Told.{region_told, alone, told_ring, told_measure, hole_told, hole_over}
use Rattle.lizardwire_c.specs.Counted.{OutlineTold}
use Rattle.lizardwire_c.specs.Exports.{vertices, given, checked, told_outline, told_place, told_length, told_point, told_edge, told_offset}
use Rattle.lizardwire_c.specs.Exports.{told_nearest, told_area, told_meeting, told_line}
use Rattle.margin.specs.Margin.{Doubles, RegionDoubles}
use Rattle.margin.specs.Lent.{ring_in}
use Rattle.margin.specs.Drawn.{given_ring, GivenMargin}
use Rattle.examples.specs.Table.{table, row_at, answer, offset_answer, outline_of, inset_of, rings, no, w, S}
use Rattle.examples.specs.Again as Again

-- x is a double, as all numbers of the code are; `Doubles ps` says it of the numbers of a list, and `RegionDoubles r` of those of a region
abbrev pub Double : Float → Type 0
Double x = T (fits binary64 x)

-- A call is accepted, or it is refused. `Granted` is the refusal that refuses nothing.
abbrev pub Accepted : Refusal → Type 0
Accepted u = granted u ≡ true

abbrev pub Refused : Refusal → Type 0
Refused u = granted u ≡ false

-- d is above 0
abbrev pub Above : Float → Type 0
Above d = lt zero_float d ≡ true

-- Ring 0 of a region is the outer one, ring l + 1 is hole l: `ring_points r l` has its numbers, and `ring_count r l` counts its vertices.

-- ---- 0. Numbers, exactly
--
-- What is exact is said in whole numbers: `hypot`, and parts 4 and 5. The unit is the smallest double above 0, 2 ^ -1074, and every finite
-- double is a whole number of units: `over x` of them where it is above 0, `under x` where it is below 0, `magnitude x` without the sign.
-- The 64 bits say how many. The first is the sign, the next eleven are the exponent's field, and the other 52 are the digits. A field of 0
-- stands for the digits alone, a field f + 1 for (2 ^ 52 + digits) * 2 ^ f units (`field_units`), and 2047 for no finite number.

pub record Units : Type 0 where
  pub above : (b : ℕ) → (field_of b ≡ 2047 → ⊥) →
      over (of_bits binary64 b) ≡ cond (sign_of b) 0 (field_units (field_of b) (digits_of b))
  pub below : (b : ℕ) → (field_of b ≡ 2047 → ⊥) →
      under (of_bits binary64 b) ≡ cond (sign_of b) (field_units (field_of b) (digits_of b)) 0
  -- Part 5 counts them from -2 ^ 2098 units on, so that no number is below 0: `place x`. Of the 64 bits w the first is the sign, and
  -- `units_of` the others, w % 2 ^ 63, are the units (math/specs/Parts.antt); a pattern from that of infinity on is no finite number.
  pub place_is : (w : ℕ) → w % 2 ^ 63 < 0x7ff0_0000_0000_0000 →
      place (of_bits binary64 w) ≡ place_of (leb (2 ^ 63) w) (units_of (w % 2 ^ 63))
  pub place_few : (w : ℕ) → w % 2 ^ 63 < 0x7ff0_0000_0000_0000 → units_of (w % 2 ^ 63) < 2 ^ 2098
  pub not_finite : (w : ℕ) → 0x7ff0_0000_0000_0000 ≤ w % 2 ^ 63 → finite (of_bits binary64 w) ≡ false

-- ---- 1. Every input is taken
--
-- No public function has a `requires`, and the prover refuses one that may not end, that reads or writes outside its memory or whose sums
-- may wrap: so it returns, whatever numbers, shapes or bytes come in. That is the language's part, and needs no statement. What a caller
-- finds after a call on bad input is stated here: the number of the question that was answered with no, an empty shape, and lent output
-- as it was.

-- an outline without vertices
abbrev pub NoOutline : Outline → Type 0
NoOutline o = (o.count ≡ 0) × (o.points ≡ replicate 256 zero_float)

-- a region without an outer ring and without holes
abbrev pub NoRegion : Region → Type 0
NoRegion r = NoOutline r.outer × (r.holes ≡ 0) × (r.counts ≡ replicate 8 0) × (r.points ≡ replicate 512 zero_float)

-- `after` is what stands in the lent memory `out` after a call that answered u and had `count` numbers to write, ps: of a refused call what
-- stood there before; of an accepted one those numbers, and then what stood there before.
pub record Lent (u : Refusal) (count : ℕ) (ps out after : List Float) : Type 0 where
  pub refused : Refused u → after ≡ out
  pub size : length after ≡ length out
  pub numbers : Accepted u → (i : ℕ) → i < count → get_or after i nan ≡ get_or ps i nan
  pub rest : (i : ℕ) → count ≤ i → get_or after i nan ≡ get_or out i nan

-- the same of the rings of a region q, one after the other: `before q k` vertices come before ring k, and `needed q` numbers are all
pub record LentRings (u : Refusal) (q : Region) (out after : List Float) : Type 0 where
  pub refused : Refused u → after ≡ out
  pub size : length after ≡ length out
  pub numbers : Accepted u → (k i : ℕ) → k ≤ q.holes → i < 2 * ring_count q k →
      get_or after (2 * before q k + i) nan ≡ get_or (ring_points q k) i nan
  pub rest : (i : ℕ) → needed q ≤ i → get_or after i nan ≡ get_or out i nan

pub record EveryInput : Type 0 where
  -- ---- the refusal

  -- Its number is that of the question, 1 to 22 or 27; 0 is told where nothing is refused, and only there.
  pub granted_zero : number Granted ≡ 0
  pub numbered : (u : Refusal) → Refused u → ((1 ≤ number u) × (number u ≤ 22)) ⊎ (number u ≡ 27)
  pub accepted_only : (u : Refusal) → Accepted u → u ≡ Granted
  pub zero_only : (u : Refusal) → number u ≡ 0 → u ≡ Granted
  -- ---- the shape beside it

  -- It is empty: of numbers that are no outline and no region, of outlines that make no region, of a refused offset, inset or job.
  pub no_outline : (ps : List Float) → let a = outline ps in Refused a.refusal → NoOutline a.shape
  pub no_offset : (o : Outline) (outward : Bool) (d : Float) → let a = offset o outward d in
      Refused a.refusal → NoOutline a.shape
  pub no_region : (lengths : List ℕ) (ps : List Float) → let a = region lengths ps in Refused a.refusal → NoRegion a.shape
  pub no_given : (o : Outline) (hs : List Outline) → let a = region_given o hs in Refused a.refusal → NoRegion a.shape
  pub no_alone : (o : Outline) → let a = without_holes o in Refused a.refusal → NoRegion a.shape
  pub no_stored : (lengths : List ℕ) (ps : List Float) → let a = stored_region lengths ps in
      Refused a.refusal → (a.refusal ≡ Shape) × NoRegion a.shape
  pub no_outlines : (lengths : List ℕ) (ps : List Float) → let a = given_region lengths ps in
      Refused a.refusal → NoRegion a.shape
  pub no_inset : (r : Region) (d : Float) → let a = region_inset r d in Refused a.refusal → NoRegion a.shape
  pub no_job : (outward : Bool) (d : Float) (lengths : List ℕ) (ps : List Float) → let a = job outward d lengths ps in
      Refused a.refusal → NoRegion a.shape
  -- so is a ring of a region that is read as an outline
  pub no_ring : (r : Region) (o : Outline) → let a = read_outline r o in Refused a.refusal → NoOutline a.shape
  -- ---- the value beside it

  -- Of a question about an outline of n vertices ps it is Outside, 0, or 0 and (0, 0).
  pub no_place : (ps : List Float) (n : ℕ) (p : PlanarPoint) → let a = contains ps n p in Refused a.refusal → a.place ≡ Outside
  pub no_nearest : (ps : List Float) (n : ℕ) (p : PlanarPoint) → let a = nearest ps n p in
      Refused a.refusal → (a.distance ≡ zero_float) × (a.point ≡ origin)
  pub no_area : (ps : List Float) (n : ℕ) → let a = area ps n in Refused a.refusal → a.area.value ≡ zero_float
  -- So it is of a region. Every other question is answered by `measured`, `footed` or `edged`, with the refusal u that 21 and 2 come to.
  pub no_region_place : (r : Region) (p : PlanarPoint) → let a = Asked.region_contains r p in
      Refused a.refusal → a.place ≡ Outside
  pub no_measure : (u : Refusal) (x : Float) → let a = measured u x in Refused a.refusal → a.value ≡ zero_float
  pub no_foot : (u : Refusal) (p : PlanarPoint) → let a = footed u p in Refused a.refusal → a.point ≡ origin
  pub no_edge : (u : Refusal) (p q : PlanarPoint) → let a = edged u p q in
      Refused a.refusal → (a.start ≡ origin) × (a.end ≡ origin)
  -- And so of numbers that are no point and no area.
  pub no_point : (east north : Float) → let a = from_metres east north in Refused a.refusal → a.point ≡ origin
  pub no_square : (x : Float) → let a = from_square_metres x in Refused a.refusal → a.area.value ≡ zero_float
  -- ---- lent memory

  -- A refused write changes nothing, and an accepted one only the numbers that it writes: an outline and a region as they are handed in, an
  -- offset, an inset.
  pub outline_lent : (o : Outline) (out : List Float) →
      Lent (outline_write o out) (2 * o.count) o.points out (written_outline o out)
  pub region_lent : (r : Region) (out : List Float) → LentRings (region_write r out).refusal r out (written_region r out)
  pub offset_lent : (o : Outline) (outward : Bool) (d : Float) (out : List Float) → let q = (offset o outward d).shape in
      Lent (offset_write o outward d out).refusal (2 * q.count) q.points out (written_offset o outward d out)
  pub inset_lent : (r : Region) (d : Float) (out : List Float) →
      LentRings (inset_write r d out).refusal (region_inset r d).shape out (written_inset r d out)
  -- A refused job line leaves both memories for its numbers as they were, and a refused answer line the bytes for it.
  pub line_lent : (line lengths : List ℕ) (coordinates : List Float) → Refused (parse_answered line lengths coordinates).refusal →
      (lengths_written line lengths coordinates ≡ lengths) × (coordinates_written line lengths coordinates ≡ coordinates)
  pub answer_lent : (a : RegionOffset) (out : List ℕ) → Refused (answered a out).refusal → answer_written a out ≡ out
  -- ---- the functions for C

  -- Where `refusal` is not 0, nothing is counted as written, and `out` is as it was.
  pub lw_check : (ps : List Float) → let a = checked (outline ps) in (a.refusal ≡ 0 → ⊥) → a.count ≡ 0
  pub lw_outline : (ps out : List Float) → let a = told_outline (outline ps) out in
      (a.refusal ≡ 0 → ⊥) → (a.count ≡ 0) × (over_outline (outline ps) out ≡ out)
  -- `lw_contains`: `place` may be read as a truth. Where it is not 0 the call is granted and the point is not outside; where it is 0 and
  -- the call is granted, the point is outside.
  pub lw_inside : (ps : List Float) (p : PlanarPoint) → let n = vertices (length ps) in let a = told_place (contains ps n p) in
      (a.place ≡ 0 → ⊥) → (a.refusal ≡ 0) × (ring_contains ps n p ≡ Outside → ⊥)
  pub lw_outside : (ps : List Float) (p : PlanarPoint) → let n = vertices (length ps) in let a = told_place (contains ps n p) in
      a.place ≡ 0 → a.refusal ≡ 0 → ring_contains ps n p ≡ Outside
  pub lw_place : (ps : List Float) (p : PlanarPoint) → let n = vertices (length ps) in let a = told_place (contains ps n p) in
      (a.place ≡ 1 → ring_contains ps n p ≡ OnBoundary) × (a.place ≡ 2 → ring_contains ps n p ≡ Inside)
  -- `lw_region_contains` of a region r, likewise
  pub lw_region_inside : (r : Region) (p : PlanarPoint) → let a = told_place (Asked.region_contains r p) in
      (a.place ≡ 0 → ⊥) → (a.refusal ≡ 0) × (region_contains r p ≡ Outside → ⊥)
  pub lw_region_outside : (r : Region) (p : PlanarPoint) → let a = told_place (Asked.region_contains r p) in
      a.place ≡ 0 → a.refusal ≡ 0 → region_contains r p ≡ Outside
  pub lw_region_place : (r : Region) (p : PlanarPoint) → let a = told_place (Asked.region_contains r p) in
      (a.place ≡ 1 → region_contains r p ≡ OnBoundary) × (a.place ≡ 2 → region_contains r p ≡ Inside)
  -- `lw_nearest`, `lw_area`, `lw_perimeter`, `lw_extent`, `lw_clearance`, `lw_meeting`, `lw_vertex`, `lw_edge`: the numbers beside a
  -- refusal are 0
  pub lw_nearest : (ps : List Float) (p : PlanarPoint) → let a = told_nearest (nearest ps (vertices (length ps)) p) in
      (a.refusal ≡ 0 → ⊥) → (a.distance ≡ zero_float) × (a.east ≡ zero_float) × (a.north ≡ zero_float)
  pub lw_area : (ps : List Float) → let a = told_area (area ps (vertices (length ps))) in
      (a.refusal ≡ 0 → ⊥) → a.area ≡ zero_float
  pub lw_perimeter : (ps : List Float) → let a = told_length (Query.perimeter ps (vertices (length ps))) in
      (a.refusal ≡ 0 → ⊥) → a.length ≡ zero_float
  pub lw_extent : (ps : List Float) → let a = told_length (Query.extent ps (vertices (length ps))) in
      (a.refusal ≡ 0 → ⊥) → a.length ≡ zero_float
  pub lw_clearance : (ps qs : List Float) → let n = vertices (length ps) in let m = vertices (length qs) in
      let a = told_length (Query.clearance ps n qs m) in
      (a.refusal ≡ 0 → ⊥) → a.length ≡ zero_float
  pub lw_meeting : (ps qs : List Float) → let n = vertices (length ps) in let m = vertices (length qs) in
      let a = told_meeting (Query.meeting ps n qs m) in
      (a.refusal ≡ 0 → ⊥) → a.meets ≡ 0
  pub lw_vertex : (ps : List Float) (k : ℕ) → let a = told_point (Query.vertex ps (vertices (length ps)) k) in
      (a.refusal ≡ 0 → ⊥) → (a.east ≡ zero_float) × (a.north ≡ zero_float)
  pub lw_edge : (ps : List Float) (k : ℕ) → let a = told_edge (Query.edge ps (vertices (length ps)) k) in
      (a.refusal ≡ 0 → ⊥) →
      (a.start_east ≡ zero_float) × (a.start_north ≡ zero_float)
      × (a.end_east ≡ zero_float) × (a.end_north ≡ zero_float)
  -- `lw_region_nearest`, `lw_region_area` and `lw_region_perimeter` of a region r, likewise
  pub lw_region_nearest : (r : Region) (p : PlanarPoint) → let a = told_nearest (region_nearest r p) in
      (a.refusal ≡ 0 → ⊥) → (a.distance ≡ zero_float) × (a.east ≡ zero_float) × (a.north ≡ zero_float)
  pub lw_region_area : (r : Region) → let a = told_measure (Asked.region_area r) in (a.refusal ≡ 0 → ⊥) → a.area ≡ zero_float
  pub lw_region_perimeter : (r : Region) → let a = told_length (Asked.region_perimeter r) in
      (a.refusal ≡ 0 → ⊥) → a.length ≡ zero_float
  -- `lw_inset` and `lw_outset`
  pub lw_offset : (ps : List Float) (outward : Bool) (d : Float) (out : List Float) →
      let a = told_offset (offset_write (given ps) outward d out) in
      (a.refusal ≡ 0 → ⊥) → (a.count ≡ 0) × (written_offset (given ps) outward d out ≡ out)
  pub lw_region : (lengths : List ℕ) (ps out : List Float) → let a = told_region (region_made (region lengths ps) out) in
      (a.refusal ≡ 0 → ⊥) → (a.rings ≡ 0) × (region_over (region lengths ps) out ≡ out)
  pub lw_region_inset : (lengths : List ℕ) (ps : List Float) (d : Float) (out : List Float) →
      let a = told_inset (inset_made (region lengths ps) d out) in
      (a.refusal ≡ 0 → ⊥) → (a.rings ≡ 0) × (inset_over (region lengths ps) d out ≡ out)
  -- `lw_given_region`, `lw_without_holes`, `lw_stored_region_inset`
  pub lw_given_region : (lengths : List ℕ) (ps out : List Float) → let a = told_region (region_made (given_region lengths ps) out) in
      (a.refusal ≡ 0 → ⊥) → (a.rings ≡ 0) × (region_over (given_region lengths ps) out ≡ out)
  pub lw_without_holes : (ps out : List Float) → let a = told_region (region_made (alone ps) out) in
      (a.refusal ≡ 0 → ⊥) → (a.rings ≡ 0) × (region_over (alone ps) out ≡ out)
  pub lw_stored_inset : (lengths : List ℕ) (ps : List Float) (d : Float) (out : List Float) →
      let a = told_inset (inset_made (stored_region lengths ps) d out) in
      (a.refusal ≡ 0 → ⊥) → (a.rings ≡ 0) × (inset_over (stored_region lengths ps) d out ≡ out)
  -- `lw_stored_region`, which writes nothing, `lw_region_outer` and `lw_region_hole` of a region r
  pub lw_stored_region : (r : Region) → let a = told_region (region_told r) in (a.refusal ≡ 0 → ⊥) → a.rings ≡ 0
  pub lw_region_outer : (r : Region) (out : List Float) → let a = told_ring (Direct.told (Asked.region_outer r) out) in
      (a.refusal ≡ 0 → ⊥) → (a.count ≡ 0) × (over_outline (Asked.region_outer r) out ≡ out)
  pub lw_region_hole : (r : Region) (k : ℕ) (out : List Float) → let a = told_ring (hole_told r k out) in
      (a.refusal ≡ 0 → ⊥) → (a.count ≡ 0) × (hole_over r k out ≡ out)
  -- `lw_job_line` is refused by 20 only, a job's refusal being an answer; `count` then tells the bytes that are needed
  pub lw_job_line : (line out : List ℕ) → let a = told_line (bytes_answered (answer_line line) out) in
      (a.refusal ≡ 0 → ⊥) →
      (a.refusal ≡ 20) × (a.count ≡ length (answer_line line)) × (bytes_written (answer_line line) out ≡ out)

-- ---- 2. The answer is the defined one
--
-- Every contract equates the answer with a definition, of granted calls and of refused ones. Where it can be said shortly, this is what the
-- definitions come to.

-- Length: `hypot x y` is the double nearest to the root of x² + y², and of two that are equally near the one whose last digit is even.
-- No root is named: the middle of R and Z units is at most the root of s exactly where (R + Z)² is at most 4 s. `Held Z` says that Z units
-- are a number that a double holds, at most 53 binary digits with zeros after them. `HasValue r false R (2 ^ 1074)` says that the double r
-- is R units, and not negative.

-- R = q * 2 ^ k units are the nearest to the root of s: held, and the root lies on R's side of the middle between R and any other number
-- that is held. Where it lies in the middle, q is even. q has 53 digits, or fewer where k is 0, or it is 2 ^ 53: its last digit is R's.
pub record NearestToRoot (s q k : ℕ) : Type 0 where
  pub held : Held (q * 2 ^ k)
  pub digits : q ≤ 2 ^ 53
  pub full : 0 < k → 2 ^ 52 ≤ q
  pub below : (Z : ℕ) → Held Z → Z < q * 2 ^ k → (q * 2 ^ k + Z) * (q * 2 ^ k + Z) ≤ 4 * s
  pub above : (Z : ℕ) → Held Z → q * 2 ^ k < Z → 4 * s ≤ (q * 2 ^ k + Z) * (q * 2 ^ k + Z)
  pub tie : (Z : ℕ) → Held Z → (Z ≡ q * 2 ^ k → ⊥) → (q * 2 ^ k + Z) * (q * 2 ^ k + Z) ≡ 4 * s → q % 2 ≡ 0

-- The root of s as a double: infinity from the middle between the largest double and the next number up on (twice it is `edge`), and below
-- it the nearest.
pub data RootOf (s : ℕ) (r : Float) : Type 0 where
  past : edge * edge ≤ 4 * s → r ≡ inf false → RootOf s r
  near : (q k : ℕ) → 4 * s < edge * edge → HasValue r false (q * 2 ^ k) (2 ^ 1074) → NearestToRoot s q k → RootOf s r

pub record Length : Type 0 where
  pub rounded : (x y : Float) → Double x → Double y → finite x ≡ true → finite y ≡ true →
      RootOf (magnitude x * magnitude x + magnitude y * magnitude y) (hypot x y)
  -- with an infinity it is infinity, even beside a NaN, and else with a NaN it is NaN
  pub infinite : (x y : Float) → Double x → Double y → Infinite x ⊎ Infinite y → hypot x y ≡ inf false
  pub no_number : (x y : Float) → Double x → Double y → (x ≡ nan) ⊎ (y ≡ nan) → (Infinite x → ⊥) →
      (Infinite y → ⊥) → hypot x y ≡ nan
  -- it is a double and is all that (`IsHypot`), and no other double is
  pub double : (x y : Float) → Double x → Double y → Double (hypot x y)
  pub is : (x y : Float) → Double x → Double y → IsHypot x y (hypot x y)
  pub only : (x y r : Float) → Double x → Double y → Double r → IsHypot x y r → r ≡ hypot x y
  -- every finite double is held, so none is left out of the comparison
  pub all_held : (x : Float) (a : ℕ) → Double x → HasUnits x a → Held a

-- a ring that passes question 21: 3 to `room` vertices, each coordinate within ±1e9
pub record Sized (room : ℕ) (ps : List Float) (n : ℕ) : Type 0 where
  pub three : 3 ≤ n
  pub most : n ≤ room
  pub near : (k : ℕ) → k < 2 * n → le (abs (get_or ps k nan)) (of_bits binary64 0x41cdcd6500000000) ≡ true

-- a region that does: an outer ring of up to 128, and up to 8 holes of up to 32 vertices
pub record SizedRegion (r : Region) : Type 0 where
  pub outer : Sized 128 r.outer.points r.outer.count
  pub holes : r.holes ≤ 8
  pub hole : (k : ℕ) → k < r.holes → Sized 32 (ring_points r (suc k)) (ring_count r (suc k))

-- An outline q passed the tests of an offset of o by d, which are the Rust's, as it computes them: it is simple, each vertex lies on the
-- right side, its gap is at least distance − 1e-9 × (1 + distance + extent), and no edge meets an edge of o.
pub record Passed (o : Outline) (outward : Bool) (d : Float) (q : Outline) : Type 0 where
  pub simple : check_simple q.points q.count false ≡ None
  pub side : (k : ℕ) → k < q.count →
      ring_contains o.points o.count (vertex_at q.points k) ≡ cond outward Outside Inside
  pub gap : (k : ℕ) → k < q.count →
      le (Number.sub d (mul relative_tolerance (add (add one d) (extent o.points o.count))))
      (Near.nearest o.points o.count (vertex_at q.points k)).gap ≡ true
  pub apart : (i k : ℕ) → i < q.count → k < o.count →
      segments_meet (vertex_at q.points i) (edge_end q.points q.count i)
      (vertex_at o.points k) (edge_end o.points o.count k) ≡ false

-- the same of a region q and an inset of r by d; its rings have passed 10 to 12 as well
pub record PassedRegion (r : Region) (d : Float) (q : Region) : Type 0 where
  pub simple : (k : ℕ) → k ≤ q.holes → check_simple (ring_points q k) (ring_count q k) false ≡ None
  pub checked : check_region q ≡ Granted
  pub side : (k i : ℕ) → k ≤ q.holes → i < ring_count q k → region_contains r (vertex_at (ring_points q k) i) ≡ Inside
  pub gap : (k i : ℕ) → k ≤ q.holes → i < ring_count q k →
      le (Number.sub d (mul relative_tolerance (add (add one d) (region_extent r))))
      (distance_to_boundary r (vertex_at (ring_points q k) i)) ≡ true
  pub apart : (k l i j : ℕ) → k ≤ q.holes → l ≤ r.holes → i < ring_count q k → j < ring_count r l →
      segments_meet (vertex_at (ring_points q k) i) (edge_end (ring_points q k) (ring_count q k) i)
      (vertex_at (ring_points r l) j) (edge_end (ring_points r l) (ring_count r l) j) ≡ false

-- Edge k of n vertices, the last one closing the ring, is not shorter than 0.000001, as its length is computed. The double nearest to that
-- is 4722366482869645 / 2 ^ 72, and those beside it are 1 / 2 ^ 72 away.
abbrev pub NotShort : List Float → ℕ → ℕ → Type 0
NotShort ps n k =
    let a = vertex_at ps k in
    let b = edge_end ps n k in
    lt (hypot (Number.sub b.east a.east) (Number.sub b.north a.north)) (of_bits binary64 0x3eb0c6f7a0b5ed8d) ≡ false

-- so of every edge of n vertices that were drawn, a closing repeat being dropped
abbrev pub NoHairline : List Float → ℕ → Type 0
NoHairline ps n = let m = kept ps n in (k : ℕ) → k < m → NotShort ps m k

pub record Answers : Type 0 where
  -- ---- sizes

  -- What is accepted passes question 21 where it is handed in again, and so has its size.
  pub outline_passes : (ps : List Float) → let a = outline ps in
      Accepted a.refusal → proper 128 a.shape.points a.shape.count ≡ true
  pub offset_passes : (o : Outline) (outward : Bool) (d : Float) → let a = offset o outward d in
      Accepted a.refusal → proper 128 a.shape.points a.shape.count ≡ true
  pub region_passes : (lengths : List ℕ) (ps : List Float) → let a = region lengths ps in
      Accepted a.refusal → proper_region a.shape ≡ true
  pub given_passes : (o : Outline) (hs : List Outline) → let a = region_given o hs in
      Accepted a.refusal → proper_region a.shape ≡ true
  pub inset_passes : (r : Region) (d : Float) → let a = region_inset r d in
      Accepted a.refusal → proper_region a.shape ≡ true
  pub outline_sized : (ps : List Float) → let a = outline ps in
      Accepted a.refusal → Sized 128 a.shape.points a.shape.count
  pub offset_sized : (o : Outline) (outward : Bool) (d : Float) → let a = offset o outward d in
      Accepted a.refusal → Sized 128 a.shape.points a.shape.count
  pub region_sized : (lengths : List ℕ) (ps : List Float) → let a = region lengths ps in
      Accepted a.refusal → SizedRegion a.shape
  pub inset_sized : (r : Region) (d : Float) → let a = region_inset r d in Accepted a.refusal → SizedRegion a.shape
  pub job_sized : (outward : Bool) (d : Float) (lengths : List ℕ) (ps : List Float) → let a = job outward d lengths ps in
      Accepted a.refusal → SizedRegion a.shape
  -- ---- hairlines

  -- An outline that is accepted was drawn without an edge that short, and so was every ring of a region or a job that is.
  pub outline_long : (ps : List Float) → Accepted (outline ps).refusal → NoHairline ps (length ps / 2)
  pub region_long : (lengths : List ℕ) (ps : List Float) → Accepted (region lengths ps).refusal →
      (l : ℕ) → l < length lengths → NoHairline (ring_in lengths ps l) (get_or lengths l 0)
  pub job_long : (outward : Bool) (d : Float) (lengths : List ℕ) (ps : List Float) → Accepted (job outward d lengths ps).refusal →
      (l : ℕ) → l < length lengths → NoHairline (ring_in lengths ps l) (get_or lengths l 0)
  -- An outline that comes in from outside is checked by `check_door`, and a piece that an offset leaves by `check_ring`.
  pub drawing_asked : (ps : List Float) → length ps % 2 ≡ 0 → Accepted (check_finite ps) →
      (outline ps).refusal ≡ (check_door 128 0 ps (length ps / 2)).refusal
  pub piece_asked : (room place : ℕ) (ps : List Float) (n : ℕ) → check_piece room place ps n ≡ check_ring room place ps n
  -- They differ by 27 alone: it refuses what is granted 4 to 7 (`past_seven`) and has such an edge (`hairline`), and any other ring is
  -- answered as a piece.
  pub door : (room ring : ℕ) (ps : List Float) (n : ℕ) → let c = check_ring room ring ps n in
      check_door room ring ps n ≡ cond (past_seven c.refusal && hairline ps (kept ps n)) (refused (Hairline ring)) c
  pub short_edges : (ps : List Float) (n : ℕ) →
      (hairline ps n ≡ true → (k : ℕ) × (k < n) × (NotShort ps n k → ⊥))
      × (hairline ps n ≡ false → (k : ℕ) → k < n → NotShort ps n k)
  pub shortest : HasValue (of_bits binary64 0x3eb0c6f7a0b5ed8d) false 4722366482869645 (2 ^ 72)
  pub nearest_to_it : (1000000 * (2 * 4722366482869645 - 1) < 2 * 2 ^ 72) × (2 * 2 ^ 72 < 1000000 * (2 * 4722366482869645 + 1))
  -- ---- offsets

  -- An outline that does not pass 21 is refused by it. Then 13 and 14 are asked of the distance: `check_distance`.
  pub improper : (o : Outline) (outward : Bool) (d : Float) → proper 128 o.points o.count ≡ false →
      (offset o outward d).refusal ≡ Shape
  pub distance_asked : (o : Outline) (outward : Bool) (d : Float) → proper 128 o.points o.count ≡ true →
      Refused (check_distance d) → (offset o outward d).refusal ≡ check_distance d
  -- An offset by 0 or −0 gives the source itself.
  pub unmoved : (o : Outline) (outward : Bool) (d : Float) → proper 128 o.points o.count ≡ true → eq d zero_float ≡ true →
      ((offset o outward d).refusal ≡ Granted) × ((offset o outward d).shape ≡ o)
  pub region_unmoved : (r : Region) (d : Float) → proper_region r ≡ true → eq d zero_float ≡ true →
      ((region_inset r d).refusal ≡ Granted) × ((region_inset r d).shape ≡ r)
  -- What is accepted at a distance above 0 has passed its tests.
  pub offset_passed : (o : Outline) (outward : Bool) (d : Float) → let a = offset o outward d in
      Accepted a.refusal → Above d → Passed o outward d a.shape
  pub inset_passed : (r : Region) (d : Float) → let a = region_inset r d in
      Accepted a.refusal → Above d → PassedRegion r d a.shape
  -- ---- regions handed in

  -- What is granted has the rings that were handed in, and their counts add up to the numbers (`AsHanded` in
  -- region_stored/specs/Stored.antt). Every question asks 21 of it again, which passes where it was granted and nowhere else.
  pub handed : (lengths : List ℕ) (ps : List Float) → let a = stored_region lengths ps in
      Accepted a.refusal → AsHanded lengths ps a.shape
  pub handed_asked : (lengths : List ℕ) (ps : List Float) → let a = stored_region lengths ps in
      a.refusal ≡ ask_region a.shape Granted
  -- So has the region of given outlines. Where the counts do not add up it is 21; else it is the region of the outlines, and of one alone
  -- that without holes.
  pub outlines_handed : (lengths : List ℕ) (ps : List Float) → let a = given_region lengths ps in
      Accepted a.refusal → AsHanded lengths ps a.shape
  pub outlines_unfit : (lengths : List ℕ) (ps : List Float) → lengths_fit lengths ps ≡ false →
      (given_region lengths ps).refusal ≡ Shape
  pub outlines_given : (n : ℕ) (ns : List ℕ) (ps : List Float) → 2 * total (n ∷ ns) ≡ length ps →
      given_region (n ∷ ns) ps ≡ region_given (stored_outline ps n false) (outlines_of ns (drop (2 * n) ps))
  pub outline_alone : (n : ℕ) (ps : List Float) → 2 * n ≡ length ps →
      given_region (n ∷ []) ps ≡ without_holes (stored_outline ps n false)
  -- What the functions for C have written, of a region that was made or of its inset, handed in again with the counts that they told, is
  -- granted and has the same rings (region_stored/specs/Rewritten.antt): so an inset can be inset again.
  pub lw_again : (a : NewRegion) (out : List Float) → let w = told_region (region_made a out) in
      w.refusal ≡ 0 → SameRings a.shape (handed_back w.rings w.counts (region_over a out))
  pub lw_inset_again : (a : NewRegion) (d : Float) (out : List Float) → let w = told_inset (inset_made a d out) in
      w.refusal ≡ 0 → SameRings (region_inset a.shape d).shape (handed_back w.rings w.counts (inset_over a d out))
  -- The nearest point of a region and its distance, in one answer, are what the two questions answer.
  pub both_parts : (r : Region) (p : PlanarPoint) → NearestParts r p
  -- ---- jobs

  -- A job of one ring is the offset of its outline, handed back as a region without holes (`as_region`), and one of more rings is the
  -- inset of its region.
  pub job_one : (outward : Bool) (d : Float) (ps : List Float) → Accepted (outline ps).refusal →
      job outward d (length ps / 2 ∷ []) ps ≡ as_region (offset (outline ps).shape outward d)
  pub job_more : (d : Float) (lengths : List ℕ) (ps : List Float) → 2 ≤ length lengths → Accepted (region lengths ps).refusal →
      job false d lengths ps ≡ region_inset (region lengths ps).shape d
  -- ---- the nearest point

  -- No edge of the ring has a nearer one, not even the closing edge, as the gaps are computed.
  pub nearest_least : (ps : List Float) (n : ℕ) (p : PlanarPoint) (k : ℕ) → k < n →
      lt (Near.gap_to p (closest_on_segment p (vertex_at ps k) (edge_end ps n k))).gap (Near.nearest ps n p).gap ≡ false

-- ---- 3. The front stays whole
--
-- An offset moves a front of at most 128 edges from event to event: c collapses, d dividing splits and j joining splits. With n edges in r
-- rings to begin with, whatever rounding does to the order of the events: each time the front has been tidied, each live edge is in one
-- closed ring of three or more, linked both ways; c + d ≤ n − 2r + 3j by any point; there are 387 events at most; and 18, NotConverged,
-- comes only when 4j ≥ 387 − n + 2r. The bounds are written without subtraction.

-- c, d and j after the first k events of the sweep of the loaded front l by the distance
abbrev pub after : Float → Loaded → ℕ → Counts
after distance l k = tally (take k (events (run (givens distance l) l)))

-- The edge in the slot x of a front is in one closed ring of three or more, linked both ways: going from next to next passes live edges
-- only and first comes back to x after three steps or more, and x is the previous of its next and the next of its previous.
pub record InOneRing (f : List Edge) (x : ℕ) : Type 0 where
  pub steps : ℕ
  pub three : 3 ≤ steps
  pub closed : along (links f).next steps x ≡ x
  pub first : (i : ℕ) → 0 < i → i < steps → along (links f).next i x ≡ x → ⊥
  pub lives : (i : ℕ) → (links f).live (along (links f).next i x) ≡ 1
  pub forth : (links f).prev ((links f).next x) ≡ x
  pub back : (links f).next ((links f).prev x) ≡ x

-- each live edge is
abbrev pub Whole : List Edge → Type 0
Whole f = (x : ℕ) → (links f).live x ≡ 1 → InOneRing f x

-- Of the front l that is loaded with n edges in r rings. `run` has the stages of the main loop, each with the sweep before it and after it.
-- `tidied t` is the front as stage t has tidied it, and the stage `Looks` for the next event where tidying did not stall.
pub record Front (n r : ℕ) (distance : Float) (l : Loaded) : Type 0 where
  pub rings : Each (λ t. Looks t → Whole (tidied t).edges) (run (givens distance l) l)
  pub bound : (k : ℕ) → (after distance l k).c + (after distance l k).d + 2 * r ≤ n + 3 * (after distance l k).j
  pub limit : length (events (run (givens distance l) l)) ≤ 387
  pub unfinished : number (swept (givens distance l) l).refusal ≡ 18 → 387 + 2 * r ≤ n + 4 * (swept (givens distance l) l).joins
  -- the sweep counts the events of the list, and nothing else
  pub collapses : (swept (givens distance l) l).collapses ≡ (tally (events (run (givens distance l) l))).c
  pub divides : (swept (givens distance l) l).divides ≡ (tally (events (run (givens distance l) l))).d
  pub joins : (swept (givens distance l) l).joins ≡ (tally (events (run (givens distance l) l))).j
  -- the whole demand, these and more, phrase by phrase: front/specs/Demand.antt
  pub whole : Demand n r (givens distance l) l

-- what an answer hands back: the refusal u, and c collapses, e divisions and j joins
pub record Bounds (n r : ℕ) (u : Refusal) (c e j : ℕ) : Type 0 where
  pub bound : c + e + 2 * r ≤ n + 3 * j
  pub most : c + e + j ≤ 387
  pub unfinished : number u ≡ 18 → 387 + 2 * r ≤ n + 4 * j
  pub carried : number u ≡ 18 → (values u).wholes ≡ 387 ∷ []

pub record FrontWhole : Type 0 where
  -- of every outline that passes 21, inward or outward, by any finite distance, be the offset accepted or refused
  pub of_outline : (o : Outline) (outward : Bool) (distance : Float) → proper 128 o.points o.count ≡ true →
      finite distance ≡ true → Front o.count 1 distance (outline_load o outward distance)
  -- of every region that does, with the edges of all its rings
  pub of_region : (r : Region) (distance : Float) → proper_region r ≡ true → finite distance ≡ true →
      Front (edges_of r r.holes) (suc r.holes) distance (region_load r distance)
  -- of what is handed back, at any distance
  pub of_offset : (o : Outline) (outward : Bool) (d : Float) → proper 128 o.points o.count ≡ true →
      let a = offset o outward d in Bounds o.count 1 a.refusal a.collapses a.divides a.joins
  pub of_inset : (r : Region) (d : Float) → proper_region r ≡ true → let a = region_inset r d in
      Bounds (edges_of r r.holes) (suc r.holes) a.refusal a.collapses a.divides a.joins
  pub job_most : (outward : Bool) (d : Float) (lengths : List ℕ) (ps : List Float) → let a = job outward d lengths ps in
      a.collapses + a.divides + a.joins ≤ 387
  -- The same bounds of a job and of the functions for C; the counts are those of the front's whole list of events, and all three are 0
  -- where no front was swept: job/specs/Counted.antt, lizardwire_c/specs/Counted.antt, region_c/specs/Counted.antt.
  pub of_job : (outward : Bool) (distance : Float) (lengths : List ℕ) (ps : List Float) → JobAccounts outward distance lengths ps
  pub of_lw_offset : (ps : List Float) (outward : Bool) (distance : Float) (out : List Float) →
      OutlineTold ps outward distance (told_offset (offset_write (given ps) outward distance out))
  pub of_lw_region_inset : (lengths : List ℕ) (ps : List Float) (distance : Float) (out : List Float) →
      RegionTold distance (region lengths ps) (told_inset (inset_made (region lengths ps) distance out))
  pub of_lw_stored_inset : (lengths : List ℕ) (ps : List Float) (distance : Float) (out : List Float) →
      RegionTold distance (stored_region lengths ps) (told_inset (inset_made (stored_region lengths ps) distance out))

-- ---- 4. The vertices of an inset keep their distance in truth
--
-- Of an accepted inset, at a distance above 0, each vertex of each ring lies, measured exactly, at least
--     distance − 2 × 1e-9 × (1 + distance + extent) − 1e-15 × extent
-- from every edge of the source: those that close a ring and those of the holes, too. The extent is the largest absolute coordinate of the
-- source. Between its vertices a cage can come nearer. Nothing is said of outsets.

-- that number, in units and times 10 ^ 15, of D units of distance and M units of extent; where it is below 0 it is 0, and nothing is
-- promised
abbrev pub promised : ℕ → ℕ → ℕ
promised D M = 10 ^ 15 * D - (2 * 10 ^ 6 * (2 ^ 1074 + D + M) + M)

-- The point p is that far from every point a + (i / j) (b − a) of the edge from a to b. The squares of both sides are compared, since a
-- distance is a root, and both are multiplied by 10 ^ 30 j², which leaves whole numbers: `squared_apart p a b i j` is j² times the square
-- of the distance, in squares of the unit (margins/specs/Far.antt).
abbrev pub Away : ℕ → ℕ → PlanarPoint → PlanarPoint → PlanarPoint → Type 0
Away D M p a b = (i j : ℕ) → i ≤ j → 0 < j → promised D M * promised D M * (j * j) ≤ 10 ^ 30 * squared_apart p a b i j

-- each of the m vertices of qs, from each of the n edges of ps, of which the last closes the ring
abbrev pub RingAway : ℕ → ℕ → List Float → ℕ → List Float → ℕ → Type 0
RingAway D M qs m ps n = (k i : ℕ) → k < m → i < n → Away D M (vertex_at qs k) (vertex_at ps i) (edge_end ps n i)

-- M units are the largest absolute coordinate of the n vertices of ps: none has more, and the one at `place` has as many
pub record Extent (ps : List Float) (n M : ℕ) : Type 0 where
  pub each : (k : ℕ) → k < 2 * n → magnitude (get_or ps k nan) ≤ M
  pub place : ℕ
  pub within : place < 2 * n
  pub reached : magnitude (get_or ps place nan) ≡ M

-- the same of all rings of a region
pub record RegionExtent (r : Region) (M : ℕ) : Type 0 where
  pub each : (l k : ℕ) → l ≤ r.holes → k < 2 * ring_count r l → magnitude (get_or (ring_points r l) k nan) ≤ M
  pub ring : ℕ
  pub place : ℕ
  pub held : ring ≤ r.holes
  pub within : place < 2 * ring_count r ring
  pub reached : magnitude (get_or (ring_points r ring) place nan) ≡ M

-- n vertices ps were drawn, and m vertices qs of their inset by d are handed back
pub record Margin (d : Float) (ps : List Float) (n : ℕ) (qs : List Float) (m : ℕ) : Type 0 where
  pub most : ℕ
  pub largest : Extent ps n most
  pub far : RingAway (over d) most qs m ps n

-- Rings were drawn one after the other in ps: ring l has `get_or lengths l 0` vertices, and `ring_in` leaves out those before it. Handed
-- back are `rings` rings, ring k with `count k` vertices in `ring k`.
pub record RingsMargin (d : Float) (lengths : List ℕ) (ps : List Float) (rings : ℕ) (ring : ℕ → List Float) (count : ℕ → ℕ)
    : Type 0 where
  pub most : ℕ
  pub largest : Extent ps (total lengths) most
  pub far : (k l : ℕ) → k < rings → l < length lengths →
      RingAway (over d) most (ring k) (count k) (ring_in lengths ps l) (get_or lengths l 0)

pub record TrueDistance : Type 0 where
  -- ---- from what was drawn

  -- numbers, a closing repeat and a ring that runs the other way round included
  pub drawn_outline : (ps : List Float) (d : Float) → Doubles ps → Double d →
      let o = outline ps in let a = offset o.shape false d in
      Accepted o.refusal → Accepted a.refusal → Above d → Margin d ps (length ps / 2) a.shape.points a.shape.count
  pub drawn_region : (lengths : List ℕ) (ps : List Float) (d : Float) → Doubles ps → Double d →
      let r = region lengths ps in let a = region_inset r.shape d in
      Accepted r.refusal → Accepted a.refusal → Above d →
      RingsMargin d lengths ps (a.shape.holes + 1) (ring_points a.shape) (ring_count a.shape)
  -- the answer to a job
  pub drawn_job : (d : Float) (lengths : List ℕ) (ps : List Float) → Doubles ps → Double d → let a = job false d lengths ps in
      Accepted a.refusal → Above d →
      RingsMargin d lengths ps (a.shape.holes + 1) (ring_points a.shape) (ring_count a.shape)
  -- outlines that are handed in as a region, from each of their edges (margin/specs/Drawn.antt)
  pub drawn_outlines : (o : Outline) (hs : List Outline) (d : Float) → ((l : ℕ) → Doubles (given_ring o hs l).points) →
      Double d → let r = region_given o hs in let a = region_inset r.shape d in
      Accepted r.refusal → Accepted a.refusal → Above d → GivenMargin d a.shape o hs
  -- ---- from a shape that is handed in, whatever made it

  -- M is the computed extent, which is the largest absolute coordinate
  pub of_offset : (o : Outline) (d : Float) → Doubles o.points → Double d → let a = offset o false d in
      Accepted a.refusal → Above d →
      RingAway (over d) (over (extent o.points o.count)) a.shape.points a.shape.count o.points o.count
  pub offset_extent : (o : Outline) → Doubles o.points → proper 128 o.points o.count ≡ true →
      Extent o.points o.count (over (extent o.points o.count))
  pub of_inset : (r : Region) (d : Float) → RegionDoubles r → Double d → let a = region_inset r d in
      Accepted a.refusal → Above d → (k l : ℕ) → k ≤ a.shape.holes → l ≤ r.holes →
      RingAway (over d) (over (region_extent r)) (ring_points a.shape k) (ring_count a.shape k) (ring_points r l) (ring_count r l)
  pub inset_extent : (r : Region) → RegionDoubles r → proper_region r ≡ true → RegionExtent r (over (region_extent r))
  -- ---- what stands in lent memory afterwards, counted as the call answers

  pub offset_written : (o : Outline) (d : Float) (out : List Float) → Doubles o.points → Double d →
      let a = offset_write o false d out in Accepted a.refusal → Above d →
      RingAway (over d) (over (extent o.points o.count)) (written_offset o false d out) a.count o.points o.count
  pub inset_written : (r : Region) (d : Float) (out : List Float) → RegionDoubles r → Double d →
      let a = inset_write r d out in Accepted a.refusal → Above d → (k l : ℕ) → k < a.rings → l ≤ r.holes →
      RingAway (over d) (over (region_extent r)) (ring_in a.counts (written_inset r d out) k) (get_or a.counts k 0)
      (ring_points r l) (ring_count r l)
  -- `lw_inset`, `lw_region_inset` and `lw_stored_region_inset`: from the numbers handed in
  pub lw_inset : (ps : List Float) (d : Float) (out : List Float) → Doubles ps → Double d →
      let a = told_offset (offset_write (given ps) false d out) in a.refusal ≡ 0 → Above d →
      Margin d ps (vertices (length ps)) (written_offset (given ps) false d out) a.count
  pub lw_region_inset : (lengths : List ℕ) (ps : List Float) (d : Float) (out : List Float) → Doubles ps → Double d →
      let a = told_inset (inset_made (region lengths ps) d out) in a.refusal ≡ 0 → Above d →
      RingsMargin d lengths ps a.rings (ring_in a.counts (inset_over (region lengths ps) d out)) (λ k. get_or a.counts k 0)
  pub lw_stored_inset : (lengths : List ℕ) (ps : List Float) (d : Float) (out : List Float) → Doubles ps → Double d →
      let a = told_inset (inset_made (stored_region lengths ps) d out) in a.refusal ≡ 0 → Above d →
      RingsMargin d lengths ps a.rings (ring_in a.counts (inset_over (stored_region lengths ps) d out)) (λ k. get_or a.counts k 0)

-- ---- 5. Edges that meet are told, and no others
--
-- Whether three points turn left, turn right or lie straight is the exact sign of the cross product, worked out over whole numbers. So two
-- edges with finite ends are told to meet if and only if they share a point: a crossing, an end on an edge, an overlap, an edge that is one
-- point. `Finite p` says that both numbers of p are finite doubles. `place x` is x in units, counted from -2 ^ 2098 units on.

-- The edges from p1 to p2 and from q1 to q2 share a point: one that is the mean of p1 and p2 by the whole weights i' and i, and the mean
-- of q1 and q2 by the weights k' and k, both pairs with the same sum. Whole weights suffice, since the lines are linear in them.
pub record CommonPoint (p1 p2 q1 q2 : PlanarPoint) : Type 0 where
  pub i' : ℕ
  pub i : ℕ
  pub k' : ℕ
  pub k : ℕ
  pub sum : i' + i ≡ k' + k
  pub some : 0 < i' + i
  pub east : i' * place p1.east + i * place p2.east ≡ k' * place q1.east + k * place q2.east
  pub north : i' * place p1.north + i * place p2.north ≡ k' * place q1.north + k * place q2.north

-- every vertex of a ring of n vertices is finite
abbrev pub FiniteVertices : List Float → ℕ → Type 0
FiniteVertices ps n = (k : ℕ) → k < n → Finite (vertex_at ps k)

-- edge i of the one ring and edge j of the other share a point
pub record ShareAPoint (ps : List Float) (n : ℕ) (qs : List Float) (m : ℕ) : Type 0 where
  pub i : ℕ
  pub j : ℕ
  pub i_under : i < n
  pub j_under : j < m
  pub share : CommonPoint (vertex_at ps i) (edge_end ps n i) (vertex_at qs j) (edge_end qs m j)

-- p lies on an edge of the ring, the closing one among them
pub record LiesOn (ps : List Float) (n : ℕ) (p : PlanarPoint) : Type 0 where
  pub edge : ℕ
  pub under : edge < n
  pub lies : CommonPoint (vertex_at ps edge) (edge_end ps n edge) p p

-- The pair of edges by which two rings meet (R-3), ps in the outer walk: edge i is the lowest of ps that meets any of qs, and edge k the
-- lowest of qs that it meets. Of every two rings, whatever their numbers are.
pub record LowestMeeting (ps : List Float) (n : ℕ) (qs : List Float) (m i k : ℕ) : Type 0 where
  pub i_under : i < n
  pub k_under : k < m
  pub meet : segments_meet (vertex_at ps i) (edge_end ps n i) (vertex_at qs k) (edge_end qs m k) ≡ true
  pub lowest_outer : (j l : ℕ) → j < i → l < m →
      segments_meet (vertex_at ps j) (edge_end ps n j) (vertex_at qs l) (edge_end qs m l) ≡ false
  pub lowest_inner : (l : ℕ) → l < k →
      segments_meet (vertex_at ps i) (edge_end ps n i) (vertex_at qs l) (edge_end qs m l) ≡ false

-- No two edges of a ring that have no end in common share a point: i is the lower, j does not come next, and they are not the first and the
-- last. Of two edges that have an end in common none folds back over the other (`Folded`: an exact turn, and the sign of a rounded dot
-- product).
pub record Plain (ps : List Float) (n : ℕ) : Type 0 where
  pub strangers : (i j : ℕ) → i + 1 < j → j < n → (i ≡ 0 → j + 1 ≡ n → ⊥) →
      CommonPoint (vertex_at ps i) (edge_end ps n i) (vertex_at ps j) (edge_end ps n j) → ⊥
  pub neighbours : (i j : ℕ) → i < j → j < n → Folded ps n false i j → ⊥

pub record ExactMeeting : Type 0 where
  -- ---- what is told is so, and what is so is told

  -- three points: left where the cross product is above 0, right where it is below, straight where it is 0; it is `cross_plus` less
  -- `cross_minus`
  pub sign : (a b c : PlanarPoint) → Finite a → Finite b → Finite c → turn a b c ≡ by_sums (cross_plus a b c) (cross_minus a b c)
  -- two edges
  pub meeting_share : (p1 p2 q1 q2 : PlanarPoint) → Finite p1 → Finite p2 → Finite q1 → Finite q2 →
      segments_meet p1 p2 q1 q2 ≡ true → CommonPoint p1 p2 q1 q2
  pub sharing_meet : (p1 p2 q1 q2 : PlanarPoint) → Finite p1 → Finite p2 → Finite q1 → Finite q2 →
      CommonPoint p1 p2 q1 q2 → segments_meet p1 p2 q1 q2 ≡ true
  -- a point and the boundary of a ring
  pub boundary_lies : (ps : List Float) (n : ℕ) (p : PlanarPoint) → FiniteVertices ps n → Finite p →
      ring_contains ps n p ≡ OnBoundary → LiesOn ps n p
  pub lying_boundary : (ps : List Float) (n : ℕ) (p : PlanarPoint) → FiniteVertices ps n → Finite p →
      LiesOn ps n p → ring_contains ps n p ≡ OnBoundary
  -- two rings
  pub rings_share : (ps : List Float) (n : ℕ) (qs : List Float) (m : ℕ) → FiniteVertices ps n → FiniteVertices qs m →
      rings_meet ps n qs m ≡ true → ShareAPoint ps n qs m
  pub sharing_rings : (ps : List Float) (n : ℕ) (qs : List Float) (m : ℕ) → FiniteVertices ps n → FiniteVertices qs m →
      ShareAPoint ps n qs m → rings_meet ps n qs m ≡ true
  -- it is the same whichever ring is named first
  pub either_way : (ps : List Float) (n : ℕ) (qs : List Float) (m : ℕ) → rings_meet qs m ps n ≡ rings_meet ps n qs m
  -- two outlines handed in, `lw_meeting` (R-3): those that pass 21 are answered, with 1 exactly where they meet
  pub lw_answered : (ps qs : List Float) → let n = vertices (length ps) in let m = vertices (length qs) in
      proper 128 ps n ≡ true → proper 128 qs m ≡ true → (told_meeting (Query.meeting ps n qs m)).refusal ≡ 0
  pub lw_meets : (ps qs : List Float) → let n = vertices (length ps) in let m = vertices (length qs) in
      let a = told_meeting (Query.meeting ps n qs m) in a.refusal ≡ 0 → a.meets ≡ cond (rings_meet ps n qs m) 1 0
  -- where they do not meet, and beside a refusal, there is no pair
  pub lw_no_pair : (ps qs : List Float) → let n = vertices (length ps) in let m = vertices (length qs) in
      let a = told_meeting (Query.meeting ps n qs m) in
      a.meets ≡ 0 → (a.outer ≡ 0) × (a.inner ≡ 0) × (a.swapped ≡ 0)
  -- of as many vertices, or of fewer, the first is in the outer walk
  pub lw_first_outer : (ps qs : List Float) → let n = vertices (length ps) in let m = vertices (length qs) in
      let a = told_meeting (Query.meeting ps n qs m) in
      a.meets ≡ 1 → n ≤ m → (a.swapped ≡ 0) × LowestMeeting ps n qs m a.outer a.inner
  -- else the second is, and its edge stands first
  pub lw_second_outer : (ps qs : List Float) → let n = vertices (length ps) in let m = vertices (length qs) in
      let a = told_meeting (Query.meeting ps n qs m) in
      a.meets ≡ 1 → m < n → (a.swapped ≡ 1) × LowestMeeting qs m ps n a.outer a.inner
  -- the edges that 9 names share a point, or they are neighbours that fold back (`Why`); of the ring as it is stored
  pub named : (ps : List Float) (n : ℕ) (back : Bool) → FiniteRing ps n back →
      (i j : ℕ) → check_simple ps n back ≡ edges i j → Why ps n back i j
  -- ---- what is accepted

  -- of an outline no two edges that are no neighbours share a point, and no neighbours are told to fold back (`Plain`)
  pub of_outline : (ps : List Float) → Doubles ps → let a = outline ps in
      Accepted a.refusal → Plain a.shape.points a.shape.count
  -- the same of an offset, inward or outward, at a distance above 0, and it does not meet its source
  pub of_offset : (o : Outline) (outward : Bool) (d : Float) → Doubles o.points → let a = offset o outward d in
      Accepted a.refusal → Above d → Plain a.shape.points a.shape.count
  pub offset_source : (o : Outline) (outward : Bool) (d : Float) → Doubles o.points → let a = offset o outward d in
      Accepted a.refusal → Above d → ShareAPoint a.shape.points a.shape.count o.points o.count → ⊥
  -- the same of each ring of an inset q of a region r; no two of its rings meet, and none meets a ring of r
  pub of_inset : (r : Region) (d : Float) → RegionDoubles r → Accepted (region_inset r d).refusal → Above d →
      let q = (region_inset r d).shape in (k : ℕ) → k ≤ q.holes → Plain (ring_points q k) (ring_count q k)
  pub inset_apart : (r : Region) (d : Float) → RegionDoubles r → Accepted (region_inset r d).refusal → Above d →
      let q = (region_inset r d).shape in (k l : ℕ) → k < l → l ≤ q.holes →
      ShareAPoint (ring_points q k) (ring_count q k) (ring_points q l) (ring_count q l) → ⊥
  pub inset_source : (r : Region) (d : Float) → RegionDoubles r → Accepted (region_inset r d).refusal → Above d →
      let q = (region_inset r d).shape in (k l : ℕ) → k ≤ q.holes → l ≤ r.holes →
      ShareAPoint (ring_points q k) (ring_count q k) (ring_points r l) (ring_count r l) → ⊥

-- ---- 6. The clearance is measured from both sides
--
-- The clearance of two outlines handed in, `lw_clearance` (R-1): the least gap over the vertices of each against the edges of the other,
-- and 0 where the rings meet. A gap is as it is computed: `hypot` of the way to the nearest point of the edge, each step rounded once. So
-- rings that do not meet can have the clearance 0, where such a gap rounds to 0; `lw_meeting` tells.

-- the gap of the point q from edge k of a ring
abbrev pub gap_from : List Float → ℕ → ℕ → PlanarPoint → Float
gap_from ps n k q = (Near.gap_to q (closest_on_segment q (vertex_at ps k) (edge_end ps n k))).gap

pub record BothSides : Type 0 where
  -- the same answer, bit for bit, whichever outline is named first, refusals too
  pub either_way : (ps qs : List Float) → let n = vertices (length ps) in let m = vertices (length qs) in
      told_length (Query.clearance ps n qs m) ≡ told_length (Query.clearance qs m ps n)
  -- outlines that pass 21 are answered
  pub answered : (ps qs : List Float) → let n = vertices (length ps) in let m = vertices (length qs) in
      proper 128 ps n ≡ true → proper 128 qs m ≡ true → (told_length (Query.clearance ps n qs m)).refusal ≡ 0
  -- and no others: 21 of the first, and of the second
  pub first_refused : (ps qs : List Float) → let n = vertices (length ps) in let m = vertices (length qs) in
      proper 128 ps n ≡ false → (told_length (Query.clearance ps n qs m)).refusal ≡ 21
  pub second_refused : (ps qs : List Float) → let n = vertices (length ps) in let m = vertices (length qs) in
      proper 128 qs m ≡ false → (told_length (Query.clearance ps n qs m)).refusal ≡ 21
  -- 0 where the rings meet
  pub met : (ps qs : List Float) → let n = vertices (length ps) in let m = vertices (length qs) in
      rings_meet ps n qs m ≡ true → (told_length (Query.clearance ps n qs m)).length ≡ zero_float
  -- no vertex of the second is nearer to an edge of the first, the closing one included, nor one of the first to an edge of the second
  pub of_second : (ps qs : List Float) (i k : ℕ) → let n = vertices (length ps) in let m = vertices (length qs) in
      i < m → k < n → lt (gap_from ps n k (vertex_at qs i)) (told_length (Query.clearance ps n qs m)).length ≡ false
  pub of_first : (ps qs : List Float) (i k : ℕ) → let n = vertices (length ps) in let m = vertices (length qs) in
      i < n → k < m → lt (gap_from qs m k (vertex_at ps i)) (told_length (Query.clearance ps n qs m)).length ≡ false
  -- and where outlines that pass 21 do not meet it is one of these gaps
  pub one : (ps qs : List Float) → let n = vertices (length ps) in let m = vertices (length qs) in
      proper 128 ps n ≡ true → proper 128 qs m ≡ true → rings_meet ps n qs m ≡ false →
      let x = (told_length (Query.clearance ps n qs m)).length in
      ((i : ℕ) × (k : ℕ) × (i < m) × (k < n) × (x ≡ gap_from ps n k (vertex_at qs i)))
      ⊎ ((i : ℕ) × (k : ℕ) × (i < n) × (k < m) × (x ≡ gap_from qs m k (vertex_at ps i)))

-- ---- 7. The stream: one answer line a job, wherever the input is cut
--
-- The program reads blocks of bytes, takes each by calls, and writes what they put into the output. What is there of a line that a block's
-- end cuts is held in memory that is lent. That the program hands on the bytes that it reads, and writes those that it is given, is seen in
-- its source and not proved.

-- the memory `held` has 16,385 bytes, and no more of them are said to be taken
abbrev pub Holds : List ℕ → ℕ → Type 0
Holds held count = (16385 ≤ length held) × (count ≤ 16385)

-- A call on a block that is refused before it begins: nothing is taken and nothing is put, and both memories are as they were.
pub record NothingTaken (block held : List ℕ) (count : ℕ) (out : List ℕ) : Type 0 where
  pub taken : (feed_told block held count out).taken ≡ 0
  pub used : (feed_told block held count out).used ≡ 0
  pub held_kept : held_of (stream_fed block held count out) ≡ held
  pub out_kept : out_of (stream_fed block held count out) ≡ out

pub record EveryLine : Type 0 where
  -- ---- lines

  -- for each line one answer line, with its LF, in order
  pub none : all_answered [] ≡ []
  pub one_more : (line : List ℕ) (rest : List (List ℕ)) →
      all_answered (line ∷ rest) ≡ (answer_line line ++ line_feed ∷ []) ++ all_answered rest
  -- However the input is cut into blocks, with 16,385 bytes for a cut line and as many of output: what is sent is the answer to each line.
  pub every_line : (held out : List ℕ) (blocks : List (List ℕ)) → 16385 ≤ length held → 16385 ≤ length out →
      all_sent (blocks_taken_in (rounds_start held out) blocks) ≡ all_answered (lines (joined blocks))
  -- Cut into lines again, that is one answer line for each line: no answer line has an LF in it.
  pub one_a_line : (input : List ℕ) → lines (all_answered (lines input)) ≡ map answer_line (lines input)
  -- And with any output, however short: what calls have written is the answers to what they have taken.
  pub any_calls : (held : List ℕ) (calls : List Call) → 16385 ≤ length held →
      all_written held 0 calls ≡ all_answered (lines (joined (all_taken held 0 calls)))
  -- ---- calls

  -- A call takes its whole block, or the next answer does not fit the output and its bytes are told (`EndedBy`, job_lines/specs/Wire.antt).
  pub ended : (block held : List ℕ) (count : ℕ) (out : List ℕ) → Holds held count →
      EndedBy block (fed block held count out) (feed_told block held count out)
  -- It is refused by 20 where the memory for a cut line is too short, and by 21 where more is said to be held than fits.
  pub unheld : (block held : List ℕ) (count : ℕ) (out : List ℕ) → length held < 16385 →
      (outcome_refusal (feed_told block held count out).outcome ≡ Short 16385) × NothingTaken block held count out
  pub miscounted : (block held : List ℕ) (count : ℕ) (out : List ℕ) → 16385 ≤ length held → 16385 < count →
      (outcome_refusal (feed_told block held count out).outcome ≡ Shape) × NothingTaken block held count out
  -- At the end of the input a last line without LF is answered; where that is refused the output is as it was.
  pub finished : (held : List ℕ) (count : ℕ) (out : List ℕ) → Holds held count → 16385 ≤ length out →
      let a = finish_told held count out in (outcome_refusal a.outcome ≡ Granted)
      × (take a.used (finish_written held count out) ≡ written (machine held count []))
  pub last_lent : (held : List ℕ) (count : ℕ) (out : List ℕ) → let a = finish_told held count out in
      Refused (outcome_refusal a.outcome) → finish_written held count out ≡ out
  -- ---- calls for C: what is held is in lent bytes, the state, and `passes` is the judgement of it (stream_c/specs/State.antt)

  -- From a state that holds nothing: what any calls of `lw_feed`, and then `lw_finish`, write is the answers to what they take.
  pub lw_stream : (state : List ℕ) (calls : List Call) (out : List ℕ) →
      passes state ≡ true → said state ≡ 0 → 16385 ≤ length out →
      Streamed.all_answered state calls out ≡ all_answered (lines (joined (all_fed state calls)))
  -- `lw_stream` makes such a state, or it is refused by 20 and touches nothing.
  pub lw_made_told : (state : List ℕ) → Made state (made_state state) (made state)
  pub lw_made : (state : List ℕ) → 16387 ≤ length state → (passes (made_state state) ≡ true) × (said (made_state state) ≡ 0)
  -- A state that passes passes again after each call: it is never refused by 21.
  pub lw_fed : (block state out : List ℕ) → passes state ≡ true → passes (lw_feed_state block state out) ≡ true
  pub lw_finished : (state out : List ℕ) → passes state ≡ true → passes (lw_finish_state state out) ≡ true
  -- What a call does not write is as it was: the bytes past the state's 16,387, and the output's behind those that are `written`.
  pub lw_made_leaves : (state : List ℕ) → Kept state (made_state state)
  pub lw_feed_leaves : (block state out : List ℕ) → let a = lw_feed block state out in
      Kept state (lw_feed_state block state out) × Behind a.written out (lw_feed_out block state out)
  pub lw_finish_leaves : (state out : List ℕ) → let a = lw_finish state out in
      Kept state (lw_finish_state state out) × Behind a.written out (lw_finish_out state out)
  -- A granted call takes its whole block or writes something. Where not even the first answer fits the output, 20 tells its bytes and
  -- nothing is written; with 16,385 bytes of output it does not come.
  pub lw_goes : (block state out : List ℕ) → passes state ≡ true →
      FeedGranted block (lw_feed block state out) ⊎ FeedShort block state out (lw_feed block state out)
  pub lw_enough : (block state out : List ℕ) → passes state ≡ true → 16385 ≤ length out →
      FeedGranted block (lw_feed block state out)
  -- The end of the input is granted, the line that is held is answered and nothing is held then, or it is refused by 20 with the bytes
  -- needed, and all is as it was.
  pub lw_ends : (state out : List ℕ) → passes state ≡ true →
      FinishGranted state out (lw_finish state out) ⊎ FinishShort state out (lw_finish state out)
  -- A state with fewer than 16,387 bytes is 20, and then one that says it holds more than it has room for is 21: nothing is touched.
  pub lw_feed_judges : (block state out : List ℕ) → let a = lw_feed block state out in
      Judged a state (lw_feed_state block state out) out (lw_feed_out block state out)
  pub lw_finish_judges : (state out : List ℕ) → let a = lw_finish state out in
      Judged a state (lw_finish_state state out) out (lw_finish_out state out)
  -- ---- bytes

  -- an answer line is `ok,` or `no,` and more, and has 13,098 bytes at most
  pub starts : (line : List ℕ) →
      ((rest : List ℕ) × (answer_line line ≡ with_field ok_word rest))
      ⊎ ((rest : List ℕ) × (answer_line line ≡ with_field no_word rest))
  pub room : (line : List ℕ) → length (answer_line line) ≤ 13098
  -- a line above 16,384 bytes is answered by `no,22`
  pub overlong : (line : List ℕ) → 16384 < length line → answer_line line ≡ no_line 22
  -- what is written is read back: 64 bits as 16 digits, a count as 1 to 3
  pub bits_read : (bits : ℕ) → bits < 2 ^ 64 → (is_float (bits_digits bits) ≡ true) × (bits_of (bits_digits bits) ≡ bits)
  pub count_read : (n : ℕ) → n < 1000 → (is_count (count_digits n) ≡ true) × (count_of (count_digits n) ≡ n)

-- ---- 8. Drawn examples
--
-- E1 to E14 stand in one table, question and answer a row (examples/specs/Table.antt), and inputs with what the program writes for them in
-- another (job/specs/Table.antt). A tool that refuses every drawing, that hands back the source, or that hands every drawing the same ring
-- fails here.

pub record Drawn : Type 0 where
  pub examples : (k : ℕ) → k < length table → answer (row_at table k).question ≡ (row_at table k).drawn
  -- E8 and E9: the square S from (0, 0) to (4, 4), inset 1, is the square from (1, 1) to (3, 3), without an event; inset 2 it is refused
  -- by 16
  pub inset_one : answer (inset_of S (w 1)) ≡
      rings ((w 1 ∷ w 1 ∷ w 3 ∷ w 1 ∷ w 3 ∷ w 3 ∷ w 1 ∷ w 3 ∷ []) ∷ []) (0 ∷ 0 ∷ 0 ∷ [])
  pub inset_two : answer (inset_of S (w 2)) ≡ no 16 [] [] (w 2 ∷ []) (0 ∷ 0 ∷ 0 ∷ [])
  -- E5: (0, 0), (4, 4), (4, 0), (0, 2) is refused by 9, of ring 0, edges 0 and 2
  pub crossed : answer (outline_of (w 0 ∷ w 0 ∷ w 4 ∷ w 4 ∷ w 4 ∷ w 0 ∷ w 0 ∷ w 2 ∷ [])) ≡
      no 9 (0 ∷ []) (0 ∷ 2 ∷ []) [] []
  -- R-7 (examples/specs/Again.antt): an inset with an edge of 2.3e-7, the cage of a square of side 4 with a corner cut off, is accepted. As
  -- a drawing it is refused by 27 of ring 0, as it is it can be inset again.
  pub hairline_inset : answer (inset_of Again.drawn Again.margin) ≡ rings (Again.cage ∷ []) (0 ∷ 0 ∷ 0 ∷ [])
  pub hairline_drawn : answer (outline_of Again.cage) ≡ no 27 (0 ∷ []) [] [] []
  pub hairline_again : offset_answer (inset (inset (outline Again.drawn).shape Again.margin).shape Again.tenth) ≡
      rings (Again.inner ∷ []) (1 ∷ 0 ∷ 0 ∷ [])
  -- bytes to bytes
  pub bytes : (k : ℕ) → k < length Lines.table →
      answers (bytes_of (Lines.row_at k).input) ≡ bytes_of (Lines.row_at k).output

-- ---- all of it

pub record Promises : Type 0 where
  pub units : Units
  pub inputs : EveryInput
  pub hypots : Length
  pub answers : Answers
  pub front : FrontWhole
  pub distance : TrueDistance
  pub meeting : ExactMeeting
  pub clearance : BothSides
  pub stream : EveryLine
  pub drawn : Drawn
