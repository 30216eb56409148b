-- Each promise, by the theorem of its crate. Assumes nothing.
use Prim.Native.Nat.{ℕ, zero, suc, ◌+◌, ◌*◌, ◌/◌, ◌%◌, ◌≤◌, ◌<◌}
use native.Mathlib.Omega.{arith}
use mathlib.Core.Path.{◌≡◌, refl, sym, ap, ◌∙◌, subst}
use mathlib.Core.Logic.{◌⊎◌, inl, inr}
use mathlib.Core.Bool.{Bool, true, false, cond, ◌&&◌, false≢true, true≢false}
use mathlib.Core.List.{List, [], ◌∷◌, ◌++◌}
use borrow.Author.Tests.{ltb-true, lt-ltb, le-ltb, eqb-true, eqb-false, le-leb, lt-leb, eq-eqb, ne_eqb}
use lib.Dec.{leb, ltb, eqb}
use lib.ListN.{get_or, length, take, drop}
use lib.Ieee.{Float, nan, inf, fin, le, fits}
use Rattle.error.specs.declared.Refusal.{Refusal}
use Rattle.error.specs.declared.Refusal.TheVariants.{Granted, Odd, NotFinite, Lengths, Few, Range, Room, Repeated, Flat, Crossed, ManyHoles}
use Rattle.error.specs.declared.Refusal.TheVariants.{HoleOutside, HolesTouch, Far, Negative, Slots, Collapses, Splits, Unfinished}
use Rattle.error.specs.declared.Refusal.TheVariants.{ManyPieces, Short, Shape, Job, Hairline}
use Rattle.error.specs.Refusals.{number, values, granted}
use Rattle.error.specs.Carries.{told, carried_of, carried}
use Rattle.hypotenuse.specs.Hypot.{hypot}
use Rattle.hypotenuse.specs.Nearest.{HasUnits, Infinite, Rounds, past, near, IsHypot, of_finite, of_infinite, of_nan}
use Rattle.hypotenuse.proofs.Units.{count_of}
use Rattle.hypotenuse.proofs.Correct.{hypot_is_nearest}
use Rattle.math.specs.Number.{zero_float, finite, abs}
use Rattle.plane.specs.declared.PlanarPoint.{PlanarPoint}
use Rattle.plane.specs.declared.Containment.{Containment}
use Rattle.plane.specs.declared.Containment.TheVariants.{Inside, OnBoundary, Outside}
use Rattle.plane.specs.declared.NewPoint.{NewPoint}
use Rattle.plane.specs.Plane.{sub}
use Rattle.plane.specs.Points.{origin, point_if, from_metres, length_of}
use Rattle.base.specs.Loop.{rounds}
use Rattle.areas.specs.declared.NewArea.{NewArea}
use Rattle.areas.specs.Areas.{area_if, from_square_metres}
use Rattle.turn.proofs.Sign.{turn_is_sign}
use Rattle.turn.proofs.Laws.{place_of_bits}
use Rattle.segment.specs.Meeting.{Shared}
use Rattle.segment.proofs.Theorem.{meet_iff_shared}
use Rattle.ring.specs.Ring.{vertex_at, edge_end, source, stored_at}
use Rattle.ring_contain.proofs.Exact.{boundary_exact}
use Rattle.ring_near.specs.declared.Nearest.{Nearest}
use Rattle.ring_near.proofs.Least.{nearest_least}
use Rattle.ring_cross.specs.MeetExact.{RingsShare}
use Rattle.std.specs.Prelude.{Option, None, Some}
use Rattle.std.specs.Option.{is_some}
use Rattle.ring_cross.specs.declared.EdgePair.{EdgePair}
use Rattle.ring_cross.specs.EdgePairs.{edges}
use Rattle.ring_cross.specs.Pair.{second_outer, ring_pair}
use Rattle.ring_cross.specs.PairLaws.{LowestPair}
use Rattle.ring_cross.proofs.MeetExact.{rings_meet_exact}
use Rattle.ring_cross.proofs.PairLaws.{pair_tells}
use Rattle.told.specs.declared.LwMeeting.{LwMeeting}
use Rattle.ring_cross.proofs.SimpleExact.{simple_exact}
use Rattle.ring_check.specs.declared.Checked.{Checked}
use Rattle.ring_check.specs.Checks.{max_coordinate, short_edge, hairline, check_ring, check_door}
use Rattle.offset.specs.Rings.{check_piece}
use Rattle.error.proofs.Laws.{granted_is}
use Rattle.ring_check.proofs.Door.{door_tells}
use Rattle.margins.specs.Far.{over, under, magnitude, margin_of}
use Rattle.margins.proofs.Units.{units_of_bits}
use Rattle.outline.specs.declared.Outline.{Outline}
use Rattle.outline.specs.declared.NewOutline.{NewOutline}
use Rattle.outline.specs.Outlines.{outline_refused, outline_of, new_outline, no_outline, check_finite, outline_if, outline, in_range_step, in_range, proper, ask, ask_ring}
use Rattle.outline_ask.specs.declared.Placed.{Placed}
use Rattle.outline_ask.specs.declared.Measured.{Measured}
use Rattle.outline_ask.specs.declared.Met.{Met}
use Rattle.outline_ask.specs.declared.Footed.{Footed}
use Rattle.outline_ask.specs.declared.Neared.{Neared}
use Rattle.outline_ask.specs.declared.Edged.{Edged}
use Rattle.outline_ask.specs.Queries as Query
use Rattle.outline_ask.specs.Queries.{placed, measured, footed, neared, edged, contains, nearest, area}
use Rattle.outline_lent.specs.Writes.{write_ring, ring_write, written_ring}
use Rattle.front.specs.declared.Edge.{Edge}
use Rattle.front.specs.declared.Loaded.{Loaded}
use Rattle.front.specs.Links.{links, InRing, InRings}
use Rattle.front.specs.Demand.{Stage, Counts, Demand, givens, run, Each, Looks, tidied}
use mathlib.Mathlib.Data.Bool.Basic.{and_elim_left, and_elim_right}
use Rattle.front.proofs.Demand.Shapes.{proper_is}
use Rattle.offset.specs.declared.Offset.{Offset}
use Rattle.offset.specs.Offsets.{offset, offset_plain}
use Rattle.offset.specs.Lent.{write_offset, offset_told, offset_write, written_offset}
use Rattle.offset.specs.Answers.{NoEvent, EmptyOutline, Wrote, AnswerDemand}
use Rattle.base.proofs.Choices.{by_test}
use Rattle.base.proofs.Tests.{all_pass}
use Rattle.offset.proofs.Demand.{outline_demand}
use Rattle.offset.proofs.DemandAnswered.{offset_demand, outline_empty, offset_empty, offset_before}
use Rattle.outline.proofs.Outlines.{outline_proper}
use Rattle.offset.proofs.Accepted.{offset_proper, offset_accepted}
use Rattle.offset.proofs.Lent.{outline_lent, offset_lent}
use Rattle.region.specs.declared.Region.{Region}
use Rattle.region.specs.declared.NewRegion.{NewRegion}
use Rattle.region.specs.declared.RegionOffset.{RegionOffset}
use Rattle.region.specs.declared.RegionWritten.{RegionWritten}
use Rattle.region.specs.declared.InsetWritten.{InsetWritten}
use Rattle.region.specs.Regions.{no_region, hole_points, hole_count, ring_points, ring_count}
use Rattle.region.specs.Checks.{check_region, region_refused, region_if, load_rings, region_loaded, total_step, total, region_finite, region, proper_step, proper_region}
use Rattle.region.specs.Insets.{region_plain, region_inset}
use Rattle.region.specs.Queries.{no_rings, rings_told, write_region, region_write, written_region, write_inset, inset_told}
use Rattle.region.specs.Queries.{ask_region, region_contains, region_area, region_perimeter, read_outline, region_outer, region_hole, inset_write, written_inset}
use Rattle.region.specs.Answers.{EmptyRegion, RingsWrote}
use Rattle.region.proofs.Demand.{region_demand}
use Rattle.region.proofs.DemandAnswered.{inset_demand, region_empty, inset_empty, inset_before}
use Rattle.region.proofs.Accepted.{inset_proper, inset_accepted}
use Rattle.region.proofs.Loaded.{region_again}
use Rattle.region.proofs.Lent.{region_lent, inset_lent}
use Rattle.job.specs.Jobs.{job_refused, as_region, job_outline, job_region, job_rings, job_finite, job_numbers, job}
use Rattle.region.specs.Checks.{lengths_fit}
use Rattle.format.specs.JobLines.{side_fits}
use Rattle.format.specs.Fields.{lines}
use Rattle.job.specs.Counted.{rings_asked, OutlineJob, RegionJob, JobAccounts}
use Rattle.format.specs.JobLines.{ParsedJob, parse_job}
use Rattle.job.specs.AnswerLines.{answer_bytes, answer_line}
use Rattle.format.specs.Lines.{bytes_refusal, bytes_written}
use Rattle.job.specs.Stream.{answered, all_answered, answers}
use Rattle.format.proofs.NumbersRead.{bits_read, count_read}
use Rattle.job.proofs.Refused.{refused_empty}
use Rattle.job.proofs.Counted.{jobs_counted}
use Rattle.job.proofs.AnswerStart.{overlong_answer, answer_starts}
use Rattle.job.proofs.Table.{table_holds}
use Rattle.job.proofs.Sizes.{job_proper, answer_room}
use Rattle.job_answer.specs.Writing as Writing
use Rattle.job_answer.specs.Writing.{writable, bytes_answered, answer_written}
use Rattle.format_digits.specs.Stores.{put}
use Rattle.format_job.specs.Reads.{parse_refusal, unparsed, parsed_all, answered_by, parse_answered, front_written, lengths_written}
use Rattle.format_job.specs.Reads.{coordinates_written}
use Rattle.outline_lent.specs.declared.direct.Counted.{Counted}
use Rattle.outline_lent.specs.Direct
use Rattle.outline_lent.specs.Direct.{outline_told, over_outline}
use Rattle.job_stream.specs.declared.Outcome.{Outcome}
use Rattle.job_stream.specs.Feeding.{Feed, fed, outcome_refusal}
use Rattle.job_stream.proofs.Machine.{any_calls}
use Rattle.job_stream.proofs.Progress as Progress
use Rattle.job_lines.specs.Wire.{answer_fits, put_written, held_of, out_of, holds, stuck, stream_fed, feed_as, feed_told, last_line}
use Rattle.job_lines.specs.Wire.{finish_written, finish_told, FinishedBy}
use Rattle.job_lines.proofs.Ends.{finishes, ends_apart, finish_apart}
use Rattle.stream_c.proofs.Streamed.{made_tells, made_keeps, made_passes, feed_keeps, finish_keeps, feed_leaves, finish_leaves, feed_judges, finish_judges, feeds_on, feeds_enough}
use Rattle.stream_c.proofs.Streamed.{finishes_on, any_stream}
use Rattle.told.specs.Told.{outline_answer, place_answer, place_number, nearest_answer, area_answer, length_answer, meeting_answer, point_answer, edge_answer, offset_answer, region_answer, inset_answer, line_answer}
use Rattle.region_ask.specs.Boundary.{neared_at, region_nearest}
use Rattle.region_ask.proofs.Both.{region_nearest_parts}
use Rattle.region_stored.specs.Stored.{kept, rings, stored_region, given_region}
use Rattle.region_stored.specs.Rewritten.{SameRings, handed_back}
use Rattle.region_stored.proofs.Again.{stored_asked}
use Rattle.region_stored.proofs.AsStored.{stored_as_handed, given_as_handed}
use Rattle.region_stored.proofs.AsOutlines.{given_outlines, given_alone}
use Rattle.region_stored.proofs.Rewritten.{written_again, inset_again}
use Rattle.region_c.specs.Told.{told_region, region_made, region_over, inset_refused, told_inset, inset_made, inset_over, region_told, alone, told_ring, told_measure}
use Rattle.region_c.specs.Told.{hole_told, hole_over}
use Rattle.region_c.proofs.Counted.{region_inset_told, stored_inset_told}
use Rattle.lizardwire_c.specs.Exports.{given, checked, told_outline, told_place, told_nearest, told_area, told_length, told_meeting, told_point, told_edge, told_offset, told_line}
use Rattle.lizardwire_c.proofs.Counted as Counted
use Rattle.margin.specs.Margin.{Largest, LargestOfRings}
use Rattle.margin.specs.Drawn.{DrawnMargin, DrawnRings}
use Rattle.margin.specs.Meeting.{MeetsNotItself}
use Rattle.margin.specs.Lent.{ring_in}
use Rattle.margin.proofs.Extents.{largest_is}
use Rattle.margin.proofs.RegionExtents.{region_largest_is}
use Rattle.margin.proofs.Outlines.{offset_margin}
use Rattle.margin.proofs.Regions.{inset_margin}
use Rattle.margin.proofs.Drawn.{outline_margin}
use Rattle.margin.proofs.DrawnRings.{region_margin}
use Rattle.margin.proofs.Given.{region_given_margin}
use Rattle.margin.proofs.Jobs.{job_margin}
use Rattle.margin.proofs.Lent.{few_holes, offset_write_margin, inset_write_margin}
use Rattle.margin.proofs.Hairlines.{outline_no_hairline, region_no_hairline, job_no_hairline}
use Rattle.margin.proofs.Meeting.{outline_meets_not, offset_meets_not, inset_meets_not}
use Rattle.margin_c.proofs.Told.{lw_inset_margin, lw_region_inset_margin, lw_stored_inset_margin}
use Rattle.examples.specs.Table.{table}
use Rattle.examples.proofs.Examples as Examples
use Rattle.examples.proofs.Again.{again}
use Rattle.promises.proofs.OneLine.{one_a_line}
use Rattle.promises.specs.Promises as Promises
use Rattle.promises.specs.Promises.{Accepted, Refused, Units, NoOutline, NoRegion, Lent, LentRings, EveryInput, RootOf, Length}
use Rattle.promises.specs.Promises.{Sized, SizedRegion, NotShort, NoHairline, Answers, InOneRing, Whole, Front, Bounds, FrontWhole}
use Rattle.promises.specs.Promises.{Extent, RegionExtent, Margin, RingsMargin, TrueDistance}
use Rattle.ring_gap.specs.Blocks.{gap_between, edge_gap, FromVertices}
use Rattle.outline_sizes.proofs.ClearanceLaws.{clearance_tells}
use Rattle.promises.specs.Promises.{gap_from, CommonPoint, ShareAPoint, LowestMeeting, Plain, ExactMeeting, BothSides, Holds, NothingTaken, EveryLine, Drawn}

-- ---- 0. numbers

units : Units
units = record {
  above = units_of_bits.over_is;
  below = units_of_bits.under_is;
  place_is = place_of_bits.place_is;
  place_few = place_of_bits.few;
  not_finite = place_of_bits.others;
}

-- ---- 1. every input

other : (n : ℕ) (u : Refusal) → suc n ≤ 22 → ((suc n ≤ 22) ⊎ (suc n ≡ 27)) × (suc n ≡ 0 → u ≡ Granted)
other n u l = (inl l, λ e. absurd (omega arith))

-- each case has its number
numbers : (u : Refusal) → ((number u ≤ 22) ⊎ (number u ≡ 27)) × (number u ≡ 0 → u ≡ Granted)
unfolding number values
numbers Granted = (inl (omega arith), λ e. refl)
numbers Odd = other 0 Odd (omega arith)
numbers (NotFinite i) = other 1 (NotFinite i) (omega arith)
numbers Lengths = other 2 Lengths (omega arith)
numbers (Few r n) = other 3 (Few r n) (omega arith)
numbers (Range r x) = other 4 (Range r x) (omega arith)
numbers (Room r n m) = other 5 (Room r n m) (omega arith)
numbers (Repeated r) = other 6 (Repeated r) (omega arith)
numbers (Flat r) = other 7 (Flat r) (omega arith)
numbers (Crossed r i j) = other 8 (Crossed r i j) (omega arith)
numbers (ManyHoles n) = other 9 (ManyHoles n) (omega arith)
numbers (HoleOutside k) = other 10 (HoleOutside k) (omega arith)
numbers (HolesTouch k l) = other 11 (HolesTouch k l) (omega arith)
numbers Far = other 12 Far (omega arith)
numbers (Negative d) = other 13 (Negative d) (omega arith)
numbers (Slots n) = other 14 (Slots n) (omega arith)
numbers (Collapses d) = other 15 (Collapses d) (omega arith)
numbers (Splits d) = other 16 (Splits d) (omega arith)
numbers (Unfinished n d) = other 17 (Unfinished n d) (omega arith)
numbers (ManyPieces n) = other 18 (ManyPieces n) (omega arith)
numbers (Short n) = other 19 (Short n) (omega arith)
numbers Shape = other 20 Shape (omega arith)
numbers Job = other 21 Job (omega arith)
numbers (Hairline r) = (inr refl, λ e. absurd (omega arith))

zero_granted : number Granted ≡ 0
unfolding number values
zero_granted = refl

above : (n : ℕ) → (n ≡ 0 → ⊥) → 1 ≤ n
above zero q = absurd (q refl)
above (suc n) q = omega arith

numbered : (u : Refusal) → Refused u → ((1 ≤ number u) × (number u ≤ 22)) ⊎ (number u ≡ 27)
unfolding granted
numbered u h = go (numbers u).0
  where
    go : (number u ≤ 22) ⊎ (number u ≡ 27) → ((1 ≤ number u) × (number u ≤ 22)) ⊎ (number u ≡ 27)
    go (inl l) = inl (above (number u) (eqb-false (number u) 0 h), l)
    go (inr e) = inr e

-- empty shapes

no_vertices : (o : Outline) → EmptyOutline o → NoOutline o
no_vertices o e = (e.count, e.numbers)

no_rings_left : (r : Region) → EmptyRegion r → NoRegion r
no_rings_left r e = (no_vertices r.outer e.outer, e.holes, e.counts, e.numbers)

empty_region : NoRegion no_region
unfolding no_region no_outline
empty_region = ((refl, refl), refl, refl, refl)

no_stored : (lengths : List ℕ) (ps : List Float) → let a = stored_region lengths ps in Refused a.refusal → (a.refusal ≡ Shape) × NoRegion a.shape
unfolding stored_region region_refused granted number values
no_stored lengths ps =
    by_test (λ (a : NewRegion). Refused a.refusal → (a.refusal ≡ Shape) × NoRegion a.shape) (kept lengths ps && leb (length lengths) 9)
    (λ g h. absurd (true≢false h)) (λ g h. (refl, empty_region))

no_outlines : (lengths : List ℕ) (ps : List Float) → let a = given_region lengths ps in Refused a.refusal → NoRegion a.shape
unfolding given_region region_if region_refused granted number values
no_outlines lengths ps =
    let P : NewRegion → Type 0 = λ (a : NewRegion). Refused a.refusal → NoRegion a.shape in
    by_test P (kept lengths ps)
    (λ k. by_test P (granted (check_region (rings lengths ps))) (λ g h. absurd (true≢false h)) (λ g h. empty_region))
    (λ k h. empty_region)

-- values beside a refusal

no_place : (u : Refusal) (c : Containment) → Refused (placed u c).refusal → (placed u c).place ≡ Outside
unfolding placed granted number values
no_place u c =
    by_test (λ (a : Placed). Refused a.refusal → a.place ≡ Outside) (granted u) (λ g h. absurd (true≢false h)) (λ g h. refl)

no_nearest : (u : Refusal) (x : Nearest) → Refused (neared u x).refusal →
    ((neared u x).distance ≡ zero_float) × ((neared u x).point ≡ origin)
unfolding neared granted number values
no_nearest u x =
    by_test (λ (a : Neared). Refused a.refusal → (a.distance ≡ zero_float) × (a.point ≡ origin)) (granted u)
    (λ g h. absurd (true≢false h)) (λ g h. (refl, refl))

no_area : (x : Float) (u : Refusal) → Refused (area_if x u).refusal → (area_if x u).area.value ≡ zero_float
unfolding area_if granted number values
no_area x u =
    by_test (λ (a : NewArea). Refused a.refusal → a.area.value ≡ zero_float) (granted u) (λ g h. absurd (true≢false h)) (λ g h. refl)

no_measure : (u : Refusal) (x : Float) → Refused (measured u x).refusal → (measured u x).value ≡ zero_float
unfolding measured granted number values
no_measure u x =
    by_test (λ (a : Measured). Refused a.refusal → a.value ≡ zero_float) (granted u) (λ g h. absurd (true≢false h)) (λ g h. refl)

no_foot : (u : Refusal) (p : PlanarPoint) → Refused (footed u p).refusal → (footed u p).point ≡ origin
unfolding footed granted number values
no_foot u p =
    by_test (λ (a : Footed). Refused a.refusal → a.point ≡ origin) (granted u) (λ g h. absurd (true≢false h)) (λ g h. refl)

no_edge : (u : Refusal) (p q : PlanarPoint) → Refused (edged u p q).refusal →
    ((edged u p q).start ≡ origin) × ((edged u p q).end ≡ origin)
unfolding edged granted number values
no_edge u p q =
    by_test (λ (a : Edged). Refused a.refusal → (a.start ≡ origin) × (a.end ≡ origin)) (granted u)
    (λ g h. absurd (true≢false h)) (λ g h. (refl, refl))

no_point : (p : PlanarPoint) (u : Refusal) → Refused (point_if p u).refusal → (point_if p u).point ≡ origin
unfolding point_if granted number values
no_point p u =
    by_test (λ (a : NewPoint). Refused a.refusal → a.point ≡ origin) (granted u) (λ g h. absurd (true≢false h)) (λ g h. refl)

no_ring : (r : Region) (o : Outline) → Refused (read_outline r o).refusal → NoOutline (read_outline r o).shape
unfolding read_outline outline_refused no_outline granted number values
no_ring r o =
    by_test (λ (a : NewOutline). Refused a.refusal → NoOutline a.shape) (proper_region r)
    (λ g h. absurd (true≢false h)) (λ g h. (refl, refl))

-- lent memory

lent : {u : Refusal} {n : ℕ} {ps out now : List Float} → Wrote u n ps out now → Lent u n ps out now
lent w = record { refused = w.refused; size = w.size; numbers = w.numbers; rest = w.rest }

lent_rings : {u : Refusal} {q : Region} {out now : List Float} → RingsWrote u q out now → LentRings u q out now
lent_rings w = record { refused = w.refused; size = w.size; numbers = w.numbers; rest = w.rest }

parse_refused : (p : ParsedJob) (u : Refusal) → Refused (answered_by p u).refusal → Refused u
unfolding answered_by parsed_all unparsed granted number values
parse_refused p u = go (granted u) refl
  where
    go : (b : Bool) → granted u ≡ b → Refused (cond b (parsed_all p) (unparsed u)).refusal → granted u ≡ false
    go true e h = absurd (true≢false h)
    go false e h = e

line_lent : (line lengths : List ℕ) (coordinates : List Float) → Refused (parse_answered line lengths coordinates).refusal →
    (lengths_written line lengths coordinates ≡ lengths) × (coordinates_written line lengths coordinates ≡ coordinates)
unfolding parse_answered lengths_written coordinates_written front_written
line_lent line lengths coordinates h =
    let p = parse_job line in
    let g = parse_refused p (parse_refusal p lengths coordinates) h in
    (rw g refl, rw g refl)

bytes_kept : (bytes out : List ℕ) → Refused (bytes_refusal bytes out) → bytes_written bytes out ≡ out
unfolding bytes_refusal bytes_written granted number values
bytes_kept bytes out = go (leb (length bytes) (length out))
  where
    go : (b : Bool) → Refused (cond b Granted (Short (length bytes))) → cond b (bytes ++ drop (length bytes) out) out ≡ out
    go true h = absurd (true≢false h)
    go false h = refl

answer_lent : (a : RegionOffset) (out : List ℕ) → Refused (Writing.answered a out).refusal → answer_written a out ≡ out
unfolding Writing.answered answer_written bytes_answered
answer_lent a out = go (writable a)
  where
    go : (b : Bool) → Refused (cond b (bytes_answered (answer_bytes a) out) (record { refusal = Shape; count = 0 })).refusal →
        cond b (bytes_written (answer_bytes a) out) out ≡ out
    go true h = bytes_kept (answer_bytes a) out h
    go false h = refl

-- the functions for C

refused_by : (u : Refusal) → ((carried u).question ≡ 0 → ⊥) → Refused u
unfolding carried carried_of told granted number
refused_by u h = ne_eqb (values u).question 0 h

outline_kept : (o : NewOutline) (out : List Float) → Refused (outline_told o out) → over_outline o out ≡ out
unfolding outline_told over_outline written_ring
outline_kept o out = go (granted o.refusal)
  where
    w : Refusal
    w = ring_write o.shape.points o.shape.count out

    new : List Float
    new = write_ring o.shape.points o.shape.count 0 out

    go : (b : Bool) → Refused (cond b w o.refusal) → cond b (cond (granted w) new out) out ≡ out
    go true h = ap (λ (b : Bool). cond b new out) h
    go false h = refl

lw_check : (ps : List Float) → ((checked (outline ps)).refusal ≡ 0 → ⊥) → (checked (outline ps)).count ≡ 0
unfolding checked outline_answer
lw_check ps h = (outline_empty ps (refused_by (outline ps).refusal h)).count

lw_outline : (o : NewOutline) (out : List Float) → ((told_outline o out).refusal ≡ 0 → ⊥) →
    ((told_outline o out).count ≡ 0) × (over_outline o out ≡ out)
unfolding told_outline outline_answer
lw_outline o out h =
    let g = refused_by (outline_told o out) h in
    (ap (λ (b : Bool). cond b o.shape.count 0) g, outline_kept o out g)

granted_by : (u : Refusal) → (carried u).question ≡ 0 → granted u ≡ true
unfolding carried carried_of told granted number
granted_by u h = eq-eqb (values u).question 0 h

only_outside : (c : Containment) → place_number c ≡ 0 → c ≡ Outside
unfolding place_number
only_outside Outside h = refl
only_outside OnBoundary h = absurd (omega (arith, h))
only_outside Inside h = absurd (omega (arith, h))

lw_inside : (u : Refusal) (c : Containment) → ((told_place (placed u c)).place ≡ 0 → ⊥) →
    ((told_place (placed u c)).refusal ≡ 0) × (c ≡ Outside → ⊥)
unfolding told_place place_answer place_number placed carried carried_of told values
lw_inside u c =
    by_test (λ (a : Placed). ((told_place a).place ≡ 0 → ⊥) → ((told_place a).refusal ≡ 0) × (c ≡ Outside → ⊥)) (granted u)
    (λ g h. (refl, λ e. h (ap place_number e))) (λ g h. absurd (h refl))

lw_outside : (u : Refusal) (c : Containment) → (told_place (placed u c)).place ≡ 0 → (told_place (placed u c)).refusal ≡ 0 → c ≡ Outside
unfolding told_place place_answer place_number placed
lw_outside u c =
    by_test (λ (a : Placed). (told_place a).place ≡ 0 → (told_place a).refusal ≡ 0 → c ≡ Outside) (granted u)
    (λ g h e. only_outside c h) (λ g h e. absurd (true≢false (sym (granted_by u e) ∙ g)))

only_boundary : (c : Containment) → place_number c ≡ 1 → c ≡ OnBoundary
unfolding place_number
only_boundary Outside h = absurd (omega (arith, h))
only_boundary OnBoundary h = refl
only_boundary Inside h = absurd (omega (arith, h))

only_inside : (c : Containment) → place_number c ≡ 2 → c ≡ Inside
unfolding place_number
only_inside Outside h = absurd (omega (arith, h))
only_inside OnBoundary h = absurd (omega (arith, h))
only_inside Inside h = refl

lw_place : (u : Refusal) (c : Containment) → let a = told_place (placed u c) in (a.place ≡ 1 → c ≡ OnBoundary) × (a.place ≡ 2 → c ≡ Inside)
unfolding told_place place_answer place_number placed
lw_place u c =
    by_test (λ (a : Placed). ((told_place a).place ≡ 1 → c ≡ OnBoundary) × ((told_place a).place ≡ 2 → c ≡ Inside)) (granted u)
    (λ g. (only_boundary c, only_inside c)) (λ g. (λ h. absurd (omega (arith, h)), λ h. absurd (omega (arith, h))))

-- a point and its distance beside a refusal
lw_near : (a : Neared) → (Refused a.refusal → (a.distance ≡ zero_float) × (a.point ≡ origin)) → ((told_nearest a).refusal ≡ 0 → ⊥) →
    ((told_nearest a).distance ≡ zero_float) × ((told_nearest a).east ≡ zero_float) × ((told_nearest a).north ≡ zero_float)
unfolding told_nearest nearest_answer
lw_near a none h =
    let g = none (refused_by a.refusal h) in
    (g.0, ap (λ (q : PlanarPoint). q.east) g.1, ap (λ (q : PlanarPoint). q.north) g.1)

no_near : (u : Refusal) (d : Float) (q : PlanarPoint) → Refused (neared_at u d q).refusal →
    ((neared_at u d q).distance ≡ zero_float) × ((neared_at u d q).point ≡ origin)
unfolding neared_at granted number values
no_near u d q =
    by_test (λ (a : Neared). Refused a.refusal → (a.distance ≡ zero_float) × (a.point ≡ origin)) (granted u)
    (λ g h. absurd (true≢false h)) (λ g h. (refl, refl))

lw_area : (x : Float) (u : Refusal) → ((told_area (area_if x u)).refusal ≡ 0 → ⊥) → (told_area (area_if x u)).area ≡ zero_float
unfolding told_area area_answer
lw_area x u h = no_area x u (refused_by (area_if x u).refusal h)

lw_measure : (u : Refusal) (x : Float) → ((told_measure (measured u x)).refusal ≡ 0 → ⊥) → (told_measure (measured u x)).area ≡ zero_float
unfolding told_measure area_answer
lw_measure u x h = no_measure u x (refused_by (measured u x).refusal h)

lw_length : (u : Refusal) (x : Float) → ((told_length (measured u x)).refusal ≡ 0 → ⊥) → (told_length (measured u x)).length ≡ zero_float
unfolding told_length length_answer
lw_length u x h = no_measure u x (refused_by (measured u x).refusal h)

-- the pair of two outlines
met_granted : (x : Option EdgePair) (b : Bool) → (Query.met_by x b).refusal ≡ Granted
unfolding Query.met_by
met_granted None b = refl
met_granted (Some p) b = refl

met_meets : (x : Option EdgePair) (b : Bool) → (Query.met_by x b).meets ≡ is_some x
unfolding Query.met_by
met_meets None b = refl
met_meets (Some p) b = refl

lw_meeting : (u : Refusal) (x : Option EdgePair) (b : Bool) → let a = told_meeting (Query.paired u x b) in (a.refusal ≡ 0 → ⊥) → a.meets ≡ 0
unfolding told_meeting meeting_answer Query.paired carried carried_of told values
lw_meeting u x b =
    by_test (λ (a : Met). ((told_meeting a).refusal ≡ 0 → ⊥) → (told_meeting a).meets ≡ 0) (granted u)
    (λ g h. absurd (h (ap (λ (r : Refusal). (carried r).question) (met_granted x b)))) (λ g h. refl)

lw_answered : (ps : List Float) (n : ℕ) (qs : List Float) (m : ℕ) → proper 128 ps n ≡ true → proper 128 qs m ≡ true → (told_meeting (Query.meeting ps n qs m)).refusal ≡ 0
unfolding told_meeting meeting_answer Query.meeting Query.paired ask_ring ask granted number carried carried_of told values
lw_answered ps n qs m e f = rw (e, f) (ap (λ (r : Refusal). (carried r).question) (met_granted (ring_pair ps n qs m) (second_outer n m)))

lw_no_pair : (u : Refusal) (x : Option EdgePair) (b : Bool) → let a = told_meeting (Query.paired u x b) in a.meets ≡ 0 → (a.outer ≡ 0) × (a.inner ≡ 0) × (a.swapped ≡ 0)
unfolding told_meeting meeting_answer Query.paired Query.met_by
lw_no_pair u x b =
    by_test (λ (a : Met). (told_meeting a).meets ≡ 0 → ((told_meeting a).outer ≡ 0) × ((told_meeting a).inner ≡ 0) × ((told_meeting a).swapped ≡ 0)) (granted u)
    (λ g. go x) (λ g h. (refl, refl, refl))
  where
    go : (y : Option EdgePair) → (told_meeting (Query.met_by y b)).meets ≡ 0 → ((told_meeting (Query.met_by y b)).outer ≡ 0) × ((told_meeting (Query.met_by y b)).inner ≡ 0) × ((told_meeting (Query.met_by y b)).swapped ≡ 0)
    go None h = (refl, refl, refl)
    go (Some p) h = absurd (omega (arith, h))

lw_meets : (u : Refusal) (x : Option EdgePair) (b : Bool) → let a = told_meeting (Query.paired u x b) in a.refusal ≡ 0 → a.meets ≡ cond (is_some x) 1 0
unfolding told_meeting meeting_answer Query.paired
lw_meets u x b =
    by_test (λ (a : Met). (told_meeting a).refusal ≡ 0 → (told_meeting a).meets ≡ cond (is_some x) 1 0) (granted u)
    (λ g h. ap (λ (t : Bool). cond t 1 0) (met_meets x b)) (λ g h. absurd (true≢false (sym (granted_by u h) ∙ g)))

lw_pair : (u : Refusal) (x : Option EdgePair) (b : Bool) → let a = told_meeting (Query.paired u x b) in a.meets ≡ 1 → (a.swapped ≡ cond b 1 0) × (x ≡ edges a.outer a.inner)
unfolding told_meeting meeting_answer Query.paired Query.met_by
lw_pair u x b =
    by_test (λ (a : Met). (told_meeting a).meets ≡ 1 → ((told_meeting a).swapped ≡ cond b 1 0) × (x ≡ edges (told_meeting a).outer (told_meeting a).inner)) (granted u)
    (λ g. go x) (λ g h. absurd (omega (arith, h)))
  where
    go : (y : Option EdgePair) → (told_meeting (Query.met_by y b)).meets ≡ 1 → ((told_meeting (Query.met_by y b)).swapped ≡ cond b 1 0) × (y ≡ edges (told_meeting (Query.met_by y b)).outer (told_meeting (Query.met_by y b)).inner)
    go None h = absurd (omega (arith, h))
    go (Some p) h = (refl, refl)

lowest : (ps : List Float) (n : ℕ) (qs : List Float) (m i k : ℕ) → LowestPair ps n qs m i k → LowestMeeting ps n qs m i k
lowest ps n qs m i k w = record {
  i_under = w.outer;
  k_under = w.inner;
  meet = w.meet;
  lowest_outer = λ j l a b. not_so _ (w.lowest_outer j l a b);
  lowest_inner = λ l a. not_so _ (w.lowest_inner l a);
}
  where
    not_so : (t : Bool) → (t ≡ true → ⊥) → t ≡ false
    not_so true f = absurd (f refl)
    not_so false f = refl

module _ (u : Refusal) (ps : List Float) (n : ℕ) (qs : List Float) (m : ℕ) where
  abbrev pair_told : LwMeeting
  pair_told = told_meeting (Query.paired u (ring_pair ps n qs m) (second_outer n m))

  lw_first_outer : pair_told.meets ≡ 1 → n ≤ m → (pair_told.swapped ≡ 0) × LowestMeeting ps n qs m pair_told.outer pair_told.inner
  unfolding second_outer
  lw_first_outer h l =
      let w = lw_pair u (ring_pair ps n qs m) (second_outer n m) h in
      (w.0 ∙ ap (λ (t : Bool). cond t 1 0) (le-ltb m n l), lowest ps n qs m _ _ (pair_tells.first_outer ps n qs m _ _ l w.1))

  lw_second_outer : pair_told.meets ≡ 1 → m < n → (pair_told.swapped ≡ 1) × LowestMeeting qs m ps n pair_told.outer pair_told.inner
  unfolding second_outer
  lw_second_outer h l =
      let w = lw_pair u (ring_pair ps n qs m) (second_outer n m) h in
      (w.0 ∙ ap (λ (t : Bool). cond t 1 0) (lt-ltb m n l), lowest qs m ps n _ _ (pair_tells.second_outer ps n qs m _ _ l w.1))

lw_vertex : (u : Refusal) (p : PlanarPoint) → ((told_point (footed u p)).refusal ≡ 0 → ⊥) →
    ((told_point (footed u p)).east ≡ zero_float) × ((told_point (footed u p)).north ≡ zero_float)
unfolding told_point point_answer
lw_vertex u p h =
    let g = no_foot u p (refused_by (footed u p).refusal h) in
    (ap (λ (q : PlanarPoint). q.east) g, ap (λ (q : PlanarPoint). q.north) g)

lw_edge : (u : Refusal) (p q : PlanarPoint) → ((told_edge (edged u p q)).refusal ≡ 0 → ⊥) →
    ((told_edge (edged u p q)).start_east ≡ zero_float) × ((told_edge (edged u p q)).start_north ≡ zero_float)
    × ((told_edge (edged u p q)).end_east ≡ zero_float) × ((told_edge (edged u p q)).end_north ≡ zero_float)
unfolding told_edge edge_answer
lw_edge u p q h =
    let g = no_edge u p q (refused_by (edged u p q).refusal h) in (
      ap (λ (x : PlanarPoint). x.east) g.0,
      ap (λ (x : PlanarPoint). x.north) g.0,
      ap (λ (x : PlanarPoint). x.east) g.1,
      ap (λ (x : PlanarPoint). x.north) g.1,
    )

lw_offset : (o : Outline) (outward : Bool) (d : Float) (out : List Float) → ((told_offset (offset_write o outward d out)).refusal ≡ 0 → ⊥) →
    ((told_offset (offset_write o outward d out)).count ≡ 0) × (written_offset o outward d out ≡ out)
unfolding told_offset offset_answer offset_write offset_told
lw_offset o outward d out h =
    let g = refused_by (write_offset (offset o outward d) out) h in
    (ap (λ (b : Bool). cond b (offset o outward d).shape.count 0) g, (offset_lent o outward d out).refused g)

no_rings_told : (r : Region) (u : Refusal) → Refused (rings_told r u).refusal → (rings_told r u).rings ≡ 0
unfolding rings_told no_rings granted number values
no_rings_told r u =
    by_test (λ (a : RegionWritten). Refused a.refusal → a.rings ≡ 0) (granted u) (λ g h. absurd (true≢false h)) (λ g h. refl)

lw_region : (a : NewRegion) (out : List Float) → ((told_region (region_made a out)).refusal ≡ 0 → ⊥) →
    ((told_region (region_made a out)).rings ≡ 0) × (region_over a out ≡ out)
unfolding told_region region_answer region_made region_over no_rings region_write
lw_region a out h = go (granted a.refusal) (refused_by (region_made a out).refusal h)
  where
    go : (b : Bool) → Refused (cond b (region_write a.shape out) (no_rings a.refusal)).refusal →
        ((cond b (region_write a.shape out) (no_rings a.refusal)).rings ≡ 0)
        × (cond b (written_region a.shape out) out ≡ out)
    go true g = (no_rings_told a.shape (write_region a.shape out) g, (region_lent a.shape out).refused g)
    go false g = (refl, refl)

lw_region_inset : (a : NewRegion) (d : Float) (out : List Float) → ((told_inset (inset_made a d out)).refusal ≡ 0 → ⊥) →
    ((told_inset (inset_made a d out)).rings ≡ 0) × (inset_over a d out ≡ out)
unfolding told_inset inset_answer inset_made inset_over inset_refused inset_write inset_told
lw_region_inset a d out h = go (granted a.refusal) (refused_by (inset_made a d out).refusal h)
  where
    r : RegionOffset
    r = region_inset a.shape d

    go : (b : Bool) → Refused (cond b (inset_write a.shape d out) (inset_refused a.refusal)).refusal →
        ((cond b (inset_write a.shape d out) (inset_refused a.refusal)).rings ≡ 0)
        × (cond b (written_inset a.shape d out) out ≡ out)
    go true g = (no_rings_told r.shape (write_inset r out) g, (inset_lent a.shape d out).refused g)
    go false g = (refl, refl)

lw_stored_region : (r : Region) → ((told_region (region_told r)).refusal ≡ 0 → ⊥) → (told_region (region_told r)).rings ≡ 0
unfolding told_region region_answer region_told
lw_stored_region r h = no_rings_told r (ask_region r Granted) (refused_by (region_told r).refusal h)

lw_again : (a : NewRegion) (out : List Float) → (told_region (region_made a out)).refusal ≡ 0 →
    SameRings a.shape (handed_back (told_region (region_made a out)).rings (told_region (region_made a out)).counts (region_over a out))
unfolding told_region region_answer region_made region_over no_rings
lw_again a out h = go (granted a.refusal) refl (granted_by (region_made a out).refusal h)
  where
    made : Bool → RegionWritten
    made b = cond b (region_write a.shape out) (no_rings a.refusal)

    go : (b : Bool) → granted a.refusal ≡ b → granted (made b).refusal ≡ true →
        SameRings a.shape (handed_back (made b).rings (made b).counts (cond b (written_region a.shape out) out))
    go true e g = written_again a.shape out g
    go false e g = absurd (true≢false (sym g ∙ e))

lw_inset_again : (a : NewRegion) (d : Float) (out : List Float) → (told_inset (inset_made a d out)).refusal ≡ 0 →
    SameRings (region_inset a.shape d).shape
    (handed_back (told_inset (inset_made a d out)).rings (told_inset (inset_made a d out)).counts (inset_over a d out))
unfolding told_inset inset_answer inset_made inset_over inset_refused
lw_inset_again a d out h = go (granted a.refusal) refl (granted_by (inset_made a d out).refusal h)
  where
    made : Bool → InsetWritten
    made b = cond b (inset_write a.shape d out) (inset_refused a.refusal)

    go : (b : Bool) → granted a.refusal ≡ b → granted (made b).refusal ≡ true →
        SameRings (region_inset a.shape d).shape (handed_back (made b).rings (made b).counts (cond b (written_inset a.shape d out) out))
    go true e g = inset_again a.shape d out g
    go false e g = absurd (true≢false (sym g ∙ e))

lw_ring : (o : NewOutline) (out : List Float) → ((told_ring (Direct.told o out)).refusal ≡ 0 → ⊥) →
    ((told_ring (Direct.told o out)).count ≡ 0) × (over_outline o out ≡ out)
unfolding told_ring outline_answer Direct.told
lw_ring o out h =
    let g = refused_by (outline_told o out) h in
    (ap (λ (b : Bool). cond b o.shape.count 0) g, outline_kept o out g)

lw_hole : (r : Region) (k : ℕ) (out : List Float) → ((told_ring (hole_told r k out)).refusal ≡ 0 → ⊥) →
    ((told_ring (hole_told r k out)).count ≡ 0) × (hole_over r k out ≡ out)
unfolding hole_told hole_over told_ring outline_answer
lw_hole r k out = go (ltb k r.holes)
  where
    past : Counted
    past = record { refusal = ask_region r Granted; count = 0 }

    go : (b : Bool) → ((told_ring (cond b (Direct.told (region_hole r k) out) past)).refusal ≡ 0 → ⊥) →
        ((told_ring (cond b (Direct.told (region_hole r k) out) past)).count ≡ 0)
        × (cond b (over_outline (region_hole r k) out) out ≡ out)
    go true h = lw_ring (region_hole r k) out h
    go false h = (refl, refl)

lw_job_line : (bytes out : List ℕ) → ((told_line (bytes_answered bytes out)).refusal ≡ 0 → ⊥) →
    ((told_line (bytes_answered bytes out)).refusal ≡ 20) × ((told_line (bytes_answered bytes out)).count ≡ length bytes)
    × (bytes_written bytes out ≡ out)
unfolding told_line line_answer bytes_answered bytes_refusal bytes_written carried carried_of told granted number values
lw_job_line bytes out = go (leb (length bytes) (length out))
  where
    n : ℕ
    n = length bytes

    go : (b : Bool) → ((told_line (record { refusal = cond b Granted (Short n); count = cond b n 0 })).refusal ≡ 0 → ⊥) →
        ((told_line (record { refusal = cond b Granted (Short n); count = cond b n 0 })).refusal ≡ 20)
        × ((told_line (record { refusal = cond b Granted (Short n); count = cond b n 0 })).count ≡ n)
        × (cond b (bytes ++ drop n out) out ≡ out)
    go true h = absurd (h refl)
    go false h = (refl, refl, refl)

every_input : EveryInput
unfolding granted contains nearest area Query.perimeter Query.extent Query.clearance Query.meeting Query.vertex Query.edge region_contains region_area region_perimeter region_nearest from_metres from_square_metres
every_input = record {
  granted_zero = zero_granted;
  numbered = numbered;
  accepted_only = λ u h. (numbers u).1 (eqb-true (number u) 0 h);
  zero_only = λ u. (numbers u).1;
  no_outline = λ ps h. no_vertices (outline ps).shape (outline_empty ps h);
  no_offset = λ o outward d h. no_vertices (offset o outward d).shape (offset_empty o outward d h);
  no_region = λ lengths ps h. no_rings_left (region lengths ps).shape ((region_empty.loaded lengths ps).empty h);
  no_given = λ o hs h. no_rings_left _ ((region_empty.given o hs).empty h);
  no_alone = λ o h. no_rings_left _ ((region_empty.alone o).empty h);
  no_stored = no_stored;
  no_outlines = no_outlines;
  no_inset = λ r d h. no_rings_left (region_inset r d).shape (inset_empty r d h);
  no_job = λ outward d lengths ps h. subst NoRegion (sym (refused_empty outward d lengths ps h)) empty_region;
  no_ring = no_ring;
  no_place = λ ps n p. no_place _ _;
  no_nearest = λ ps n p. no_nearest _ _;
  no_area = λ ps n. no_area _ _;
  no_measure = no_measure;
  no_foot = no_foot;
  no_edge = no_edge;
  no_point = λ east north. no_point _ _;
  no_square = λ x. no_area _ _;
  no_region_place = λ r p. no_place _ _;
  outline_lent = λ o out. lent (outline_lent o out);
  region_lent = λ r out. lent_rings (region_lent r out);
  offset_lent = λ o outward d out. lent (offset_lent o outward d out);
  inset_lent = λ r d out. lent_rings (inset_lent r d out);
  line_lent = line_lent;
  answer_lent = answer_lent;
  lw_check = lw_check;
  lw_outline = λ ps out. lw_outline (outline ps) out;
  lw_inside = λ ps p. lw_inside _ _;
  lw_outside = λ ps p. lw_outside _ _;
  lw_place = λ ps p. lw_place _ _;
  lw_region_inside = λ r p. lw_inside _ _;
  lw_region_outside = λ r p. lw_outside _ _;
  lw_region_place = λ r p. lw_place _ _;
  lw_nearest = λ ps p. lw_near _ (no_nearest _ _);
  lw_area = λ ps. lw_area _ _;
  lw_perimeter = λ ps. lw_length _ _;
  lw_extent = λ ps. lw_length _ _;
  lw_clearance = λ ps qs. lw_length _ _;
  lw_meeting = λ ps qs. lw_meeting _ _ _;
  lw_vertex = λ ps k. lw_vertex _ _;
  lw_edge = λ ps k. lw_edge _ _ _;
  lw_region_nearest = λ r p. lw_near _ (no_near _ _ _);
  lw_region_area = λ r. lw_measure _ _;
  lw_region_perimeter = λ r. lw_length _ _;
  lw_offset = λ ps outward d out. lw_offset (given ps) outward d out;
  lw_region = λ lengths ps out. lw_region (region lengths ps) out;
  lw_region_inset = λ lengths ps d out. lw_region_inset (region lengths ps) d out;
  lw_given_region = λ lengths ps out. lw_region (given_region lengths ps) out;
  lw_without_holes = λ ps out. lw_region (alone ps) out;
  lw_stored_inset = λ lengths ps d out. lw_region_inset (stored_region lengths ps) d out;
  lw_stored_region = lw_stored_region;
  lw_region_outer = λ r out. lw_ring (region_outer r) out;
  lw_region_hole = lw_hole;
  lw_job_line = λ line out. lw_job_line (answer_line line) out;
}

-- ---- 2. length

size_of : (x : Float) (a : ℕ) → HasUnits x a → a ≡ magnitude x
unfolding over under
size_of nan a h = absurd h.1
size_of (inf s) a h = absurd h.1
size_of (fin true m e) a h = count_of true h.0 m e a h.1 ∙ omega arith
size_of (fin false m e) a h = count_of false h.0 m e a h.1 ∙ omega arith

no_infinity : (x : Float) → finite x ≡ true → Infinite x → ⊥
unfolding finite
no_infinity x f (s, e) = false≢true (sym (ap finite e) ∙ f)

no_nan : (x : Float) → finite x ≡ true → x ≡ nan → ⊥
unfolding finite
no_nan x f e = false≢true (sym (ap finite e) ∙ f)

root_of : {s : ℕ} {r : Float} → Rounds s r → RootOf s r
root_of (past l e) = Promises.past l e
root_of (near q k l v n) =
    Promises.near q k l v
    (record { held = n.held; digits = n.q_le; full = n.full; below = n.below; above = n.above; tie = n.tie })

rounded : (x y r : Float) → finite x ≡ true → finite y ≡ true → IsHypot x y r →
    Rounds (magnitude x * magnitude x + magnitude y * magnitude y) r
rounded x y r f g (of_finite a b h k w) =
    subst (λ (z : ℕ). Rounds (z * z + magnitude y * magnitude y) r) (size_of x a h)
    (subst (λ (z : ℕ). Rounds (a * a + z * z) r) (size_of y b k) w)
rounded x y r f g (of_infinite (inl i) e) = absurd (no_infinity x f i)
rounded x y r f g (of_infinite (inr i) e) = absurd (no_infinity y g i)
rounded x y r f g (of_nan (inl i) _ _ e) = absurd (no_nan x f i)
rounded x y r f g (of_nan (inr i) _ _ e) = absurd (no_nan y g i)

lengths : Length
unfolding fits
lengths = record {
  rounded = λ x y u v f g. root_of (rounded x y (hypot x y) f g (hypot_is_nearest.is x y u v));
  infinite = λ x y u v i. sym (hypot_is_nearest.only x y (inf false) u v tt (of_infinite i refl));
  no_number = λ x y u v i p q. sym (hypot_is_nearest.only x y nan u v tt (of_nan i p q refl));
  double = hypot_is_nearest.double;
  is = hypot_is_nearest.is;
  only = hypot_is_nearest.only;
  all_held = hypot_is_nearest.all;
}

-- ---- 2. the answers

sized : (room : ℕ) (ps : List Float) (n : ℕ) → proper room ps n ≡ true → Sized room ps n
unfolding in_range in_range_step
sized room ps n q =
    let p = proper_is room ps n q in
    record {
      three = p.three;
      most = p.fits;
      near = all_pass (in_range_step ps) (λ k. le (abs (get_or ps k nan)) max_coordinate) (λ k s. refl) (2 * n) p.range;
    }

sized_region : (r : Region) → proper_region r ≡ true → SizedRegion r
unfolding proper_region proper_step ring_points ring_count
sized_region r q =
    let here : Bool = proper 128 r.outer.points r.outer.count in
    let eight : Bool = leb r.holes 8 in
    let each : Bool = rounds (proper_step r) r.holes true in
    record {
      outer = sized 128 r.outer.points r.outer.count (and_elim_left here (eight && each) q);
      holes = few_holes r q;
      hole = λ k l.
          sized 32 (hole_points r k) (hole_count r k)
          (all_pass (proper_step r) (λ k. proper 32 (hole_points r k) (hole_count r k)) (λ k s. refl) r.holes
          (and_elim_right eight each (and_elim_right here (eight && each) q)) k l);
    }

-- a job of one ring

-- an accepted outline has passed 1 and 2
outline_asked : (n : Bool) (u : Refusal) (x : NewOutline) →
    Accepted (cond n (cond (granted u) x (outline_refused u)) (outline_refused Odd)).refusal →
    (n ≡ true) × (granted u ≡ true) × (cond n (cond (granted u) x (outline_refused u)) (outline_refused Odd) ≡ x)
unfolding outline_refused granted number values
outline_asked n u x = go n (granted u) refl
  where
    go : (n b : Bool) → granted u ≡ b → Accepted (cond n (cond b x (outline_refused u)) (outline_refused Odd)).refusal →
        (n ≡ true) × (b ≡ true) × (cond n (cond b x (outline_refused u)) (outline_refused Odd) ≡ x)
    go true true e h = (refl, refl, refl)
    go true false e h = absurd (false≢true (sym e ∙ h))
    go false b e h = absurd (false≢true h)

one_fits : (outward : Bool) → side_fits outward 1 ≡ true
unfolding side_fits
one_fits true = refl
one_fits false = refl

halves : (n : ℕ) → n % 2 ≡ 0 → 2 * (0 + n / 2) ≡ n
halves n h = omega arith

half_fits : (ps : List Float) → eqb (length ps % 2) 0 ≡ true → lengths_fit (length ps / 2 ∷ []) ps ≡ true
unfolding lengths_fit total total_step rounds
half_fits ps h = eq-eqb (2 * (0 + length ps / 2)) (length ps) (halves (length ps) (eqb-true (length ps % 2) 0 h))

chosen : (s n f l o : Bool) (x a b c e g : RegionOffset) → s ≡ true → n ≡ true → f ≡ true → l ≡ true → o ≡ true →
    cond s (cond n (cond f (cond l (cond o x a) b) c) e) g ≡ x
chosen s n f l o x a b c e g p q r t u = rw (p, q, r, t, u) refl

job_one : (outward : Bool) (d : Float) (ps : List Float) → Accepted (outline ps).refusal →
    job outward d (length ps / 2 ∷ []) ps ≡ as_region (offset (outline ps).shape outward d)
unfolding job job_numbers job_finite job_rings job_outline outline outline_if
job_one outward d ps h =
    let o : NewOutline = new_outline ps (length ps / 2) in
    let asked = outline_asked (eqb (length ps % 2) 0) (check_finite ps) o h in
    let is : outline ps ≡ o = asked.2 in
    chosen (side_fits outward 1) (eqb (length ps % 2) 0) (granted (check_finite ps)) (lengths_fit (length ps / 2 ∷ []) ps)
    (granted o.refusal) (as_region (offset o.shape outward d)) (job_refused o.refusal) (job_refused Lengths)
    (job_refused (check_finite ps)) (job_refused Odd) (job_refused Job)
    (one_fits outward) asked.0 asked.1 (half_fits ps asked.0)
    (subst (λ (a : NewOutline). granted a.refusal ≡ true) is h)
    ∙ ap (λ (a : NewOutline). as_region (offset a.shape outward d)) (sym is)

-- a job of more rings

-- an accepted region has passed 1, 2 and 3
region_asked : (n l : Bool) (u : Refusal) (x : NewRegion) →
    Accepted (cond n (cond (granted u) (cond l x (region_refused Lengths)) (region_refused u)) (region_refused Odd)).refusal →
    (n ≡ true) × (granted u ≡ true) × (l ≡ true)
    × (cond n (cond (granted u) (cond l x (region_refused Lengths)) (region_refused u)) (region_refused Odd) ≡ x)
unfolding region_refused granted number values
region_asked n l u x = go n (granted u) l refl
  where
    go : (n b l : Bool) → granted u ≡ b →
        Accepted (cond n (cond b (cond l x (region_refused Lengths)) (region_refused u)) (region_refused Odd)).refusal →
        (n ≡ true) × (b ≡ true) × (l ≡ true)
        × (cond n (cond b (cond l x (region_refused Lengths)) (region_refused u)) (region_refused Odd) ≡ x)
    go true true true e h = (refl, refl, refl, refl)
    go true true false e h = absurd (false≢true h)
    go true false l e h = absurd (false≢true (sym e ∙ h))
    go false b l e h = absurd (false≢true h)

chosen_more : (n f l o m : Bool) (x y a b c e : RegionOffset) → n ≡ true → f ≡ true → l ≡ true → m ≡ false → o ≡ true →
    cond n (cond f (cond l (cond m y (cond o x a)) b) c) e ≡ x
chosen_more n f l o m x y a b c e p q r t u = rw (p, q, r, t, u) refl

not_one : (n : ℕ) → 2 ≤ n → eqb n 1 ≡ false
not_one n l = ne_eqb n 1 (λ e. absurd (omega arith))

job_more : (d : Float) (lengths : List ℕ) (ps : List Float) → 2 ≤ length lengths → Accepted (region lengths ps).refusal →
    job false d lengths ps ≡ region_inset (region lengths ps).shape d
unfolding job job_numbers job_finite job_rings job_region side_fits lengths_fit region region_finite
job_more d lengths ps two h =
    let r : NewRegion = region_loaded (load_rings lengths ps) in
    let fit : Bool = lengths_fit lengths ps in
    let asked = region_asked (eqb (length ps % 2) 0) fit (check_finite ps) r h in
    let is : region lengths ps ≡ r = asked.3 in
    chosen_more (eqb (length ps % 2) 0) (granted (check_finite ps)) fit (granted r.refusal) (eqb (length lengths) 1)
    (region_inset r.shape d) (job_outline false d (new_outline ps (get_or lengths 0 0))) (job_refused r.refusal) (job_refused Lengths)
    (job_refused (check_finite ps)) (job_refused Odd)
    asked.0 asked.1 asked.2 (not_one (length lengths) two)
    (subst (λ (a : NewRegion). granted a.refusal ≡ true) is h)
    ∙ ap (λ (a : NewRegion). region_inset a.shape d) (sym is)

fitting : (n : ℕ) (ns : List ℕ) (ps : List Float) → 2 * total (n ∷ ns) ≡ length ps → lengths_fit (n ∷ ns) ps ≡ true
unfolding lengths_fit
fitting n ns ps e = rw (lt-ltb 0 (length (n ∷ ns)) (omega arith), eq-eqb (2 * total (n ∷ ns)) (length ps) e) refl

unfit : (lengths : List ℕ) (ps : List Float) → lengths_fit lengths ps ≡ false → (given_region lengths ps).refusal ≡ Shape
unfolding given_region kept region_refused
unfit lengths ps h = rw h refl

one_sum : (n : ℕ) → 2 * total (n ∷ []) ≡ 2 * n
unfolding total total_step rounds
one_sum n = omega arith

-- hairlines

drawing_asked : (ps : List Float) → length ps % 2 ≡ 0 → Accepted (check_finite ps) → (outline ps).refusal ≡ (check_door 128 0 ps (length ps / 2)).refusal
unfolding outline outline_if new_outline outline_of outline_refused
drawing_asked ps even g = rw (eq-eqb (length ps % 2) 0 even, g) (go (check_door 128 0 ps (length ps / 2)))
  where
    go : (c : Checked) → (outline_of ps c).refusal ≡ c.refusal
    go c = by_test (λ (a : NewOutline). a.refusal ≡ c.refusal) (granted c.refusal) (λ h. sym (granted_is c.refusal h)) (λ h. refl)

piece_asked : (room place : ℕ) (ps : List Float) (n : ℕ) → check_piece room place ps n ≡ check_ring room place ps n
unfolding check_piece
piece_asked room place ps n = refl

outline_long : (ps : List Float) → Accepted (outline ps).refusal → NoHairline ps (length ps / 2)
unfolding short_edge length_of sub
outline_long = outline_no_hairline

region_long : (lengths : List ℕ) (ps : List Float) → Accepted (region lengths ps).refusal → (l : ℕ) → l < length lengths → NoHairline (ring_in lengths ps l) (get_or lengths l 0)
unfolding short_edge length_of sub
region_long = region_no_hairline

job_long : (outward : Bool) (d : Float) (lengths : List ℕ) (ps : List Float) → Accepted (job outward d lengths ps).refusal
    → (l : ℕ) → l < length lengths → NoHairline (ring_in lengths ps l) (get_or lengths l 0)
unfolding short_edge length_of sub
job_long = job_no_hairline

short_edges : (ps : List Float) (n : ℕ)
    → (hairline ps n ≡ true → (k : ℕ) × (k < n) × (NotShort ps n k → ⊥)) × (hairline ps n ≡ false → (k : ℕ) → k < n → NotShort ps n k)
unfolding short_edge length_of sub
short_edges ps n = (λ h. let w = door_tells.some ps n h in (w.edge, w.under, λ q. true≢false (sym w.short ∙ q)), door_tells.none ps n)

the_answers : Answers
unfolding offset_plain region_plain
the_answers = record {
  outline_passes = λ ps g. outline_proper ps g;
  offset_passes = λ o outward d g. offset_proper o outward d g;
  region_passes = λ lengths ps g. (region_again.loaded lengths ps).proper g;
  given_passes = λ o hs g. (region_again.given o hs).proper g;
  inset_passes = λ r d g. inset_proper r d g;
  outline_sized = λ ps g. sized 128 (outline ps).shape.points (outline ps).shape.count (outline_proper ps g);
  offset_sized = λ o outward d g.
      sized 128 (offset o outward d).shape.points (offset o outward d).shape.count (offset_proper o outward d g);
  region_sized = λ lengths ps g. sized_region (region lengths ps).shape ((region_again.loaded lengths ps).proper g);
  inset_sized = λ r d g. sized_region (region_inset r d).shape (inset_proper r d g);
  job_sized = λ outward d lengths ps g. sized_region (job outward d lengths ps).shape (job_proper outward d lengths ps g);
  improper = λ o outward d h. ap (λ (a : Offset). a.refusal) ((offset_before o outward d).improper h);
  distance_asked = λ o outward d p h. ap (λ (a : Offset). a.refusal) ((offset_before o outward d).refused p h);
  unmoved = λ o outward d p z.
      let e = (offset_before o outward d).unmoved p z in
      (ap (λ (a : Offset). a.refusal) e, ap (λ (a : Offset). a.shape) e);
  region_unmoved = λ r d p z.
      let e = (inset_before r d).unmoved p z in
      (ap (λ (a : RegionOffset). a.refusal) e, ap (λ (a : RegionOffset). a.shape) e);
  offset_passed = λ o outward d g l.
      let k = offset_accepted o outward d g l in
      record { simple = k.simple; side = k.side; gap = k.gap; apart = k.apart };
  inset_passed = λ r d g l.
      let k = inset_accepted r d g l in
      record { simple = k.simple; checked = k.region; side = k.side; gap = k.gap; apart = k.apart };
  outline_long = outline_long;
  region_long = region_long;
  job_long = job_long;
  drawing_asked = drawing_asked;
  piece_asked = piece_asked;
  door = door_tells.is;
  short_edges = short_edges;
  shortest = door_tells.bound;
  nearest_to_it = door_tells.nearest;
  handed = stored_as_handed;
  handed_asked = stored_asked;
  outlines_handed = given_as_handed;
  outlines_unfit = unfit;
  outlines_given = λ n ns ps e. given_outlines n ns ps (fitting n ns ps e);
  outline_alone = λ n ps e. given_alone n ps (fitting n [] ps (one_sum n ∙ e));
  lw_again = lw_again;
  lw_inset_again = lw_inset_again;
  both_parts = region_nearest_parts;
  job_one = job_one;
  job_more = job_more;
  nearest_least = nearest_least;
}

-- ---- 3. the front

in_one_ring : (f : List Edge) (x : ℕ) → InRing (links f) x → InOneRing f x
in_one_ring f x k = record {
  steps = k.steps;
  three = k.three;
  closed = k.closed;
  first = k.first;
  lives = k.lives;
  forth = k.forth;
  back = k.back;
}

whole_each : (ts : List Stage) → Each (λ t. Looks t → InRings (tidied t).edges) ts → Each (λ t. Looks t → Whole (tidied t).edges) ts
whole_each [] k = tt
whole_each (t ∷ ts) k = (λ s x l. in_one_ring (tidied t).edges x (k.0 s x l), whole_each ts k.1)

front : {n r : ℕ} {distance : Float} {l : Loaded} → Demand n r (givens distance l) l → Front n r distance l
front {distance = distance} {l = l} k = record {
  rings = whole_each (run (givens distance l) l) k.rings;
  bound = k.bound;
  limit = k.limit;
  unfinished = k.unfinished;
  collapses = ap (λ (m : Counts). m.c) k.counted;
  divides = ap (λ (m : Counts). m.d) k.counted;
  joins = ap (λ (m : Counts). m.j) k.counted;
  whole = k;
}

bounds : {n r : ℕ} {u : Refusal} {c e j : ℕ} → AnswerDemand n r u c e j → Bounds n r u c e j
bounds k = record { bound = k.counts; most = k.most; unfinished = k.unfinished; carried = k.carried }

no_event : {c e j : ℕ} → NoEvent c e j → c + e + j ≤ 387
no_event k = let c = k.collapses in let e = k.divides in let j = k.joins in omega (arith, c, e, j)

job_most : (outward : Bool) (d : Float) (lengths : List ℕ) (ps : List Float) →
    (job outward d lengths ps).collapses + (job outward d lengths ps).divides + (job outward d lengths ps).joins ≤ 387
job_most outward d lengths ps = go (rings_asked outward lengths ps) refl (eqb (length lengths) 1) refl
  where
    k : JobAccounts outward d lengths ps
    k = jobs_counted outward d lengths ps

    a : RegionOffset
    a = job outward d lengths ps

    one : (o : NewOutline) → OutlineJob outward d o a → (b : Bool) → granted o.refusal ≡ b → a.collapses + a.divides + a.joins ≤ 387
    one o h true g = (h.passed g).bounds.most
    one o h false g = no_event (h.refused g)

    more : (r : NewRegion) → RegionJob d r a → (b : Bool) → granted r.refusal ≡ b → a.collapses + a.divides + a.joins ≤ 387
    more r h true g = (h.passed g).bounds.most
    more r h false g = no_event (h.refused g)

    go : (b : Bool) → rings_asked outward lengths ps ≡ b → (c : Bool) → eqb (length lengths) 1 ≡ c → a.collapses + a.divides + a.joins ≤ 387
    go true e true f = one (new_outline ps (get_or lengths 0 0)) (k.one e f) (granted (new_outline ps (get_or lengths 0 0)).refusal) refl
    go true e false f =
        more (region_loaded (load_rings lengths ps)) (k.more e f) (granted (region_loaded (load_rings lengths ps)).refusal) refl
    go false e c f = no_event (k.none e)

front_whole : FrontWhole
front_whole = record {
  of_outline = λ o outward distance p f. front (outline_demand o outward distance p f);
  of_region = λ r distance p f. front (region_demand r distance p f);
  of_offset = λ o outward d p. bounds (offset_demand o outward d p);
  of_inset = λ r d p. bounds (inset_demand r d p);
  job_most = job_most;
  of_job = jobs_counted;
  of_lw_offset = Counted.offset_told;
  of_lw_region_inset = region_inset_told;
  of_lw_stored_inset = stored_inset_told;
}

-- ---- 4. true distance

extent_of : {ps : List Float} {n M : ℕ} → Largest ps n M → Extent ps n M
extent_of l = record { each = l.each; place = l.place; within = l.within; reached = l.reached }

margin : {d : Float} {ps : List Float} {n : ℕ} {qs : List Float} {m : ℕ} → DrawnMargin d ps n qs m → Margin d ps n qs m
unfolding margin_of
margin k = record { most = k.most; largest = extent_of k.largest; far = k.far }

margins : {d : Float} {lengths : List ℕ} {ps : List Float} {n : ℕ} {ring : ℕ → List Float} {count : ℕ → ℕ} →
    DrawnRings d lengths ps n ring count → RingsMargin d lengths ps n ring count
unfolding margin_of
margins k = record { most = k.most; largest = extent_of k.largest; far = k.far }

region_extent_of : {r : Region} {M : ℕ} → LargestOfRings r M → RegionExtent r M
region_extent_of l =
    record { each = l.each; ring = l.ring; place = l.place; held = l.held; within = l.within; reached = l.reached }

true_distance : TrueDistance
unfolding margin_of
true_distance = record {
  drawn_outline = λ ps d pd fd g h l. margin (outline_margin ps d pd fd g h l);
  drawn_region = λ lengths ps d pd fd g h l. margins (region_margin lengths ps d pd fd g h l);
  drawn_job = λ d lengths ps pd fd g l. margins (job_margin d lengths ps pd fd g l);
  drawn_outlines = region_given_margin;
  of_offset = offset_margin;
  offset_extent = λ o od p. extent_of (largest_is o od p);
  of_inset = inset_margin;
  inset_extent = λ r rd p. region_extent_of (region_largest_is r rd p);
  offset_written = offset_write_margin;
  inset_written = inset_write_margin;
  lw_inset = λ ps d out pd fd e l. margin (lw_inset_margin ps d out pd fd e l);
  lw_region_inset = λ lengths ps d out pd fd e l. margins (lw_region_inset_margin lengths ps d out pd fd e l);
  lw_stored_inset = λ lengths ps d out pd fd e l. margins (lw_stored_inset_margin lengths ps d out pd fd e l);
}

-- ---- 5. meeting

module _ (p1 p2 q1 q2 : PlanarPoint) where
  common : Shared p1 p2 q1 q2 → CommonPoint p1 p2 q1 q2
  common s = record { i' = s.i'; i = s.i; k' = s.k'; k = s.k; sum = s.whole; some = s.some; east = s.east; north = s.north }

  shared : CommonPoint p1 p2 q1 q2 → Shared p1 p2 q1 q2
  shared s = record { i' = s.i'; i = s.i; k' = s.k'; k = s.k; whole = s.sum; some = s.some; east = s.east; north = s.north }

sharing : {ps : List Float} {n : ℕ} {qs : List Float} {m : ℕ} → RingsShare ps n qs m → ShareAPoint ps n qs m
sharing s = record {
  i = s.first;
  j = s.second;
  i_under = s.first_under;
  j_under = s.second_under;
  share = common _ _ _ _ s.share;
}

share_told : {ps : List Float} {n : ℕ} {qs : List Float} {m : ℕ} → ShareAPoint ps n qs m → RingsShare ps n qs m
share_told s = record {
  first = s.i;
  second = s.j;
  first_under = s.i_under;
  second_under = s.j_under;
  share = shared _ _ _ _ s.share;
}

plain : (ps : List Float) (n : ℕ) → MeetsNotItself ps n → Plain ps n
unfolding stored_at source edge_end
plain ps n k = record {
  strangers = λ i j a b c s.
      k.strangers i j (record { later = a; within = b; unless_round = c })
      (shared (vertex_at ps i) (edge_end ps n i) (vertex_at ps j) (edge_end ps n j) s);
  neighbours = k.neighbours;
}

exact_meeting : ExactMeeting
unfolding Query.meeting
exact_meeting = record {
  sign = turn_is_sign.sign;
  meeting_share = λ p1 p2 q1 q2 a b c d e. common p1 p2 q1 q2 (meet_iff_shared.meeting_share p1 p2 q1 q2 a b c d e);
  sharing_meet = λ p1 p2 q1 q2 a b c d s. meet_iff_shared.sharing_meet p1 p2 q1 q2 a b c d (shared p1 p2 q1 q2 s);
  boundary_lies = λ ps n p f g e.
      let s = boundary_exact.told_lies ps n p f g e in
      record { edge = s.edge; under = s.under; lies = common _ _ _ _ s.lies };
  lying_boundary = λ ps n p f g s.
      boundary_exact.lies_told ps n p f g (record { edge = s.edge; under = s.under; lies = shared _ _ _ _ s.lies });
  rings_share = λ ps n qs m f g e. sharing (rings_meet_exact.meeting_share ps n qs m f g e);
  sharing_rings = λ ps n qs m f g s. rings_meet_exact.sharing_meet ps n qs m f g (share_told s);
  either_way = pair_tells.either_way;
  lw_answered = λ ps qs. lw_answered ps _ qs _;
  lw_no_pair = λ ps qs. lw_no_pair _ _ _;
  lw_meets = λ ps qs h. lw_meets _ _ _ h ∙ ap (λ (t : Bool). cond t 1 0) (pair_tells.as_before ps _ qs _);
  lw_first_outer = λ ps qs. lw_first_outer _ ps _ qs _;
  lw_second_outer = λ ps qs. lw_second_outer _ ps _ qs _;
  named = simple_exact.named;
  of_outline = λ ps pd g. plain _ _ (outline_meets_not ps pd g);
  of_offset = λ o outward d od g l. plain _ _ (offset_meets_not o outward d od g l).itself;
  offset_source = λ o outward d od g l s. (offset_meets_not o outward d od g l).source (share_told s);
  of_inset = λ r d rd g l k a. plain _ _ ((inset_meets_not r d rd g l).itself k a);
  inset_apart = λ r d rd g l k i a b s. (inset_meets_not r d rd g l).apart k i a b (share_told s);
  inset_source = λ r d rd g l k i a b s. (inset_meets_not r d rd g l).source k i a b (share_told s);
}

-- ---- 6. the clearance

from_either : (ps : List Float) (n : ℕ) (qs : List Float) (m : ℕ) (x : Float) → FromVertices ps n 0 n qs m x →
    (i : ℕ) × (k : ℕ) × (i < m) × (k < n) × (x ≡ gap_from ps n k (vertex_at qs i))
unfolding edge_gap gap_between
from_either ps n qs m x p = (p.vertex, p.gap.edge, p.within, p.gap.before, p.gap.is)

both_sides : BothSides
unfolding told_length length_answer edge_gap gap_between carried carried_of told values
both_sides = record {
  either_way = λ ps qs. ap told_length (clearance_tells.either_way ps _ qs _);
  answered = λ ps qs a b. ap (λ (r : Refusal). (carried r).question) (clearance_tells.answered ps _ qs _ a b);
  first_refused = λ ps qs a. ap (λ (r : Refusal). (carried r).question) (clearance_tells.first_refused ps _ qs _ a);
  second_refused = λ ps qs a. ap (λ (r : Refusal). (carried r).question) (clearance_tells.second_refused ps _ qs _ a);
  met = λ ps qs h. clearance_tells.met ps _ qs _ h;
  of_second = λ ps qs i k. clearance_tells.of_second ps _ qs _ i k;
  of_first = λ ps qs i k. clearance_tells.of_first ps _ qs _ i k;
  one = λ ps qs a b h. elim (clearance_tells.one ps _ qs _ a b h) [
    | inl p ↦ inl (from_either ps _ qs _ _ p)
    | inr p ↦ inr (from_either qs _ ps _ _ p)
  ];
}

-- ---- 7. the stream

holding : (held : List ℕ) (count : ℕ) → Holds held count → holds held count ≡ true
unfolding holds
holding held count h = rw (le-leb 16385 (length held) h.0, le-leb count 16385 h.1) refl

module _ (block held : List ℕ) (count : ℕ) (out : List ℕ) where
  nothing_taken : holds held count ≡ false → NothingTaken block held count out
  unfolding stream_fed feed_told feed_as stuck held_of out_of
  nothing_taken h = record {
    taken = ap (λ (s : Feed). s.at) same;
    used = ap (λ (s : Feed). s.used) same;
    held_kept = ap (λ (s : Feed). s.held) same;
    out_kept = ap (λ (s : Feed). s.out) same;
  }
    where
      same : stream_fed block held count out ≡ stuck held count out
      same = ap (λ (b : Bool). cond b (fed block held count out) (stuck held count out)) h

  no_room : length held < 16385 → holds held count ≡ false
  unfolding holds
  no_room h = ap (λ (b : Bool). b && leb count 16385) (lt-leb 16385 (length held) h)

  no_count : 16385 ≤ length held → 16385 < count → holds held count ≡ false
  unfolding holds
  no_count h k = rw (le-leb 16385 (length held) h, lt-leb count 16385 k) refl

-- the answer at the input's end is put only where it fits
last_lent : (held : List ℕ) (count : ℕ) (out : List ℕ) → Refused (outcome_refusal (finish_told held count out).outcome) →
    finish_written held count out ≡ out
unfolding finish_written last_line put_written answer_fits outcome_refusal granted number values
last_lent held count out h = go (holds held count) refl
  where
    answer : List ℕ
    answer = answered (take count held)

    not_put : length out < length answer → cond (leb (0 + length answer) (length out)) (put out 0 answer) out ≡ out
    not_put l = ap (λ (b : Bool). cond b (put out 0 answer) out) (lt-leb (0 + length answer) (length out) (omega arith))

    kept : (b : Bool) (x : List ℕ) → x ≡ out → cond b x out ≡ out
    kept true x e = e
    kept false x e = refl

    fits : FinishedBy held count out → cond (leb (0 + length answer) (length out)) (put out 0 answer) out ≡ out
    fits (inl w) = absurd (true≢false (sym (ap (λ (o : Outcome). granted (outcome_refusal o)) w.0) ∙ h))
    fits (inr w) = not_put w.1.unfit

    go : (b : Bool) → holds held count ≡ b →
        cond (b && leb 1 count) (cond (leb (0 + length answer) (length out)) (put out 0 answer) out) out ≡ out
    go true e = kept (leb 1 count) _ (fits ((finish_apart held count out).enough e))
    go false e = refl

every_line : EveryLine
unfolding all_answered answered answers outcome_refusal
every_line = record {
  none = refl;
  one_more = λ line rest. refl;
  every_line = Progress.every_line;
  one_a_line = λ input. one_a_line (lines input);
  any_calls = any_calls;
  ended = λ block held count out h. (ends_apart block held count out).enough (holding held count h);
  unheld = λ block held count out h.
      (ap outcome_refusal ((ends_apart block held count out).unheld h), nothing_taken block held count out (no_room block held count out h));
  miscounted = λ block held count out h k. (
    ap outcome_refusal ((ends_apart block held count out).miscounted h k),
    nothing_taken block held count out (no_count block held count out h k),
  );
  finished = λ held count out h l.
      let f = finishes held count out (holding held count h) l in
      (ap outcome_refusal f.0, f.1);
  last_lent = last_lent;
  lw_stream = any_stream;
  lw_made_told = made_tells;
  lw_made = made_passes;
  lw_fed = λ block state out. (feed_keeps block state out).passed;
  lw_finished = λ state out. (finish_keeps state out).passed;
  lw_made_leaves = made_keeps;
  lw_feed_leaves = λ block state out. (feed_keeps block state out, feed_leaves block state out);
  lw_finish_leaves = λ state out. (finish_keeps state out, finish_leaves state out);
  lw_goes = feeds_on;
  lw_enough = feeds_enough;
  lw_ends = finishes_on;
  lw_feed_judges = feed_judges;
  lw_finish_judges = finish_judges;
  starts = answer_starts;
  room = answer_room;
  overlong = overlong_answer;
  bits_read = bits_read;
  count_read = count_read;
}

-- ---- 8. examples

drawn : Drawn
unfolding table
drawn = record {
  examples = Examples.examples;
  inset_one = Examples.examples 10 (ltb-true 10 (length table) refl);
  inset_two = Examples.examples 11 (ltb-true 11 (length table) refl);
  crossed = Examples.examples 5 (ltb-true 5 (length table) refl);
  hairline_inset = again.accepted;
  hairline_drawn = again.outside;
  hairline_again = again.again;
  bytes = table_holds;
}

-- ---- all of it

pub promises : Promises.Promises
promises = record {
  units = units;
  inputs = every_input;
  hypots = lengths;
  answers = the_answers;
  front = front_whole;
  distance = true_distance;
  meeting = exact_meeting;
  clearance = both_sides;
  stream = every_line;
  drawn = drawn;
}
