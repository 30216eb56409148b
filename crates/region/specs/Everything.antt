-- Everything that a region and what stands below it are defined by, opened under one name: for a proof that computes. Assumes nothing.
use Rattle.base.specs.Loop.{open_loop}
use Rattle.math.specs.Number.{open_number}
use Rattle.hypotenuse.specs.Hypot.{open_hypot}
use Rattle.plane.specs.Plane.{open_plane}
use Rattle.plane.specs.Points.{open_points}
use Rattle.areas.specs.Areas.{open_areas}
use Rattle.segment.specs.Segments.{open_segments}
use Rattle.error.specs.Refusals.{open_refusals}
use Rattle.ring.specs.Ring.{open_ring}
use Rattle.ring_measure.specs.Measures.{open_measures}
use Rattle.ring_cross.specs.Simple.{open_simple}
use Rattle.ring_contain.specs.Contains.{open_contains}
use Rattle.ring_near.specs.Near.{open_near}
use Rattle.ring_cross.specs.Meet.{open_meet}
use Rattle.ring_check.specs.Checks.{open_checks}
use Rattle.ring.specs.Store.{open_store}
use Rattle.outline.specs.Outlines.{open_outlines}
use Rattle.outline_lent.specs.Writes.{open_writes}
use Rattle.outline_ask.specs.Queries.{open_queries}
use Rattle.front.specs.Lines.{open_lines}
use Rattle.front.specs.Edges.{open_edges}
use Rattle.front.specs.Tidying.{open_tidying}
use Rattle.front.specs.NextEvent.{open_next_event}
use Rattle.front.specs.Splitting.{open_splitting}
use Rattle.front.specs.Loading.{open_loading}
use Rattle.front.specs.Sweeps.{open_sweeps}
use Rattle.front.specs.Finished.{open_finished}
use Rattle.offset.specs.Rings.{open_rings}
use Rattle.offset.specs.Clear.{open_clear}
use Rattle.offset.specs.Offsets.{open_offsets}
use Rattle.region.specs.Regions.{open_regions}
use Rattle.region.specs.Checks.{open_checks as open-region-checks}
use Rattle.region.specs.Insets.{open_insets}
use Rattle.region.specs.Queries.{open_queries as open-region-queries}

unfoldable pub open_everything : Unit {0}
unfolding open_loop open_number open_hypot open_plane open_points open_areas open_segments open_refusals open_ring open_measures open_simple
    open_contains open_near open_meet open_checks open_store open_outlines open_writes open_queries open_lines open_edges open_tidying
    open_next_event open_splitting open_loading open_sweeps open_finished open_rings open_clear open_offsets open_regions open-region-checks
    open_insets open-region-queries
open_everything = tt
