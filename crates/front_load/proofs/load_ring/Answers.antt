-- `front_load::load_ring` meets its contract. Assumes nothing.
use mathlib.Core.Path.{sym, ◌∙◌}
use Rattle.front.specs.Loading.{ring_begun, load_refused}
use Rattle.front_load.proofs.Loads.{begins, refused_already, line_is, load_goes, stops_empty, stops_full, ring_loaded}
use Rattle.front_load.proofs.load_ring.Goals as goal

pub returns-then-not-granted : goal.returns-then-not-granted
unfolding ring_begun
returns-then-not-granted c = refused_already _ _ _ _ _ _ (sym c.granted.ensures ∙ c.if-not-granted.true)

pub loop-k-init : goal.loop-k-init
unfolding ring_begun
loop-k-init c = begins _ _ _ _ _ _ (sym c.granted.ensures ∙ c.if-not-granted.false)

pub returns-in_default : goal.returns-in_default
unfolding load_refused
returns-in_default c =
    stops_empty _ _ _ _ _ _ _ _ c.loop-k.invariant c.loop-k-test.true (line_is _ _ _ _ _ _ _ _ c.load_vertex-a.ensures c.load_line.ensures c.in_default.is)

pub returns-then-s-ge128 : goal.returns-then-s-ge128
unfolding load_refused
returns-then-s-ge128 c =
    stops_full _ _ _ _ _ _ _ _ c.loop-k.invariant c.loop-k-test.true _ c.if-s-ge128.true
    (line_is _ _ _ _ _ _ _ _ c.load_vertex-a.ensures c.load_line.ensures c.in-Some.is)

pub loop-k-preserved : goal.loop-k-preserved
loop-k-preserved c =
    load_goes _ _ _ _ _ _ _ _ c.loop-k.invariant c.loop-k-test.true _ _ _
    (line_is _ _ _ _ _ _ _ _ c.load_vertex-a.ensures c.load_line.ensures c.in-Some.is) c.if-s-ge128.false c.load_vertex-a.ensures c.loaded_edge.ensures

pub returns : goal.returns
returns c = ring_loaded _ _ _ _ _ _ _ _ c.loop-k.auto.k-end c.loop-k-test.false c.loop-k.invariant
