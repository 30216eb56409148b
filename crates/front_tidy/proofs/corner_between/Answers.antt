-- `front_tidy::corner_between` meets its contract. Assumes nothing.
use mathlib.Core.Path.{ap, ◌∙◌}
use Rattle.front.specs.Lines.{direction}
use Rattle.front_lines.proofs.Ends.{vertex_on}
use Rattle.front_tidy.proofs.Found.{corner_spike, corner_straight, corner_on}
use Rattle.front_tidy.proofs.corner_between.Goals as goal

pub returns-then-opposed : goal.returns-then-opposed
returns-then-opposed c =
    corner_spike _ _ _ _ _ _ _ _ _
    (c.direction-u.ensures ∙ ap direction c.edge_line.ensures)
    (c.direction-w.ensures ∙ ap direction c.edge_line-2.ensures)
    c.opposed.ensures c.if-opposed.true

pub returns-then-same_way : goal.returns-then-same_way
returns-then-same_way c =
    let no1 = c.if-opposed.false in
    let same-way-gives = c.same_way.ensures in
    corner_straight _ _ _ _ _ _ _ _ _
    (c.direction-u.ensures ∙ ap direction c.edge_line.ensures)
    (c.direction-w.ensures ∙ ap direction c.edge_line-2.ensures)
    c.opposed.ensures no1 _ same-way-gives c.if-same_way.true

pub returns : goal.returns
returns c =
    let length-between-gives = c.length_between-length.ensures in
    corner_on _ _ _ _ _ _ _ _ _
    (c.direction-u.ensures ∙ ap direction c.edge_line.ensures)
    (c.direction-w.ensures ∙ ap direction c.edge_line-2.ensures)
    c.opposed.ensures c.if-opposed.false _ c.same_way.ensures _ _ _ _ c.if-same_way.false
    (vertex_on _ _ _ _ _ c.edge_line-3.ensures c.vertex_by-from.ensures) (vertex_on _ _ _ _ _ c.edge_line-4.ensures c.vertex_by-to.ensures)
    length-between-gives c.tidy_length.ensures
