-- What the search for something to tidy reads by value: an edge and the one before it, its next and the one before that. Assumes nothing.
use Rattle.std.specs.Prelude.{ℕ, Bool, true, false, cond, ◌||◌, eqb, Float}
use Rattle.front.specs.declared.Edge.{Edge}
use Rattle.front.specs.declared.Tidy.{Tidy}
use Rattle.front.specs.declared.Tidy.TheVariants.{Settled, SmallRing, Straight, Spike, Empty}
use Rattle.front.specs.Lines.{direction, velocity}
use Rattle.front.specs.Edges.{edge_line, vertex_by}
use Rattle.front.specs.Tidying.{opposed, same_way, tidy_length}
use Rattle.front_lines.specs.Between.{length_between}

-- a ring of fewer than three edges: the edge at the slot, or its next, leads to the slot
unfoldable pub short : ℕ → Edge → Edge → Bool
short slot e after = eqb e.next slot || eqb after.next slot

-- `tidy_corner` and `tidy_edge`, from the four edges that they read
unfoldable pub corner_between : ℕ → Float → Edge → Edge → Edge → Edge → Tidy
corner_between slot t before e beside after =
    cond (opposed (direction (edge_line e)) (direction (edge_line after))) (Spike slot)
    (cond (same_way (direction (edge_line e)) (direction (edge_line after))) (Straight slot)
    (tidy_length slot t
    (length_between e (vertex_by e t (velocity (edge_line before) (edge_line e)))
    (vertex_by after t (velocity (edge_line beside) (edge_line after))))))

unfoldable pub tidy_between : ℕ → Float → Edge → Edge → Edge → Edge → Tidy
tidy_between slot t before e beside after = cond (short slot e after) (SmallRing slot) (corner_between slot t before e beside after)

-- whether nothing was found
unfoldable pub settled : Tidy → Bool
settled Settled = true
settled (SmallRing k) = false
settled (Straight k) = false
settled (Spike k) = false
settled (Empty k) = false
