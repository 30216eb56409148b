-- What tidying leaves: nothing more to take out, and a velocity for every live vertex. So only tidying itself ever meets a vertex without
-- one, and 17 inside the walk of an offset comes from there alone. Proved in proofs/Demand, `same_bits` in Moves.antt and `front_velocity`
-- in Whole.antt. Assumes nothing.
use Rattle.std.specs.Prelude.{◌≡◌, ◌≢◌, true, false, List, ℕ, Float, Some}
use Rattle.std.specs.Float.Ieee.{neg}
use Rattle.plane.specs.declared.PlanarPoint.{PlanarPoint}
use Rattle.front.specs.declared.Line.{Line}
use Rattle.front.specs.declared.Edge.{Edge}
use Rattle.front.specs.declared.Moving.{Moving}
use Rattle.front.specs.declared.Tidy.TheVariants.{Settled}
use Rattle.front.specs.declared.Event.TheVariants.{Stalled}
use Rattle.front.specs.declared.Loaded.{Loaded}
use Rattle.error.specs.Refusals.{number}
use Rattle.math.specs.Number.{finite}
use Rattle.plane.specs.Plane.{dot}
use Rattle.front.specs.Lines.{direction, normal}
use Rattle.front.specs.Edges.{edge, edge_line, vertex}
use Rattle.front.specs.Tidying.{find_tidy}
use Rattle.front.specs.Loading.{Loads}
use Rattle.front.specs.Links.{links}
use Rattle.front.specs.Demand.{Givens, givens, Looks, Each, tidied, found, run, swept}

-- ---- two lines

-- the normal is the direction turned to the left, to the bit: what `Line::through` makes
abbrev pub LeftNormal : Line → Type 0
LeftNormal l = (l.n0 ≡ neg l.u1) × (l.n1 ≡ l.u0)

-- n · n' and u · u' have the same bits: `velocity` has none exactly where `tidy_once` finds the two edges facing opposite ways
abbrev pub SameBits : Type 0
SameBits = (a b : Line) → LeftNormal a → LeftNormal b → dot (normal a) (normal b) ≡ dot (direction a) (direction b)

-- ---- a front

-- the start vertex of each live edge has a velocity, at every offset
abbrev pub Moves : List Edge → Type 0
Moves f = (x : ℕ) → (links f).live x ≡ 1 → (t : Float) → (m : Moving) × (vertex f x t ≡ Some m)

-- ---- the run of an offset

pub record Velocity (given : Givens) (l : Loaded) : Type 0 where
  -- every live edge has a line that `Line::through` made, whether it was loaded or copied
  pub lines : Each (λ t. (x : ℕ) → (links (tidied t).edges).live x ≡ 1 → LeftNormal (edge_line (edge (tidied t).edges x)))
      (run given l)
  -- `tidy` never runs out of its 129 steps: the last one changed nothing, and nothing is left to take out
  pub settled : Each
      (λ t. Looks t → ((tidied t).changed ≡ false) × (find_tidy (tidied t).edges t.from.travelled ≡ Settled))
      (run given l)
  -- the live vertices of a tidied front all have a velocity
  pub moves : Each (λ t. Looks t → Moves (tidied t).edges) (run given l)
  -- at the distance too, where the front has come to it
  pub ended : (swept given l).ended ≡ true → Moves (swept given l).edges
  -- so the search for the next event meets none without
  pub seeks : Each (λ t. Looks t → found t ≢ Stalled) (run given l)
  -- and neither does the event: a stage is refused by 17 only where tidying met a vertex without a velocity
  pub refused : Each (λ t. number t.to.refusal ≡ 17 → (tidied t).stalled ≡ true) (run given l)

abbrev pub FrontVelocity : Type 0
FrontVelocity =
    (distance : Float) (origin : PlanarPoint) (n r : ℕ) (l : Loaded) → finite distance ≡ true → Loads distance origin n r l →
    Velocity (givens distance l) l
