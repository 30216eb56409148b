-- Loading granted, and loading refused. Proved in proofs/Demand/Whole.antt. Assumes nothing.
use Rattle.std.specs.Prelude.{◌≡◌, ◌⊎◌, true, false, [], ℕ, Float}
use Rattle.plane.specs.declared.PlanarPoint.{PlanarPoint}
use Rattle.front.specs.declared.Loaded.{Loaded}
use Rattle.error.specs.Refusals.{granted, number}
use Rattle.math.specs.Number.{finite}
use Rattle.front.specs.Loading.{Loads}
use Rattle.front.specs.Demand.{givens, run, swept, events, tally, handed, Holds}

-- granted, the front has its n edges in r rings
abbrev pub LoadGranted : Type 0
LoadGranted =
    (distance : Float) (origin : PlanarPoint) (n r : ℕ) (l : Loaded) → Loads distance origin n r l → granted l.refusal ≡ true →
    Holds n r l

-- refused: by 15 or by 16
abbrev pub LoadRefused : Type 0
LoadRefused =
    (distance : Float) (origin : PlanarPoint) (n r : ℕ) (l : Loaded) → Loads distance origin n r l →
    granted l.refusal ≡ false →
    (number l.refusal ≡ 15) ⊎ (number l.refusal ≡ 16)

-- "refused before the front is loaded, all three are 0": no stage is made, and the refusal stands
abbrev pub RefusedCounts : Type 0
RefusedCounts =
    (distance : Float) (l : Loaded) → granted l.refusal ≡ false →
    (run (givens distance l) l ≡ []) × (handed (swept (givens distance l) l) ≡ tally [])
    × ((swept (givens distance l) l).refusal ≡ l.refusal)

-- before any event all three are 0
abbrev pub FirstCounts : Type 0
FirstCounts =
    (distance : Float) (origin : PlanarPoint) (n r : ℕ) (l : Loaded) → finite distance ≡ true → Loads distance origin n r l →
    events (run (givens distance l) l) ≡ [] → handed (swept (givens distance l) l) ≡ tally []
