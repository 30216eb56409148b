-- A ring stored among a region's holes. Assumes nothing.
use Rattle.std.specs.Prelude.{ℕ, Bool, cond, List, ltb, eqb, length, Float}
use Rattle.ring.specs.Store.{stored}

-- the flat numbers of a region's holes are 512, for 256 vertices
unfoldable pub filed : List Float → ℕ → Bool → ℕ → List Float → List Float
filed ps n back base out = cond (ltb 256 base) out (cond (eqb (length out) 512) (stored ps n back base out) out)
