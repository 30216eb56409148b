-- What the code asks in place of the definition: the test of a vertex without its refusal, and an edge's width on an axis, which tells
-- without a root that it is no hairline; and a vertex that is not there. Assumes nothing.
use Rattle.std.specs.Prelude.{ℕ, ◌<◌, ◌≡◌, Bool, true, false, cond, not, ◌&&◌, ◌||◌, List, ltb, Float}
use Rattle.std.specs.Float.{nan}
use Rattle.std.specs.Float.Ieee.{le, neg}
use Rattle.plane.specs.declared.PlanarPoint.{PlanarPoint}
use Rattle.plane.specs.Plane.{sub}
use Rattle.error.specs.declared.Refusal.{Refusal}
use Rattle.error.specs.declared.Refusal.TheVariants.{Granted, Range, Repeated, Hairline}
use Rattle.ring.specs.Ring.{vertex_at, edge_end}
use Rattle.base.specs.Loop.{rounds}
use Rattle.ring_check.specs.Checks.{hairline_length, beyond, vertex_refusal, repeats, hairline}

-- ---- a test of edges, as what its answer is told to be

-- an edge that passes
pub record Passing (test : PlanarPoint → PlanarPoint → Bool → Type 0) (ps : List Float) (n : ℕ) : Type 0 where
  pub at : ℕ
  pub under : at < n
  pub is : test (vertex_at ps at) (edge_end ps n at) true

-- none of the first i edges passes, and none at all
abbrev pub NoneYet : (PlanarPoint → PlanarPoint → Bool → Type 0) → List Float → ℕ → ℕ → Type 0
NoneYet test ps n i = (k : ℕ) → k < i → test (vertex_at ps k) (edge_end ps n k) false

abbrev pub NonePasses : (PlanarPoint → PlanarPoint → Bool → Type 0) → List Float → ℕ → Type 0
NonePasses test ps n = NoneYet test ps n n

-- ---- the tests

-- vertex k is in range, and there is room for it
unfoldable pub passes : ℕ → ℕ → PlanarPoint → Bool
passes room k v = ltb k room && not (beyond v.east || beyond v.north)

-- a number reaches 0.000001, up or down
unfoldable pub reaches : Float → Bool
reaches x = le hairline_length x || le x (neg hairline_length)

-- the edge from a to b reaches it east or north
unfoldable pub wide : PlanarPoint → PlanarPoint → Bool
wide a b = reaches (sub b a).east || reaches (sub b a).north

unfoldable pub wide_step : List Float → ℕ → ℕ → Bool → Bool
wide_step ps n k s = s && wide (vertex_at ps k) (edge_end ps n k)

-- every edge does: then 7 and 27 are both granted
unfoldable pub all_wide : List Float → ℕ → Bool
all_wide ps n = rounds (wide_step ps n) n true

-- 7, and at the door 27
unfoldable pub edge_refusal : Bool → ℕ → List Float → ℕ → Refusal
edge_refusal door ring ps n = cond (repeats ps n) (Repeated ring) (cond (door && hairline ps n) (Hairline ring) Granted)

-- 5 refuses a NaN, which is also what a vertex past the numbers' end reads: so what 4 to 9 grant is there. Proved in `proofs/Reach.antt`.
pub record NanRefused : Type 0 where
  pub east : (room ring n k : ℕ) (y : Float) → vertex_refusal room ring n k (record { east = nan; north = y }) ≡ Range ring nan
  pub north : (room ring n k : ℕ) (x : Float) → beyond x ≡ false →
      vertex_refusal room ring n k (record { east = x; north = nan }) ≡ Range ring nan

-- opens every definition above, for a proof that computes with all of them
unfoldable pub open_walks : Unit {0}
unfolding passes reaches wide wide_step all_wide edge_refusal
open_walks = tt
