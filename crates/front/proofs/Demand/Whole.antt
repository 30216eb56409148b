-- Every front that loading makes of a shape past question 21 meets the demand, and what tidying leaves of it moves.
use mathlib.Core.Path.{◌≡◌, refl, ap, ◌∙◌, subst}
use mathlib.Core.Logic.{◌≢◌, ◌⊎◌, inl, inr}
use mathlib.Core.Bool.{Bool, true, false, ◌&&◌}
use mathlib.Core.List.{List, []}
use Prim.Native.Nat.{ℕ, suc, ◌+◌, ◌*◌, ◌≤◌}
use native.Mathlib.Omega.{arith}
use native.Mathlib.Nat.{zero-add}
use lib.Dec.{eqb}
use lib.Ieee.{Float}
use Rattle.plane.specs.declared.PlanarPoint.{PlanarPoint}
use Rattle.front.specs.declared.Loaded.{Loaded}
use Rattle.front.specs.declared.Sweep.{Sweep}
use Rattle.error.specs.declared.Refusal.{Refusal}
use Rattle.error.specs.Refusals.{granted, number}
use Rattle.base.specs.Loop.{rounds}
use Rattle.ring.specs.Ring.{vertex_at}
use Rattle.front.specs.Loading.{load_ring, loaded_nothing, Loads, outer, hole}
use Rattle.front.specs.Sweeps.{sweep_from, sweep_step, finished, offset_rings}
use Rattle.front.specs.Demand.{Givens, givens, going, stages, run, tally, handed, FrontDemand}
use Rattle.front.specs.Velocity.{FrontVelocity}
use Rattle.front.specs.LoadLaws.{LoadGranted, LoadRefused, RefusedCounts, FirstCounts}
use Rattle.front.proofs.Demand.Rates.{Bounded, SmallPoint}
use Rattle.front.proofs.Demand.Loading.{LoadIs, load_law, load_none, LoadRefusal, ring_refusal, none_refusal}
use Rattle.front.proofs.Demand.Shapes.{Proper, proper_is, vertices, lines_sound}
use Rattle.front.proofs.Demand.Runs.{rounds_done}
use Rattle.front.proofs.Demand.Shown.{holds, demand, velocity}

-- what loading leaves of n edges in r rings
record Well (d : Float) (origin : PlanarPoint) (n r : ℕ) (l : Loaded) : Type 0 where
  loads : LoadIs Bounded n r l
  enough : 2 * r ≤ n
  refusal : LoadRefusal l.refusal
  near : SmallPoint 30 origin

outer_well : (d : Float) (ps : List Float) (c : ℕ) (back : Bool) → Proper 128 ps c → Well d (vertex_at ps 0) c 1 (load_ring ps c back (vertex_at ps 0) d loaded_nothing)
outer_well d ps c back p =
    let o : SmallPoint 30 (vertex_at ps 0) = vertices ps c p.range 0 (omega (arith, p.three)) in
    record {
      loads = subst (λ (n : ℕ). LoadIs Bounded n 1 (load_ring ps c back (vertex_at ps 0) d loaded_nothing)) (zero-add c)
          (load_law Bounded ps c back (vertex_at ps 0) d loaded_nothing (lines_sound ps c back (vertex_at ps 0) p.range o) 0 0 p.three (load_none Bounded));
      enough = omega (arith, p.three);
      refusal = ring_refusal ps c back (vertex_at ps 0) d loaded_nothing none_refusal;
      near = o;
    }

hole_well : (d : Float) (origin : PlanarPoint) (n r : ℕ) (l : Loaded) (ps : List Float) (c : ℕ) → Proper 32 ps c → Well d origin n r l
    → Well d origin (n + c) (suc r) (load_ring ps c true origin d l)
hole_well d origin n r l ps c p w = record {
  loads = load_law Bounded ps c true origin d l (lines_sound ps c true origin p.range w.near) n r p.three w.loads;
  enough = omega (arith, w.enough, p.three);
  refusal = ring_refusal ps c true origin d l w.refusal;
  near = w.near;
}

well : (d : Float) (origin : PlanarPoint) (n r : ℕ) (l : Loaded) → Loads d origin n r l → Well d origin n r l
well d origin n r l (outer ps c back q) = outer_well d ps c back (proper_is 128 ps c q)
well d origin n r l (hole {n = k} {r = i} {l = before} ps c q w) = hole_well d origin k i before ps c (proper_is 32 ps c q) (well d origin k i before w)

-- no refusal of the loading is the one for want of an end
other : (r : Refusal) → LoadRefusal r → number r ≢ 18
unfolding granted
other r h q = go (h (ap (λ (k : ℕ). eqb k 0) q))
  where
    go : (number r ≡ 15) ⊎ (number r ≡ 16) → ⊥
    go (inl e) = omega arith
    go (inr e) = omega arith

-- each ring has three edges or more
pub loads_enough : (d : Float) (origin : PlanarPoint) (n r : ℕ) (l : Loaded) → Loads d origin n r l → 2 * r ≤ n
loads_enough d origin n r l w = (well d origin n r l w).enough

pub loads_other : (d : Float) (origin : PlanarPoint) (n r : ℕ) (l : Loaded) → Loads d origin n r l → number l.refusal ≢ 18
loads_other d origin n r l w = other l.refusal (well d origin n r l w).refusal

pub front_demand : FrontDemand
front_demand d origin n r l near w =
    let h : Well d origin n r l = well d origin n r l w in
    demand (givens d l) near n r h.enough l h.loads (other l.refusal h.refusal)

pub front_velocity : FrontVelocity
front_velocity d origin n r l near w =
    let h : Well d origin n r l = well d origin n r l w in
    velocity (givens d l) near n r h.enough l h.loads (other l.refusal h.refusal)

-- ---- loading granted, and loading refused

pub load_granted : LoadGranted
load_granted d origin n r l w g = holds n r l ((well d origin n r l w).loads g)

pub load_refused : LoadRefused
load_refused d origin n r l w = (well d origin n r l w).refusal

-- nothing is made of a sweep that does not go on
idle : (given : Givens) (s : Sweep) → going s ≡ false → (stages given 387 s ≡ []) × (finished given.distance (rounds (sweep_step given.distance) 387 s) ≡ s)
unfolding stages finished
idle given s q = (rw q refl, ap (finished given.distance) (rounds_done given s 387 q) ∙ rw q refl)

pub refused_counts : RefusedCounts
unfolding sweep_from offset_rings tally
refused_counts d l q =
    let h : (run (givens d l) l ≡ []) × (offset_rings d l ≡ sweep_from l) = idle (givens d l) (sweep_from l) (ap (λ (b : Bool). b && true) q) in
    (h.0, ap handed h.1, ap (λ (s : Sweep). s.refusal) h.1)

pub first_counts : FirstCounts
first_counts d origin n r l near w q = (front_demand d origin n r l near w).counted ∙ ap tally q
