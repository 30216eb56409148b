-- A round over the slots of a finished front, and where it stops. Assumes nothing.
use Prim.Native.Nat.{ℕ, ◌+◌, ◌≤◌, ◌<◌}
use mathlib.Core.Bool.{Bool, true, false, cond, not, ◌&&◌, ◌||◌}
use mathlib.Core.List.{List}
use mathlib.Core.Path.{◌≡◌, refl, sym, ap, ◌∙◌}
use native.Mathlib.Omega.{arith}
use lib.ListN.{get_or, replicate}
use lib.Ieee.{Float}
use Rattle.error.specs.declared.Refusal.{Refusal}
use Rattle.error.specs.declared.Refusal.TheVariants.{Granted, Splits}
use Rattle.error.specs.Refusals.{granted, number, values}
use Rattle.base.specs.Loop.{rounds}
use Rattle.base.proofs.Laws.{no_round, next_round, stays_to}
use Rattle.ring_measure.specs.Measures.{signed_area}
use Rattle.plane.specs.declared.PlanarPoint.{PlanarPoint}
use Rattle.outline.specs.declared.Outline.{Outline}
use Rattle.outline.specs.Outlines.{no_outline, stored_outline}
use Rattle.front.specs.declared.Edge.{Edge}
use Rattle.front.specs.declared.Walk.{Walk}
use Rattle.front.specs.Edges.{blank}
use Rattle.front.specs.Finished.{Visits, walk, starts, visited, visit_step, visits_from, for_each_ring}
use Rattle.front.proofs.EdgeLaws.{edge_in}
use Rattle.offset.specs.declared.Piece.{Piece}
use Rattle.offset.specs.declared.Piece.TheVariants.{Shrunk, Failed, Whole}
use Rattle.offset.specs.declared.Pieces.{Pieces}
use Rattle.offset.specs.Offsets.{expected, with_piece, pieces_refused, pieces_refusal, visit_piece, pieces}
use Rattle.front_walk.proofs.RingWalk.{walk_at}
use Rattle.offset_pieces.specs.Numbers.{ring_piece}
use Rattle.offset_pieces.proofs.Comes.{ring_piece_is, failed_refuses}

-- what the rings have come to, how many they were, and the slots that they have passed
abbrev pub pieces_at : Refusal → Bool → Outline → Pieces
pieces_at r found o = record { refusal = r; found = found; shape = o }

abbrev pub visits_at : Pieces → ℕ → List Bool → Visits Pieces
visits_at made place seen = record { made = made; place = place; seen = seen }

abbrev pub piece_step : List Edge → PlanarPoint → Bool → Float → Float → ℕ → Visits Pieces → Visits Pieces
piece_step f origin outward d tolerance = visit_step pieces_refusal (visit_piece outward d tolerance) f d origin

-- before the first slot
abbrev pub no_visits : Visits Pieces
no_visits = visits_from (pieces_at Granted false no_outline)

pub none_made : (step : ℕ → Visits Pieces → Visits Pieces) (o : Outline) → o ≡ no_outline → rounds step 0 no_visits ≡ visits_at (pieces_at Granted false o) 0 (replicate 128 false)
unfolding visits_from
none_made step o e = no_round _ _ ∙ ap (λ (z : Outline). visits_at (pieces_at Granted false z) 0 (replicate 128 false)) (sym e)

pub one_more : (place k : ℕ) → place ≤ k → place + 1 ≤ k + 1
one_more place k l = omega arith

pub refused_as : (r : Refusal) (o : Outline) → o ≡ no_outline → pieces_at r false o ≡ pieces_refused r
unfolding pieces_refused
refused_as r o e = ap (pieces_at r false) e

-- whether a ring starts at a slot, as the code reads it
pub starts_as : (f : List Edge) (seen : List Bool) (k : ℕ) (b : Bool) → k < 128 → ((get_or f k blank).alive && not (get_or seen k false)) ≡ b → starts f seen k ≡ b
unfolding starts
starts_as f seen k b l h = ap (λ (e : Edge). e.alive && not (get_or seen k false)) (edge_in f k l) ∙ h

-- the test of a piece, as the code makes it
right : (b found t : Bool) → (not b || found) ≡ t → (b && not found) ≡ not t
right true found t h = ap not h
right false found t h = ap not h

module _ (f : List Edge) (origin : PlanarPoint) (outward : Bool) (d tolerance : Float) (k place : ℕ) (found : Bool) (shape : Outline) (seen : List Bool) (l : k < 128)
    (so_far : rounds (piece_step f origin outward d tolerance) k no_visits ≡ visits_at (pieces_at Granted found shape) place seen) where
  round : (b : Bool) → starts f seen k ≡ b → rounds (piece_step f origin outward d tolerance) (k + 1) no_visits
      ≡ cond b (visited (visit_piece outward d tolerance) (visits_at (pieces_at Granted found shape) place seen) (walk f d origin k seen)) (visits_at (pieces_at Granted found shape) place seen)
  unfolding visit_step pieces_refusal granted number values
  round b e = next_round _ _ _ ∙ ap (piece_step f origin outward d tolerance k) so_far ∙ rw e refl

  -- no ring starts here
  pub passes_on : ((get_or f k blank).alive && not (get_or seen k false)) ≡ false →
      rounds (piece_step f origin outward d tolerance) (k + 1) no_visits ≡ visits_at (pieces_at Granted found shape) place seen
  passes_on h = round false (starts_as f seen k false l h)

  module _ (w : Walk) (x : Piece) (on : ((get_or f k blank).alive && not (get_or seen k false)) ≡ true) (ew : w ≡ walk f d origin k seen)
      (ex : x ≡ ring_piece 128 place d tolerance w.lost w.points w.count) where
    visits_on : (y : Piece) → x ≡ y → rounds (piece_step f origin outward d tolerance) (k + 1) no_visits
        ≡ visits_at (with_piece outward d w (pieces_at Granted found shape) y) (place + 1) w.seen
    unfolding visited visit_piece
    visits_on y h =
        round true (starts_as f seen k true l on) ∙
        ap (λ (z : Walk). visits_at (visit_piece outward d tolerance place z (pieces_at Granted found shape)) (place + 1) z.seen) (sym ew) ∙
        ap (λ (z : Piece). visits_at (with_piece outward d w (pieces_at Granted found shape) z) (place + 1) w.seen) (ring_piece_is 128 place d tolerance w x y ex h)

    -- the first refusal is the last
    ends_at : (y : Pieces) → granted y.refusal ≡ false → rounds (piece_step f origin outward d tolerance) (k + 1) no_visits ≡ visits_at y (place + 1) w.seen →
        y ≡ pieces f origin outward d tolerance
    unfolding pieces for_each_ring visit_step pieces_refusal
    ends_at y h e =
        sym
        (ap (λ (z : Visits Pieces). z.made)
        (stays_to (piece_step f origin outward d tolerance) no_visits (visits_at y (place + 1) w.seen) (k + 1) 128 (omega arith) e (λ m. rw h refl)))

    -- the ring shrank to nothing
    pub shrinks : x ≡ Shrunk → rounds (piece_step f origin outward d tolerance) (k + 1) no_visits ≡ visits_at (pieces_at Granted found shape) (place + 1) w.seen
    unfolding with_piece
    shrinks h = visits_on Shrunk h

    -- it is refused
    pub fails : (r : Refusal) (y : Pieces) → x ≡ Failed r → y ≡ pieces_refused r → y ≡ pieces f origin outward d tolerance
    unfolding with_piece pieces_refused
    fails r y h e =
        ends_at y (ap (λ (z : Pieces). granted z.refusal) e ∙ failed_refuses 128 place d tolerance w.lost w.points w.count x r ex h)
        (visits_on (Failed r) h ∙ ap (λ (z : Pieces). visits_at z (place + 1) w.seen) (sym e))

    module _ (n : ℕ) (back : Bool) (whole : x ≡ Whole n back) (area : Float) (b : Bool) (ea : area ≡ signed_area w.points w.count) (eb : b ≡ expected outward area) where
      test : (t : Bool) → (b && not found) ≡ t → (expected outward (signed_area w.points w.count) && not found) ≡ t
      test t h = sym (ap (λ (z : Bool). z && not found) (eb ∙ ap (expected outward) ea)) ∙ h

      -- it is the piece
      pub keeps : (o : Outline) → (not b || found) ≡ false → o ≡ stored_outline w.points n back →
          rounds (piece_step f origin outward d tolerance) (k + 1) no_visits ≡ visits_at (pieces_at Granted true o) (place + 1) w.seen
      unfolding with_piece
      keeps o h e = visits_on (Whole n back) whole ∙ rw (test true (right b found false h)) (ap (λ (z : Outline). visits_at (pieces_at Granted true z) (place + 1) w.seen) (sym e))

      -- it is another piece, or lies on the wrong side
      pub another : (y : Pieces) → (not b || found) ≡ true → y ≡ pieces_refused (Splits d) → y ≡ pieces f origin outward d tolerance
      unfolding with_piece pieces_refused granted number values
      another y h e =
          ends_at y (ap (λ (z : Pieces). granted z.refusal) e)
          (visits_on (Whole n back) whole ∙ rw (test false (right b found true h)) (ap (λ (z : Pieces). visits_at z (place + 1) w.seen) (sym e)))

-- a vertex of the ring is lost: that is refused, too
pub lost_fails : (f : List Edge) (origin : PlanarPoint) (outward : Bool) (d tolerance : Float) (k place : ℕ) (found : Bool) (shape : Outline) (seen : List Bool) (l : k < 128) →
    rounds (piece_step f origin outward d tolerance) k no_visits ≡ visits_at (pieces_at Granted found shape) place seen →
    (at : ℕ) (passed : List Bool) (points : List Float) (count : ℕ) → ((get_or f k blank).alive && not (get_or seen k false)) ≡ true →
    walk_at at passed points count false true ≡ walk f d origin k seen → (y : Pieces) → y ≡ pieces_refused (Splits d) → y ≡ pieces f origin outward d tolerance
unfolding ring_piece
lost_fails f origin outward d tolerance k place found shape seen l so at passed points count on w y e =
    fails f origin outward d tolerance k place found shape seen l so (walk_at at passed points count false true) (Failed (Splits d)) on w refl (Splits d) y refl e

-- every slot is passed
pub all_passed : (f : List Edge) (origin : PlanarPoint) (outward : Bool) (d tolerance : Float) (k place : ℕ) (made : Pieces) (seen : List Bool) → k ≤ 128 → 128 ≤ k →
    rounds (piece_step f origin outward d tolerance) k no_visits ≡ visits_at made place seen → made ≡ pieces f origin outward d tolerance
unfolding pieces for_each_ring
all_passed f origin outward d tolerance k place made seen l h e =
    let same : k ≡ 128 = omega arith in
    ap (λ (z : Visits Pieces). z.made) (sym e ∙ ap (λ (m : ℕ). rounds (piece_step f origin outward d tolerance) m no_visits) same)
