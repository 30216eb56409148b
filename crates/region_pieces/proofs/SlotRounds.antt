-- A round over the slots of a region's finished front, and where it stops. Assumes nothing.
use Prim.Native.Nat.{ℕ, ◌+◌, ◌*◌, ◌≤◌, ◌<◌}
use mathlib.Core.Bool.{Bool, true, false, cond, not, ◌&&◌, true≢false}
use mathlib.Core.List.{List}
use mathlib.Core.Path.{◌≡◌, refl, sym, ap, ◌∙◌}
use native.Mathlib.Omega.{arith}
use borrow.Author.Tests.{not-true, not-false, ltb-true, lt-ltb}
use lib.Dec.{ltb}
use lib.ListN.{get_or, set, replicate}
use lib.Ieee.{Float, lt}
use Rattle.error.specs.declared.Refusal.{Refusal}
use Rattle.error.specs.declared.Refusal.TheVariants.{Granted, Splits, ManyPieces}
use Rattle.error.specs.Refusals.{granted, number, values}
use Rattle.base.specs.Loop.{rounds}
use Rattle.base.proofs.Laws.{no_round, next_round, stays_to}
use Rattle.math.specs.Number.{zero_float}
use Rattle.ring_measure.specs.Measures.{signed_area}
use Rattle.plane.specs.declared.PlanarPoint.{PlanarPoint}
use Rattle.ring.specs.Store.{stored}
use Rattle.outline.specs.declared.Outline.{Outline}
use Rattle.outline.specs.Outlines.{no_outline, stored_outline}
use Rattle.front.specs.declared.Edge.{Edge}
use Rattle.front.specs.declared.Walk.{Walk}
use Rattle.front.specs.Edges.{blank}
use Rattle.front.specs.Finished.{Visits, walk, starts, visited, visit_step, visits_from, for_each_ring}
use Rattle.offset.specs.declared.Piece.{Piece}
use Rattle.offset.specs.declared.Piece.TheVariants.{Shrunk, Failed, Whole}
use Rattle.offset_pieces.specs.Numbers.{ring_piece}
use Rattle.offset_pieces.proofs.Comes.{ring_piece_is, failed_refuses}
use Rattle.offset_pieces.proofs.Visited.{starts_as}
use Rattle.region.specs.declared.Region.{Region}
use Rattle.region.specs.declared.RegionPieces.{RegionPieces}
use Rattle.region.specs.Regions.{no_region, with_outer, store_hole}
use Rattle.region.specs.Insets.{region_pieces_refused, is_outer, with_outer_piece, with_hole_piece, with_region_piece, visit_region_piece, region_pieces_refusal, region_pieces}
use Rattle.region_pieces.specs.Rooms.{place_refusal}

-- what the rings have come to, how many they were, and the slots that they have passed
abbrev pub region_at : Outline → List Float → List ℕ → ℕ → Region
region_at o hs cs h = record { outer = o; points = hs; counts = cs; holes = h }

abbrev pub pieces_at : Refusal → Bool → Region → RegionPieces
pieces_at r found q = record { refusal = r; found = found; shape = q }

abbrev pub visits_at : RegionPieces → ℕ → List Bool → Visits RegionPieces
visits_at made place seen = record { made = made; place = place; seen = seen }

abbrev pub piece_step : List Edge → PlanarPoint → Float → Float → ℕ → Visits RegionPieces → Visits RegionPieces
piece_step f origin d tolerance = visit_step region_pieces_refusal (visit_region_piece d tolerance) f d origin

-- before the first slot
abbrev pub no_visits : Visits RegionPieces
no_visits = visits_from (pieces_at Granted false no_region)

pub none_made : (step : ℕ → Visits RegionPieces → Visits RegionPieces) (o : Outline) → o ≡ no_outline →
    rounds step 0 no_visits ≡ visits_at (pieces_at Granted false (region_at o (replicate 512 zero_float) (replicate 8 0) 0)) 0 (replicate 128 false)
unfolding visits_from no_region
none_made step o e = no_round _ _ ∙ ap (λ (z : Outline). visits_at (pieces_at Granted false (region_at z (replicate 512 zero_float) (replicate 8 0) 0)) 0 (replicate 128 false)) (sym e)

pub refused_as : (r : Refusal) (q : Region) → q ≡ no_region → record { refusal = r; found = false; shape = q } ≡ region_pieces_refused r
unfolding region_pieces_refused
refused_as r q e = ap (λ (x : Region). record { refusal = r; found = false; shape = x }) e

pub below_eight : (held : ℕ) → held < 8 → held ≤ 7
below_eight held l = omega arith

-- a place that is granted to a hole is one of eight
pub hole_placed : (d : Float) (outer found : Bool) (held : ℕ) (r : Refusal) (g : Bool) → r ≡ place_refusal d outer found held → g ≡ granted r → not g ≡ false → outer ≡ false → held < 8
unfolding place_refusal granted number values
hole_placed d outer found held r g e h t z = go (ltb held 8) refl
  where
    go : (b : Bool) → ltb held 8 ≡ b → held < 8
    go true q = ltb-true held 8 q
    go false q = absurd (true≢false (sym (not-false g t) ∙ h ∙ ap granted e ∙ rw (z, q) refl))

module _ (f : List Edge) (origin : PlanarPoint) (d tolerance : Float) (k place : ℕ) (found : Bool) (o : Outline) (hs : List Float) (cs : List ℕ) (held : ℕ) (seen : List Bool) (l : k < 128)
    (so_far : rounds (piece_step f origin d tolerance) k no_visits ≡ visits_at (pieces_at Granted found (region_at o hs cs held)) place seen) where
  abbrev so : RegionPieces
  so = pieces_at Granted found (region_at o hs cs held)

  round : (b : Bool) → starts f seen k ≡ b → rounds (piece_step f origin d tolerance) (k + 1) no_visits
      ≡ cond b (visited (visit_region_piece d tolerance) (visits_at so place seen) (walk f d origin k seen)) (visits_at so place seen)
  unfolding visit_step region_pieces_refusal granted number values
  round b e = next_round _ _ _ ∙ ap (piece_step f origin d tolerance k) so_far ∙ rw e refl

  -- no ring starts here
  pub passes_on : ((get_or f k blank).alive && not (get_or seen k false)) ≡ false → rounds (piece_step f origin d tolerance) (k + 1) no_visits ≡ visits_at so place seen
  passes_on h = round false (starts_as f seen k false l h)

  module _ (w : Walk) (area : Float) (room : ℕ) (x : Piece) (on : ((get_or f k blank).alive && not (get_or seen k false)) ≡ true) (ew : w ≡ walk f d origin k seen)
      (ea : area ≡ signed_area w.points w.count) (er : room ≡ cond (lt zero_float area) 128 32)
      (ex : x ≡ ring_piece room place d tolerance w.lost w.points w.count) where
    side : lt zero_float area ≡ is_outer w
    unfolding is_outer
    side = ap (lt zero_float) ea

    room_is : room ≡ cond (is_outer w) 128 32
    room_is = er ∙ ap (λ (b : Bool). cond b 128 32) side

    visits_on : (y : Piece) → x ≡ y → rounds (piece_step f origin d tolerance) (k + 1) no_visits ≡ visits_at (with_region_piece d w so y) (place + 1) w.seen
    unfolding visited visit_region_piece
    visits_on y h =
        round true (starts_as f seen k true l on) ∙
        ap (λ (z : Walk). visits_at (visit_region_piece d tolerance place z so) (place + 1) z.seen) (sym ew) ∙
        ap (λ (z : Piece). visits_at (with_region_piece d w so z) (place + 1) w.seen)
        (ring_piece_is (cond (is_outer w) 128 32) place d tolerance w x y (ex ∙ ap (λ (m : ℕ). ring_piece m place d tolerance w.lost w.points w.count) room_is) h)

    -- the first refusal is the last
    ends_at : (y : RegionPieces) → granted y.refusal ≡ false → rounds (piece_step f origin d tolerance) (k + 1) no_visits ≡ visits_at y (place + 1) w.seen →
        y ≡ region_pieces f origin d tolerance
    unfolding region_pieces for_each_ring visit_step region_pieces_refusal
    ends_at y h e =
        sym
        (ap (λ (z : Visits RegionPieces). z.made)
        (stays_to (piece_step f origin d tolerance) no_visits (visits_at y (place + 1) w.seen) (k + 1) 128 (omega arith) e (λ m. rw h refl)))

    -- the ring shrank to nothing
    pub shrinks : x ≡ Shrunk → rounds (piece_step f origin d tolerance) (k + 1) no_visits ≡ visits_at so (place + 1) w.seen
    unfolding with_region_piece
    shrinks h = visits_on Shrunk h

    -- it is refused
    pub fails : (r : Refusal) (y : RegionPieces) → x ≡ Failed r → y ≡ region_pieces_refused r → y ≡ region_pieces f origin d tolerance
    unfolding with_region_piece region_pieces_refused
    fails r y h e =
        ends_at y (ap (λ (z : RegionPieces). granted z.refusal) e ∙ failed_refuses room place d tolerance w.lost w.points w.count x r ex h)
        (visits_on (Failed r) h ∙ ap (λ (z : RegionPieces). visits_at z (place + 1) w.seen) (sym e))

    module _ (n : ℕ) (back : Bool) (whole : x ≡ Whole n back) (r : Refusal) (g : Bool) (placed : r ≡ place_refusal d (lt zero_float area) found held) (told : g ≡ granted r) where
      abbrev new_outer : RegionPieces
      new_outer = pieces_at Granted true (region_at (stored_outline w.points n back) hs cs held)

      abbrev new_hole : RegionPieces
      new_hole = pieces_at Granted found (region_at o (stored w.points n back (32 * held) hs) (set cs held n) (held + 1))

      visits_whole : rounds (piece_step f origin d tolerance) (k + 1) no_visits
          ≡ visits_at (cond (is_outer w) (cond found (region_pieces_refused (Splits d)) new_outer) (cond (ltb held 8) new_hole (region_pieces_refused (ManyPieces 9)))) (place + 1) w.seen
      unfolding with_region_piece with_outer_piece with_hole_piece with_outer store_hole
      visits_whole = visits_on (Whole n back) whole

      -- there is no place for it
      pub no_place : (y : RegionPieces) → not g ≡ true → y ≡ region_pieces_refused r → y ≡ region_pieces f origin d tolerance
      unfolding place_refusal region_pieces_refused granted number values
      no_place y h e =
          ends_at y (ap (λ (z : RegionPieces). granted z.refusal) e ∙ sym told ∙ not-true g h)
          (visits_whole ∙ ap (λ (z : RegionPieces). visits_at z (place + 1) w.seen) (sym (e ∙ go (is_outer w) found (ltb held 8) (placed ∙ ap (λ (b : Bool). place_refusal d b found held) side))))
        where
          refused : granted r ≡ true → region_pieces_refused r ≡ new_outer
          refused q = absurd (true≢false (sym q ∙ sym told ∙ not-true g h))

          refused_hole : granted r ≡ true → region_pieces_refused r ≡ new_hole
          refused_hole q = absurd (true≢false (sym q ∙ sym told ∙ not-true g h))

          go : (a b c : Bool) → r ≡ cond a (cond b (Splits d) Granted) (cond c Granted (ManyPieces 9)) →
              region_pieces_refused r ≡ cond a (cond b (region_pieces_refused (Splits d)) new_outer) (cond c new_hole (region_pieces_refused (ManyPieces 9)))
          go true true c q = ap region_pieces_refused q
          go true false c q = refused (ap granted q)
          go false b true q = refused_hole (ap granted q)
          go false b false q = ap region_pieces_refused q

      place_taken : not g ≡ false → granted (place_refusal d (is_outer w) found held) ≡ true
      place_taken h = ap (λ (b : Bool). granted (place_refusal d b found held)) (sym side) ∙ ap granted (sym placed) ∙ sym told ∙ not-false g h

      -- it is the outer ring
      pub keeps_outer : (q : Outline) → not g ≡ false → lt zero_float area ≡ true → q ≡ stored_outline w.points n back →
          rounds (piece_step f origin d tolerance) (k + 1) no_visits ≡ visits_at (pieces_at Granted true (region_at q hs cs held)) (place + 1) w.seen
      unfolding place_refusal granted number values
      keeps_outer q h t e =
          visits_whole ∙ rw (sym side ∙ t)
          (go found refl ∙ ap (λ (z : Outline). visits_at (pieces_at Granted true (region_at z hs cs held)) (place + 1) w.seen) (sym e))
        where
          free : found ≡ true → true ≡ false
          free z = sym (place_taken h) ∙ rw (sym side ∙ t, z) refl

          go : (b : Bool) → found ≡ b → visits_at (cond b (region_pieces_refused (Splits d)) new_outer) (place + 1) w.seen ≡ visits_at new_outer (place + 1) w.seen
          go true z = absurd (true≢false (free z))
          go false z = refl

      -- it is a hole
      pub keeps_hole : (gs : List Float) (ds : List ℕ) → held < 8 → lt zero_float area ≡ false
          → gs ≡ cond (ltb held 8) (stored w.points n back (32 * held) hs) hs → ds ≡ cond (ltb held 8) (set cs held n) cs →
          rounds (piece_step f origin d tolerance) (k + 1) no_visits ≡ visits_at (pieces_at Granted found (region_at o gs ds (held + 1))) (place + 1) w.seen
      keeps_hole gs ds m t e h = visits_whole ∙ rw (sym side ∙ t, e, h, lt-ltb held 8 m) refl

-- every slot is passed
pub all_passed : (f : List Edge) (origin : PlanarPoint) (d tolerance : Float) (k place : ℕ) (made : RegionPieces) (seen : List Bool) → k ≤ 128 → 128 ≤ k →
    rounds (piece_step f origin d tolerance) k no_visits ≡ visits_at made place seen → made ≡ region_pieces f origin d tolerance
unfolding region_pieces for_each_ring
all_passed f origin d tolerance k place made seen l h e =
    let same : k ≡ 128 = omega arith in
    ap (λ (z : Visits RegionPieces). z.made) (sym e ∙ ap (λ (m : ℕ). rounds (piece_step f origin d tolerance) m no_visits) same)
