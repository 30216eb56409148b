-- R-7: what 27 tells, where it stands among the questions, and that the door is the check of a piece but for it. Proved in
-- `proofs/Door.antt`. Assumes nothing.
use Rattle.std.specs.Prelude.{ℕ, ◌+◌, ◌-◌, ◌*◌, ◌^◌, ◌<◌, ◌≡◌, Bool, true, false, cond, ◌&&◌, ◌||◌, List, ltb, Float}
use Rattle.std.specs.Float.Ieee.Exact.{HasValue}
use Rattle.error.specs.declared.Refusal.{Refusal}
use Rattle.error.specs.declared.Refusal.TheVariants.{Hairline}
use Rattle.error.specs.Refusals.{number, granted}
use Rattle.ring_check.specs.Checks.{hairline_length, kept, short_edge, hairline, refused, check_ring, check_door}

-- an edge, of n, that is shorter than 0.000001
pub record ShortEdge (ps : List Float) (n : ℕ) : Type 0 where
  pub edge : ℕ
  pub under : edge < n
  pub short : short_edge ps n edge ≡ true

-- 4 to 7 are granted: the refusal is none, or of a question after them
unfoldable pub past_seven : Refusal → Bool
past_seven r = granted r || ltb 7 (number r)

pub record DoorTells : Type 0 where
  -- the bound is the double nearest to 0.000001: 4722366482869645 / 2⁷², the doubles beside it being 1 / 2⁷² away
  pub bound : HasValue hairline_length false 4722366482869645 (2 ^ 72)
  pub nearest : (1000000 * (2 * 4722366482869645 - 1) < 2 * 2 ^ 72) × (2 * 2 ^ 72 < 1000000 * (2 * 4722366482869645 + 1))
  -- 27 is of some edge, from the first to the closing one
  pub some : (ps : List Float) (n : ℕ) → hairline ps n ≡ true → ShortEdge ps n
  pub none : (ps : List Float) (n : ℕ) → hairline ps n ≡ false → (k : ℕ) → k < n → short_edge ps n k ≡ false
  -- a ring that is granted 4 to 7 and has such an edge is refused with 27; any other has the answer that a piece has
  pub is : (room ring : ℕ) (ps : List Float) (n : ℕ) → let c = check_ring room ring ps n in
      check_door room ring ps n ≡ cond (past_seven c.refusal && hairline ps (kept ps n)) (refused (Hairline ring)) c
  -- what the door grants is stored as a piece is, and has no such edge
  pub same : (room ring : ℕ) (ps : List Float) (n : ℕ) → let a = check_door room ring ps n in
      granted a.refusal ≡ true → a ≡ check_ring room ring ps n
  pub clear : (room ring : ℕ) (ps : List Float) (n : ℕ) → let a = check_door room ring ps n in
      granted a.refusal ≡ true → (k : ℕ) → k < a.count → short_edge ps a.count k ≡ false

-- opens every definition above, for a proof that computes with all of them
unfoldable pub open_door : Unit {0}
unfolding past_seven
open_door = tt
