-- What a round of the program's loop hands back, and what is held after a block, with the memory that is lent. What is read and what is
-- written is outside these. Assumes nothing.
use Rattle.std.specs.Prelude.{ℕ, ◌+◌, ◌≤◌, ◌≡◌, List, [], take, drop}
use Rattle.job.specs.Stream.{block_taken}
use Rattle.job_stream.specs.Feeding.{most_held, Feed, machine}
use Rattle.job_lines.specs.Wire.{held_of, out_of, stream_fed}
use Rattle.lizardwire.specs.declared.Round.{Round}

-- a round is a call on the block's bytes from `at` on
abbrev pub round_fed : List ℕ → ℕ → List ℕ → ℕ → List ℕ → Feed
round_fed block at held count out = stream_fed (drop at block) held count out

-- what the stream took of the rest is taken of the block, and what it put into the output is to be written
unfoldable pub round_told : ℕ → Feed → Round
round_told at s = record { at = at + s.at; count = s.count; used = s.used }

-- what the round hands back, and the memory for a cut line and the output after it
abbrev pub round_after : List ℕ → ℕ → List ℕ → ℕ → List ℕ → Round
round_after block at held count out = round_told at (round_fed block at held count out)

abbrev pub held_after : List ℕ → ℕ → List ℕ → ℕ → List ℕ → List ℕ
held_after block at held count out = held_of (round_fed block at held count out)

abbrev pub out_after : List ℕ → ℕ → List ℕ → ℕ → List ℕ → List ℕ
out_after block at held count out = out_of (round_fed block at held count out)

-- after a block, if no write failed: how many bytes are held, which are the line of the byte machine, fed the whole block
pub record BlockTaken (block held : List ℕ) (count : ℕ) (after : List ℕ) (n : ℕ) : Type 0 where
  pub most : n ≤ most_held
  pub line : take n after ≡ (block_taken (machine held count []) block).line

-- opens the definition above
unfoldable pub open_program : Unit {0}
unfolding round_told
open_program = tt
