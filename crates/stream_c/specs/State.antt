-- The state of a stream of job lines in lent bytes: two bytes of a count, the low one first, and then the room for a line that a block's
-- end cuts, of which so many bytes are held. Bytes past those are the caller's. Assumes nothing.
use Rattle.std.specs.Prelude.{ℕ, ◌+◌, ◌*◌, ◌/◌, ◌%◌, Bool, cond, List, ◌++◌, leb, get_or, set, length, take, drop}
use Rattle.error.specs.declared.Refusal.{Refusal}
use Rattle.error.specs.declared.Refusal.TheVariants.{Granted, Short, Shape}
use Rattle.error.specs.Refusals.{granted}
use Rattle.job_stream.specs.Feeding.{most_held}

abbrev pub state_size : ℕ
state_size = 16387

unfoldable pub count_of : ℕ → ℕ → ℕ
count_of low high = low + 256 * high

-- how many bytes of a cut line it says that it holds
unfoldable pub said : List ℕ → ℕ
said state = count_of (get_or state 0 0) (get_or state 1 0)

-- the same state with another count
unfoldable pub saying : List ℕ → ℕ → List ℕ
saying state count = set (set state 0 (count % 256)) 1 (count / 256 % 256)

-- the room for a cut line
unfoldable pub room : List ℕ → List ℕ
room state = take most_held (drop 2 state)

-- the same state with other bytes there
unfoldable pub with_room : List ℕ → List ℕ → List ℕ
with_room state held = take 2 state ++ (held ++ drop most_held (drop 2 state))

-- 20 of a state with too few bytes, then 21 of one that says it holds more than it has room for
unfoldable pub judged : List ℕ → Refusal
judged state = cond (leb state_size (length state)) (cond (leb (said state) most_held) Granted Shape) (Short state_size)

unfoldable pub passes : List ℕ → Bool
passes state = granted (judged state)

-- opens every definition above, for a proof that computes with all of them
unfoldable pub open_state : Unit {0}
unfolding count_of said saying room with_room judged passes
open_state = tt
