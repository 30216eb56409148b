-- A counted loop: its body is a definition of its own, `f`, which takes the round's number and the state.
-- `rounds f n s` is the state after n rounds from s, so a `for i in 0..n` loop has the invariant `state ≡ rounds f i s`, and a round goes
-- by `rounds f (suc i) s`, which is `f i (rounds f i s)`. A loop that is left early carries in its state that it was left, and then its
-- body gives the state back.
-- `stays` says that such a state is the last one. Assumes nothing.
use Rattle.std.specs.Prelude.{ℕ, zero, suc}

unfoldable pub rounds : {A : Type 0} → (ℕ → A → A) → ℕ → A → A
rounds f zero s = s
rounds f (suc n) s = f n (rounds f n s)

-- opens every definition above, for a proof that computes with all of them
unfoldable pub open_loop : Unit {0}
unfolding rounds
open_loop = tt
