-- Whole numbers in digits of w bits. Assumes nothing.
use Rattle.std.specs.Prelude.{ℕ, zero, suc, ◌+◌, ◌*◌, ◌^◌}

-- what the digits f of the slots below k come to: a digit at slot j counts 2 ^ (w * j)
unfoldable pub digit_sum : ℕ → (ℕ → ℕ) → ℕ → ℕ
digit_sum w f zero = 0
digit_sum w f (suc k) = digit_sum w f k + f k * 2 ^ (w * k)
