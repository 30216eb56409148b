-- Every row is as written: antt computes both sides. Assumes nothing.
use Prim.Native.Nat.{ℕ, zero, suc, ◌<◌}
use native.Mathlib.Nat.{le_of_suc-le-suc, not-suc-le-zero}
use mathlib.Core.Path.{◌≡◌, refl}
use mathlib.Core.List.{List, [], ◌∷◌}
use lib.ListN.{get_or, length}
use Rattle.format.specs.Texts.{bytes_of}
use Rattle.job.specs.Stream.{answers}
use Rattle.job.specs.Opened.{open_answers}
use Rattle.job.specs.Table.{Row, TableHolds, table, square, square_rest}

abbrev row_from : List Row → ℕ → Row
row_from rs k = get_or rs k (record { input = ""; output = "" })

unfoldable Hold : List Row → Type 0
Hold [] = Unit {0}
Hold (r ∷ rs) = (answers (bytes_of r.input) ≡ bytes_of r.output) × Hold rs

hold_at : (rs : List Row) → Hold rs → (k : ℕ) → k < length rs → answers (bytes_of (row_from rs k).input) ≡ bytes_of (row_from rs k).output
unfolding Hold
hold_at [] h k l = absurd (not-suc-le-zero l)
hold_at (r ∷ rs) h zero l = h.0
hold_at (r ∷ rs) h (suc k) l = hold_at rs h.1 k (le_of_suc-le-suc l)

all_hold : Hold table
unfolding table square square_rest Hold bytes_of open_answers
all_hold = (refl, (refl, (refl, (refl, (refl, (refl, (refl, (refl, (refl, (refl, (refl, (refl, (refl, (refl, (refl, (refl, tt))))))))))))))))

pub table_holds : TableHolds
table_holds k l = hold_at table all_hold k l
