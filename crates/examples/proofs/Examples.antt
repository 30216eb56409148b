-- Every row's question is answered as drawn: antt computes both sides. Assumes nothing.
use Prim.Native.Nat.{ℕ, zero, suc, ◌<◌}
use native.Mathlib.Nat.{le_of_suc-le-suc, not-suc-le-zero}
use mathlib.Core.Path.{◌≡◌, refl}
use mathlib.Core.List.{List, [], ◌∷◌}
use lib.ListN.{length}
use Rattle.region.specs.Everything.{open_everything}
use Rattle.examples.specs.Table.{Row, row_at, table, answer, Examples, refusal_of, outline_ring, hole_rings, region_rings, new_answer, placed_answer, offset_answer, region_answer, no, w, m, S}

unfoldable Hold : List Row → Type 0
Hold [] = Unit {0}
Hold (r ∷ rs) = (answer r.question ≡ r.drawn) × Hold rs

hold_at : (rs : List Row) → Hold rs → (k : ℕ) → k < length rs → answer (row_at rs k).question ≡ (row_at rs k).drawn
unfolding Hold
hold_at [] h k l = absurd (not-suc-le-zero l)
hold_at (r ∷ rs) h zero l = h.0
hold_at (r ∷ rs) h (suc k) l = hold_at rs h.1 k (le_of_suc-le-suc l)

all_hold : Hold table
unfolding refusal_of outline_ring hole_rings region_rings new_answer placed_answer offset_answer region_answer answer no w m S table Hold open_everything
all_hold = (refl, (refl, (refl, (refl, (refl, (refl, (refl, (refl, (refl, (refl, (refl, (refl, (refl, (refl, (refl, (refl, (refl, (refl, (refl, (refl, (refl, (refl, (refl, tt)))))))))))))))))))))))

pub examples : Examples
examples k l = hold_at table all_hold k l
