-- The field that starts at a place of a line, read as a number or as the side. Assumes nothing.
use Rattle.std.specs.Prelude.{ℕ, ◌+◌, Bool, true, ◌≡◌, List, [], get_or}
use Rattle.format.specs.Fields.{fields, fields_from, field_end}
use Rattle.format.specs.JobLines.{outset_word, side_field, is_side}
use Rattle.format.specs.Lines.{same_bytes}
use Rattle.format_fields.specs.declared.At.{At}

-- The field at a place. Past the end of the line it reads as an empty one.
unfoldable pub field_at : List ℕ → ℕ → List ℕ
field_at line at = get_or (fields_from line at) 0 []

-- The field at a place is well formed: its value, and where the next field starts.
pub record ReadAt {A : Type 0} (test : List ℕ → Bool) (value_of : List ℕ → A) (line : List ℕ) (at : ℕ) (x : At A) : Type 0 where
  pub formed : test (field_at line at) ≡ true
  pub value_is : x.value ≡ value_of (field_at line at)
  pub next_is : x.next ≡ field_end line at + 1

-- the first field is a side: whether it is the word `outset`, and where the next field starts
pub record SideAt (line : List ℕ) (x : At Bool) : Type 0 where
  pub formed : is_side (side_field (fields line)) ≡ true
  pub outward_is : x.value ≡ same_bytes (side_field (fields line)) outset_word
  pub next_is : x.next ≡ field_end line 0 + 1

-- opens every definition above, for a proof that computes with all of them
unfoldable pub open_places : Unit {0}
unfolding field_at
open_places = tt
