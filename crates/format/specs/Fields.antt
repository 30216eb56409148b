-- 01, "Job lines": the fields of a line, parted by commas, no quoting; and the lines of a stream, each ended by LF or the end of input.
-- Assumes nothing.
use Rattle.std.specs.Prelude.{ℕ, ◌+◌, ◌-◌, ◌≤◌, ◌<◌, Bool, true, false, cond, ◌≡◌, List, [], ◌∷◌, ◌++◌, leb, eqb, get_or, drop, length}
use Rattle.std.proofs.Math.Seq.{slice}
use Rattle.base.specs.Loop.{rounds}

abbrev pub comma : ℕ
comma = 44

abbrev pub line_feed : ℕ
line_feed = 10

-- ---- the parts of a list of bytes between the bytes `mark`

-- A byte before the parts of what follows it: a mark ends an empty part, any other byte is the first of the first part.
unfoldable pub byte_before : Bool → ℕ → List (List ℕ) → List (List ℕ)
byte_before true b parts = [] ∷ parts
byte_before false b [] = (b ∷ []) ∷ []
byte_before false b (part ∷ parts) = (b ∷ part) ∷ parts

-- `rest` are the parts of no byte at all: one that is empty, or none
unfoldable pub parts_of : ℕ → List (List ℕ) → List ℕ → List (List ℕ)
parts_of mark rest [] = rest
parts_of mark rest (b ∷ bytes) = byte_before (eqb b mark) b (parts_of mark rest bytes)

-- "The fields, parted by commas": one more than there are commas, so an empty line has one empty field, and a comma at the end is
-- followed by one
unfoldable pub fields : List ℕ → List (List ℕ)
fields line = parts_of comma ([] ∷ []) line

-- "ended by LF or the end of input", and "nothing follows a last LF": an empty input has no line
unfoldable pub lines : List ℕ → List (List ℕ)
lines input = parts_of line_feed [] input

-- ---- fields put together again, with a comma between each two

-- each after its comma
unfoldable pub after_commas : List (List ℕ) → List ℕ
after_commas [] = []
after_commas (field ∷ fs) = comma ∷ (field ++ after_commas fs)

unfoldable pub comma_joined : List (List ℕ) → List ℕ
comma_joined [] = []
comma_joined (field ∷ fs) = field ++ after_commas fs

-- ---- the fields by place, for a walk along a line

-- Where the part from place `start` on ends: at the first mark from there on, or at the end of the bytes
unfoldable pub end_step : ℕ → List ℕ → ℕ → ℕ → ℕ
end_step mark bytes k at = cond (eqb (get_or bytes at 0) mark) at (at + 1)

unfoldable pub part_end : ℕ → List ℕ → ℕ → ℕ
part_end mark bytes start = rounds (end_step mark bytes) (length bytes - start) start

unfoldable pub field_end : List ℕ → ℕ → ℕ
field_end line start = part_end comma line start

-- the fields of a line from place `start` on; there is none past its end
unfoldable pub fields_from : List ℕ → ℕ → List (List ℕ)
fields_from line start = cond (leb start (length line)) (fields (drop start line)) []

-- ---- what is to hold

-- the fields of a line, joined, are the line. Proved in `proofs/FieldsJoined.antt`.
abbrev pub FieldsJoined : Type 0
FieldsJoined = (line : List ℕ) → comma_joined (fields line) ≡ line

-- a field without a comma
abbrev pub Single : List ℕ → Type 0
Single field = fields field ≡ field ∷ []

abbrev pub Singles : List (List ℕ) → Type 0
Singles fs = (k : ℕ) → k < length fs → Single (get_or fs k [])

-- fields that are written after a line, each after its comma, are its last ones
abbrev pub FieldsAfter : Type 0
FieldsAfter = (line : List ℕ) (fs : List (List ℕ)) → Singles fs → fields (line ++ after_commas fs) ≡ fields line ++ fs

-- and so a line that is joined from fields has those fields
abbrev pub JoinedFields : Type 0
JoinedFields = (field : List ℕ) (fs : List (List ℕ)) → Single field → Singles fs →
    fields (comma_joined (field ∷ fs)) ≡ field ∷ fs

-- What a walk from field to field goes by, proved in `proofs/FieldWalk.antt`. The field that starts at a place is the part of the line
-- from there up to its end, and the next one starts one place after that.
pub record FieldAt (line : List ℕ) (start : ℕ) : Type 0 where
  pub from : start ≤ field_end line start
  pub up_to : field_end line start ≤ length line
  pub is : fields_from line start ≡ slice start (field_end line start) line ∷ fields_from line (field_end line start + 1)

abbrev pub FieldWalk : Type 0
FieldWalk = (line : List ℕ) (start : ℕ) → start ≤ length line → FieldAt line start

-- opens every definition above, for a proof that computes with all of them
unfoldable pub open_fields : Unit {0}
unfolding byte_before parts_of fields lines after_commas comma_joined end_step part_end field_end fields_from
open_fields = tt
