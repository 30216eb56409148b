-- Inputs and what the program writes for them, in one table. `TableHolds` is the theorem over its rows, proved in `proofs/Table.antt`.
-- Assumes nothing.
use Rattle.std.specs.Prelude.{ℕ, ◌<◌, ◌≡◌, List, [], ◌∷◌, get_or, length}
use Prim.Native.String.{String, ◌++◌}
use Rattle.format.specs.Texts.{bytes_of}
use Rattle.job.specs.Stream.{answers}

pub record Row : Type 0 where
  pub input : String
  pub output : String

-- the coordinates of S, (0,0),(4,0),(4,4),(0,4), each with the comma before it; the first apart
unfoldable pub square_rest : String
square_rest = ",0000000000000000,4010000000000000,0000000000000000,4010000000000000,4010000000000000,0000000000000000,4010000000000000"

unfoldable pub square : String
square = ",0000000000000000" ++ square_rest

unfoldable pub table : List Row
table =
    -- 01's sample
    record {
      input =
          "inset,3ff0000000000000,1,4,0000000000000000,0000000000000000,4010000000000000,0000000000000000" ++
          ",4010000000000000,4010000000000000,0000000000000000,4010000000000000\n";
      output =
          "ok,1,4,3ff0000000000000,3ff0000000000000,4008000000000000,3ff0000000000000,4008000000000000" ++
          ",4008000000000000,3ff0000000000000,4008000000000000\n";
    } ∷
    -- E10, ended by the end of input
    record {
      input = "outset,3ff0000000000000,1,4" ++ square;
      output =
          "ok,1,4,bff0000000000000,4014000000000000,bff0000000000000,bff0000000000000,4014000000000000" ++
          ",bff0000000000000,4014000000000000,4014000000000000\n";
    } ∷
    -- an offset by −0 gives the source, and a zero prints as 16 zeros
    record { input = "inset,8000000000000000,1,4,8000000000000000" ++ square_rest; output = "ok,1,4" ++ square ++ "\n" } ∷
    -- no line; an empty line; nothing follows a last LF
    record { input = ""; output = "" } ∷
    record { input = "\n"; output = "no,22\n" } ∷
    -- three lines, the last without LF
    record { input = "inset,3ff0000000000000,0\n\ninset,3ff0000000000000,1,0"; output = "no,3\nno,22\nno,4\n" } ∷
    -- 1 before 2, and 2 before 3; a NaN with another payload
    record {
      input = "inset,3ff0000000000000,0,7ff0000000000000\ninset,3ff0000000000000,0,0000000000000000,fff8000000000001";
      output =
          "no,1\nno,2\n";
    } ∷
    -- 3, no ring and a sum that is not that of the points
    record { input = "inset,7ff0000000000000,0\ninset,3ff0000000000000,2,1,2" ++ square; output = "no,3\nno,3\n" } ∷
    -- 13 and 14, of the distance
    record { input = "inset,7ff8000000000001,1,4" ++ square ++ "\ninset,bff0000000000000,1,4" ++ square; output = "no,13\nno,14\n" } ∷
    -- 22, the side
    record {
      input = "Inset,3ff0000000000000,0\ninsets,3ff0000000000000,0\n,3ff0000000000000,0\n\"inset\",3ff0000000000000,0";
      output =
          "no,22\nno,22\nno,22\nno,22\n";
    } ∷
    -- 22, `outset` with any ring count but 1
    record { input = "outset,3ff0000000000000,0\noutset,3ff0000000000000,2,4,4" ++ square ++ square; output = "no,22\nno,22\n" } ∷
    -- 22, the distance: missing, 15 digits, 17 digits, upper case
    record {
      input = "inset\ninset,3ff000000000000,0\ninset,3ff00000000000000,0\ninset,3FF0000000000000,0";
      output =
          "no,22\nno,22\nno,22\nno,22\n";
    } ∷
    -- 22, the ring count: missing, empty, a leading zero, 4 digits and more
    record {
      input =
          "inset,3ff0000000000000\ninset,3ff0000000000000,\ninset,3ff0000000000000,00\ninset,3ff0000000000000" ++
          ",01,4\ninset,3ff0000000000000,1000\ninset,3ff0000000000000,18446744073709551617,4";
      output = "no,22\nno,22\nno,22\nno,22\nno,22\nno,22\n";
    } ∷
    -- 22, fewer vertex counts than rings, and a vertex count that is none
    record {
      input = "inset,3ff0000000000000,2,4\ninset,3ff0000000000000,2,4" ++ square ++ "\ninset,3ff0000000000000,1,0x4" ++ square;
      output = "no,22\nno,22\nno,22\n";
    } ∷
    -- 22, a coordinate: 15 digits, a letter, a comma at the end of the line
    record {
      input =
          "inset,3ff0000000000000,0,000000000000000\ninset,3ff0000000000000,0,000000000000000g\ninset,3ff0000000000000,1,4" ++ square ++
          ",";
      output = "no,22\nno,22\nno,22\n";
    } ∷
    -- 22, the bytes CR, space, NUL and 233
    record {
      input = "inset,3ff0000000000000,0\r\ninset,3ff0000000000000,0 \ninset,3ff0000000000000,0\0\nénset,3ff0000000000000,0";
      output = "no,22\nno,22\nno,22\nno,22\n";
    } ∷
    []

abbrev pub row_at : ℕ → Row
row_at k = get_or table k (record { input = ""; output = "" })

-- for every row's input the program writes the row's output
abbrev pub TableHolds : Type 0
TableHolds = (k : ℕ) → k < length table → answers (bytes_of (row_at k).input) ≡ bytes_of (row_at k).output
