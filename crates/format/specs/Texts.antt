-- A text as bytes, for lines that are written out. Assumes nothing.
use Rattle.std.specs.Prelude.{ℕ, List, [], ◌∷◌}
use Prim.Native.Char.{code}
use Prim.Native.String.{String, [] as no_text, ◌∷◌ as ◌then◌}

-- the bytes of a text whose characters all lie below 128, or, for a byte above 127, the character of that number
unfoldable pub bytes_of : String → List ℕ
bytes_of no_text = []
bytes_of (c then s) = code c ∷ bytes_of s
