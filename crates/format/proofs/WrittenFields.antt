-- The digits of a float and of a count are one field, since no digit is a comma; a line that is written field by field has those fields.
-- Assumes nothing.
use Prim.Native.Nat.{ℕ, suc, ◌≤◌, ◌<◌, zero-le, suc-le-suc}
use native.Mathlib.Omega.{arith}
use mathlib.Core.Bool.{Bool, true, false, ◌&&◌, ◌||◌}
use mathlib.Core.Path.{◌≡◌, refl, sym, ap, ◌∙◌, subst}
use mathlib.Core.List.{List, [], ◌∷◌, ◌++◌}
use mathlib.Mathlib.Data.Bool.Basic.{and_elim_left, and_elim_right}
use borrow.Author.Tests.{leb-true, eqb-true, ne_eqb}
use lib.Dec.{leb, eqb}
use lib.ListN.{get_or, length}
use Rattle.base.proofs.Elements.{tested_at}
use Rattle.format.specs.Fields.{comma, byte_before, parts_of, fields, Single}
use Rattle.format.specs.Numerals.{is_decimal, is_hex, hex_step, is_float, decimal_step, all_decimal, leads_well, is_count}
use Rattle.format.specs.Lines.{with_field}
use Rattle.format.proofs.FieldWalk.{some_field}

pub one_field : (field : List ℕ) → ((k : ℕ) → k < length field → eqb (get_or field k 0) comma ≡ false) → Single field
unfolding fields parts_of byte_before
one_field [] h = refl
one_field (b ∷ field) h =
    ap (λ (t : Bool). byte_before t b (fields field)) (h 0 (suc-le-suc zero-le))
    ∙ ap (λ (parts : List (List ℕ)). byte_before false b parts) (one_field field (λ k l. h (suc k) (suc-le-suc l)))

-- ---- a field more

byte_and_more : (t : Bool) (b : ℕ) (part : List ℕ) (parts more : List (List ℕ))
    → byte_before t b ((part ∷ parts) ++ more) ≡ byte_before t b (part ∷ parts) ++ more
unfolding byte_before
byte_and_more true b part parts more = refl
byte_and_more false b part parts more = refl

pub fields_with : (line field : List ℕ) → Single field → fields (with_field line field) ≡ fields line ++ field ∷ []
unfolding fields parts_of byte_before with_field
fields_with [] field e = ap (λ (parts : List (List ℕ)). [] ∷ parts) e
fields_with (b ∷ line) field e =
    let (part, parts, h) = some_field line in
    ap (λ (ps : List (List ℕ)). byte_before (eqb b comma) b ps) (fields_with line field e ∙ ap (λ (ps : List (List ℕ)). ps ++ field ∷ []) h)
    ∙ byte_and_more (eqb b comma) b part parts (field ∷ [])
    ∙ ap (λ (ps : List (List ℕ)). byte_before (eqb b comma) b ps ++ field ∷ []) (sym h)

-- ---- numbers

past_comma : (b : ℕ) → 48 ≤ b → eqb b comma ≡ false
past_comma b h = ne_eqb b comma (λ (e : b ≡ comma). omega arith)

decimal_past : (b : ℕ) → is_decimal b ≡ true → 48 ≤ b
unfolding is_decimal
decimal_past b e = leb-true 48 b (and_elim_left (leb 48 b) (leb b 57) e)

hex_past : (b : ℕ) → is_hex b ≡ true → 48 ≤ b
unfolding is_hex
hex_past b e = go (is_decimal b) refl e
  where
    letter : 97 ≤ b → 48 ≤ b
    letter h = omega arith

    go : (t : Bool) → is_decimal b ≡ t → (t || (leb 97 b && leb b 102)) ≡ true → 48 ≤ b
    go true d h = decimal_past b d
    go false d h = letter (leb-true 97 b (and_elim_left (leb 97 b) (leb b 102) h))

pub float_field : (field : List ℕ) → is_float field ≡ true → Single field
unfolding is_float hex_step
float_field field e =
    let sixteen = eqb-true (length field) 16 (and_elim_left (eqb (length field) 16) _ e) in
    let digits = tested_at 16 (λ i. is_hex (get_or field i 0)) (and_elim_right (eqb (length field) 16) _ e) in
    one_field field (λ k l. past_comma (get_or field k 0) (hex_past (get_or field k 0) (digits k (subst (λ (n : ℕ). k < n) sixteen l))))

pub count_field : (field : List ℕ) → is_count field ≡ true → Single field
unfolding is_count all_decimal decimal_step
count_field field e =
    let short = and_elim_right (leb 1 (length field)) _ e in
    let digits = and_elim_right (leads_well field) _ (and_elim_right (leb (length field) 3) _ short) in
    one_field field
    (λ k l. past_comma (get_or field k 0) (decimal_past (get_or field k 0) (tested_at (length field) (λ i. is_decimal (get_or field i 0)) digits k l)))
