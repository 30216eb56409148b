-- The fields of a line, joined by commas, are the line, and a line that is joined from fields has those fields. Assumes nothing.
use Prim.Native.Nat.{ℕ, suc, zero-le, suc-le-suc}
use mathlib.Core.Bool.{Bool, true, false}
use mathlib.Core.Path.{◌≡◌, refl, sym, ap, ◌∙◌}
use mathlib.Core.List.{List, [], ◌∷◌, ◌++◌, append-nil, append_assoc}
use borrow.Author.Tests.{eqb-true}
use lib.Dec.{eqb}
use Rattle.format.specs.Fields.{comma, byte_before, parts_of, fields, after_commas, comma_joined, FieldsJoined, FieldsAfter, JoinedFields}
use Rattle.format.specs.Lines.{with_field}
use Rattle.format.proofs.FieldWalk.{some_field}
use Rattle.format.proofs.WrittenFields.{fields_with}

byte_joined : (t : Bool) (b : ℕ) → eqb b comma ≡ t → (part : List ℕ) (parts : List (List ℕ))
    → comma_joined (byte_before t b (part ∷ parts)) ≡ b ∷ comma_joined (part ∷ parts)
unfolding comma_joined after_commas byte_before
byte_joined true b e part parts = ap (λ (c : ℕ). c ∷ (part ++ after_commas parts)) (sym (eqb-true b comma e))
byte_joined false b e part parts = refl

pub fields_joined : FieldsJoined
unfolding fields parts_of comma_joined after_commas
fields_joined [] = refl
fields_joined (b ∷ line) =
    let (part, parts, e) = some_field line in
    ap (λ (ps : List (List ℕ)). comma_joined (byte_before (eqb b comma) b ps)) e
    ∙ byte_joined (eqb b comma) b refl part parts
    ∙ ap (λ (l : List ℕ). b ∷ l) (ap comma_joined (sym e) ∙ fields_joined line)

pub fields_after : FieldsAfter
unfolding after_commas with_field
fields_after line [] h = ap fields (append-nil line) ∙ sym (append-nil (fields line))
fields_after line (f ∷ fs) h =
    ap fields (sym (append_assoc line (comma ∷ f) (after_commas fs)))
    ∙ fields_after (with_field line f) fs (λ k l. h (suc k) (suc-le-suc l))
    ∙ ap (λ (gs : List (List ℕ)). gs ++ fs) (fields_with line f (h 0 (suc-le-suc zero-le)))
    ∙ append_assoc (fields line) (f ∷ []) fs

pub joined_fields : JoinedFields
unfolding comma_joined
joined_fields field fs e h = fields_after field fs h ∙ ap (λ (gs : List (List ℕ)). gs ++ fs) e
