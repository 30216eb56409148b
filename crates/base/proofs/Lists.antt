-- A read past the end of a list, and a part up to the end. Assumes nothing.
use Prim.Native.Nat.{ℕ, ◌-◌, ◌≤◌}
use native.Mathlib.Nat.{le_of_eq}
use mathlib.Core.Path.{◌≡◌, sym}
use mathlib.Core.List.{List}
use lib.ListN.{length, get_or, take, drop, length-drop, get_or-eq_default}
use lib.Seq.{take_all}

pub past_end : {A : Type 0} (l : List A) (d : A) (k : ℕ) → length l ≤ k → d ≡ get_or l k d
past_end l d k h = sym (get_or-eq_default l d h)

pub part_from : {A : Type 0} (l : List A) (at : ℕ) → take (length l - at) (drop at l) ≡ drop at l
part_from l at = take_all (length l - at) (drop at l) (le_of_eq (length-drop at l))
