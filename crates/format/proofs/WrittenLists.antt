-- Numbers written one list after the other, and the word that a line of them starts with. Assumes nothing.
use Prim.Native.Nat.{ℕ}
use mathlib.Core.Path.{◌≡◌, refl, ap, ◌∙◌}
use mathlib.Core.List.{List, ◌∷◌, ◌++◌, append_assoc}
use lib.Ieee.{Float, nan}
use lib.ListN.{length}
use Rattle.base.proofs.Laws.{rounds_keep}
use Rattle.base.proofs.Elements.{walk_append}
use Rattle.format.specs.Fields.{comma}
use Rattle.format.specs.Numerals.{count_digits, float_digits}
use Rattle.format.specs.Lines.{with_field, count_field_step, with_counts, float_field_step, with_floats, ok_word, no_word, ok_line, no_line}

pub counts_parts : (front back line : List ℕ) → with_counts (front ++ back) line ≡ with_counts back (with_counts front line)
unfolding with_counts count_field_step
counts_parts front back line = walk_append (λ l n. with_field l (count_digits n)) 0 front back line

pub floats_parts : (front back : List Float) (line : List ℕ) → with_floats (front ++ back) line ≡ with_floats back (with_floats front line)
unfolding with_floats float_field_step
floats_parts front back line = walk_append (λ l x. with_field l (float_digits x)) nan front back line

-- ---- how a line starts

-- the line has the word, and then at least one field
abbrev pub After : List ℕ → List ℕ → Type 0
After word line = (rest : List ℕ) × (line ≡ with_field word rest)

after_field : (word line field : List ℕ) → After word line → After word (with_field line field)
unfolding with_field
after_field word line field (rest, e) = (rest ++ comma ∷ field, ap (λ (l : List ℕ). l ++ comma ∷ field) e ∙ append_assoc word (comma ∷ rest) (comma ∷ field))

after_counts : (word : List ℕ) (counts line : List ℕ) → After word line → After word (with_counts counts line)
unfolding with_counts count_field_step
after_counts word counts line h = rounds_keep (count_field_step counts) (λ k l. After word l) line h (λ k l a. after_field word l _ a) (length counts)

after_floats : (word : List ℕ) (floats : List Float) (line : List ℕ) → After word line → After word (with_floats floats line)
unfolding with_floats float_field_step
after_floats word floats line h = rounds_keep (float_field_step floats) (λ k l. After word l) line h (λ k l a. after_field word l _ a) (length floats)

pub after_ok : (counts : List ℕ) (floats : List Float) → After ok_word (ok_line counts floats)
unfolding ok_line
after_ok counts floats =
    after_floats ok_word floats (with_counts counts (with_field ok_word (count_digits (length counts))))
    (after_counts ok_word counts (with_field ok_word (count_digits (length counts))) (count_digits (length counts), refl))

pub after_no : (n : ℕ) → After no_word (no_line n)
unfolding no_line
after_no n = (count_digits n, refl)
