-- The lists of a line, by the walks over its fields. Assumes nothing.
use Prim.Native.Nat.{ℕ, ◌+◌, ◌-◌, ◌≤◌, ◌<◌}
use mathlib.Core.Bool.{Bool, true, false, cond, ◌&&◌}
use mathlib.Core.Path.{◌≡◌, refl, sym, ap, ◌∙◌, subst}
use mathlib.Core.List.{List, [], ◌++◌}
use lib.Dec.{leb}
use lib.Ieee.{Float}
use lib.ListN.{get_or, length, drop, length-drop}
use borrow.Author.Tests.{le-leb, lt-leb}
use Rattle.std.proofs.Common.{Option, None, Some}
use Rattle.error.specs.declared.Refusal.{Refusal}
use Rattle.error.specs.declared.Refusal.TheVariants.{Granted, Short, Job}
use Rattle.error.specs.Refusals.{granted, open_refusals}
use Rattle.format.specs.Numerals.{is_float, float_of, is_count, count_of}
use Rattle.format.specs.Fields.{fields_from}
use Rattle.format.specs.Lines.{are_counts, counts_test_step, counts_of, counts_step, are_floats, floats_test_step, floats_of, floats_step}
use Rattle.base.proofs.Elements.{made_length}
use Rattle.format_job.specs.Reads.{Taken, taken, all_taken, WalkedAt, AllAt, front_written, room_refusal, lists_formed, lists_refusal, ListsRead}
use Rattle.format_job.proofs.Parses.{taken_tests, job_no}
use Rattle.format_job.proofs.Held.{held_from}

short_no : (n : ℕ) → granted (Short n) ≡ false
unfolding open_refusals
short_no n = refl

granted_yes : granted Granted ≡ true
unfolding open_refusals
granted_yes = refl

module _ (line : List ℕ) (start r : ℕ) where
  abbrev gs : List (List ℕ)
  gs = fields_from line start

  abbrev m : ℕ
  m = length gs - r

  -- ---- the first walk

  counts_sound : (before : List ℕ) (t : Bool) → (taken is_count count_of gs r before).sound ≡ t → are_counts gs 0 r ≡ t
  unfolding are_counts counts_test_step
  counts_sound before t e = sym (taken_tests is_count count_of gs 0 r before) ∙ e

  floats_taken : (next : ℕ) (before : List Float) → fields_from line next ≡ drop r gs
      → taken is_float float_of (fields_from line next) (length (fields_from line next)) before ≡ taken is_float float_of (drop r gs) m before
  floats_taken next before e =
      ap (λ (fs : List (List ℕ)). taken is_float float_of fs (length fs) before) e ∙ ap (λ (n : ℕ). taken is_float float_of (drop r gs) n before) (length-drop r gs)

  floats_sound : (next : ℕ) (before : List Float) (t : Bool) → fields_from line next ≡ drop r gs → (all_taken is_float float_of line next before).sound ≡ t → are_floats gs r m ≡ t
  unfolding are_floats floats_test_step
  floats_sound next before t e s =
      sym (ap (λ (t : Taken Float). t.sound) (floats_taken next before e) ∙ taken_tests is_float float_of gs r m before) ∙ s

  floats_count : (next count : ℕ) → fields_from line next ≡ drop r gs → count ≡ length (fields_from line next) → count ≡ m
  floats_count next count e c = c ∙ ap (λ (fs : List (List ℕ)). length fs) e ∙ length-drop r gs

  -- ---- what is handed back

  module _ (lengths₀ : List ℕ) (coordinates₀ : List Float) where
    refused_by : (x : Refusal) → lists_refusal gs r lengths₀ coordinates₀ ≡ x → granted x ≡ false → ListsRead gs r lengths₀ lengths₀ coordinates₀ coordinates₀ x 0
    unfolding front_written
    refused_by x e g =
        let no : granted (lists_refusal gs r lengths₀ coordinates₀) ≡ false = ap granted e ∙ g in
        record {
          refusal_is = sym e;
          count_is = ap (λ (t : Bool). cond t m 0) (sym no);
          lengths_are = ap (λ (t : Bool). cond t (counts_of gs 0 r ++ drop (length (counts_of gs 0 r)) lengths₀) lengths₀) (sym no);
          coordinates_are = ap (λ (t : Bool). cond t (floats_of gs r m ++ drop (length (floats_of gs r m)) coordinates₀) coordinates₀) (sym no);
        }

    unformed : lists_formed gs r ≡ false → ListsRead gs r lengths₀ lengths₀ coordinates₀ coordinates₀ Job 0
    unfolding lists_refusal
    unformed f = refused_by Job (ap (λ (t : Bool). cond t (room_refusal r m lengths₀ coordinates₀) Job) f) job_no

    pub no_counts : (after : List ℕ) → WalkedAt is_count count_of line start r [] after None → ListsRead gs r lengths₀ lengths₀ coordinates₀ coordinates₀ Job 0
    unfolding lists_formed
    no_counts after w = unformed (ap (λ (t : Bool). t && are_floats gs r m) (counts_sound [] false w.rest))

    module _ (next : ℕ) (looked : List ℕ) (w : WalkedAt is_count count_of line start r [] looked (Some next)) where
      counts_yes : are_counts gs 0 r ≡ true
      counts_yes = counts_sound [] true w.rest.0

      pub no_floats : (after : List Float) → AllAt is_float float_of line next [] after None → ListsRead gs r lengths₀ lengths₀ coordinates₀ coordinates₀ Job 0
      unfolding lists_formed
      no_floats after a = unformed (ap (λ (t : Bool). t && are_floats gs r m) counts_yes ∙ floats_sound next [] false w.rest.1 a.count)

      module _ (count : ℕ) (seen : List Float) (a : AllAt is_float float_of line next [] seen (Some count)) where
        floats_yes : are_floats gs r m ≡ true
        floats_yes = floats_sound next [] true w.rest.1 a.count.0

        formed : lists_formed gs r ≡ true
        unfolding lists_formed
        formed = ap (λ (b : Bool). b && are_floats gs r m) counts_yes ∙ floats_yes

        number : count ≡ m
        number = floats_count next count w.rest.1 a.count.1

        room : lists_refusal gs r lengths₀ coordinates₀ ≡ room_refusal r m lengths₀ coordinates₀
        unfolding lists_refusal
        room = ap (λ (b : Bool). cond b (room_refusal r m lengths₀ coordinates₀) Job) formed

        few_counts : length lengths₀ < r → lists_refusal gs r lengths₀ coordinates₀ ≡ Short r
        unfolding room_refusal
        few_counts h = room ∙ ap (λ (b : Bool). cond b (cond (leb m (length coordinates₀)) Granted (Short m)) (Short r)) (lt-leb r (length lengths₀) h)

        pub short_counts : length lengths₀ < r → ListsRead gs r lengths₀ lengths₀ coordinates₀ coordinates₀ (Short r) 0
        short_counts h = refused_by (Short r) (few_counts h) (short_no r)

        few_coordinates : r ≤ length lengths₀ → length coordinates₀ < m → lists_refusal gs r lengths₀ coordinates₀ ≡ Short m
        unfolding room_refusal
        few_coordinates h l =
            room ∙ ap (λ (b : Bool). cond b (cond (leb m (length coordinates₀)) Granted (Short m)) (Short r)) (le-leb r (length lengths₀) h)
            ∙ ap (λ (b : Bool). cond b Granted (Short m)) (lt-leb m (length coordinates₀) l)

        pub short_coordinates : r ≤ length lengths₀ → length coordinates₀ < count → ListsRead gs r lengths₀ lengths₀ coordinates₀ coordinates₀ (Short count) 0
        short_coordinates h l =
            subst (λ (n : ℕ). ListsRead gs r lengths₀ lengths₀ coordinates₀ coordinates₀ (Short n) 0) (sym number)
            (refused_by (Short m) (few_coordinates h (subst (λ (n : ℕ). length coordinates₀ < n) number l)) (short_no m))

        all_room : r ≤ length lengths₀ → m ≤ length coordinates₀ → lists_refusal gs r lengths₀ coordinates₀ ≡ Granted
        unfolding room_refusal
        all_room h l =
            room ∙ ap (λ (b : Bool). cond b (cond (leb m (length coordinates₀)) Granted (Short m)) (Short r)) (le-leb r (length lengths₀) h)
            ∙ ap (λ (b : Bool). cond b Granted (Short m)) (le-leb m (length coordinates₀) l)

        lengths_held : (lengths₁ : List ℕ) → r ≤ length lengths₀ → lengths₁ ≡ (taken is_count count_of gs r lengths₀).out → lengths₁ ≡ counts_of gs 0 r ++ drop (length (counts_of gs 0 r)) lengths₀
        unfolding counts_of counts_step are_counts counts_test_step
        lengths_held lengths₁ h q =
            held_from is_count count_of gs 0 r lengths₀ (counts_of gs 0 r) lengths₁ refl q counts_yes
            (subst (λ (n : ℕ). n ≤ length lengths₀) (sym (made_length (λ k. count_of (get_or gs (0 + k) [])) r)) h)

        coordinates_held : (coordinates₁ : List Float) → m ≤ length coordinates₀ →
            coordinates₁ ≡ (taken is_float float_of (drop r gs) m coordinates₀).out →
            coordinates₁ ≡ floats_of gs r m ++ drop (length (floats_of gs r m)) coordinates₀
        unfolding floats_of floats_step are_floats floats_test_step
        coordinates_held coordinates₁ h q =
            held_from is_float float_of gs r m coordinates₀ (floats_of gs r m) coordinates₁ refl q floats_yes
            (subst (λ (n : ℕ). n ≤ length coordinates₀) (sym (made_length (λ k. float_of (get_or gs (r + k) [])) m)) h)

        pub all_read : r ≤ length lengths₀ → count ≤ length coordinates₀ →
            (lengths₁ : List ℕ) (coordinates₁ : List Float) (n₁ : Option ℕ) →
            WalkedAt is_count count_of line start r lengths₀ lengths₁ n₁
            → (n₂ : Option ℕ) → AllAt is_float float_of line next coordinates₀ coordinates₁ n₂ → ListsRead gs r lengths₀ lengths₁ coordinates₀ coordinates₁ Granted count
        unfolding front_written
        all_read h l lengths₁ coordinates₁ n₁ w₁ n₂ a₂ =
            let l' : m ≤ length coordinates₀ = subst (λ (n : ℕ). n ≤ length coordinates₀) number l in
            let yes : granted (lists_refusal gs r lengths₀ coordinates₀) ≡ true = ap granted (all_room h l') ∙ granted_yes in
            record {
              refusal_is = sym (all_room h l');
              count_is = number ∙ ap (λ (b : Bool). cond b m 0) (sym yes);
              lengths_are = lengths_held lengths₁ h w₁.after_is ∙ ap (λ (b : Bool). cond b (counts_of gs 0 r ++ drop (length (counts_of gs 0 r)) lengths₀) lengths₀) (sym yes);
              coordinates_are =
                  coordinates_held coordinates₁ l' (a₂.after_is ∙ ap (λ (x : Taken Float). x.out) (floats_taken next coordinates₀ w.rest.1))
                  ∙ ap (λ (b : Bool). cond b (floats_of gs r m ++ drop (length (floats_of gs r m)) coordinates₀) coordinates₀) (sym yes);
            }
