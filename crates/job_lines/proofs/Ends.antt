-- The end of the input writes what the machine then writes, and how a call ended is told apart. Assumes nothing.
use Prim.Native.Nat.{ℕ, ◌+◌, ◌≤◌, ◌<◌}
use native.Mathlib.Nat.{le_refl, le_trans, zero-add}
use native.Mathlib.Omega.{arith}
use mathlib.Core.Bool.{Bool, true, false, cond, ◌&&◌, false≢true}
use mathlib.Mathlib.Data.Bool.Basic.{and_elim_left, and_elim_right}
use mathlib.Core.Logic.{◌⊎◌, inl, inr}
use mathlib.Core.Path.{◌≡◌, refl, sym, ap, ◌∙◌, subst}
use mathlib.Core.List.{List, [], ◌∷◌, ◌++◌}
use lib.Dec.{leb, eqb}
use lib.ListN.{length, take, drop}
use lib.Seq.{take-append_seam, length-take-le}
use borrow.Author.Tests.{leb-true, leb-false, ltb-true, le-leb, eq-eqb, ne_eqb}
use Rattle.format_digits.specs.Stores.{put}
use Rattle.format_digits.proofs.Puts.{put_front, put_length, put_behind}
use Rattle.job.specs.Stream.{answered, with_answer, ended_by, written}
use Rattle.job_stream.specs.Feeding.{line_end, is_ended, most_held, Feed, machine, fed, how_ended}
use Rattle.job_stream.specs.Progress.{NextUnfit}
use Rattle.job_stream.specs.declared.Outcome.TheVariants.{Full}
use Rattle.job_stream.proofs.Parts.{end_from}
use Rattle.job_stream.proofs.Progress.{answered_room, stops_full}
use Rattle.job_lines.specs.declared.Put.{Put}
use Rattle.job_lines.specs.Wire.{answer_fits, answer_put, put_written, holds, stream_fed, feed_as, feed_told, last_line, finished, finish_written, finish_told}
use Rattle.job_lines.specs.Wire.{EndedBy, EndsApart, Finishes, FinishesFitting, LastUnfit, FinishedBy, FinishApart}
use Rattle.job_lines.proofs.BlockByLines.{ends_as, is_fed, short_ends, much_ends}

-- a line that has a byte is answered
ended_line : (line : List ℕ) → 1 ≤ length line → written (record { line = line; output = [] }) ≡ answered line
unfolding written ended_by with_answer
ended_line [] h = absurd (none h)
  where
    none : 1 ≤ 0 → ⊥
    none h = omega arith
ended_line (b ∷ line) h = refl

no_line : written (record { line = []; output = [] }) ≡ []
unfolding written ended_by
no_line = refl

front : (line out : List ℕ) → answer_fits line out 0 ≡ true → take (0 + length (answered line)) (put out 0 (answered line)) ≡ answered line
unfolding answer_fits
front line out h =
    ap (λ (l : List ℕ). take (0 + length (answered line)) l) (put_front out (answered line) (subst (λ (n : ℕ). n ≤ length out) (zero_plus (length (answered line))) (leb-true (0 + length (answered line)) (length out) h)))
    ∙ ap (λ (n : ℕ). take n (answered line ++ drop (length (answered line)) out)) (zero_plus (length (answered line)))
    ∙ take-append_seam (answered line) (drop (length (answered line)) out)
  where
    zero_plus : (n : ℕ) → 0 + n ≡ n
    zero_plus n = omega arith

put_front_line : (line out : List ℕ) → (answer_put line out 0).fits ≡ true → take (answer_put line out 0).used (put_written line out 0) ≡ answered line
unfolding answer_put put_written
put_front_line line out h = rw h (front line out h)

module _ (held : List ℕ) (count : ℕ) (out : List ℕ) (h : holds held count ≡ true) where
  in_held : count ≤ length held
  unfolding holds
  in_held = le_trans (leb-true count most_held (and_elim_right (leb most_held (length held)) _ h)) (leb-true most_held (length held) (and_elim_left (leb most_held (length held)) _ h))

  some_held : last_line held count ≡ true → 1 ≤ length (take count held)
  unfolding last_line
  some_held e = subst (λ (n : ℕ). 1 ≤ n) (sym (length-take-le count held in_held)) (leb-true 1 count (and_elim_right (holds held count) _ e))

  none_held : last_line held count ≡ false → count ≡ 0
  unfolding last_line
  none_held e = zero_of count (leb-false 1 count (ap (λ (t : Bool). t && leb 1 count) (sym h) ∙ e))
    where
      zero_of : (n : ℕ) → n < 1 → n ≡ 0
      zero_of n l = omega arith

pub finishes_fitting : FinishesFitting
unfolding finished finish_written finish_told
finishes_fitting held count out h f = go (last_line held count) refl f
  where
    go : (t : Bool) → last_line held count ≡ t → (cond t (answer_put (take count held) out 0) (record { fits = holds held count; used = 0; needed = 0 })).fits ≡ true
        → take (cond t (answer_put (take count held) out 0) (record { fits = holds held count; used = 0; needed = 0 })).used (cond t (put_written (take count held) out 0) out) ≡ written (machine held count [])
    go true e g = put_front_line (take count held) out g ∙ sym (ended_line (take count held) (some_held held count out h e))
    go false e g = sym (ap (λ (n : ℕ). written (machine held n [])) (none_held held count out h e) ∙ no_line)

-- any answer fits 16,385 bytes
always_fits : (line out : List ℕ) → 16385 ≤ length out → (answer_put line out 0).fits ≡ true
unfolding answer_put answer_fits
always_fits line out o =
    le-leb (0 + length (answered line)) (length out)
    (subst (λ (n : ℕ). n ≤ length out) (sym (zero-add (length (answered line)))) (le_trans (answered_room line) o))

finish_fits : (held : List ℕ) (count : ℕ) (out : List ℕ) → holds held count ≡ true → 16385 ≤ length out → (finished held count out).fits ≡ true
unfolding finished
finish_fits held count out h o = go (last_line held count)
  where
    go : (t : Bool) → (cond t (answer_put (take count held) out 0) (record { fits = holds held count; used = 0; needed = 0 })).fits ≡ true
    go true = always_fits (take count held) out o
    go false = h

module _ (held : List ℕ) (count : ℕ) (h : holds held count ≡ true) where
  pub held_room : most_held ≤ length held
  unfolding holds
  held_room = leb-true most_held (length held) (and_elim_left (leb most_held (length held)) _ h)

  pub held_most : count ≤ most_held
  unfolding holds
  held_most = leb-true count most_held (and_elim_right (leb most_held (length held)) _ h)

pub finishes : Finishes
unfolding finish_told how_ended
finishes held count out h o =
    let f = finish_fits held count out h o in
    (ends_as [] held count out (held_room held count h) (held_most held count h) _ ∙ ap (λ (t : Bool). how_ended t (finished held count out).needed) f, finishes_fitting held count out h f)

-- ---- how a call ended

in_block : (block : List ℕ) (at : ℕ) → is_ended block at ≡ true → line_end block at < length block
unfolding is_ended
in_block block at e = ltb-true (line_end block at) (length block) e

module _ (block held : List ℕ) (count : ℕ) (out : List ℕ) where
  enough_ends : holds held count ≡ true → EndedBy block (fed block held count out) (feed_told block held count out)
  unfolding feed_told feed_as how_ended
  enough_ends h = go (stops_full block held count out (held_most held count h) (held_room held count h))
    where
      same : stream_fed block held count out ≡ fed block held count out
      same = is_fed block held count out (held_room held count h) (held_most held count h)

      ends : (t : Bool) → eqb (stream_fed block held count out).at (length block) ≡ t → (feed_told block held count out).outcome ≡ how_ended t (stream_fed block held count out).needed
      ends t e = ends_as block held count out (held_room held count h) (held_most held count h) _ ∙ ap (λ (u : Bool). how_ended u (stream_fed block held count out).needed) e

      -- an LF that is ahead is in the block
      ahead : NextUnfit block (fed block held count out) → (fed block held count out).at ≡ length block → ⊥
      ahead u e = past (line_end block (fed block held count out).at) (fed block held count out).at (length block) e (end_from block (fed block held count out).at) (in_block block _ u.ahead)
        where
          past : (x a n : ℕ) → a ≡ n → a ≤ x → x < n → ⊥
          past x a n p q r = omega arith

      go : ((fed block held count out).at ≡ length block) ⊎ NextUnfit block (fed block held count out)
          → EndedBy block (fed block held count out) (feed_told block held count out)
      go (inl e) = let w = ap (λ (s : Feed). s.at) same ∙ e in inl (ends true (eq-eqb _ _ w), w)
      go (inr u) =
          inr (ends false (ne_eqb _ _ (λ w. ahead u (sym (ap (λ (s : Feed). s.at) same) ∙ w))) ∙ ap Full (ap (λ (s : Feed). s.needed) same ∙ u.needed), u)

pub ends_apart : EndsApart
unfolding feed_told feed_as
ends_apart block held count out =
    record {
      unheld = λ h. short_ends block held count out h _;
      miscounted = λ h c. much_ends block held count out h c _;
      enough = enough_ends block held count out;
    }

-- ---- how the input's end was answered

module _ (held : List ℕ) (count : ℕ) (out : List ℕ) (h : holds held count ≡ true) where
  -- only a line's answer does not fit
  is_last : (finished held count out).fits ≡ false → last_line held count ≡ true
  unfolding finished
  is_last f = go (last_line held count) f
    where
      go : (t : Bool) → (cond t (answer_put (take count held) out 0) (record { fits = holds held count; used = 0; needed = 0 })).fits ≡ false → t ≡ true
      go true g = refl
      go false g = absurd (false≢true (sym g ∙ h))

  last_put : last_line held count ≡ true → finished held count out ≡ answer_put (take count held) out 0
  unfolding finished
  last_put l = rw l refl

  last_needed : last_line held count ≡ true → (finished held count out).needed ≡ length (answered (take count held))
  unfolding answer_put
  last_needed l = ap (λ (p : Put). p.needed) (last_put l)

  last_unfit : (finished held count out).fits ≡ false → LastUnfit held count out
  unfolding answer_put answer_fits last_line
  last_unfit f =
      let l = is_last f in
      record {
        last = leb-true 1 count (and_elim_right (holds held count) _ l);
        unfit = subst (λ (n : ℕ). length out < n) (zero-add (length (answered (take count held))))
            (leb-false (0 + length (answered (take count held))) (length out) (sym (ap (λ (p : Put). p.fits) (last_put l)) ∙ f));
      }

  last_ends : FinishedBy held count out
  unfolding finish_told how_ended
  last_ends = go (finished held count out).fits refl
    where
      ends : (t : Bool) → (finished held count out).fits ≡ t → (finish_told held count out).outcome ≡ how_ended t (finished held count out).needed
      ends t e = ends_as [] held count out (held_room held count h) (held_most held count h) _ ∙ ap (λ (u : Bool). how_ended u (finished held count out).needed) e

      go : (t : Bool) → (finished held count out).fits ≡ t → FinishedBy held count out
      go true e = inl (ends true e, finishes_fitting held count out h e)
      go false e = inr (ends false e ∙ ap Full (last_needed (is_last e)), last_unfit e)

pub finish_apart : FinishApart
unfolding finish_told
finish_apart held count out =
    record {
      unheld = λ h. short_ends [] held count out h _;
      miscounted = λ h c. much_ends [] held count out h c _;
      enough = last_ends held count out;
    }

-- ---- what the end of the input leaves alone

module _ (held : List ℕ) (count : ℕ) (out : List ℕ) where
  pub finish_size : length (finish_written held count out) ≡ length out
  unfolding finish_written put_written
  finish_size = go (last_line held count) (answer_fits (take count held) out 0)
    where
      go : (t u : Bool) → length (cond t (cond u (put out 0 (answered (take count held))) out) out) ≡ length out
      go true true = put_length out 0 (answered (take count held))
      go true false = refl
      go false u = refl

  pub finish_behind : drop (finish_told held count out).used (finish_written held count out) ≡ drop (finish_told held count out).used out
  unfolding finish_told finished finish_written answer_put put_written
  finish_behind = go (last_line held count) (answer_fits (take count held) out 0)
    where
      bytes : List ℕ
      bytes = answered (take count held)

      line : Bool → Put
      line u = record { fits = u; used = cond u (0 + length bytes) 0; needed = length bytes }

      none : Put
      none = record { fits = holds held count; used = 0; needed = 0 }

      go : (t u : Bool) → drop (cond t (line u) none).used (cond t (cond u (put out 0 bytes) out) out) ≡ drop (cond t (line u) none).used out
      go true true = put_behind out 0 bytes (0 + length bytes) (le_refl (0 + length bytes))
      go true false = refl
      go false u = refl
