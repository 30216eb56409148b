-- What the code of a call hands back is what the definitions say. Assumes nothing.
use Prim.Native.Nat.{ℕ, ◌≤◌, ◌<◌}
use mathlib.Core.Bool.{Bool, true, false}
use mathlib.Core.Path.{◌≡◌, refl, sym, ap, ◌∙◌}
use mathlib.Core.List.{List, ◌++◌}
use lib.ListN.{length, take, drop}
use borrow.Author.Tests.{le-leb, lt-leb}
use Rattle.error.specs.declared.Refusal.{Refusal}
use Rattle.error.specs.declared.Refusal.TheVariants.{Granted, Short}
use Rattle.error.specs.Refusals.{granted}
use Rattle.error.specs.Carries.{carried}
use Rattle.told.specs.declared.LwLine.{LwLine}
use Rattle.told.specs.Told.{line_answer}
use Rattle.job_stream.specs.Feeding.{Feed, outcome_refusal}
use Rattle.job_lines.specs.declared.Fed.{Fed}
use Rattle.job_lines.specs.declared.Last.{Last}
use Rattle.job_lines.specs.Wire.{feed_as, feed_told, stream_fed, held_of, out_of, finish_told, finish_written}
use Rattle.stream_c.specs.declared.LwFed.{LwFed}
use Rattle.stream_c.specs.State.{said, saying, room, with_room, judged, passes}
use Rattle.stream_c.specs.Calls.{made_refusal, made, made_state, fed_answer, heard, feed_answer, feed_state, lw_feed, lw_feed_state, lw_feed_out}
use Rattle.stream_c.specs.Calls.{finish_answer, finish_state, lw_finish, lw_finish_state, lw_finish_out}

-- ---- a state is made

module _ (s : List ℕ) where
  pub short_made : length s < 16387 → (x : LwLine) → x ≡ line_answer (Short 16387) (carried (Short 16387)) 16387 → x ≡ made s
  unfolding made made_refusal
  short_made h x e = rw (lt-leb 16387 (length s) h) e

  pub short_kept : length s < 16387 → s ≡ made_state s
  unfolding made_state
  short_kept h = rw (lt-leb 16387 (length s) h) refl

  pub long_made : 16387 ≤ length s → (x : LwLine) → x ≡ line_answer Granted (carried Granted) 16387 → x ≡ made s
  unfolding made made_refusal
  long_made h x e = rw (le-leb 16387 (length s) h) e

  pub long_state : 16387 ≤ length s → (t : List ℕ) → t ≡ saying s 0 → t ≡ made_state s
  unfolding made_state
  long_state h t e = rw (le-leb 16387 (length s) h) e

-- ---- the state as the code asks about it

module _ (s : List ℕ) (u : Refusal) (e : u ≡ judged s) (g : Bool) (h : g ≡ granted u) (b : Bool) where
  pub asked : g ≡ b → passes s ≡ b
  unfolding passes
  asked y = ap granted (sym e) ∙ sym h ∙ y

-- ---- the next bytes of the input

module _ (block s out : List ℕ) (y : passes s ≡ true) (n : ℕ) (q : n ≡ said s) where
  fed_by : stream_fed block (take 16385 (drop 2 s)) n out ≡ stream_fed block (room s) (said s) out
  unfolding room
  fed_by = ap (λ (m : ℕ). stream_fed block (take 16385 (drop 2 s)) m out) q

  module _ (f : Fed) (e : f ≡ feed_told block (take 16385 (drop 2 s)) n out) where
    pub feed_told_as : (u : Refusal) → u ≡ heard f.outcome f.used → (x : LwFed) → x ≡ fed_answer (carried u) f.taken f.used → x ≡ lw_feed block s out
    unfolding lw_feed feed_answer room
    feed_told_as u a x b =
        b ∙ ap (λ (v : Refusal). fed_answer (carried v) f.taken f.used) a ∙ ap feed_answer (e ∙ ap (λ (m : ℕ). feed_told block (room s) m out) q) ∙ rw y refl

    count_is : f.count ≡ (stream_fed block (room s) (said s) out).count
    unfolding feed_told feed_as
    count_is = ap (λ (z : Fed). z.count) e ∙ ap (λ (z : Feed). z.count) fed_by

    pub feed_left : (w : List ℕ) → w ≡ held_of (stream_fed block (take 16385 (drop 2 s)) n out)
        → (t : List ℕ) → t ≡ saying (take 2 s ++ (w ++ drop 16385 (drop 2 s))) f.count → t ≡ lw_feed_state block s out
    unfolding lw_feed_state feed_state with_room
    feed_left w a t b =
        b ∙ ap (λ (m : ℕ). saying (with_room s w) m) count_is
        ∙ ap (λ (v : List ℕ). saying (with_room s v) (stream_fed block (room s) (said s) out).count) (a ∙ ap held_of fed_by)
        ∙ rw y refl

  pub feed_put : (o : List ℕ) → o ≡ out_of (stream_fed block (take 16385 (drop 2 s)) n out) → o ≡ lw_feed_out block s out
  unfolding lw_feed_out
  feed_put o a = a ∙ ap out_of fed_by ∙ rw y refl

module _ (block s out : List ℕ) (y : passes s ≡ false) where
  pub not_fed : (u : Refusal) → u ≡ judged s → (x : LwFed) → x ≡ fed_answer (carried u) 0 0 → x ≡ lw_feed block s out
  unfolding lw_feed
  not_fed u a x b = b ∙ ap (λ (v : Refusal). fed_answer (carried v) 0 0) a ∙ rw y refl

  pub not_fed_state : s ≡ lw_feed_state block s out
  unfolding lw_feed_state
  not_fed_state = rw y refl

  pub not_fed_out : out ≡ lw_feed_out block s out
  unfolding lw_feed_out
  not_fed_out = rw y refl

-- ---- the end of the input

module _ (s out : List ℕ) (y : passes s ≡ true) (n : ℕ) (q : n ≡ said s) where
  module _ (l : Last) (e : l ≡ finish_told (take 16385 (drop 2 s)) n out) (u : Refusal) (a : u ≡ outcome_refusal l.outcome) where
    last_is : l ≡ finish_told (room s) (said s) out
    unfolding room
    last_is = e ∙ ap (λ (m : ℕ). finish_told (room s) m out) q

    pub finish_told_as : (x : LwFed) → x ≡ fed_answer (carried u) 0 l.used → x ≡ lw_finish s out
    unfolding lw_finish finish_answer
    finish_told_as x b = b ∙ ap (λ (v : Refusal). fed_answer (carried v) 0 l.used) a ∙ ap finish_answer last_is ∙ rw y refl

    module _ (g : Bool) (h : g ≡ granted u) where
      ended : granted (outcome_refusal (finish_told (room s) (said s) out).outcome) ≡ g
      ended = ap (λ (z : Last). granted (outcome_refusal z.outcome)) (sym last_is) ∙ ap granted (sym a) ∙ sym h

      pub finish_left : g ≡ true → (t : List ℕ) → t ≡ saying s 0 → t ≡ lw_finish_state s out
      unfolding lw_finish_state finish_state
      finish_left z t b = let v = ended ∙ z in rw (y, v) b

      pub finish_kept : g ≡ false → s ≡ lw_finish_state s out
      unfolding lw_finish_state finish_state
      finish_kept z = let v = ended ∙ z in rw (y, v) refl

  pub finish_put : (o : List ℕ) → o ≡ finish_written (take 16385 (drop 2 s)) n out → o ≡ lw_finish_out s out
  unfolding lw_finish_out room
  finish_put o a = a ∙ ap (λ (m : ℕ). finish_written (room s) m out) q ∙ rw y refl

module _ (s out : List ℕ) (y : passes s ≡ false) where
  pub not_finished : (u : Refusal) → u ≡ judged s → (x : LwFed) → x ≡ fed_answer (carried u) 0 0 → x ≡ lw_finish s out
  unfolding lw_finish
  not_finished u a x b = b ∙ ap (λ (v : Refusal). fed_answer (carried v) 0 0) a ∙ rw y refl

  pub not_finished_state : s ≡ lw_finish_state s out
  unfolding lw_finish_state
  not_finished_state = rw y refl

  pub not_finished_out : out ≡ lw_finish_out s out
  unfolding lw_finish_out
  not_finished_out = rw y refl
