-- One line of a block as code, and the whole block. Assumes nothing.
use Prim.Native.Nat.{ℕ, zero, suc, ◌+◌, ◌-◌, ◌≤◌, ◌<◌}
use native.Mathlib.Nat.{le_antisymm, add-le-add, le_refl}
use native.Mathlib.Omega.{arith}
use native.Mathlib.Numerals.{add-one-le}
use mathlib.Core.Bool.{Bool, true, false, cond, not, false≢true}
use mathlib.Core.Path.{◌≡◌, refl, sym, ap, ◌∙◌, subst}
use mathlib.Core.List.{List}
use lib.Dec.{leb, eqb}
use lib.ListN.{length, take, drop}
use borrow.Author.Tests.{le-leb, lt-leb, ltb-true, not-true, not-false}
use Rattle.base.specs.Loop.{rounds}
use Rattle.base.proofs.Laws.{next_round, stays_to}
use Rattle.format_digits.specs.Stores.{put}
use Rattle.job.specs.Stream.{answered}
use Rattle.job_stream.specs.declared.Next.{Next}
use Rattle.job_stream.specs.declared.Outcome.{Outcome}
use Rattle.job_stream.specs.declared.Outcome.TheVariants.{Whole, Unheld, Miscounted}
use Rattle.job_stream.specs.Feeding.{before_feed, line_end, line_part, count_with, is_ended, is_direct, next_count, next_held, next_bytes, next_of, Feed, feed_cut, feed_answered, feed_full, feed_ended, feed_line, feed_step}
use Rattle.job_stream.specs.Feeding.{feed_start, fed, how_ended, memory_outcome}
use Rattle.job_stream.proofs.Parts.{end_from}
use Rattle.job_stream.proofs.Machine.{part_most, feeds_to}
use Rattle.job_lines.specs.declared.Put.{Put}
use Rattle.job_lines.specs.declared.Step.{Step}
use Rattle.job_lines.specs.declared.Fed.{Fed}
use Rattle.job_lines.specs.declared.Taken.{Taken}
use Rattle.job_lines.specs.declared.Last.{Last}
use Rattle.job_lines.specs.Wire.{answer_fits, answer_put, put_written, line_of, feed_of, step_told, held_of, out_of, holds, stuck, stream_fed, told, feed_as, feed_told, last_line, finished, finish_written, finish_told}

-- ---- the line that was found

line_found : (block : List ℕ) (at count : ℕ) (held : List ℕ) → line_of block at (next_of block at count) (next_held block at held count) ≡ next_bytes block at held count
unfolding line_of next_of next_bytes line_part line_end
line_found block at count held =
    ap (λ (n : ℕ). cond (is_direct block at count) (take n (drop at block)) (take (next_count block at count) (next_held block at held count))) (less at (before_feed (drop at block)))
  where
    less : (a p : ℕ) → a + p - a ≡ p
    less a p = omega arith

-- ---- one line

module _ (block : List ℕ) (at : ℕ) (held : List ℕ) (count : ℕ) (out : List ℕ) (used : ℕ) (next : Next) (e : next ≡ next_of block at count) where
  s : Feed
  s = feed_of at held count out used

  ended_is : next.ended ≡ is_ended block at
  unfolding next_of
  ended_is = ap (λ (n : Next). n.ended) e

  stop_is : next.stop ≡ line_end block at
  unfolding next_of
  stop_is = ap (λ (n : Next). n.stop) e

  direct_is : next.direct ≡ is_direct block at count
  unfolding next_of
  direct_is = ap (λ (n : Next). n.direct) e

  count_is : next.count ≡ next_count block at count
  unfolding next_of
  count_is = ap (λ (n : Next). n.count) e

  pub stop_after : at ≤ next.stop
  stop_after = subst (λ (n : ℕ). at ≤ n) (sym stop_is) (end_from block at)

  pub count_most : count ≤ 16385 → next.count ≤ 16385
  unfolding next_count
  count_most h = subst (λ (n : ℕ). n ≤ 16385) (sym count_is) (go (is_direct block at count))
    where
      go : (t : Bool) → cond t count (count_with count (line_part block at)) ≤ 16385
      go true = h
      go false = part_most count (line_part block at) h

  module _ (h : next.ended ≡ true) where
    found : is_ended block at ≡ true
    found = sym ended_is ∙ h

    pub stop_in : next.stop < length block
    unfolding is_ended
    stop_in = subst (λ (n : ℕ). n < length block) (sym stop_is) (ltb-true (line_end block at) (length block) found)

    module _ (mid : List ℕ) (q : mid ≡ next_held block at held count) where
      the_line : line_of block at next mid ≡ next_bytes block at held count
      the_line = ap (λ (n : Next). line_of block at n mid) e ∙ ap (λ (m : List ℕ). line_of block at (next_of block at count) m) q ∙ line_found block at count held

      module _ (p : Put) (r : p ≡ answer_put (line_of block at next mid) out used) where
        put_is : p ≡ answer_put (next_bytes block at held count) out used
        put_is = r ∙ ap (λ (l : List ℕ). answer_put l out used) the_line

        fits_is : p.fits ≡ leb (used + length (answered (next_bytes block at held count))) (length out)
        unfolding answer_put answer_fits
        fits_is = ap (λ (x : Put). x.fits) put_is

        module _ (t : p.fits ≡ true) where
          fit : leb (used + length (answered (next_bytes block at held count))) (length out) ≡ true
          fit = sym fits_is ∙ t

          used_is : p.used ≡ used + length (answered (next_bytes block at held count))
          unfolding answer_put answer_fits
          used_is = ap (λ (x : Put). x.used) put_is ∙ ap (λ (b : Bool). cond b (used + length (answered (next_bytes block at held count))) used) fit

          line_is : feed_line block (feed_of at held count out used) ≡ feed_answered block (feed_of at held count out used) (answered (next_bytes block at held count))
          unfolding feed_line feed_ended feed_of
          line_is = rw (found, fit) refl

          pub yes_step : ◌≡◌ {A = Step} (record { at = next.stop + 1; count = 0; used = p.used; needed = 0; more = true }) (step_told (feed_line block (feed_of at held count out used)))
          unfolding step_told feed_answered feed_of
          yes_step = rw (line_is, stop_is, used_is) refl

          pub yes_held : mid ≡ held_of (feed_line block (feed_of at held count out used))
          unfolding held_of feed_answered feed_of
          yes_held = q ∙ ap held_of (sym line_is)

          pub yes_out : (w : List ℕ) → w ≡ put_written (line_of block at next mid) out used → w ≡ out_of (feed_line block (feed_of at held count out used))
          unfolding out_of feed_answered feed_of put_written answer_fits
          yes_out w z =
              z ∙ ap (λ (l : List ℕ). put_written l out used) the_line
              ∙ ap (λ (b : Bool). cond b (put out used (answered (next_bytes block at held count))) out) fit
              ∙ ap out_of (sym line_is)

        module _ (t : p.fits ≡ false) where
          unfit : leb (used + length (answered (next_bytes block at held count))) (length out) ≡ false
          unfit = sym fits_is ∙ t

          full_is : feed_line block (feed_of at held count out used) ≡ feed_full block (feed_of at held count out used) (answered (next_bytes block at held count))
          unfolding feed_line feed_ended feed_of
          full_is = rw (found, unfit) refl

          needs : p.needed ≡ length (answered (next_bytes block at held count))
          unfolding answer_put
          needs = ap (λ (x : Put). x.needed) put_is

          pub no_step : (a : ℕ) → a ≡ cond next.direct at next.stop
              → ◌≡◌ {A = Step} (record { at = a; count = next.count; used = used; needed = p.needed; more = false }) (step_told (feed_line block (feed_of at held count out used)))
          unfolding step_told feed_full feed_of
          no_step a z = rw (full_is, z, direct_is, stop_is, count_is, needs) refl

          pub no_held : mid ≡ held_of (feed_line block (feed_of at held count out used))
          unfolding held_of feed_full feed_of
          no_held = q ∙ ap held_of (sym full_is)

          pub no_out : (w : List ℕ) → w ≡ put_written (line_of block at next mid) out used → w ≡ out_of (feed_line block (feed_of at held count out used))
          unfolding out_of feed_full feed_of put_written answer_fits
          no_out w z =
              z ∙ ap (λ (l : List ℕ). put_written l out used) the_line
              ∙ ap (λ (b : Bool). cond b (put out used (answered (next_bytes block at held count))) out) unfit
              ∙ ap out_of (sym full_is)

  module _ (h : next.ended ≡ false) where
    cut_is : feed_line block (feed_of at held count out used) ≡ feed_cut block (feed_of at held count out used)
    unfolding feed_line feed_of
    cut_is = let f : is_ended block at ≡ false = sym ended_is ∙ h in rw f refl

    pub cut_step : ◌≡◌ {A = Step} (record { at = next.stop; count = next.count; used = used; needed = 0; more = false }) (step_told (feed_line block (feed_of at held count out used)))
    unfolding step_told feed_cut feed_of
    cut_step = rw (cut_is, stop_is, count_is) refl

    pub cut_held : (mid : List ℕ) → mid ≡ next_held block at held count → mid ≡ held_of (feed_line block (feed_of at held count out used))
    unfolding held_of feed_cut feed_of
    cut_held mid q = q ∙ ap held_of (sym cut_is)

    pub cut_out : out ≡ out_of (feed_line block (feed_of at held count out used))
    unfolding out_of feed_cut feed_of
    cut_out = ap out_of (sym cut_is)

-- ---- a line where it is

pub direct_told : (block : List ℕ) (at : ℕ) (next : Next) (held out : List ℕ) (used : ℕ) (x : Put) → next.direct ≡ true
    → x ≡ answer_put (take (next.stop - at) (drop at block)) out used → x ≡ answer_put (line_of block at next held) out used
unfolding line_of
direct_told block at next held out used x d q = rw d q

pub direct_written : (block : List ℕ) (at : ℕ) (next : Next) (held out : List ℕ) (used : ℕ) (x : List ℕ) → next.direct ≡ true
    → x ≡ put_written (take (next.stop - at) (drop at block)) out used → x ≡ put_written (line_of block at next held) out used
unfolding line_of
direct_written block at next held out used x d q = rw d q

pub held_told : (block : List ℕ) (at : ℕ) (next : Next) (held out : List ℕ) (used : ℕ) (x : Put) → next.direct ≡ false
    → x ≡ answer_put (take next.count held) out used → x ≡ answer_put (line_of block at next held) out used
unfolding line_of
held_told block at next held out used x d q = rw d q

pub held_written : (block : List ℕ) (at : ℕ) (next : Next) (held out : List ℕ) (used : ℕ) (x : List ℕ) → next.direct ≡ false
    → x ≡ put_written (take next.count held) out used → x ≡ put_written (line_of block at next held) out used
unfolding line_of
held_written block at next held out used x d q = rw d q

-- ---- the whole block

-- an answer that does not fit ends the walk
none_needed : (block : List ℕ) (x : Feed) → (feed_line block x).more ≡ true → (feed_line block x).needed ≡ 0
unfolding feed_line feed_ended feed_answered feed_full feed_cut
none_needed block x = go (is_ended block x.at) (leb (x.used + length bytes) (length x.out))
  where
    bytes : List ℕ
    bytes = answered (next_bytes block x.at x.held x.count)

    go : (t u : Bool) → (cond t (cond u (feed_answered block x bytes) (feed_full block x bytes)) (feed_cut block x)).more ≡ true
        → (cond t (cond u (feed_answered block x bytes) (feed_full block x bytes)) (feed_cut block x)).needed ≡ 0
    go true true m = refl
    go true false m = absurd (false≢true m)
    go false u m = refl

not_fed : (block : List ℕ) (i : ℕ) (f : Feed) → f.more ≡ false → feed_step block i f ≡ f
unfolding feed_step
not_fed block i f m = rw m refl

module _ (block held₀ : List ℕ) (count : ℕ) (out₀ : List ℕ) (k at : ℕ) (held : List ℕ) (have : ℕ) (out : List ℕ) (used : ℕ)
    (e : feed_of at held have out used ≡ rounds (feed_step block) k (feed_start held₀ count out₀)) where
  module _ (c : count ≤ 16385) (r : 16385 ≤ length held₀) where
    pub at_in : at ≤ length block
    unfolding feed_of
    at_in = subst (λ (s : Feed). s.at ≤ length block) (sym e) (feeds_to block held₀ count out₀ c r k).taken

    pub have_most : have ≤ 16385
    unfolding feed_of
    have_most = subst (λ (s : Feed). s.count ≤ 16385) (sym e) (feeds_to block held₀ count out₀ c r k).most

  -- the last round
  module _ (a : k ≤ length block + 1) (b : length block < k) where
    all_fed : feed_of at held have out used ≡ fed block held₀ count out₀
    unfolding fed
    all_fed = e ∙ ap (λ (n : ℕ). rounds (feed_step block) n (feed_start held₀ count out₀)) (le_antisymm a (add-one-le b))

    pub end_told : ◌≡◌ {A = Taken} (record { at = at; count = have; used = used; needed = 0 }) (told (fed block held₀ count out₀))
    unfolding told feed_of
    end_told = ap told all_fed

    pub end_held : held ≡ held_of (fed block held₀ count out₀)
    unfolding held_of feed_of
    end_held = ap held_of all_fed

    pub end_out : out ≡ out_of (fed block held₀ count out₀)
    unfolding out_of feed_of
    end_out = ap out_of all_fed

  -- one round more
  module _ (s : Step) (held₁ out₁ : List ℕ) (p : s ≡ step_told (feed_line block (feed_of at held have out used)))
      (q : held₁ ≡ held_of (feed_line block (feed_of at held have out used))) (w : out₁ ≡ out_of (feed_line block (feed_of at held have out used))) where
    one_more : feed_line block (feed_of at held have out used) ≡ rounds (feed_step block) (k + 1) (feed_start held₀ count out₀)
    unfolding feed_step feed_of
    one_more = ap (λ (x : Feed). feed_step block k x) e ∙ sym (next_round (feed_step block) k (feed_start held₀ count out₀))

    more_is : s.more ≡ (feed_line block (feed_of at held have out used)).more
    unfolding step_told
    more_is = ap (λ (x : Step). x.more) p

    again : (f : Feed) → f.more ≡ true → f.needed ≡ 0 → s ≡ step_told f → held₁ ≡ held_of f → out₁ ≡ out_of f → feed_of s.at held₁ s.count out₁ s.used ≡ f
    unfolding feed_of step_told held_of out_of
    again f m n x y z = rw (x, y, z, sym m, sym n) refl

    pub goes_on : not s.more ≡ false → feed_of s.at held₁ s.count out₁ s.used ≡ rounds (feed_step block) (k + 1) (feed_start held₀ count out₀)
    goes_on h = let m = sym more_is ∙ not-false s.more h in again (feed_line block (feed_of at held have out used)) m (none_needed block (feed_of at held have out used) m) p q w ∙ one_more

    module _ (h : not s.more ≡ true) (a : k ≤ length block) where
      stopped : feed_line block (feed_of at held have out used) ≡ fed block held₀ count out₀
      unfolding fed
      stopped =
          sym (stays_to (feed_step block) (feed_start held₀ count out₀) (feed_line block (feed_of at held have out used)) (k + 1)
          (length block + 1) (add-le-add a (le_refl 1)) (sym one_more)
          (still (feed_line block (feed_of at held have out used)) (sym more_is ∙ not-true s.more h)))
        where
          still : (f : Feed) → f.more ≡ false → (i : ℕ) → feed_step block i f ≡ f
          still f m i = not_fed block i f m

      pub stop_told : ◌≡◌ {A = Taken} (record { at = s.at; count = s.count; used = s.used; needed = s.needed }) (told (fed block held₀ count out₀))
      unfolding told step_told
      stop_told = ap (λ (x : Step). record { at = x.at; count = x.count; used = x.used; needed = x.needed }) p ∙ ap told stopped

      pub stop_held : held₁ ≡ held_of (fed block held₀ count out₀)
      stop_held = q ∙ ap held_of stopped

      pub stop_out : out₁ ≡ out_of (fed block held₀ count out₀)
      stop_out = w ∙ ap out_of stopped

pub starts : (block held : List ℕ) (count : ℕ) (out : List ℕ) → feed_of 0 held count out 0 ≡ rounds (feed_step block) 0 (feed_start held count out)
unfolding feed_of feed_start rounds
starts block held count out = refl

-- ---- the memory lent for a cut line, and how a call ended

module _ (block held : List ℕ) (count : ℕ) (out : List ℕ) where
  -- what the end of the input hands back
  last_of : Put → Last
  last_of p = record { used = p.used; outcome = memory_outcome held count (how_ended p.fits p.needed) }

  module _ (n : holds held count ≡ false) (o : Outcome) (h : (x : Outcome) → memory_outcome held count x ≡ o) where
    stays : stream_fed block held count out ≡ stuck held count out
    unfolding stream_fed
    stays = rw n refl

    pub stuck_told : ◌≡◌ {A = Fed} (record { taken = 0; count = count; used = 0; outcome = o }) (feed_told block held count out)
    unfolding feed_told feed_as stuck
    stuck_told =
        ap (λ (x : Outcome). record { taken = 0; count = count; used = 0; outcome = x }) (sym (h (how_ended (eqb 0 (length block)) 0)))
        ∙ ap (feed_as block held count) (sym stays)

    pub stuck_held : held ≡ held_of (stream_fed block held count out)
    unfolding held_of stuck
    stuck_held = ap held_of (sym stays)

    pub stuck_out : out ≡ out_of (stream_fed block held count out)
    unfolding out_of stuck
    stuck_out = ap out_of (sym stays)

    no_last : last_line held count ≡ false
    unfolding last_line
    no_last = rw n refl

    unfinished : finished held count out ≡ record { fits = holds held count; used = 0; needed = 0 }
    unfolding finished
    unfinished = rw no_last refl

    pub unheld_told : ◌≡◌ {A = Last} (record { used = 0; outcome = o }) (finish_told held count out)
    unfolding finish_told last_of
    unheld_told = ap (λ (x : Outcome). record { used = 0; outcome = x }) (sym (h (how_ended (holds held count) 0))) ∙ ap last_of (sym unfinished)

    pub unheld_written : out ≡ finish_written held count out
    unfolding finish_written
    unheld_written = rw no_last refl

  module _ (h : length held < 16385) where
    pub short_held : holds held count ≡ false
    unfolding holds
    short_held = rw (lt-leb 16385 (length held) h) refl

    pub short_ends : (x : Outcome) → memory_outcome held count x ≡ Unheld
    unfolding memory_outcome
    short_ends x = rw (lt-leb 16385 (length held) h) refl

  module _ (h : 16385 ≤ length held) (c : 16385 < count) where
    pub much_held : holds held count ≡ false
    unfolding holds
    much_held = rw (le-leb 16385 (length held) h, lt-leb count 16385 c) refl

    pub much_ends : (x : Outcome) → memory_outcome held count x ≡ Miscounted
    unfolding memory_outcome
    much_ends x = rw (le-leb 16385 (length held) h, lt-leb count 16385 c) refl

  module _ (h : 16385 ≤ length held) (c : count ≤ 16385) where
    room : holds held count ≡ true
    unfolding holds
    room = rw (le-leb 16385 (length held) h, le-leb count 16385 c) refl

    pub ends_as : (x : Outcome) → memory_outcome held count x ≡ x
    unfolding memory_outcome
    ends_as x = rw (le-leb 16385 (length held) h, le-leb count 16385 c) refl

    pub is_fed : stream_fed block held count out ≡ fed block held count out
    unfolding stream_fed
    is_fed = rw room refl

    fed_as : (s : Feed) (t : Taken) (w : Outcome) → t ≡ told s → w ≡ how_ended (eqb t.at (length block)) t.needed
        → ◌≡◌ {A = Fed} (record { taken = t.at; count = t.count; used = t.used; outcome = w }) (feed_as block held count s)
    unfolding told feed_as
    fed_as s t w p q = rw (q, p, ends_as (how_ended (eqb s.at (length block)) s.needed)) refl

    pub fed_told : (t : Taken) (w : Outcome) → t ≡ told (fed block held count out) → w ≡ how_ended (eqb t.at (length block)) t.needed
        → ◌≡◌ {A = Fed} (record { taken = t.at; count = t.count; used = t.used; outcome = w }) (feed_told block held count out)
    unfolding feed_told
    fed_told t w p q = fed_as (fed block held count out) t w p q ∙ ap (feed_as block held count) (sym is_fed)

    pub fed_held : (x : List ℕ) → x ≡ held_of (fed block held count out) → x ≡ held_of (stream_fed block held count out)
    fed_held x q = q ∙ ap held_of (sym is_fed)

    pub fed_out : (x : List ℕ) → x ≡ out_of (fed block held count out) → x ≡ out_of (stream_fed block held count out)
    fed_out x q = q ∙ ap out_of (sym is_fed)

    module _ (z : count ≡ 0) where
      none_last : last_line held count ≡ false
      unfolding last_line
      none_last = rw (room, z) refl

      none_there : finished held count out ≡ record { fits = true; used = 0; needed = 0 }
      unfolding finished
      none_there = rw (none_last, room) refl

      pub none_told : ◌≡◌ {A = Last} (record { used = 0; outcome = Whole }) (finish_told held count out)
      unfolding finish_told last_of how_ended
      none_told = ap (λ (x : Outcome). record { used = 0; outcome = x }) (sym (ends_as Whole)) ∙ ap last_of (sym none_there)

      pub none_written : out ≡ finish_written held count out
      unfolding finish_written
      none_written = rw none_last refl

    module _ (z : count ≡ 0 → ⊥) where
      some_last : last_line held count ≡ true
      unfolding last_line
      some_last = rw (room, le-leb 1 count (some count z)) refl
        where
          some : (n : ℕ) → (n ≡ 0 → ⊥) → 1 ≤ n
          some zero f = absurd (f refl)
          some (suc n) f = omega arith

      last_there : finished held count out ≡ answer_put (take count held) out 0
      unfolding finished
      last_there = rw some_last refl

      pub last_told : (p : Put) (w : Outcome) → p ≡ answer_put (take count held) out 0 → w ≡ how_ended p.fits p.needed
          → ◌≡◌ {A = Last} (record { used = p.used; outcome = w }) (finish_told held count out)
      unfolding finish_told last_of
      last_told p w e q =
          ap (λ (x : Outcome). record { used = p.used; outcome = x }) (q ∙ sym (ends_as (how_ended p.fits p.needed)))
          ∙ ap last_of (e ∙ sym last_there)

      pub last_written : (x : List ℕ) → x ≡ put_written (take count held) out 0 → x ≡ finish_written held count out
      unfolding finish_written
      last_written x q = rw some_last q
