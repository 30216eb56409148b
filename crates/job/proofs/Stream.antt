-- The byte machine answers as the whole input is answered, wherever the input is cut into blocks. Assumes nothing.
use Prim.Native.Nat.{ℕ, suc, ◌+◌, ◌≤◌, ◌<◌, min}
use native.Mathlib.Nat.{le_refl, le_trans, le_of_lt}
use native.Mathlib.Omega.{arith}
use native.Mathlib.Numerals.{add-one-le}
use mathlib.Core.Bool.{Bool, true, false, cond, not}
use mathlib.Core.Path.{◌≡◌, refl, sym, ap, ◌∙◌, subst}
use mathlib.Core.List.{List, [], ◌∷◌, ◌++◌, append-nil, append_assoc}
use lib.Dec.{T, leb, ltb, eqb, leb→le, ltb→lt, nleb→lt, nltb→le}
use lib.Arith.{lt→nleb}
use lib.Ieee.Bits.{is_false}
use lib.ListN.{length, take, length-append, length-take}
use lib.Seq.{take_all, length-take-le, take-append-le}
use Rattle.format.specs.Fields.{line_feed, lines, parts_of, byte_before}
use Rattle.format.specs.Lines.{longest_line}
use Rattle.format.specs.JobLines.{ill_formed, ParsedJob, parse_job}
use Rattle.job.specs.AnswerLines.{job_parsed, answer_bytes, answer_line}
use Rattle.job.specs.Stream.{answered, all_answered, answers, StreamState, stream_start, kept_byte, with_byte, with_answer, byte_by, byte_taken, block_step, block_taken, ended_by, written, blocks_taken, joined, after_output}
use Rattle.job.specs.Stream.{MachineAnswers, FeedingParts, OutputAdded, AnyBlocks}
use Rattle.base.proofs.Elements.{walk_nil, walk_cons, walk_append}

-- ---- one byte, then the rest

pub block_nil : (s : StreamState) → block_taken s [] ≡ s
unfolding block_taken block_step
block_nil s = walk_nil byte_taken 0 s

pub block_cons : (s : StreamState) (b : ℕ) (block : List ℕ) → block_taken s (b ∷ block) ≡ block_taken (byte_taken s b) block
unfolding block_taken block_step
block_cons s b block = walk_cons byte_taken 0 b block s

pub feeding_parts : FeedingParts
unfolding block_taken block_step
feeding_parts s front back = walk_append byte_taken 0 front back s

-- ---- a line above the limit: one byte past it is enough

pub overlong_parse : (line : List ℕ) → leb (length line) longest_line ≡ false → parse_job line ≡ ill_formed
unfolding parse_job
overlong_parse line h = rw h

-- the first n + 1 bytes tell whether a line is longer than n
cut_parses : (n : ℕ) (A : Type 0) (f : List ℕ → A) (a : A) → ((line : List ℕ) → leb (length line) n ≡ false → f line ≡ a)
    → (line : List ℕ) → f (take (suc n) line) ≡ f line
cut_parses n A f a over line = go (leb (length line) n) refl
  where
    long : n < length line → leb (length (take (suc n) line)) n ≡ false
    long h = rw (length-take-le (suc n) line h) (is_false (leb (suc n) n) (lt→nleb (suc n) n (le_refl (suc n))))

    go : (t : Bool) → leb (length line) n ≡ t → f (take (suc n) line) ≡ f line
    go true e = ap f (take_all (suc n) line (le_trans (leb→le (length line) n (subst T (sym e) tt)) (le_of_lt (le_refl (suc n)))))
    go false e = over (take (suc n) line) (long (nleb→lt (length line) n (subst (λ (b : Bool). T (not b)) (sym e) tt))) ∙ sym (over line e)

pub cut_answer : (line : List ℕ) → answer_line (take (longest_line + 1) line) ≡ answer_line line
unfolding answer_line
cut_answer line = ap (λ p. answer_bytes (job_parsed p)) (cut_parses longest_line ParsedJob parse_job ill_formed overlong_parse line)

-- ---- the bytes that are kept of a line are its first 16,385

taken_short : (k n : ℕ) → min n k < n → k < n
taken_short k n h = omega arith

taken_long : (k n : ℕ) → n ≤ min n k → n ≤ k
taken_long k n h = omega arith

kept : (n : ℕ) (line : List ℕ) (b : ℕ) (t : Bool) → ltb (length (take n line)) n ≡ t
    → cond t (take n line ++ b ∷ []) (take n line) ≡ take n (line ++ b ∷ [])
kept n line b true e = ap (λ (l : List ℕ). l ++ b ∷ []) (take_all n line (le_of_lt short)) ∙ sym (take_all n (line ++ b ∷ []) fits)
  where
    short : length line < n
    short = taken_short (length line) n (subst (λ (k : ℕ). k < n) (length-take n line) (ltb→lt (length (take n line)) n (subst T (sym e) tt)))

    fits : length (line ++ b ∷ []) ≤ n
    fits = subst (λ (k : ℕ). k ≤ n) (sym (length-append line (b ∷ []))) (add-one-le short)
kept n line b false e =
    sym (take-append-le n line (b ∷ []) (taken_long (length line) n (subst (λ (k : ℕ). n ≤ k) (length-take n line) (nltb→le (length (take n line)) n (subst (λ (t : Bool). T (not t)) (sym e) tt)))))

pub kept_is : (line : List ℕ) (b : ℕ) → kept_byte (take (longest_line + 1) line) b ≡ take (longest_line + 1) (line ++ b ∷ [])
unfolding kept_byte
kept_is line b = kept (longest_line + 1) line b (ltb (length (take (longest_line + 1) line)) (longest_line + 1)) refl

-- ---- the lines of the bytes since the last LF and what follows them

abbrev onto : List ℕ → List (List ℕ) → List (List ℕ)
onto [] parts = parts
onto (b ∷ line) [] = (b ∷ line) ∷ []
onto (b ∷ line) (part ∷ parts) = ((b ∷ line) ++ part) ∷ parts

onto_byte : (line : List ℕ) (b : ℕ) (parts : List (List ℕ)) → onto line (byte_before false b parts) ≡ onto (line ++ b ∷ []) parts
unfolding byte_before
onto_byte [] b [] = refl
onto_byte [] b (part ∷ parts) = refl
onto_byte (c ∷ line) b [] = refl
onto_byte (c ∷ line) b (part ∷ parts) = ap (λ (l : List ℕ). (c ∷ l) ∷ parts) (sym (append_assoc line (b ∷ []) part))

onto_mark : (line : List ℕ) (b : ℕ) (parts : List (List ℕ)) → onto line (byte_before true b parts) ≡ line ∷ parts
unfolding byte_before
onto_mark [] b parts = refl
onto_mark (c ∷ line) b parts = ap (λ (l : List ℕ). (c ∷ l) ∷ parts) (append-nil line)

-- ---- the machine

-- the machine after the bytes of `line` since the last LF
abbrev in_line : List ℕ → List ℕ → StreamState
in_line line output = record { line = take (longest_line + 1) line; output = output }

abbrev AnswersFrom : List ℕ → Type 0
AnswersFrom bytes = (line output : List ℕ) → written (block_taken (in_line line output) bytes) ≡ output ++ all_answered (onto line (lines bytes))

answered_cut : (line : List ℕ) → answered (take (longest_line + 1) line) ≡ answered line
unfolding answered
answered_cut line = ap (λ (l : List ℕ). l ++ line_feed ∷ []) (cut_answer line)

at_end : AnswersFrom []
unfolding written ended_by with_answer all_answered lines parts_of
at_end [] output = ap written (block_nil (in_line [] output)) ∙ sym (append-nil output)
at_end (b ∷ line) output =
    ap written (block_nil (in_line (b ∷ line) output))
    ∙ ap (λ (l : List ℕ). output ++ l) (answered_cut (b ∷ line) ∙ sym (append-nil (answered (b ∷ line))))

at_byte : (t : Bool) (b : ℕ) (bytes : List ℕ) → AnswersFrom bytes
    → (line output : List ℕ) → written (block_taken (byte_by t (in_line line output) b) bytes) ≡ output ++ all_answered (onto line (byte_before t b (lines bytes)))
unfolding byte_by with_answer with_byte all_answered
at_byte true b bytes ih line output =
    ih [] (output ++ answered (take (longest_line + 1) line))
    ∙ ap (λ (l : List ℕ). output ++ l ++ all_answered (lines bytes)) (answered_cut line)
    ∙ append_assoc output (answered line) (all_answered (lines bytes))
    ∙ ap (λ (ls : List (List ℕ)). output ++ all_answered ls) (sym (onto_mark line b (lines bytes)))
at_byte false b bytes ih line output =
    ap (λ (l : List ℕ). written (block_taken (record { line = l; output = output }) bytes)) (kept_is line b)
    ∙ ih (line ++ b ∷ []) output
    ∙ ap (λ (ls : List (List ℕ)). output ++ all_answered ls) (sym (onto_byte line b (lines bytes)))

any_bytes : (bytes : List ℕ) → AnswersFrom bytes
unfolding lines parts_of byte_taken
any_bytes [] = at_end
any_bytes (b ∷ bytes) = λ line output.
    ap written (block_cons (in_line line output) b bytes) ∙ at_byte (eqb b line_feed) b bytes (any_bytes bytes) line output

pub machine_answers : MachineAnswers
unfolding answers stream_start
machine_answers input = any_bytes input [] []

-- ---- blocks

pub blocks_joined : (blocks : List (List ℕ)) (s : StreamState) → blocks_taken s blocks ≡ block_taken s (joined blocks)
unfolding blocks_taken joined
blocks_joined [] s = sym (block_nil s)
blocks_joined (block ∷ rest) s = blocks_joined rest (block_taken s block) ∙ sym (feeding_parts s block (joined rest))

pub any_blocks : AnyBlocks
any_blocks blocks = ap written (blocks_joined blocks stream_start) ∙ machine_answers (joined blocks)

-- ---- what was written before

abbrev OutputFrom : List ℕ → Type 0
OutputFrom block = (line output more : List ℕ) → block_taken (record { line = line; output = output ++ more }) block ≡ after_output output (block_taken (record { line = line; output = more }) block)

no_byte_after : OutputFrom []
unfolding after_output
no_byte_after line output more =
    block_nil (record { line = line; output = output ++ more }) ∙ sym (ap (after_output output) (block_nil (record { line = line; output = more })))

byte_after : (t : Bool) (b : ℕ) (block : List ℕ) → OutputFrom block
    → (line output more : List ℕ) → block_taken (byte_by t (record { line = line; output = output ++ more }) b) block ≡ after_output output (block_taken (byte_by t (record { line = line; output = more }) b) block)
unfolding byte_by with_answer with_byte
byte_after true b block ih line output more =
    ap (λ (l : List ℕ). block_taken (record { line = []; output = l }) block) (append_assoc output more (answered line)) ∙ ih [] output (more ++ answered line)
byte_after false b block ih line output more = ih (kept_byte line b) output more

any_after : (block : List ℕ) → OutputFrom block
unfolding byte_taken
any_after [] = no_byte_after
any_after (b ∷ block) = λ line output more.
    block_cons (record { line = line; output = output ++ more }) b block
    ∙ byte_after (eqb b line_feed) b block (any_after block) line output more
    ∙ sym (ap (after_output output) (block_cons (record { line = line; output = more }) b block))

pub output_added : OutputAdded
output_added line output block = ap (λ (l : List ℕ). block_taken (record { line = line; output = l }) block) (sym (append-nil output)) ∙ any_after block line output []
