-- The bytes of a state, and what a call answers of it. Assumes nothing.
use Prim.Native.Nat.{ℕ, ◌+◌, ◌-◌, ◌%◌, ◌≤◌, ◌<◌}
use native.Mathlib.Omega.{arith}
use mathlib.Core.Bool.{Bool, true, false, cond, false≢true}
use mathlib.Core.Path.{◌≡◌, refl, sym, ap, ◌∙◌, subst}
use mathlib.Core.List.{List, [], ◌∷◌, ◌++◌}
use lib.Dec.{leb, leb→le}
use lib.ListN.{set, length, take, drop, length-append, length-drop, length-set, take-append-drop}
use lib.Seq.{length_front, length-take-le, drop-set-lt, drop-drop, drop_at, take_at}
use borrow.Author.Tests.{leb-true, le-leb, lt-leb, eq-eqb, ne_eqb}
use Rattle.error.specs.declared.Refusal.{Refusal}
use Rattle.error.specs.declared.Refusal.TheVariants.{Granted, Short, Shape}
use Rattle.error.specs.Refusals.{granted, open_refusals}
use Rattle.job_stream.specs.declared.Outcome.{Outcome}
use Rattle.job_stream.specs.Feeding.{outcome_refusal, fed}
use Rattle.job_stream.proofs.Machine.{feeds}
use Rattle.job_lines.specs.Wire.{holds, stuck, stream_fed, held_of}
use Rattle.job_lines.proofs.Ends.{held_room, held_most}
use Rattle.stream_c.specs.State.{count_of, said, saying, room, with_room, judged, passes}
use Rattle.stream_c.specs.Calls.{heard}

-- ---- a state that is judged

pub judged_short : (s : List ℕ) → length s < 16387 → Short 16387 ≡ judged s
unfolding judged
judged_short s h = rw (lt-leb 16387 (length s) h) refl

module _ (s : List ℕ) (h : 16387 ≤ length s) (n : ℕ) (e : n ≡ said s) where
  pub judged_much : 16385 < n → Shape ≡ judged s
  unfolding judged
  judged_much c = rw (le-leb 16387 (length s) h, sym e, lt-leb n 16385 c) refl

  pub judged_fine : n ≤ 16385 → Granted ≡ judged s
  unfolding judged
  judged_fine c = rw (le-leb 16387 (length s) h, sym e, le-leb n 16385 c) refl

module _ (s : List ℕ) (y : granted (judged s) ≡ true) where
  both : (leb 16387 (length s) ≡ true) × (leb (said s) 16385 ≡ true)
  unfolding judged open_refusals
  both = go (leb 16387 (length s)) (leb (said s) 16385) refl refl y
    where
      go : (t u : Bool) → leb 16387 (length s) ≡ t → leb (said s) 16385 ≡ u → granted (cond t (cond u Granted Shape) (Short 16387)) ≡ true
          → (leb 16387 (length s) ≡ true) × (leb (said s) 16385 ≡ true)
      go true true a b z = (a, b)
      go true false a b z = absurd (false≢true z)
      go false u a b z = absurd (false≢true z)

  pub fine_size : 16387 ≤ length s
  fine_size = leb-true 16387 (length s) both.0

  pub fine_count : said s ≤ 16385
  fine_count = leb-true (said s) 16385 both.1

-- as the code asks it
pub sized : (s : List ℕ) (u : Refusal) → u ≡ judged s → (g : Bool) → g ≡ granted u → g ≡ true → 16387 ≤ length s
sized s u e g h y = fine_size s (ap granted (sym e) ∙ sym h ∙ y)

pub two_bytes : (s : List ℕ) → 16387 ≤ length s → 2 ≤ length s
two_bytes s h = omega arith

-- ---- the room for a cut line, and the count

-- a call keeps the room's size
pub kept_size : (block held : List ℕ) (count : ℕ) (out : List ℕ) → length (held_of (stream_fed block held count out)) ≡ length held
unfolding held_of stream_fed stuck
kept_size block held count out = go (holds held count) refl
  where
    go : (t : Bool) → holds held count ≡ t → length (cond t (fed block held count out) (stuck held count out)).held ≡ length held
    go true h = (feeds block held count out (held_most held count h) (held_room held count h)).room
    go false h = refl

pub room_size : (s w : List ℕ) → length w ≡ length (take 16385 (drop 2 s)) → length (take 2 s ++ (w ++ drop 16385 (drop 2 s))) ≡ length s
room_size s w e =
    length-append (take 2 s) (w ++ drop 16385 (drop 2 s))
    ∙ ap (λ (n : ℕ). length (take 2 s) + n) (length_front (drop 2 s) w 16385 e)
    ∙ sym (length-append (take 2 s) (drop 2 s))
    ∙ ap length (take-append-drop 2 s)

pub saying_size : (s : List ℕ) (n : ℕ) → length (saying s n) ≡ length s
unfolding saying
saying_size s n = length-set (set s 0 (n % 256)) 1 _ ∙ length-set s 0 _

module _ (block s : List ℕ) (count : ℕ) (out w : List ℕ) (e : w ≡ held_of (stream_fed block (take 16385 (drop 2 s)) count out)) where
  pub fed_size : length (take 2 s ++ (w ++ drop 16385 (drop 2 s))) ≡ length s
  fed_size = room_size s w (ap length e ∙ kept_size block (take 16385 (drop 2 s)) count out)

  pub fed_two : 16387 ≤ length s → 2 ≤ length (take 2 s ++ (w ++ drop 16385 (drop 2 s)))
  fed_two h = subst (λ (n : ℕ). 2 ≤ n) (sym fed_size) (two_bytes s h)

  pub fed_said_size : (n : ℕ) (x : List ℕ) → x ≡ saying (take 2 s ++ (w ++ drop 16385 (drop 2 s))) n → length x ≡ length s
  fed_said_size n x q = ap length q ∙ saying_size (take 2 s ++ (w ++ drop 16385 (drop 2 s))) n ∙ fed_size

-- ---- how a call on a block ended

pub heard_none : (o : Outcome) (n : ℕ) (u : Refusal) → n ≡ 0 → u ≡ outcome_refusal o → u ≡ heard o n
unfolding heard
heard_none o n u z q = rw (eq-eqb n 0 z) q

pub heard_some : (o : Outcome) (n : ℕ) → (n ≡ 0 → ⊥) → Granted ≡ heard o n
unfolding heard
heard_some o n z = rw (ne_eqb n 0 z) refl

-- ---- what is stored is read back

pub said_back : (s : List ℕ) (n : ℕ) → 16387 ≤ length s → n ≤ 16385 → said (saying s n) ≡ n
unfolding said saying count_of
said_back [] n h l = absurd (none h)
  where
    none : 16387 ≤ 0 → ⊥
    none h = omega arith
said_back (a ∷ []) n h l = absurd (one h)
  where
    one : 16387 ≤ 1 → ⊥
    one h = omega arith
said_back (a ∷ b ∷ s) n h l = omega arith

pub room_kept : (s : List ℕ) (n : ℕ) → room (saying s n) ≡ room s
unfolding room saying
room_kept s n =
    ap (take 16385) (drop-set-lt 2 (set s 0 (n % 256)) 1 _ (leb→le 2 2 tt) ∙ drop-set-lt 2 s 0 _ (leb→le 1 2 tt))

pub room_back : (s h : List ℕ) → 2 ≤ length s → length h ≡ 16385 → room (with_room s h) ≡ h
unfolding room with_room
room_back s h l e =
    ap (take 16385) (drop_at (take 2 s) (h ++ drop 16385 (drop 2 s)) 2 (length-take-le 2 s l)) ∙ take_at h (drop 16385 (drop 2 s)) 16385 e

-- ---- the bytes past a state are as they were

pub saying_past : (s : List ℕ) (n : ℕ) → drop 16387 (saying s n) ≡ drop 16387 s
unfolding saying
saying_past s n = drop-set-lt 16387 (set s 0 (n % 256)) 1 _ (leb→le 2 16387 tt) ∙ drop-set-lt 16387 s 0 _ (leb→le 1 16387 tt)

pub room_past : (s h : List ℕ) → 2 ≤ length s → length h ≡ 16385 → drop 16387 (with_room s h) ≡ drop 16387 s
unfolding with_room
room_past s h l e =
    sym (drop-drop 16385 2 (take 2 s ++ (h ++ drop 16385 (drop 2 s))))
    ∙ ap (drop 16385) (drop_at (take 2 s) (h ++ drop 16385 (drop 2 s)) 2 (length-take-le 2 s l))
    ∙ drop_at h (drop 16385 (drop 2 s)) 16385 e ∙ drop-drop 16385 2 s

pub full_room : (s : List ℕ) → 16387 ≤ length s → length (room s) ≡ 16385
unfolding room
full_room s h = length-take-le 16385 (drop 2 s) (subst (λ (n : ℕ). 16385 ≤ n) (sym (length-drop 2 s)) (rest (length s) h))
  where
    rest : (n : ℕ) → 16387 ≤ n → 16385 ≤ n - 2
    rest n l = omega arith

pub passes_by : (s : List ℕ) → 16387 ≤ length s → said s ≤ 16385 → passes s ≡ true
unfolding passes judged open_refusals
passes_by s h l = rw (le-leb 16387 (length s) h, le-leb (said s) 16385 l) refl
