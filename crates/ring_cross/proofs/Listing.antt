-- The list of the edges that are near: how it grows, and the walk along it. Assumes nothing.
use Prim.Native.Nat.{ℕ, zero, suc, ◌+◌, ◌≤◌, ◌<◌}
use native.Mathlib.Numerals.{add-one}
use native.Mathlib.Nat.{le_antisymm}
use native.Mathlib.Omega.{arith}
use mathlib.Core.Path.{◌≡◌, refl, sym, ap, ◌∙◌, subst}
use mathlib.Core.Bool.{Bool, true, false, cond}
use mathlib.Core.List.{List}
use borrow.Author.Tests.{ltb-true, ltb-false, lt-ltb, le-ltb}
use lib.Dec.{ltb, eqb}
use lib.ListN.{length, get_or, set, length-set}
use lib.Seq.{get_or-set_same, get_or-set_other}
use lib.Ieee.{Float}
use Rattle.base.specs.Loop.{rounds}
use Rattle.base.proofs.Laws.{no_round}
use Rattle.base.proofs.Choices.{by_cases}
use Rattle.plane.specs.declared.PlanarPoint.{PlanarPoint}
use Rattle.segment.specs.Segments.{segments_meet}
use Rattle.ring.specs.Ring.{vertex_at, edge_end}
use Rattle.std.specs.Prelude.{Option, None}
use Rattle.ring_cross.specs.declared.EdgePair.{EdgePair}
use Rattle.ring_cross.specs.EdgePairs.{edges}
use Rattle.ring_cross.specs.Pair.{edge_step}
use Rattle.ring_cross.specs.LeftOut.{Framed, Missed, MissedBy, stretch_from, stretch_to, Lists, ListsTo}
use Rattle.ring_cross.proofs.Frames.{left_out}
use Rattle.ring_cross.proofs.Walks.{edge_none, edge_found, edge_skipped}

-- ---- where stretches begin and end
to_entry : (xs : List ℕ) (count stop t : ℕ) → t < count → stretch_to xs count stop t ≡ get_or xs t 0
unfolding stretch_to
to_entry xs count stop t l = rw (lt-ltb t count l) refl

to_stop : (xs : List ℕ) (count stop t : ℕ) → count ≤ t → stretch_to xs count stop t ≡ stop
unfolding stretch_to
to_stop xs count stop t l = rw (le-ltb t count l) refl

after_entry : (xs : List ℕ) (t : ℕ) → stretch_from xs (t + 1) ≡ get_or xs t 0 + 1
unfolding stretch_from
after_entry xs t = rw (add-one t) refl

-- entries before `count` do not change with what is stored there
from_kept : (xs : List ℕ) (count x t : ℕ) → t ≤ count → stretch_from (set xs count x) t ≡ stretch_from xs t
unfolding stretch_from
from_kept xs count x zero l = refl
from_kept xs count x (suc t) l = ap (λ (z : ℕ). z + 1) (get_or-set_other xs count t x 0 (λ e. omega arith))

-- ---- the list grows
module _ (P : ℕ → Type 0) where
  pub nothing_listed : (xs : List ℕ) → Lists P xs 0 0
  unfolding stretch_to
  nothing_listed xs = record {
    room = omega arith;
    rising = λ t l. absurd (omega arith);
    below = λ t l. absurd (omega arith);
    left_out = λ t l k a b. absurd (omega (arith, subst (λ (z : ℕ). k < z) (to_stop xs 0 0 t (omega arith)) b));
  }

  module _ (xs : List ℕ) (count k : ℕ) (w : Lists P xs count k) where
    start_under : (t : ℕ) → t ≤ count → stretch_from xs t ≤ k
    unfolding stretch_from
    start_under zero l = omega arith
    start_under (suc t) l = let b = w.below t (omega arith) in omega (arith, b)

    -- an edge that is left out
    pub one_left_out : P k → Lists P xs count (k + 1)
    one_left_out p = record {
      room = w.room;
      rising = w.rising;
      below = λ t l. let b = w.below t l in omega (arith, b);
      left_out = λ t l j a b. by_cases t count (λ e. last t l e j a b) (λ e. inner t l (omega (arith, e)) j a b);
    }
      where
        last : (t : ℕ) → t ≤ count → t ≡ count → (j : ℕ) → stretch_from xs t ≤ j → j < stretch_to xs count (k + 1) t → P j
        last t l e j a b =
            let c = subst (λ (z : ℕ). j < z) (to_stop xs count (k + 1) t (omega (arith, e))) b in
            by_cases j k (λ q. subst P (sym q) p)
            (λ q. w.left_out t l j a (subst (λ (z : ℕ). j < z) (sym (to_stop xs count k t (omega (arith, e)))) (omega (arith, c, q))))

        inner : (t : ℕ) → t ≤ count → t < count → (j : ℕ) → stretch_from xs t ≤ j → j < stretch_to xs count (k + 1) t → P j
        inner t l e j a b = w.left_out t l j a (subst (λ (z : ℕ). j < z) (to_entry xs count (k + 1) t e ∙ sym (to_entry xs count k t e)) b)

    -- an edge that is listed
    module _ (fits : count < length xs) where
      abbrev ys : List ℕ
      ys = set xs count k

      entry_kept : (t : ℕ) → t < count → get_or ys t 0 ≡ get_or xs t 0
      entry_kept t l = get_or-set_other xs count t k 0 (λ e. omega arith)

      entry_new : get_or ys count 0 ≡ k
      entry_new = get_or-set_same xs count k 0 fits

      pub one_listed : Lists P ys (count + 1) (k + 1)
      one_listed = record {
        room = subst (λ (z : ℕ). count + 1 ≤ z) (sym (length-set xs count k)) (omega arith);
        rising = λ t l. by_cases t count (λ e. rise_last t e) (λ e. rise t (omega (arith, e)));
        below = λ t l. by_cases t count (λ e. under_last t e) (λ e. under t (omega (arith, e)));
        left_out = λ t l j a b. by_cases t (count + 1) (λ e. after t e j a b) (λ e. before t (omega (arith, e)) j a b);
      }
        where
          rise_last : (t : ℕ) → t ≡ count → stretch_from ys t ≤ get_or ys t 0
          rise_last t e =
              subst (λ (z : ℕ). stretch_from ys z ≤ get_or ys z 0) (sym e)
              (rw (from_kept xs count k count (omega arith), entry_new) (start_under count (omega arith)))

          rise : (t : ℕ) → t < count → stretch_from ys t ≤ get_or ys t 0
          rise t l = rw (from_kept xs count k t (omega arith), entry_kept t l) (w.rising t l)

          under_last : (t : ℕ) → t ≡ count → get_or ys t 0 < k + 1
          under_last t e = subst (λ (z : ℕ). get_or ys z 0 < k + 1) (sym e) (rw entry_new (omega arith))

          under : (t : ℕ) → t < count → get_or ys t 0 < k + 1
          under t l = let b = w.below t l in rw (entry_kept t l) (omega (arith, b))

          -- behind the new entry there is nothing
          after : (t : ℕ) → t ≡ count + 1 → (j : ℕ) → stretch_from ys t ≤ j → j < stretch_to ys (count + 1) (k + 1) t → P j
          after t e j a b =
              let c = subst (λ (z : ℕ). j < z) (to_stop ys (count + 1) (k + 1) t (omega (arith, e))) b in
              let d : stretch_from ys t ≡ k + 1 = ap (stretch_from ys) e ∙ after_entry ys count ∙ ap (λ (z : ℕ). z + 1) entry_new in
              absurd (omega (arith, c, d, a))

          before : (t : ℕ) → t < count + 1 → (j : ℕ) → stretch_from ys t ≤ j → j < stretch_to ys (count + 1) (k + 1) t → P j
          before t l j a b =
              let c = subst (λ (z : ℕ). j < z) (to_entry ys (count + 1) (k + 1) t l) b in
              let f = subst (λ (z : ℕ). z ≤ j) (from_kept xs count k t (omega arith)) a in
              by_cases t count
              (λ e. w.left_out t (omega arith) j f (subst (λ (z : ℕ). j < z) (sym (to_stop xs count k t (omega (arith, e)))) (subst (λ (z : ℕ). j < z) (ap (λ (x : ℕ). get_or ys x 0) e ∙ entry_new) c)))
              (λ e. inside t j f c (omega (arith, e)))
            where
              inside : (t j : ℕ) → stretch_from xs t ≤ j → j < get_or ys t 0 → t < count → P j
              inside t j f c l =
                  w.left_out t (omega arith) j f (subst (λ (z : ℕ). j < z) (entry_kept t l ∙ sym (to_entry xs count k t l)) c)

-- the edges that are looked at
pub least_within : (m room s : ℕ) → s ≡ cond (ltb m room) m room → s ≤ m
least_within m room s e = go (ltb m room) refl e
  where
    go : (t : Bool) → ltb m room ≡ t → s ≡ cond t m room → s ≤ m
    go true h e = omega arith
    go false h e = let l = ltb-false m room h in omega arith

pub least_room : (m room s : ℕ) → s ≡ cond (ltb m room) m room → s ≤ room
least_room m room s e = go (ltb m room) refl e
  where
    go : (t : Bool) → ltb m room ≡ t → s ≡ cond t m room → s ≤ room
    go true h e = let l = ltb-true m room h in omega arith
    go false h e = omega arith

-- the list, or none
pub lists_to : (m : ℕ) (P : ℕ → Type 0) (xs : List ℕ) (count k stop x y : ℕ) → stop ≤ m → k ≤ stop → stop ≤ k → Lists P xs count k →
    x ≡ cond (eqb count stop) 0 count → y ≡ cond (eqb count stop) 0 stop → ListsTo m P xs x y
lists_to m P xs count k stop x y l a b w e f = rw (e, f) (go (eqb count stop))
  where
    go : (t : Bool) → ListsTo m P xs (cond t 0 count) (cond t 0 stop)
    go true = record { within = omega arith; lists = nothing_listed P xs }
    go false = record { within = l; lists = subst (Lists P xs count) (le_antisymm a b) w }

-- what is left out, in other words
lists_so : (P Q : ℕ → Type 0) (xs : List ℕ) (count stop : ℕ) → ((k : ℕ) → P k → Q k) → Lists P xs count stop → Lists Q xs count stop
lists_so P Q xs count stop f w = record { room = w.room; rising = w.rising; below = w.below; left_out = λ t l k a b. f k (w.left_out t l k a b) }

-- ---- the walk along it
pub list_starts : (qs : List Float) (m i : ℕ) (a1 a2 : PlanarPoint) (xs : List ℕ) → rounds (edge_step qs m i a1 a2) (stretch_from xs 0) None ≡ None
unfolding stretch_from
list_starts qs m i a1 a2 xs = no_round (edge_step qs m i a1 a2) None

module _ (qs : List Float) (m i : ℕ) (a1 a2 : PlanarPoint) (xs : List ℕ) (count stop : ℕ) (w : Lists (Missed qs m a1 a2) xs count stop) where
  abbrev after : ℕ → Option EdgePair
  after k = rounds (edge_step qs m i a1 a2) k None

  upto : (t : ℕ) → t < count → after (stretch_from xs t) ≡ None → after (get_or xs t 0) ≡ None
  upto t l = edge_skipped qs m i a1 a2 (stretch_from xs t) (get_or xs t 0) (w.rising t l)
      (λ k u v. w.left_out t (omega arith) k u (subst (λ (z : ℕ). k < z) (sym (to_entry xs count stop t l)) v))

  pub list_goes_on : (t k : ℕ) → t < count → k ≡ get_or xs t 0 → after (stretch_from xs t) ≡ None → Missed qs m a1 a2 k → after (stretch_from xs (t + 1)) ≡ None
  list_goes_on t k l e h n =
      subst (λ (z : ℕ). after z ≡ None) (sym (after_entry xs t))
      (edge_none qs m i a1 a2 (get_or xs t 0) (upto t l h) (subst (Missed qs m a1 a2) e n))

  pub list_finds : (t k : ℕ) → t < count → k ≡ get_or xs t 0 → after (stretch_from xs t) ≡ None → segments_meet a1 a2 (vertex_at qs k) (edge_end qs m k) ≡ true → after stop ≡ edges i k
  list_finds t k l e h y =
      edge_found qs m i a1 a2 k stop (subst (λ (z : ℕ). z < stop) (sym e) (w.below t l)) (subst (λ (z : ℕ). after z ≡ None) (sym e) (upto t l h)) y

  pub list_ends : (t : ℕ) → t ≤ count → count ≤ t → after (stretch_from xs t) ≡ None → after stop ≡ None
  list_ends t l g h =
      edge_skipped qs m i a1 a2 (stretch_from xs t) stop (start_under (Missed qs m a1 a2) xs count stop w t l)
      (λ k u v. w.left_out t l k u (subst (λ (z : ℕ). k < z) (sym (to_stop xs count stop t g)) v)) h

-- ---- what a ring's box leaves out is left out for each of its edges
pub row_listed : (ps : List Float) (n : ℕ) (qs : List Float) (m : ℕ) (l h : PlanarPoint) (xs : List ℕ) (count stop : ℕ) → Framed ps n l h → ListsTo m (MissedBy qs m l h) xs count stop →
    (i : ℕ) → i < n → (a1 a2 : PlanarPoint) → a1 ≡ vertex_at ps i → a2 ≡ edge_end ps n i → ListsTo m (Missed qs m a1 a2) xs count stop
row_listed ps n qs m l h xs count stop f w i u a1 a2 x y = record {
  within = w.within;
  lists = lists_so (MissedBy qs m l h) (Missed qs m a1 a2) xs count stop (λ k. left_out ps n l h f i u qs m k a1 a2 x y) w.lists;
}
