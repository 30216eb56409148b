-- Two segments share a point just where they meet by their four turns and their boxes, over places. Assumes nothing.
use mathlib.Core.Path.{◌≡◌, refl, sym, ap, ◌∙◌, subst}
use mathlib.Core.Logic.{◌⊎◌, inl, inr}
use Prim.Native.Nat.{ℕ, zero, suc, ◌+◌, ◌-◌, ◌*◌, ◌≤◌, ◌<◌}
use native.Mathlib.Nat.{add-mul, mul_comm, add_comm, le_of_lt, le_of_eq, le_antisymm, mul-le-mul_left, mul-lt-mul_of_pos_right}
use native.Mathlib.Nat.{le_of_mul-le-mul_right, lt_irrefl, lt_trans, le_trans, zero-mul, add-zero}
use native.Mathlib.Omega.{arith}
use Rattle.hypotenuse.proofs.Order.{le_or_lt}
use Rattle.turn.specs.Turns.{Place, left_places, right_places}
use Rattle.turn.proofs.Laws.{back_left, back_right}
use Rattle.segment.specs.Meeting.{Share}
use Rattle.segment.proofs.Meet.{Between, balanced, four_turns, touching, crossing}

-- ---- what the tests say

-- x lies between a and b
pub data In (a b x : ℕ) : Type 0 where
  up : a ≤ x → x ≤ b → In a b x
  down : b ≤ x → x ≤ a → In a b x

-- p lies on the line of a and b, and in their box
pub record Touch (a b p : Place) : Type 0 where
  pub line : left_places a b p ≡ right_places a b p
  pub east : In a.e b.e p.e
  pub north : In a.n b.n p.n

-- one turn to the left and the other to the right
pub data Split (l r l' r' : ℕ) : Type 0 where
  left_right : r < l → l' < r' → Split l r l' r'
  right_left : l < r → r' < l' → Split l r l' r'

pub data Meets (p1 p2 q1 q2 : Place) : Type 0 where
  across : Split (left_places q1 q2 p1) (right_places q1 q2 p1) (left_places q1 q2 p2) (right_places q1 q2 p2) → Split (left_places p1 p2 q1) (right_places p1 p2 q1) (left_places p1 p2 q2) (right_places p1 p2 q2) → Meets p1 p2 q1 q2
  at_p1 : Touch q1 q2 p1 → Meets p1 p2 q1 q2
  at_p2 : Touch q1 q2 p2 → Meets p1 p2 q1 q2
  at_q1 : Touch p1 p2 q1 → Meets p1 p2 q1 q2
  at_q2 : Touch p1 p2 q2 → Meets p1 p2 q1 q2

-- ---- a weighted mean lies between

lower : (k' k a b x : ℕ) → k * a ≤ k * b → (k' + k) * x ≡ k' * a + k * b → a * (k' + k) ≤ x * (k' + k)
lower k' k a b x h e = omega arith

upper : (k' k a b x : ℕ) → k' * a ≤ k' * b → (k' + k) * x ≡ k' * a + k * b → x * (k' + k) ≤ b * (k' + k)
upper k' k a b x h e = omega arith

lower' : (k' k a b x : ℕ) → k' * b ≤ k' * a → (k' + k) * x ≡ k' * a + k * b → b * (k' + k) ≤ x * (k' + k)
lower' k' k a b x h e = omega arith

upper' : (k' k a b x : ℕ) → k * b ≤ k * a → (k' + k) * x ≡ k' * a + k * b → x * (k' + k) ≤ a * (k' + k)
upper' k' k a b x h e = omega arith

pub mean : (k' k a b x : ℕ) → 0 < k' + k → (k' + k) * x ≡ k' * a + k * b → In a b x
mean k' k a b x w e = go (le_or_lt a b)
  where
    go : (a ≤ b) ⊎ (b < a) → In a b x
    go (inl h) = up (le_of_mul-le-mul_right {k = k' + k} (lower k' k a b x (mul-le-mul_left k h) e) w) (le_of_mul-le-mul_right {k = k' + k} (upper k' k a b x (mul-le-mul_left k' h) e) w)
    go (inr h) = down (le_of_mul-le-mul_right {k = k' + k} (lower' k' k a b x (mul-le-mul_left k' (le_of_lt h)) e) w) (le_of_mul-le-mul_right {k = k' + k} (upper' k' k a b x (mul-le-mul_left k (le_of_lt h)) e) w)

-- ---- the other side of a share
unfoldable pub flip : (p1 p2 q1 q2 : Place) → Share p1 p2 q1 q2 → Share q1 q2 p1 p2
flip p1 p2 q1 q2 s = record {
  i' = s.k';
  i = s.k;
  k' = s.i';
  k = s.i;
  whole = sym s.whole;
  some = subst (λ (x : ℕ). 0 < x) s.whole s.some;
  east = sym s.east;
  north = sym s.north;
}

same_factor : (w l r : ℕ) → 0 < w → w * l ≡ w * r → l ≡ r
same_factor w l r h e = le_antisymm (le_of_mul-le-mul_right {k = w} (le_of_eq (turned l r e)) h) (le_of_mul-le-mul_right {k = w} (le_of_eq (turned r l (sym e))) h)
  where
    turned : (l r : ℕ) → w * l ≡ w * r → l * w ≡ r * w
    turned l r e = omega arith

-- ---- an end that is the shared point
ending : (a b p : Place) (k' k : ℕ) → 0 < k' + k → (k' + k) * p.e ≡ k' * a.e + k * b.e → (k' + k) * p.n ≡ k' * a.n + k * b.n → left_places a b p ≡ right_places a b p → Touch a b p
ending a b p k' k w e n l = record { line = l; east = mean k' k a.e b.e p.e w e; north = mean k' k a.n b.n p.n w n }

-- ---- two turns that balance
pub data Balance (l r l' r' : ℕ) : Type 0 where
  none : l ≡ r → l' ≡ r' → Balance l r l' r'
  some : Split l r l' r' → Balance l r l' r'

pub over : (u v l r l' r' : ℕ) → r * u < l * u → r' * v ≤ l' * v → u * l + v * l' ≡ u * r + v * r' → 0 < 0
over u v l r l' r' a b e = omega arith

pub times : (u a b : ℕ) → a ≤ b → a * u ≤ b * u
times u a b h = subst (λ (x : ℕ). x ≤ b * u) (mul_comm u a) (subst (λ (x : ℕ). u * a ≤ x) (mul_comm u b) (mul-le-mul_left u h))

balance : (u v l r l' r' : ℕ) → 0 < u → 0 < v → u * l + v * l' ≡ u * r + v * r' → Balance l r l' r'
balance u v l r l' r' up' vp e = go (le_or_lt l r)
  where
    left : r < l → (r' ≤ l') ⊎ (l' < r') → Balance l r l' r'
    left h (inl k) = absurd (lt_irrefl 0 (over u v l r l' r' (mul-lt-mul_of_pos_right h up') (times v r' l' k) e))
    left h (inr k) = some (left_right h k)

    right : l < r → (l' ≤ r') ⊎ (r' < l') → Balance l r l' r'
    right h (inl k) = absurd (lt_irrefl 0 (over u v r l r' l' (mul-lt-mul_of_pos_right h up') (times v l' r' k) (sym e)))
    right h (inr k) = some (right_left h k)

    even : l ≡ r → Balance l r l' r'
    even h = none h (same_factor v l' r' vp (rest l r l' r' h e))
      where
        rest : (l r l' r' : ℕ) → l ≡ r → u * l + v * l' ≡ u * r + v * r' → v * l' ≡ v * r'
        rest l r l' r' h e = cancel (u * l) (u * r) (v * l') (v * r') (ap (λ (x : ℕ). u * x) h) e
          where
            cancel : (a b c d : ℕ) → a ≡ b → a + c ≡ b + d → c ≡ d
            cancel a b c d h e = omega arith

    low : l ≤ r → (r ≤ l) ⊎ (l < r) → Balance l r l' r'
    low h (inl k) = even (le_antisymm h k)
    low h (inr k) = right k (le_or_lt l' r')

    go : (l ≤ r) ⊎ (r < l) → Balance l r l' r'
    go (inl h) = low h (le_or_lt r l)
    go (inr h) = left h (le_or_lt r' l')

-- ---- places ordered by east, then by north
pub data Upto (a b : Place) : Type 0 where
  west : a.e < b.e → Upto a b
  south : a.e ≡ b.e → a.n ≤ b.n → Upto a b

data Before (a b : Place) : Type 0 where
  west : a.e < b.e → Before a b
  south : a.e ≡ b.e → a.n < b.n → Before a b

weak : {a b : Place} → Before a b → Upto a b
weak (Before.west h) = Upto.west h
weak (Before.south e h) = Upto.south e (le_of_lt h)

order : (a b : Place) → Upto a b ⊎ Before b a
order a b = go (le_or_lt a.e b.e)
  where
    tie : a.e ≡ b.e → (a.n ≤ b.n) ⊎ (b.n < a.n) → Upto a b ⊎ Before b a
    tie e (inl h) = inl (Upto.south e h)
    tie e (inr h) = inr (Before.south (sym e) h)

    low : a.e ≤ b.e → (b.e ≤ a.e) ⊎ (a.e < b.e) → Upto a b ⊎ Before b a
    low h (inl k) = tie (le_antisymm h k) (le_or_lt a.n b.n)
    low h (inr k) = inl (Upto.west k)

    go : (a.e ≤ b.e) ⊎ (b.e < a.e) → Upto a b ⊎ Before b a
    go (inl h) = low h (le_or_lt b.e a.e)
    go (inr h) = inr (Before.west h)

-- on the line from a to b, a place between them in this order lies in their box
parted : (x y : ℕ) → x ≤ y → y ≡ x + (y - x)
parted x y h = omega arith

between_touch : (a b p : Place) → left_places a b p ≡ right_places a b p → Between a b p → Touch a b p
between_touch a b p l t = ending a b p t.k' t.k t.some t.east t.north l

-- east from a to b, not all at one place
along_east : (a b p : Place) → a.e ≤ p.e → p.e ≤ b.e → a.e < b.e → left_places a b p ≡ right_places a b p → Between a b p
along_east a b p h k s l = touching a b p (p.e - a.e) (b.e - p.e) (apart a.e b.e p.e h k s) l (parted a.e p.e h) (whole a.e b.e p.e h k)
  where
    apart : (x y z : ℕ) → x ≤ z → z ≤ y → x < y → 0 < z - x + (y - z)
    apart x y z h k s = omega arith

    whole : (x y z : ℕ) → x ≤ z → z ≤ y → y ≡ x + (z - x) + (y - z)
    whole x y z h k = omega arith

spread : (a b p : Place) → a.e ≤ p.e → p.e ≤ b.e → a.e < b.e → left_places a b p ≡ right_places a b p → Touch a b p
spread a b p h k s l = between_touch a b p l (along_east a b p h k s l)

pub on_line : (a b p : Place) → Upto a p → Upto p b → left_places a b p ≡ right_places a b p → Touch a b p
on_line a b p (Upto.west h) (Upto.west k) l = spread a b p (le_of_lt h) (le_of_lt k) (lt_trans h k) l
on_line a b p (Upto.west h) (Upto.south k m) l = spread a b p (le_of_lt h) (le_of_eq k) (subst (λ (x : ℕ). a.e < x) k h) l
on_line a b p (Upto.south h m) (Upto.west k) l = spread a b p (le_of_eq h) (le_of_lt k) (subst (λ (x : ℕ). x < b.e) (sym h) k) l
on_line a b p (Upto.south h m) (Upto.south k j) l = record { line = l; east = up (le_of_eq h) (le_of_eq k); north = up m j }

-- ---- segments of one line that share a point inside both
pub record Inner (a b c d : Place) : Type 0 where
  pub share : Share a b c d
  pub first : 0 < share.i'
  pub second : 0 < share.i
  pub third : 0 < share.k'
  pub fourth : 0 < share.k

strictly : (i' i k' k a b c d : ℕ) → i' * a ≤ i' * b → k * c ≤ k * d → b * (i' + i) < c * (i' + i) → (i' + i) * c ≡ (k' + k) * c → i' * a + i * b ≡ k' * c + k * d → 0 < 0
strictly i' i k' k a b c d h1 h2 h3 h4 h5 = omega arith

strictly_first : (i' i k' k a b c d : ℕ) → i' * a < i' * b → k * c ≤ k * d → b * (i' + i) ≤ c * (i' + i) → (i' + i) * c ≡ (k' + k) * c → i' * a + i * b ≡ k' * c + k * d → 0 < 0
strictly_first i' i k' k a b c d h1 h2 h3 h4 h5 = omega arith

strictly_last : (i' i k' k a b c d : ℕ) → i' * a ≤ i' * b → k * c < k * d → b * (i' + i) ≤ c * (i' + i) → (i' + i) * c ≡ (k' + k) * c → i' * a + i * b ≡ k' * c + k * d → 0 < 0
strictly_last i' i k' k a b c d h1 h2 h3 h4 h5 = omega arith

times_lt : (u a b : ℕ) → 0 < u → a < b → u * a < u * b
times_lt u a b h l = subst (λ (x : ℕ). x < u * b) (mul_comm a u) (subst (λ (x : ℕ). a * u < x) (mul_comm b u) (mul-lt-mul_of_pos_right l h))

not_west : {a b : Place} → Upto a b → a.e ≤ b.e
not_west (Upto.west h) = le_of_lt h
not_west (Upto.south h k) = le_of_eq h

squeeze : (a b c d : Place) → Inner a b c d → Upto a b → Upto c d → Before b c → 0 < 0
squeeze a b c d s h k (Before.west l) =
    strictly s.share.i' s.share.i s.share.k' s.share.k a.e b.e c.e d.e
    (mul-le-mul_left s.share.i' (not_west h)) (mul-le-mul_left s.share.k (not_west k)) (mul-lt-mul_of_pos_right l s.share.some) (ap (λ (x : ℕ). x * c.e) s.share.whole) s.share.east
squeeze a b c d s (Upto.west h) k (Before.south e l) =
    strictly_first s.share.i' s.share.i s.share.k' s.share.k a.e b.e c.e d.e
    (times_lt s.share.i' a.e b.e s.first h) (mul-le-mul_left s.share.k (not_west k)) (times (s.share.i' + s.share.i) b.e c.e (le_of_eq e)) (ap (λ (x : ℕ). x * c.e) s.share.whole) s.share.east
squeeze a b c d s (Upto.south h m) (Upto.west k) (Before.south e l) =
    strictly_last s.share.i' s.share.i s.share.k' s.share.k a.e b.e c.e d.e
    (mul-le-mul_left s.share.i' (le_of_eq h)) (times_lt s.share.k c.e d.e s.fourth k) (times (s.share.i' + s.share.i) b.e c.e (le_of_eq e)) (ap (λ (x : ℕ). x * c.e) s.share.whole) s.share.east
squeeze a b c d s (Upto.south h m) (Upto.south k j) (Before.south e l) =
    strictly s.share.i' s.share.i s.share.k' s.share.k a.n b.n c.n d.n
    (mul-le-mul_left s.share.i' m) (mul-le-mul_left s.share.k j) (mul-lt-mul_of_pos_right l s.share.some) (ap (λ (x : ℕ). x * c.n) s.share.whole) s.share.north

lowest : (a b c d : Place) → Inner a b c d → Upto a b → Upto c d → Upto a c → left_places a b c ≡ right_places a b c → Touch a b c
lowest a b c d s h k m l = go (order c b)
  where
    go : Upto c b ⊎ Before b c → Touch a b c
    go (inl j) = on_line a b c m j l
    go (inr j) = absurd (lt_irrefl 0 (squeeze a b c d s h k j))

-- ---- the ends of a segment, and the two segments, exchanged
pub swapped_sum : (i' i x y z : ℕ) → i' * x + i * y ≡ z → i * y + i' * x ≡ z
swapped_sum i' i x y z e = add_comm (i * y) (i' * x) ∙ e

unfoldable pub swap_share : (a b c d : Place) → Share a b c d → Share b a c d
swap_share a b c d s = record {
  i' = s.i;
  i = s.i';
  k' = s.k';
  k = s.k;
  whole = add_comm s.i s.i' ∙ s.whole;
  some = subst (λ (x : ℕ). 0 < x) (add_comm s.i' s.i) s.some;
  east = swapped_sum s.i' s.i a.e b.e (s.k' * c.e + s.k * d.e) s.east;
  north = swapped_sum s.i' s.i a.n b.n (s.k' * c.n + s.k * d.n) s.north;
}

swap : (a b c d : Place) → Inner a b c d → Inner b a c d
unfolding swap_share
swap a b c d s = record { share = swap_share a b c d s.share; first = s.second; second = s.first; third = s.third; fourth = s.fourth }

turn_round : (a b c d : Place) → Inner a b c d → Inner c d a b
unfolding flip
turn_round a b c d s = record { share = flip a b c d s.share; first = s.third; second = s.fourth; third = s.first; fourth = s.second }

swap_last : (a b c d : Place) → Inner a b c d → Inner a b d c
swap_last a b c d s = turn_round d c a b (swap c d a b (turn_round a b c d s))

-- the turn from b by a is the other one
back_line : (a b c : Place) → left_places a b c ≡ right_places a b c → left_places b a c ≡ right_places b a c
back_line a b c l = back_left a b c ∙ sym l ∙ sym (back_right a b c)

back_in : {a b x : ℕ} → In a b x → In b a x
back_in (In.up h k) = In.down h k
back_in (In.down h k) = In.up h k

back_touch : (a b c : Place) → Touch a b c → Touch b a c
back_touch a b c t = record { line = back_line a b c t.line; east = back_in t.east; north = back_in t.north }

record Lines (a b c d : Place) : Type 0 where
  first : left_places a b c ≡ right_places a b c
  second : left_places a b d ≡ right_places a b d
  third : left_places c d a ≡ right_places c d a
  fourth : left_places c d b ≡ right_places c d b

-- the lower end of one lies on the other
pub data Lower (a b c d : Place) : Type 0 where
  of_second : Touch a b c → Lower a b c d
  of_first : Touch c d a → Lower a b c d

lower_end : (a b c d : Place) → Inner a b c d → Upto a b → Upto c d → Lines a b c d → Lower a b c d
lower_end a b c d s h k l = go (order a c)
  where
    go : Upto a c ⊎ Before c a → Lower a b c d
    go (inl m) = of_second (lowest a b c d s h k m l.first)
    go (inr m) = of_first (lowest c d a b (turn_round a b c d s) k h (weak m) l.third)

overlap : (p1 p2 q1 q2 : Place) → Inner p1 p2 q1 q2 → Lines p1 p2 q1 q2 → Meets p1 p2 q1 q2
overlap p1 p2 q1 q2 s l = go (order p1 p2) (order q1 q2)
  where
    plain : Lower p1 p2 q1 q2 → Meets p1 p2 q1 q2
    plain (Lower.of_second t) = at_q1 t
    plain (Lower.of_first t) = at_p1 t

    first_back : Lower p2 p1 q1 q2 → Meets p1 p2 q1 q2
    first_back (Lower.of_second t) = at_q1 (back_touch p2 p1 q1 t)
    first_back (Lower.of_first t) = at_p2 t

    second_back : Lower p1 p2 q2 q1 → Meets p1 p2 q1 q2
    second_back (Lower.of_second t) = at_q2 t
    second_back (Lower.of_first t) = at_p1 (back_touch q2 q1 p1 t)

    both_back : Lower p2 p1 q2 q1 → Meets p1 p2 q1 q2
    both_back (Lower.of_second t) = at_q2 (back_touch p2 p1 q2 t)
    both_back (Lower.of_first t) = at_p2 (back_touch q2 q1 p2 t)

    go : Upto p1 p2 ⊎ Before p2 p1 → Upto q1 q2 ⊎ Before q2 q1 → Meets p1 p2 q1 q2
    go (inl h) (inl k) = plain (lower_end p1 p2 q1 q2 s h k l)
    go (inr h) (inl k) =
        first_back (lower_end p2 p1 q1 q2 (swap p1 p2 q1 q2 s) (weak h) k
        (record { first = back_line p1 p2 q1 l.first; second = back_line p1 p2 q2 l.second; third = l.fourth; fourth = l.third }))
    go (inl h) (inr k) =
        second_back (lower_end p1 p2 q2 q1 (swap_last p1 p2 q1 q2 s) h (weak k)
        (record { first = l.second; second = l.first; third = back_line q1 q2 p1 l.third; fourth = back_line q1 q2 p2 l.fourth }))
    go (inr h) (inr k) =
        both_back (lower_end p2 p1 q2 q1 (swap p1 p2 q2 q1 (swap_last p1 p2 q1 q2 s)) (weak h) (weak k) (record {
          first = back_line p1 p2 q2 l.second;
          second = back_line p1 p2 q1 l.first;
          third = back_line q1 q2 p2 l.fourth;
          fourth = back_line q1 q2 p1 l.third;
        }))

-- ---- all weights above 0: the turns about each segment balance, and where two are 0 all four are
level : (l1 r1 l2 r2 l3 r3 l4 r4 : ℕ) → l1 + r2 + (l3 + r4) ≡ l4 + r3 + (r1 + l2) → l1 ≡ r1 → l2 ≡ r2 → Split l3 r3 l4 r4 → 0 < 0
level l1 r1 l2 r2 l3 r3 l4 r4 f a b (left_right h k) = omega arith
level l1 r1 l2 r2 l3 r3 l4 r4 f a b (right_left h k) = omega arith

level' : (l1 r1 l2 r2 l3 r3 l4 r4 : ℕ) → l1 + r2 + (l3 + r4) ≡ l4 + r3 + (r1 + l2) → l3 ≡ r3 → l4 ≡ r4 → Split l1 r1 l2 r2 → 0 < 0
level' l1 r1 l2 r2 l3 r3 l4 r4 f a b (left_right h k) = omega arith
level' l1 r1 l2 r2 l3 r3 l4 r4 f a b (right_left h k) = omega arith

module _ (p1 p2 q1 q2 : Place) where
  abbrev AboutQ : Type 0
  AboutQ = Balance (left_places q1 q2 p1) (right_places q1 q2 p1) (left_places q1 q2 p2) (right_places q1 q2 p2)

  abbrev AboutP : Type 0
  AboutP = Balance (left_places p1 p2 q1) (right_places p1 p2 q1) (left_places p1 p2 q2) (right_places p1 p2 q2)

  inside : Inner p1 p2 q1 q2 → Meets p1 p2 q1 q2
  unfolding flip
  inside s = go about_q about_p
    where
      about_q : AboutQ
      about_q =
          balance s.share.i' s.share.i (left_places q1 q2 p1) (right_places q1 q2 p1) (left_places q1 q2 p2) (right_places q1 q2 p2) s.first s.second
          (balanced p1 p2 q1 q2 s.share)

      about_p : AboutP
      about_p =
          balance s.share.k' s.share.k (left_places p1 p2 q1) (right_places p1 p2 q1) (left_places p1 p2 q2) (right_places p1 p2 q2) s.third s.fourth
          (balanced q1 q2 p1 p2 (flip p1 p2 q1 q2 s.share))

      go : AboutQ → AboutP → Meets p1 p2 q1 q2
      go (Balance.some a) (Balance.some b) = across a b
      go (Balance.none a b) (Balance.none c d) = overlap p1 p2 q1 q2 s (record { first = c; second = d; third = a; fourth = b })
      go (Balance.none a b) (Balance.some c) = absurd (lt_irrefl 0 (level _ _ _ _ _ _ _ _ (four_turns p1 p2 q1 q2) a b c))
      go (Balance.some a) (Balance.none c d) = absurd (lt_irrefl 0 (level' _ _ _ _ _ _ _ _ (four_turns p1 p2 q1 q2) c d a))

-- ---- a weight of 0: the shared point is an end
ends : (p1 p2 q1 q2 : Place) (s : Share p1 p2 q1 q2) → s.i ≡ 0 → Touch q1 q2 p1
ends p1 p2 q1 q2 s z =
    ending q1 q2 p1 s.k' s.k (subst (λ (x : ℕ). 0 < x) s.whole s.some)
    (alone s.i' s.i (s.k' + s.k) p1.e p2.e (s.k' * q1.e + s.k * q2.e) z s.whole s.east)
    (alone s.i' s.i (s.k' + s.k) p1.n p2.n (s.k' * q1.n + s.k * q2.n) z s.whole s.north)
    (same_factor s.i' (left_places q1 q2 p1) (right_places q1 q2 p1) (above s.i' s.i z s.some)
    (one_turn s.i' s.i (left_places q1 q2 p1) (left_places q1 q2 p2) (right_places q1 q2 p1) (right_places q1 q2 p2) z (balanced p1 p2 q1 q2 s)))
  where
    above : (a b : ℕ) → b ≡ 0 → 0 < a + b → 0 < a
    above a b z h = omega arith

    alone : (a b w x y r : ℕ) → b ≡ 0 → a + b ≡ w → a * x + b * y ≡ r → w * x ≡ r
    alone a b w x y r z h e =
        sym (ap (λ (t : ℕ). t * x) h)
        ∙ add-mul a b x
        ∙ ap (λ (t : ℕ). a * x + t * x) z
        ∙ ap (λ (t : ℕ). a * x + t) (zero-mul x)
        ∙ sym (ap (λ (t : ℕ). a * x + t) (zero-mul y))
        ∙ sym (ap (λ (t : ℕ). a * x + t * y) z)
        ∙ e

    one_turn : (a b l l2 r r2 : ℕ) → b ≡ 0 → a * l + b * l2 ≡ a * r + b * r2 → a * l ≡ a * r
    one_turn a b l l2 r r2 z e = cut (a * l) (a * r) (b * l2) (b * r2) (ap (λ (t : ℕ). t * l2) z ∙ zero-mul l2) (ap (λ (t : ℕ). t * r2) z ∙ zero-mul r2) e
      where
        cut : (x y u v : ℕ) → u ≡ 0 → v ≡ 0 → x + u ≡ y + v → x ≡ y
        cut x y u v h k e = omega arith

pub zero_or : (n : ℕ) → (n ≡ 0) ⊎ (0 < n)
zero_or zero = inl refl
zero_or (suc n) = inr (omega arith)

-- segments that share a point meet
pub shared_meets : (p1 p2 q1 q2 : Place) → Share p1 p2 q1 q2 → Meets p1 p2 q1 q2
unfolding flip swap_share
shared_meets p1 p2 q1 q2 s = go (zero_or s.i') (zero_or s.i) (zero_or s.k') (zero_or s.k)
  where
    go : (s.i' ≡ 0) ⊎ (0 < s.i') → (s.i ≡ 0) ⊎ (0 < s.i) → (s.k' ≡ 0) ⊎ (0 < s.k') → (s.k ≡ 0) ⊎ (0 < s.k) → Meets p1 p2 q1 q2
    go a (inl z) c d = at_p1 (ends p1 p2 q1 q2 s z)
    go (inl z) (inr b) c d = at_p2 (ends p2 p1 q1 q2 (swap_share p1 p2 q1 q2 s) z)
    go (inr a) (inr b) c (inl z) = at_q1 (ends q1 q2 p1 p2 (flip p1 p2 q1 q2 s) z)
    go (inr a) (inr b) (inl z) (inr d) = at_q2 (ends q2 q1 p1 p2 (swap_share q1 q2 p1 p2 (flip p1 p2 q1 q2 s)) z)
    go (inr a) (inr b) (inr c) (inr d) = inside p1 p2 q1 q2 (record { share = s; first = a; second = b; third = c; fourth = d })

-- ---- segments that meet share a point

at_end : (p1 p2 q1 q2 : Place) → Between q1 q2 p1 → Share p1 p2 q1 q2
at_end p1 p2 q1 q2 t = record {
  i' = t.k' + t.k;
  i = 0;
  k' = t.k';
  k = t.k;
  whole = omega arith;
  some = subst (λ (x : ℕ). 0 < x) (sym (add-zero (t.k' + t.k))) t.some;
  east = none ((t.k' + t.k) * p1.e) p2.e (t.k' * q1.e + t.k * q2.e) t.east;
  north = none ((t.k' + t.k) * p1.n) p2.n (t.k' * q1.n + t.k * q2.n) t.north;
}
  where
    none : (x y z : ℕ) → x ≡ z → x + 0 * y ≡ z
    none x y z e = ap (λ (t : ℕ). x + t) (zero-mul y) ∙ add-zero x ∙ e

-- the two coordinates exchanged: left and right are exchanged
abbrev mirror : Place → Place
mirror a = record { e = a.n; n = a.e }

mirror_line : (a b p : Place) → left_places a b p ≡ right_places a b p → left_places (mirror a) (mirror b) (mirror p) ≡ right_places (mirror a) (mirror b) (mirror p)
mirror_line a b p l = sym l

back_between : (a b p : Place) → Between a b p → Between b a p
back_between a b p t = record {
  k' = t.k;
  k = t.k';
  some = subst (λ (x : ℕ). 0 < x) (add_comm t.k' t.k) t.some;
  east = turned t.k' t.k p.e a.e b.e t.east;
  north = turned t.k' t.k p.n a.n b.n t.north;
}
  where
    turned : (k'' k x y z : ℕ) → (k'' + k) * x ≡ k'' * y + k * z → (k + k'') * x ≡ k * z + k'' * y
    turned k'' k x y z e = ap (λ (t : ℕ). t * x) (add_comm k k'') ∙ e ∙ add_comm (k'' * y) (k * z)

mirror_between : (a b p : Place) → Between (mirror a) (mirror b) (mirror p) → Between a b p
mirror_between a b p t = record { k' = t.k'; k = t.k; some = t.some; east = t.north; north = t.east }

same_place : (a b p : Place) → p.e ≡ a.e → p.n ≡ a.n → Between a b p
same_place a b p h k = record { k' = 1; k = 0; some = omega arith; east = once p.e a.e b.e h; north = once p.n a.n b.n k }
  where
    once : (x y z : ℕ) → x ≡ y → (1 + 0) * x ≡ 1 * y + 0 * z
    once x y z h = omega arith

pub touch_between : (a b p : Place) → Touch a b p → Between a b p
touch_between a b p t = go t.east t.north
  where
    north_up : a.e ≡ b.e → p.e ≡ a.e → a.n ≤ p.n → p.n ≤ b.n → (b.n ≤ a.n) ⊎ (a.n < b.n) → Between a b p
    north_up e f h k (inl m) = same_place a b p f (le_antisymm (le_trans k m) h)
    north_up e f h k (inr m) = mirror_between a b p (along_east (mirror a) (mirror b) (mirror p) h k m (mirror_line a b p t.line))

    north_down : a.e ≡ b.e → p.e ≡ a.e → b.n ≤ p.n → p.n ≤ a.n → (a.n ≤ b.n) ⊎ (b.n < a.n) → Between a b p
    north_down e f h k (inl m) = same_place a b p f (le_antisymm k (le_trans m h))
    north_down e f h k (inr m) = back_between b a p (mirror_between b a p (along_east (mirror b) (mirror a) (mirror p) h k m (mirror_line b a p (back_line a b p t.line))))

    level_east : a.e ≡ b.e → p.e ≡ a.e → In a.n b.n p.n → Between a b p
    level_east e f (In.up h k) = north_up e f h k (le_or_lt b.n a.n)
    level_east e f (In.down h k) = north_down e f h k (le_or_lt a.n b.n)

    east_up : a.e ≤ p.e → p.e ≤ b.e → (b.e ≤ a.e) ⊎ (a.e < b.e) → Between a b p
    east_up h k (inl m) = level_east (le_antisymm (le_trans h k) m) (le_antisymm (le_trans k m) h) t.north
    east_up h k (inr m) = along_east a b p h k m t.line

    east_down : b.e ≤ p.e → p.e ≤ a.e → (a.e ≤ b.e) ⊎ (b.e < a.e) → Between a b p
    east_down h k (inl m) = level_east (le_antisymm m (le_trans h k)) (le_antisymm k (le_trans m h)) t.north
    east_down h k (inr m) = back_between b a p (along_east b a p h k m (back_line a b p t.line))

    go : In a.e b.e p.e → In a.n b.n p.n → Between a b p
    go (In.up h k) n = east_up h k (le_or_lt b.e a.e)
    go (In.down h k) n = east_down h k (le_or_lt a.e b.e)

-- the way by which the larger exceeds the smaller
excess : (x y : ℕ) → x < y → y - x + x ≡ y
excess x y h = omega arith

above : (x y : ℕ) → x < y → 0 < y - x
above x y h = omega arith

wrong : (l1 r1 l2 r2 l3 r3 l4 r4 : ℕ) → l1 + r2 + (l3 + r4) ≡ l4 + r3 + (r1 + l2) → r1 < l1 → l2 < r2 → r3 < l3 → l4 < r4 → 0 < 0
wrong l1 r1 l2 r2 l3 r3 l4 r4 f a b c d = omega arith

wrong' : (l1 r1 l2 r2 l3 r3 l4 r4 : ℕ) → l1 + r2 + (l3 + r4) ≡ l4 + r3 + (r1 + l2) → l1 < r1 → r2 < l2 → l3 < r3 → r4 < l4 → 0 < 0
wrong' l1 r1 l2 r2 l3 r3 l4 r4 f a b c d = omega arith

cross : (p1 p2 q1 q2 : Place) → right_places q1 q2 p1 < left_places q1 q2 p1 → left_places q1 q2 p2 < right_places q1 q2 p2 →
    left_places p1 p2 q1 < right_places p1 p2 q1 → right_places p1 p2 q2 < left_places p1 p2 q2 → Share p1 p2 q1 q2
cross p1 p2 q1 q2 a b c d =
    crossing p1 p2 q1 q2 (left_places q1 q2 p1 - right_places q1 q2 p1) (right_places q1 q2 p2 - left_places q1 q2 p2) (right_places p1 p2 q1 - left_places p1 p2 q1) (left_places p1 p2 q2 - right_places p1 p2 q2)
    (above (right_places q1 q2 p1) (left_places q1 q2 p1) a) (excess (right_places q1 q2 p1) (left_places q1 q2 p1) a) (excess (left_places q1 q2 p2) (right_places q1 q2 p2) b)
    (excess (left_places p1 p2 q1) (right_places p1 p2 q1) c) (excess (right_places p1 p2 q2) (left_places p1 p2 q2) d)

as_less : (x y u v : ℕ) → u ≡ x → v ≡ y → x < y → u < v
as_less x y u v e f h = subst (λ (t : ℕ). t < v) (sym e) (subst (λ (t : ℕ). x < t) (sym f) h)

pub meets_shared : (p1 p2 q1 q2 : Place) → Meets p1 p2 q1 q2 → Share p1 p2 q1 q2
meets_shared p1 p2 q1 q2 (Meets.at_p1 t) = at_end p1 p2 q1 q2 (touch_between q1 q2 p1 t)
meets_shared p1 p2 q1 q2 (Meets.at_p2 t) = swap_share p2 p1 q1 q2 (at_end p2 p1 q1 q2 (touch_between q1 q2 p2 t))
meets_shared p1 p2 q1 q2 (Meets.at_q1 t) = flip q1 q2 p1 p2 (at_end q1 q2 p1 p2 (touch_between p1 p2 q1 t))
meets_shared p1 p2 q1 q2 (Meets.at_q2 t) = flip q1 q2 p1 p2 (swap_share q2 q1 p1 p2 (at_end q2 q1 p1 p2 (touch_between p1 p2 q2 t)))
meets_shared p1 p2 q1 q2 (Meets.across (Split.left_right a b) (Split.right_left c d)) = cross p1 p2 q1 q2 a b c d
meets_shared p1 p2 q1 q2 (Meets.across (Split.right_left a b) (Split.left_right c d)) =
    swap_share p2 p1 q1 q2 (cross p2 p1 q1 q2 b a
    (as_less (right_places p1 p2 q1) (left_places p1 p2 q1) (left_places p2 p1 q1) (right_places p2 p1 q1) (back_left p1 p2 q1) (back_right p1 p2 q1) c)
    (as_less (left_places p1 p2 q2) (right_places p1 p2 q2) (right_places p2 p1 q2) (left_places p2 p1 q2) (back_right p1 p2 q2) (back_left p1 p2 q2) d))
meets_shared p1 p2 q1 q2 (Meets.across (Split.left_right a b) (Split.left_right c d)) = absurd (lt_irrefl 0 (wrong _ _ _ _ _ _ _ _ (four_turns p1 p2 q1 q2) a b c d))
meets_shared p1 p2 q1 q2 (Meets.across (Split.right_left a b) (Split.right_left c d)) = absurd (lt_irrefl 0 (wrong' _ _ _ _ _ _ _ _ (four_turns p1 p2 q1 q2) a b c d))

-- ---- boxes that lie apart: along one axis both ends of the first lie below both of the second
between_bound :
    (i' i k' k a b c d m l : ℕ) → i' * a ≤ i' * m → i * b ≤ i * m → m * (i' + i) < l * (i' + i) → k' * l ≤ k' * c → k * l ≤ k * d →
    (i' + i) * l ≡ (k' + k) * l → i' * a + i * b ≡ k' * c + k * d → 0 < 0
between_bound i' i k' k a b c d m l h1 h2 h3 h4 h5 h6 e = omega arith

pub no_share : (i' i k' k a b c d : ℕ) → i' + i ≡ k' + k → 0 < i' + i → i' * a + i * b ≡ k' * c + k * d → a < c → a < d → b < c → b < d → 0 < 0
no_share i' i k' k a b c d w s e ac ad bc bd = go (le_or_lt a b) (le_or_lt c d)
  where
    at : (m l : ℕ) → a ≤ m → b ≤ m → m < l → l ≤ c → l ≤ d → 0 < 0
    at m l h1 h2 h3 h4 h5 =
        between_bound i' i k' k a b c d m l (mul-le-mul_left i' h1) (mul-le-mul_left i h2) (mul-lt-mul_of_pos_right h3 s) (mul-le-mul_left k' h4) (mul-le-mul_left k h5) (ap (λ (x : ℕ). x * l) w) e

    go : (a ≤ b) ⊎ (b < a) → (c ≤ d) ⊎ (d < c) → 0 < 0
    go (inl h) (inl k) = at b c h (le_of_eq refl) bc (le_of_eq refl) k
    go (inl h) (inr k) = at b d h (le_of_eq refl) bd (le_of_lt k) (le_of_eq refl)
    go (inr h) (inl k) = at a c (le_of_eq refl) (le_of_lt h) ac (le_of_eq refl) k
    go (inr h) (inr k) = at a d (le_of_eq refl) (le_of_lt h) ad (le_of_lt k) (le_of_eq refl)
