-- Two segments and their four exact turns, over places: whole numbers, so no sign is needed. Assumes nothing.
use mathlib.Core.Path.{◌≡◌, sym, ◌∙◌, subst}
use Prim.Native.Nat.{ℕ, ◌+◌, ◌*◌, ◌<◌}
use native.Mathlib.Nat.{mul-add, add-mul, mul_assoc, mul_comm, mul_left_comm, add_assoc, add_comm, add_left_comm}
use native.Mathlib.Omega.{arith}
use Rattle.turn.specs.Turns.{Place, left_places, right_places}
use Rattle.segment.specs.Meeting.{Share}

pub ruleset ring = (mul-add, add-mul, mul_assoc, mul_comm, mul_left_comm, add_assoc, add_comm, add_left_comm)

-- ---- Cramer's rule, all terms moved to where they are added
cramer_east : (p1e p1n p2e p2n q1e q1n q2e q2n : ℕ)
    → (q1n * q2e + q2n * p2e + p2n * q1e) * p1e + (q1e * q2n + q2e * p1n + p1e * q1n) * p2e + ((p1e * p2n + p2e * q1n + q1e * p1n) * q2e + (p1n * p2e + p2n * q2e + q2n * p1e) * q1e)
    ≡ (p1e * p2n + p2e * q2n + q2e * p1n) * q1e + (p1n * p2e + p2n * q1e + q1n * p1e) * q2e + ((q1n * q2e + q2n * p1e + p1n * q1e) * p2e + (q1e * q2n + q2e * p2n + p2e * q1n) * p1e)
cramer_east p1e p1n p2e p2n q1e q1n q2e q2n = simp ring

cramer_north : (p1e p1n p2e p2n q1e q1n q2e q2n : ℕ)
    → (q1n * q2e + q2n * p2e + p2n * q1e) * p1n + (q1e * q2n + q2e * p1n + p1e * q1n) * p2n + ((p1e * p2n + p2e * q1n + q1e * p1n) * q2n + (p1n * p2e + p2n * q2e + q2n * p1e) * q1n)
    ≡ (p1e * p2n + p2e * q2n + q2e * p1n) * q1n + (p1n * p2e + p2n * q1e + q1n * p1e) * q2n + ((q1n * q2e + q2n * p1e + p1n * q1e) * p2n + (q1e * q2n + q2e * p2n + p2e * q1n) * p1n)
cramer_north p1e p1n p2e p2n q1e q1n q2e q2n = simp ring

pub four_turns : (p1 p2 q1 q2 : Place) → left_places q1 q2 p1 + right_places q1 q2 p2 + (left_places p1 p2 q1 + right_places p1 p2 q2) ≡ left_places p1 p2 q2 + right_places p1 p2 q1 + (right_places q1 q2 p1 + left_places q1 q2 p2)
four_turns p1 p2 q1 q2 = simp ring

-- ---- a proper crossing shares a point: the weights are the turns themselves
weigh : (i i' k k' r1 l2 l3 r4 p1 p2 q1 q2 : ℕ) → (i' + l2) * p1 + (i + r1) * p2 + (l3 * q2 + r4 * q1) ≡ (k' + r4) * q1 + (k + l3) * q2 + (r1 * p2 + l2 * p1) → i' * p1 + i * p2 ≡ k' * q1 + k * q2
weigh i i' k k' r1 l2 l3 r4 p1 p2 q1 q2 h = omega arith

sums : (i i' k k' r1 l2 l3 r4 : ℕ) → i + r1 + (i' + l2) + (l3 + r4) ≡ k' + r4 + (k + l3) + (r1 + l2) → i' + i ≡ k' + k
sums i i' k k' r1 l2 l3 r4 h = omega arith

-- p1 on the left of q1 q2 and p2 on its right, q1 on the right of p1 p2 and q2 on its left
pub crossing : (p1 p2 q1 q2 : Place) (i i' k k' : ℕ) → 0 < i → i + right_places q1 q2 p1 ≡ left_places q1 q2 p1 → i' + left_places q1 q2 p2 ≡ right_places q1 q2 p2
    → k + left_places p1 p2 q1 ≡ right_places p1 p2 q1 → k' + right_places p1 p2 q2 ≡ left_places p1 p2 q2 → Share p1 p2 q1 q2
crossing p1 p2 q1 q2 i i' k k' I d1 d2 d3 d4 = record {
  i' = i';
  i = i;
  k' = k';
  k = k;
  whole = sums i i' k k' (right_places q1 q2 p1) (left_places q1 q2 p2) (left_places p1 p2 q1) (right_places p1 p2 q2) (rw (d1, d2, d3, d4) (four_turns p1 p2 q1 q2));
  some = omega arith;
  east =
      weigh i i' k k' (right_places q1 q2 p1) (left_places q1 q2 p2) (left_places p1 p2 q1) (right_places p1 p2 q2) p1.e p2.e q1.e q2.e
      (rw (d1, d2, d3, d4) (cramer_east p1.e p1.n p2.e p2.n q1.e q1.n q2.e q2.n));
  north =
      weigh i i' k k' (right_places q1 q2 p1) (left_places q1 q2 p2) (left_places p1 p2 q1) (right_places p1 p2 q2) p1.n p2.n q1.n q2.n
      (rw (d1, d2, d3, d4) (cramer_north p1.e p1.n p2.e p2.n q1.e q1.n q2.e q2.n));
}

-- ---- a point on the line of a and b and within their box lies between them
pub record Between (a b p : Place) : Type 0 where
  pub k' : ℕ
  pub k : ℕ
  pub some : 0 < k' + k
  pub east : (k' + k) * p.e ≡ k' * a.e + k * b.e
  pub north : (k' + k) * p.n ≡ k' * a.n + k * b.n

-- along one axis: x, x + s, x + s + t; along the other the line gives it
pub along : (x s t an bn pn : ℕ) → x * bn + (x + s + t) * pn + (x + s) * an ≡ an * (x + s + t) + bn * (x + s) + pn * x → (t + s) * pn ≡ t * an + s * bn
along x s t an bn pn h = omega arith

pub itself : (x s t : ℕ) → (t + s) * (x + s) ≡ t * x + s * (x + s + t)
itself x s t = omega arith

pub touching : (a b p : Place) (s t : ℕ) → 0 < s + t → left_places a b p ≡ right_places a b p → p.e ≡ a.e + s → b.e ≡ a.e + s + t → Between a b p
touching a b p s t S h e f = record {
  k' = t;
  k = s;
  some = omega arith;
  east = rw (f, e) (itself a.e s t);
  north =
      along a.e s t a.n b.n p.n
      (subst (λ (x : ℕ). a.e * b.n + (a.e + s + t) * p.n + x * a.n ≡ a.n * (a.e + s + t) + b.n * x + p.n * a.e) e
      (subst (λ (x : ℕ). a.e * b.n + x * p.n + p.e * a.n ≡ a.n * x + b.n * p.e + p.n * a.e) f h));
}

-- ---- the converse: the turns at a shared point
shared_turns : (k' k q1e q1n q2e q2n : ℕ) → (k' + k) * (q1e * q2n) + q2e * (k' * q1n + k * q2n) + (k' * q1e + k * q2e) * q1n ≡ (k' + k) * (q1n * q2e) + q2n * (k' * q1e + k * q2e) + (k' * q1n + k * q2n) * q1e
shared_turns k' k q1e q1n q2e q2n = simp ring

split_left : (i' i q1e q1n q2e q2n p1e p1n p2e p2n : ℕ) → i' * (q1e * q2n + q2e * p1n + p1e * q1n) + i * (q1e * q2n + q2e * p2n + p2e * q1n) ≡ (i' + i) * (q1e * q2n) + q2e * (i' * p1n + i * p2n) + (i' * p1e + i * p2e) * q1n
split_left i' i q1e q1n q2e q2n p1e p1n p2e p2n = simp ring

split_right : (i' i q1e q1n q2e q2n p1e p1n p2e p2n : ℕ) → i' * (q1n * q2e + q2n * p1e + p1n * q1e) + i * (q1n * q2e + q2n * p2e + p2n * q1e) ≡ (i' + i) * (q1n * q2e) + q2n * (i' * p1e + i * p2e) + (i' * p1n + i * p2n) * q1e
split_right i' i q1e q1n q2e q2n p1e p1n p2e p2n = simp ring

-- i' times the turn of p1 about q1 q2, and i times that of p2, come to nothing
pub balanced : (p1 p2 q1 q2 : Place) (s : Share p1 p2 q1 q2) → s.i' * left_places q1 q2 p1 + s.i * left_places q1 q2 p2 ≡ s.i' * right_places q1 q2 p1 + s.i * right_places q1 q2 p2
balanced p1 p2 q1 q2 s =
    split_left s.i' s.i q1.e q1.n q2.e q2.n p1.e p1.n p2.e p2.n
    ∙ middle
    ∙ sym (split_right s.i' s.i q1.e q1.n q2.e q2.n p1.e p1.n p2.e p2.n)
  where
    middle : (s.i' + s.i) * (q1.e * q2.n) + q2.e * (s.i' * p1.n + s.i * p2.n) + (s.i' * p1.e + s.i * p2.e) * q1.n
        ≡ (s.i' + s.i) * (q1.n * q2.e) + q2.n * (s.i' * p1.e + s.i * p2.e) + (s.i' * p1.n + s.i * p2.n) * q1.e
    middle = rw (s.whole, s.east, s.north) (shared_turns s.k' s.k q1.e q1.n q2.e q2.n)
