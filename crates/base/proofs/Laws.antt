-- The laws of counted loops. Assumes nothing.
use Prim.Native.Nat.{ℕ, zero, suc, ◌+◌, ◌-◌, ◌≤◌, ◌<◌}
use native.Mathlib.Numerals.{add-one}
use native.Mathlib.Nat.{zero-add, suc-add, sub-add_cancel, le_antisymm}
use native.Mathlib.Omega.{arith}
use mathlib.Core.Path.{◌≡◌, refl, sym, ap, ◌∙◌, subst}
use Rattle.base.specs.Loop.{rounds}

-- one round more, as the code counts it
pub next_round : {A : Type 0} (f : ℕ → A → A) (i : ℕ) (s : A) → rounds f (i + 1) s ≡ f i (rounds f i s)
unfolding rounds
next_round f i s = rw add-one

-- a loop's state, after a round in which the body gave y
pub goes_on : {A : Type 0} (f : ℕ → A → A) (s x y : A) (i : ℕ) → x ≡ rounds f i s → y ≡ f i x → y ≡ rounds f (i + 1) s
goes_on f s x y i e h = h ∙ ap (f i) e ∙ sym (next_round f i s)

-- the state where a loop of n rounds ends
pub ends : {A : Type 0} (f : ℕ → A → A) (s x : A) (i n : ℕ) → i ≤ n → n ≤ i → x ≡ rounds f i s → x ≡ rounds f n s
ends f s x i n l h e = e ∙ ap (λ (m : ℕ). rounds f m s) (le_antisymm l h)

pub no_round : {A : Type 0} (f : ℕ → A → A) (s : A) → rounds f 0 s ≡ s
unfolding rounds
no_round f s = refl

-- what a counted loop without an early exit is proved by, its invariant being `state ≡ rounds f k start`
pub ruleset counted = (no_round, next_round)

-- a state that the body gives back in every round to come is the last one
pub stays : {A : Type 0} (f : ℕ → A → A) (s t : A) (i d : ℕ) → rounds f i s ≡ t → ((k : ℕ) → f k t ≡ t) → rounds f (d + i) s ≡ t
unfolding rounds
stays f s t i zero e h = rw zero-add e
stays f s t i (suc d) e h = rw suc-add (ap (f (d + i)) (stays f s t i d e h) ∙ h (d + i))

pub stays_to : {A : Type 0} (f : ℕ → A → A) (s t : A) (i n : ℕ) → i ≤ n → rounds f i s ≡ t → ((k : ℕ) → f k t ≡ t) → rounds f n s ≡ t
stays_to f s t i n l e h = subst (λ (m : ℕ). rounds f m s ≡ t) (sub-add_cancel l) (stays f s t i (n - i) e h)

-- a body that does not look at the round's number
pub steady : {A : Type 0} (f : ℕ → A → A) → ((k m : ℕ) (s : A) → f k s ≡ f m s) → (n : ℕ) (s : A) → rounds f (suc n) s ≡ rounds f n (f 0 s)
unfolding rounds
steady f h zero s = refl
steady f h (suc n) s = ap (f (suc n)) (steady f h n s) ∙ h (suc n) n _

-- a state that the body gives back stays
pub still : {A : Type 0} (f : ℕ → A → A) (s : A) → ((k : ℕ) → f k s ≡ s) → (n : ℕ) → rounds f n s ≡ s
unfolding rounds
still f s h zero = refl
still f s h (suc n) = ap (f n) (still f s h n) ∙ h n

-- what holds before a counted loop and is kept by each of its rounds holds after it
pub rounds_keep : {A : Type 0} (f : ℕ → A → A) (P : ℕ → A → Type 0) (s : A) → P 0 s → ((k : ℕ) (a : A) → P k a → P (suc k) (f k a)) → (n : ℕ) → P n (rounds f n s)
unfolding rounds
rounds_keep f P s p h zero = p
rounds_keep f P s p h (suc n) = h n (rounds f n s) (rounds_keep f P s p h n)

-- two loops whose bodies agree in every round
pub rounds_same : {A : Type 0} (f g : ℕ → A → A) (n : ℕ) (s : A) → ((k : ℕ) → k < n → (a : A) → f k a ≡ g k a) → rounds f n s ≡ rounds g n s
unfolding rounds
rounds_same f g zero s h = refl
rounds_same f g (suc n) s h = ap (f n) (rounds_same f g n s (λ k l a. h k (omega arith) a)) ∙ h n (omega arith) (rounds g n s)

-- rounds in which the body gives every state back
idle_by : {A : Type 0} (f : ℕ → A → A) (s : A) (n d : ℕ) → ((k : ℕ) → n ≤ k → k < d + n → (a : A) → f k a ≡ a) → rounds f (d + n) s ≡ rounds f n s
unfolding rounds
idle_by f s n zero h = rw zero-add refl
idle_by f s n (suc d) h =
    rw suc-add
    (h (d + n) (omega arith) (omega arith) (rounds f (d + n) s) ∙ idle_by f s n d (λ k l m. h k l (omega arith)))

pub idle : {A : Type 0} (f : ℕ → A → A) (s : A) (n m : ℕ) → n ≤ m → ((k : ℕ) → n ≤ k → k < m → (a : A) → f k a ≡ a) → rounds f m s ≡ rounds f n s
idle f s n m l h =
    subst (λ (z : ℕ). rounds f z s ≡ rounds f n s) (sub-add_cancel l) (idle_by f s n (m - n) (λ k i j. h k i (omega arith)))
