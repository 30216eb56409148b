-- What the functions of `exact.rt` promise one another: digits of 27 bits at slots. Definitions only.
use Rattle.std.specs.Prelude.{◌≡◌, Bool, true, false, cond, not, ℕ, ◌+◌, ◌*◌, ◌^◌, ◌≤◌, ◌<◌, eqb}
use Rattle.std.specs.Bool.{beq}
use Rattle.math.specs.Digits.{digit_sum}
use Rattle.turn.specs.declared.Turn.{Turn}
use Rattle.turn.specs.declared.exact.Limbs.{Limbs}
use Rattle.turn.specs.declared.exact.Spot.{Spot}
use Rattle.turn.specs.declared.exact.Product.{Product}
use Rattle.turn.specs.declared.exact.Six.{Six}
use Rattle.turn.specs.Turns.{place_of, by_sums}

-- what the digits f of the slots below k come to
abbrev pub sum : (ℕ → ℕ) → ℕ → ℕ
sum = digit_sum 27

abbrev pub units : Limbs → ℕ
units l = (l.low + l.mid * 2 ^ 27 + l.high * 2 ^ 54) * 2 ^ (27 * l.slot)

pub record Small (l : Limbs) : Type 0 where
  pub slot_le : l.slot ≤ 75
  pub low_lt : l.low < 2 ^ 27
  pub mid_lt : l.mid < 2 ^ 27
  pub high_lt : l.high < 2 ^ 27

pub record SmallSpot (p : Spot) : Type 0 where
  pub east_small : Small p.east
  pub north_small : Small p.north

pub record LimbsOf (back : Bool) (u : ℕ) (l : Limbs) : Type 0 where
  pub back_is : l.back ≡ back
  pub is : units l ≡ u
  pub small : Small l

-- the place P is that of a number of u units, negative where s
pub record Placed (P : ℕ) (s : Bool) (u : ℕ) : Type 0 where
  pub is : P ≡ place_of s u
  pub within : u ≤ 2 ^ 2098

-- a digit is a sum of at most three products of two limbs
pub record Narrow (p : Product) : Type 0 where
  pub slot_le : p.slot ≤ 150
  pub da_le : p.da ≤ 3 * 2 ^ 54
  pub db_le : p.db ≤ 3 * 2 ^ 54
  pub dc_le : p.dc ≤ 3 * 2 ^ 54
  pub dd_le : p.dd ≤ 3 * 2 ^ 54
  pub de_le : p.de ≤ 3 * 2 ^ 54

unfoldable pub digit_of : Product → ℕ → ℕ
digit_of p k =
    cond (eqb k p.slot) p.da
    (cond (eqb k (p.slot + 1)) p.db
    (cond (eqb k (p.slot + 2)) p.dc
    (cond (eqb k (p.slot + 3)) p.dd
    (cond (eqb k (p.slot + 4)) p.de 0))))

abbrev pub xor : Bool → Bool → Bool
xor a b = not (beq a b)

-- the product of a and b counts to the right
abbrev pub turns_back : Bool → Limbs → Limbs → Bool
turns_back turned a b = xor turned (xor a.back b.back)

pub record ProductOf (turned : Bool) (a b : Limbs) (p : Product) : Type 0 where
  pub back_is : p.back ≡ turns_back turned a b
  pub is : (k : ℕ) → p.slot + 5 ≤ k → sum (digit_of p) k ≡ units a * units b
  pub narrow : Narrow p

-- ---- six products

pub record Flat (s : Six) : Type 0 where
  pub a : Narrow s.pa
  pub b : Narrow s.pb
  pub c : Narrow s.pc
  pub d : Narrow s.pd
  pub e : Narrow s.pe
  pub f : Narrow s.pf

-- what p counts at the slot k, to the right where `right`, else to the left
abbrev pub goes : Bool → Product → ℕ → ℕ
goes right p k = cond (beq p.back right) (digit_of p k) 0

unfoldable pub side_digit : Bool → Six → ℕ → ℕ
side_digit right s k =
    goes right s.pa k + goes right s.pb k + goes right s.pc k
    + goes right s.pd k + goes right s.pe k + goes right s.pf k

-- p has no digit below n
abbrev pub Under : ℕ → Product → Type 0
Under n p = (k : ℕ) → k < n → digit_of p k ≡ 0

pub record Empty (n : ℕ) (s : Six) : Type 0 where
  pub a : Under n s.pa
  pub b : Under n s.pb
  pub c : Under n s.pc
  pub d : Under n s.pd
  pub e : Under n s.pe
  pub f : Under n s.pf

-- no product reaches n
pub record Over (n : ℕ) (s : Six) : Type 0 where
  pub a : s.pa.slot + 5 ≤ n
  pub b : s.pb.slot + 5 ≤ n
  pub c : s.pc.slot + 5 ≤ n
  pub d : s.pd.slot + 5 ≤ n
  pub e : s.pe.slot + 5 ≤ n
  pub f : s.pf.slot + 5 ≤ n

-- r is the turn that the six products tell
pub record Told (s : Six) (r : Turn) : Type 0 where
  pub top : ℕ
  pub over : Over top s
  pub is : r ≡ by_sums (sum (side_digit false s) top) (sum (side_digit true s) top)

-- ---- the two sums of six numbers

abbrev pub adds : Bool → Bool → Limbs → Limbs → ℕ
adds right turned a b = cond (beq (turns_back turned a b) right) (units a * units b) 0

unfoldable pub side_total : Bool → Limbs → Limbs → Limbs → Limbs → Limbs → Limbs → ℕ
side_total right ae an be bn ce cn =
    adds right false ae bn + adds right false be cn + adds right false ce an
    + adds right true an be + adds right true bn ce + adds right true cn ae

-- the six products of the turn from a by b to c
pub record Gathered (ae an be bn ce cn : Limbs) (s : Six) : Type 0 where
  pub a : ProductOf false ae bn s.pa
  pub b : ProductOf false be cn s.pb
  pub c : ProductOf false ce an s.pc
  pub d : ProductOf true an be s.pd
  pub e : ProductOf true bn ce s.pe
  pub f : ProductOf true cn ae s.pf
