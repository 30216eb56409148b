-- The digits of six products add up to the two totals. Assumes nothing.
use mathlib.Core.Path.{◌≡◌, ap, ◌∙◌}
use mathlib.Core.Bool.{Bool, beq, true, false, cond}
use Prim.Native.Nat.{ℕ, ◌+◌, ◌*◌, ◌≤◌}
use Rattle.math.proofs.Digits.{sum_if}
use Rattle.turn.specs.declared.Turn.{Turn}
use Rattle.turn.specs.declared.exact.Limbs.{Limbs}
use Rattle.turn.specs.declared.exact.Product.{Product}
use Rattle.turn.specs.declared.exact.Six.{Six}
use Rattle.turn.specs.Turns.{by_sums}
use Rattle.turn.specs.Digits.{sum, units, digit_of, ProductOf, Flat, Over, Gathered, goes, adds, side_digit, side_total, Told}
use Rattle.turn.proofs.Sums.{sum_six}
use Rattle.turn.proofs.Products.{same_six}

one : (right t : Bool) (a b : Limbs) (p : Product) (n : ℕ) → ProductOf t a b p → p.slot + 5 ≤ n → sum (goes right p) n ≡ adds right t a b
one right t a b p n w h =
    sum_if 27 (beq p.back right) (digit_of p) n ∙ ap (λ (x : ℕ). cond (beq p.back right) x 0) (w.is n h)
    ∙ ap (λ (x : Bool). cond (beq x right) (units a * units b) 0) w.back_is

module _ (ae an be bn ce cn : Limbs) (s : Six) (n : ℕ) (g : Gathered ae an be bn ce cn s) (o : Over n s) where
  side : (right : Bool) → sum (side_digit right s) n ≡ side_total right ae an be bn ce cn
  unfolding side_digit side_total
  side right =
      sum_six (goes right s.pa) (goes right s.pb) (goes right s.pc) (goes right s.pd) (goes right s.pe) (goes right s.pf) n
      ∙ same_six (one right false ae bn s.pa n g.a o.a) (one right false be cn s.pb n g.b o.b) (one right false ce an s.pc n g.c o.c)
      (one right true an be s.pd n g.d o.d) (one right true bn ce s.pe n g.e o.e) (one right true cn ae s.pf n g.f o.f)

  whole : by_sums (sum (side_digit false s) n) (sum (side_digit true s) n) ≡ by_sums (side_total false ae an be bn ce cn) (side_total true ae an be bn ce cn)
  whole = ap (λ (x : ℕ). by_sums x (sum (side_digit true s) n)) (side false) ∙ ap (λ (x : ℕ). by_sums (side_total false ae an be bn ce cn) x) (side true)

pub totals :
    (ae an be bn ce cn : Limbs) (s : Six) (r : Turn) → Gathered ae an be bn ce cn s → Told s r →
    r ≡ by_sums (side_total false ae an be bn ce cn) (side_total true ae an be bn ce cn)
totals ae an be bn ce cn s r g t = t.is ∙ whole ae an be bn ce cn s t.top g t.over

pub flat : {ae an be bn ce cn : Limbs} {s : Six} → Gathered ae an be bn ce cn s → Flat s
flat g = record { a = g.a.narrow; b = g.b.narrow; c = g.c.narrow; d = g.d.narrow; e = g.e.narrow; f = g.f.narrow }
