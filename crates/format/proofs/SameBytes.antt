-- The test of two lists of bytes says that they are one. Assumes nothing.
use Prim.Native.Nat.{ℕ, ◌<◌}
use mathlib.Core.Bool.{true}
use mathlib.Core.Path.{◌≡◌, refl, subst}
use mathlib.Core.List.{List}
use mathlib.Mathlib.Data.Bool.Basic.{and_elim_left, and_elim_right}
use borrow.Author.Tests.{eqb-true, eq-eqb}
use lib.Dec.{eqb}
use lib.ListN.{get_or, length}
use lib.Seq.{ext_get_or}
use Rattle.base.proofs.Elements.{tested, tested_at}
use Rattle.format.specs.Lines.{same_step, same_bytes}

pub same_are : (xs ys : List ℕ) → same_bytes xs ys ≡ true → xs ≡ ys
unfolding same_bytes same_step
same_are xs ys e =
    let bytes = tested_at (length ys) (λ i. eqb (get_or xs i 0) (get_or ys i 0)) (and_elim_right (eqb (length xs) (length ys)) _ e) in
    ext_get_or 0 xs ys size (λ k l. eqb-true (get_or xs k 0) (get_or ys k 0) (bytes k (subst (λ (n : ℕ). k < n) size l)))
  where
    size : length xs ≡ length ys
    size = eqb-true (length xs) (length ys) (and_elim_left (eqb (length xs) (length ys)) _ e)

pub same_self : (xs : List ℕ) → same_bytes xs xs ≡ true
unfolding same_bytes same_step
same_self xs =
    rw (eq-eqb (length xs) (length xs) refl)
    (tested (length xs) (λ i. eqb (get_or xs i 0) (get_or xs i 0)) (λ k l. eq-eqb (get_or xs k 0) (get_or xs k 0) refl))
