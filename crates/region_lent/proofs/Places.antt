-- Ring 0 and the rings after it; one number written from a place on, and one past the end. Assumes nothing.
use Prim.Native.Nat.{ℕ, zero, suc, ◌+◌, ◌-◌, ◌*◌, ◌≤◌}
use native.Mathlib.Omega.{arith}
use mathlib.Core.Path.{◌≡◌, refl, sym, ap, ◌∙◌}
use mathlib.Core.Logic.{◌≢◌}
use mathlib.Core.List.{List}
use lib.ListN.{get_or, drop, set, length}
use lib.Seq.{set_out}
use lib.Ieee.{Float, nan}
use Rattle.outline_lent.specs.Writes.{write_step}
use Rattle.region_lent.specs.Rings.{count_of, points_of}

pub count_first : (n : ℕ) (cs : List ℕ) (k : ℕ) → k ≡ 0 → n ≡ count_of n cs k
unfolding count_of
count_first n cs k e = rw e refl

pub count_later : (n : ℕ) (cs : List ℕ) (k r : ℕ) → k ≢ 0 → r ≡ get_or cs (k - 1) 0 → r ≡ count_of n cs k
unfolding count_of
count_later n cs zero r h e = absurd (h refl)
count_later n cs (suc k) r h e = let q : suc k - 1 ≡ k = omega arith in e ∙ ap (λ (i : ℕ). get_or cs i 0) q

pub points_first : (ps hs : List Float) (k : ℕ) → k ≡ 0 → ps ≡ points_of ps hs k
unfolding points_of
points_first ps hs k e = rw e refl

pub points_later : (ps hs : List Float) (k : ℕ) (r : List Float) → k ≢ 0 → r ≡ drop (64 * (k - 1)) hs → r ≡ points_of ps hs k
unfolding points_of
points_later ps hs zero r h e = absurd (h refl)
points_later ps hs (suc k) r h e = let q : suc k - 1 ≡ k = omega arith in e ∙ ap (λ (i : ℕ). drop (64 * i) hs) q

module _ (ps : List Float) (base k : ℕ) (out : List Float) where
  pub written : (x : Float) → x ≡ get_or ps k nan → set out (base + k) x ≡ write_step ps base k out
  unfolding write_step
  written x e = rw e refl

  pub left_out : (room size : ℕ) → room ≡ size - base → length out ≡ size → room ≤ k → out ≡ write_step ps base k out
  unfolding write_step
  left_out room size e q l = sym (set_out out (base + k) (get_or ps k nan) (omega arith))
