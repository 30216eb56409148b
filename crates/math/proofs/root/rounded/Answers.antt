-- `math::root::rounded` meets its contract: the rounded root, with one digit or two too many before. Assumes nothing.
use mathlib.Core.Path.{refl, sym, subst, ap, ◌∙◌}
use mathlib.Core.Bool.{false, cond}
use Prim.Native.Nat.{ℕ, ◌*◌, ◌^◌, ◌≤◌}
use lib.Dec.{ltb}
use lib.Ieee.{binary64, units}
use Rattle.math.specs.Parts.{Twice, Fourth, Parts}
use Rattle.math.proofs.Rounding.{parts_of, scale_le, rounded_of}
use Rattle.math.proofs.root.rounded.Goals as goal
use Rattle.math.proofs.root.rounded.Goals.{After-fourth}

picked : (c : After-fourth) →
    Fourth (cond (ltb c.args.root (2 ^ 54)) (c.args.root * 2)
    c.args.root) c.args.rest c.fourth.result
picked c =
    let args = c.args in
    let digits-gives = c.choose-digits.ensures in
    subst (λ (g : ℕ). Fourth g args.rest c.fourth.result) digits-gives c.fourth.ensures

pub assemble-requires : goal.assemble-requires
assemble-requires c =
    let scale-gives = c.choose-scale.ensures in
    let args = c.args in
    let fourth-result = c.fourth.result in
    record {
      k_bound = subst (λ (k : ℕ). k ≤ 2046) (sym scale-gives) (scale_le _ _ args.rest fourth-result c.requires.root_bound c.requires.bound (ltb args.root (2 ^ 54)) c.requires.x_bound);
      parts = subst (Parts fourth-result) (sym scale-gives) (parts_of _ _ args.rest fourth-result c.requires.root_bound c.requires.bound (ltb args.root (2 ^ 54)) refl (picked c));
    }

pub returns : goal.returns
returns c =
    let args = c.args in
    let fourth-result = c.fourth.result in
    let scale-gives = c.choose-scale.ensures in
    let past-here = c.before in (
      c.assemble.ensures.0,
      λ (s : ℕ) (w : Twice s (2 * args.x) args.root args.rest).
          c.assemble.ensures.1
          ∙ ap (units binary64 false fourth-result) scale-gives
          ∙ sym (rounded_of _ _ _ fourth-result c.requires.root_bound c.requires.bound (ltb args.root (2 ^ 54)) s refl (picked past-here) w),
    )
