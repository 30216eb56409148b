-- A walk that takes each candidate whose key is below the key of what it holds ends with the least key. So no edge is nearer than the
-- nearest point; and its gap is the distance to it, or infinity. Assumes nothing.
use Prim.Native.Nat.{ℕ, suc, ◌<◌}
use native.Mathlib.Omega.{arith}
use mathlib.Core.Path.{◌≡◌, refl, sym, ◌∙◌, subst}
use mathlib.Core.Bool.{Bool, true, false, cond, true≢false, false≢true}
use mathlib.Core.List.{List}
use borrow.Author.Tests.{eqb-true, eqb-false}
use lib.Dec.{eqb}
use lib.Ieee.{Float, nan, inf, fin, lt, le}
use Rattle.hypotenuse.specs.Hypot.{hypot}
use Rattle.math.specs.Number.{abs, finite, distance, infinity, open_number}
use Rattle.math.proofs.Laws.{hypot_unsigned}
use Rattle.math.proofs.Order.{short, irreflexive, lt_le}
use Rattle.plane.specs.declared.PlanarPoint.{PlanarPoint}
use Rattle.plane.specs.Plane.{sub}
use Rattle.plane.specs.Points.{length_of, distance_to}
use Rattle.segment.specs.Segments.{closest_on_segment}
use Rattle.ring.specs.Ring.{vertex_at, edge_end}
use Rattle.base.specs.Loop.{rounds}
use Rattle.base.proofs.Laws.{rounds_keep}
use Rattle.ring_near.specs.declared.Nearest.{Nearest}
use Rattle.ring_near.specs.Near.{nearer, gap_to, nearest_step, none_yet, nearest}
use Rattle.ring_near.specs.Least.{NearestLeast, Footed, NearestFoot}

-- ---- the order of keys, NaN or not

-- what is not below z is not below anything that is at most z
pub not_below : (x y z : Float) → le y z ≡ true → lt x z ≡ false → lt x y ≡ false
not_below x y z h g = go (lt x y) refl
  where
    go : (b : Bool) → lt x y ≡ b → lt x y ≡ false
    go true e = absurd (true≢false (sym h ∙ short x y z e g))
    go false e = e

-- ---- the walk: c k is the candidate of round k, s what it starts with

module _ {A : Type 0} (key : A → Float) (c : ℕ → A) (f : ℕ → A → A) (body : (k : ℕ) (a : A) → f k a ≡ cond (lt (key (c k)) (key a)) (c k) a) (s : A) where
  -- what holds of the start and of each candidate that is taken holds of the end
  pub end_is_one : (P : A → Type 0) → P s → ((k : ℕ) (a : A) → lt (key (c k)) (key a) ≡ true → P (c k)) → (n : ℕ) → P (rounds f n s)
  end_is_one P p h = rounds_keep f (λ (k : ℕ) (a : A). P a) s p (λ k a q. subst P (sym (body k a)) (go (lt (key (c k)) (key a)) (h k a) q))
    where
      go : (b : Bool) {x y : A} → (b ≡ true → P x) → P y → P (cond b x y)
      go true p q = p refl
      go false p q = q

  -- a round ends with no key above the one before it, and with none above its candidate's
  round_falls : (k : ℕ) (a : A) (x : Float) → lt x (key a) ≡ false → lt x (key (f k a)) ≡ false
  round_falls k a x h = subst (λ (t : A). lt x (key t) ≡ false) (sym (body k a)) (go (lt (key (c k)) (key a)) refl)
    where
      go : (b : Bool) → lt (key (c k)) (key a) ≡ b → lt x (key (cond b (c k) a)) ≡ false
      go true e = not_below x (key (c k)) (key a) (lt_le (key (c k)) (key a) e) h
      go false e = h

  round_least : (k : ℕ) (a : A) → lt (key (c k)) (key (f k a)) ≡ false
  round_least k a = subst (λ (t : A). lt (key (c k)) (key t) ≡ false) (sym (body k a)) (go (lt (key (c k)) (key a)) refl)
    where
      go : (b : Bool) → lt (key (c k)) (key a) ≡ b → lt (key (c k)) (key (cond b (c k) a)) ≡ false
      go true e = irreflexive (key (c k))
      go false e = e

  -- neither the start nor a candidate is below the end
  pub start_not_below : (n : ℕ) → lt (key s) (key (rounds f n s)) ≡ false
  start_not_below = rounds_keep f (λ (k : ℕ) (a : A). lt (key s) (key a) ≡ false) s (irreflexive (key s)) (λ k a h. round_falls k a (key s) h)

  pub none_below : (n k : ℕ) → k < n → lt (key (c k)) (key (rounds f n s)) ≡ false
  none_below =
      rounds_keep f (λ (n : ℕ) (a : A). (k : ℕ) → k < n → lt (key (c k)) (key a) ≡ false) s (λ k l. absurd (omega arith)) (λ n a h k l. go n a k l h (eqb k n) refl)
    where
      go : (n : ℕ) (a : A) (k : ℕ) → k < suc n → ((j : ℕ) → j < n → lt (key (c j)) (key a) ≡ false) → (b : Bool) → eqb k n ≡ b → lt (key (c k)) (key (f n a)) ≡ false
      go n a k l h true e = subst (λ (i : ℕ). lt (key (c i)) (key (f n a)) ≡ false) (sym (eqb-true k n e)) (round_least n a)
      go n a k l h false e = round_falls n a (key (c k)) (h k (omega (arith, eqb-false k n e)))

-- ---- the nearest point

-- what edge k offers
abbrev offered : List Float → ℕ → PlanarPoint → ℕ → Nearest
offered ps n p k = gap_to p (closest_on_segment p (vertex_at ps k) (edge_end ps n k))

pub nearest_least : NearestLeast
unfolding nearest nearest_step nearer
nearest_least ps n p k l = none_below (λ (t : Nearest). t.gap) (offered ps n p) (nearest_step ps n p) (λ j a. refl) (none_yet p) n k l

pub finite_length : (x : Float) → abs x ≡ x → lt x infinity ≡ true → distance x ≡ x
unfolding abs lt finite distance open_number
finite_length nan e h = absurd (false≢true h)
finite_length (inf false) e h = absurd (false≢true h)
finite_length (inf true) e h = absurd (false≢true (cc))
finite_length (fin s m d) e h = refl

-- what was taken, being below something, is a number
taken_top : (x y : Float) → lt x y ≡ true → lt x infinity ≡ false → x ≡ infinity
unfolding lt open_number
taken_top nan y h g = absurd (false≢true h)
taken_top (inf false) y h g = refl
taken_top (inf true) y h g = absurd (true≢false g)
taken_top (fin s m d) y h g = absurd (true≢false g)

-- before the first edge
none_footed : (p : PlanarPoint) → Footed p (none_yet p)
unfolding lt open_number
none_footed p = record { below = λ h. absurd (false≢true h); top = λ h. refl }

taken_footed : (p q : PlanarPoint) (y : Float) → lt (gap_to p q).gap y ≡ true → Footed p (gap_to p q)
unfolding gap_to distance_to length_of
taken_footed p q y h =
    let v = sub q p in
    record {
      below = λ g. finite_length (hypot v.east v.north) (hypot_unsigned v.east v.north) g;
      top = taken_top (hypot v.east v.north) y h;
    }

pub nearest_foot : NearestFoot
unfolding nearest nearest_step nearer
nearest_foot ps n p =
    end_is_one (λ (t : Nearest). t.gap) (offered ps n p) (nearest_step ps n p) (λ j a. refl) (none_yet p) (Footed p) (none_footed p)
    (λ k a h. taken_footed p (closest_on_segment p (vertex_at ps k) (edge_end ps n k)) a.gap h) n
