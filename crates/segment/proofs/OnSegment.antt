-- A point touches a segment if and only if it lies on it. Assumes nothing.
use mathlib.Core.Path.{◌≡◌, refl, sym, ap, ◌∙◌, subst}
use Prim.Native.Nat.{ℕ, ◌+◌, ◌*◌, ◌<◌}
use native.Mathlib.Nat.{add-mul, mul_comm, eq_of_mul-eq-mul_right}
use Rattle.turn.specs.declared.Turn.{Turn}
use Rattle.segment.specs.Segments.{touches}
use Rattle.turn.specs.Turns.{Place, place_at, left_places, right_places}
use Rattle.segment.specs.Meeting.{Share, TouchIffOn}
use Rattle.segment.proofs.Meet.{Between, balanced}
use Rattle.segment.proofs.Shared.{Touch, mean, touch_between}
use Rattle.segment.proofs.Theorem.{turn_is, touch_in, touch_out}

between_share : (a b p : Place) → Between a b p → Share a b p p
between_share a b p w = record {
  i' = w.k';
  i = w.k;
  k' = w.k';
  k = w.k;
  whole = refl;
  some = w.some;
  east = sym w.east ∙ add-mul w.k' w.k p.e;
  north = sym w.north ∙ add-mul w.k' w.k p.n;
}

abbrev exchanged : (a b p : Place) → Share a b p p → Share p p a b
exchanged a b p s = record {
  i' = s.k';
  i = s.k;
  k' = s.i';
  k = s.i;
  whole = sym s.whole;
  some = subst (λ (x : ℕ). 0 < x) s.whole s.some;
  east = sym s.east;
  north = sym s.north;
}

share_touch : (a b p : Place) → Share a b p p → Touch a b p
share_touch a b p s = record {
  line = same s.k' s.k (left_places a b p) (right_places a b p) (subst (λ (x : ℕ). 0 < x) s.whole s.some) (balanced p p a b (exchanged a b p s));
  east = mean s.i' s.i a.e b.e p.e s.some (weighted p.e ∙ sym s.east);
  north = mean s.i' s.i a.n b.n p.n s.some (weighted p.n ∙ sym s.north);
}
  where
    weighted : (x : ℕ) → (s.i' + s.i) * x ≡ s.k' * x + s.k * x
    weighted x = ap (λ (w : ℕ). w * x) s.whole ∙ add-mul s.k' s.k x

    same : (k' k l r : ℕ) → 0 < k' + k → k' * l + k * l ≡ k' * r + k * r → l ≡ r
    same k' k l r some e =
        eq_of_mul-eq-mul_right (k' + k) some l r (mul_comm l (k' + k) ∙ add-mul k' k l ∙ e ∙ sym (add-mul k' k r) ∙ mul_comm (k' + k) r)

pub touch_iff_on : TouchIffOn
touch_iff_on = record {
  touching_on = λ a b p fa fb fp h.
      between_share (place_at a) (place_at b) (place_at p) (touch_between (place_at a) (place_at b) (place_at p)
      (touch_in a b p fa fb fp (ap (λ (t : Turn). touches t a b p) (sym (turn_is a b p fa fb fp)) ∙ h)));
  on_touching = λ a b p fa fb fp s.
      ap (λ (t : Turn). touches t a b p) (turn_is a b p fa fb fp) ∙ touch_out a b p fa fb fp (share_touch (place_at a) (place_at b) (place_at p) s);
}
