-- A field as a number, by its digits. Assumes nothing.
use Prim.Native.Nat.{ℕ, ◌%◌, ◌*◌, ◌^◌, ◌≤◌, ◌<◌}
use native.Mathlib.Omega.{arith}
use mathlib.Core.Bool.{Bool, true, false, not, ◌&&◌, ◌||◌, false≢true}
use mathlib.Core.Path.{◌≡◌, refl, sym, ap, ◌∙◌, subst}
use mathlib.Core.List.{List}
use lib.Dec.{T, leb, eqb}
use lib.ListN.{get_or, length}
use lib.Ieee.{Float, nan, inf, fin, binary64, of_bits, is_nan, nan_bits}
use lib.Ieee.Bits.{nan_bits_is, nan_bits_above}
use borrow.Author.Tests.{lt-ltb, le-ltb, le-leb, lt-leb, eq-eqb, ne_eqb}
use Rattle.base.specs.Loop.{rounds}
use Rattle.std.proofs.Common.{Option, None, Some, MatchOption}
use Rattle.format.specs.Numerals.{is_decimal, is_hex, decimal_value, hex_value, hex_step, is_float, bits_step, bits_of, float_of, decimal_step, all_decimal, leads_well, is_count, count_step, count_of}
use Rattle.format_numerals.specs.Readings.{Run, FieldValue, all_pass, number_of}

-- ---- patterns

pub no_nan : (bits : ℕ) → bits % 2 ^ 63 ≤ 2047 * 2 ^ 52 → T (not (nan_bits binary64 bits))
no_nan bits h = subst (λ (b : Bool). T (not b)) (sym (nan_bits_above binary64 bits ∙ le-ltb (2047 * 2 ^ 52) (bits % 2 ^ 63) h)) tt

the_nan : (v : Float) → is_nan v ≡ true → v ≡ nan
unfolding is_nan
the_nan nan e = refl
the_nan (inf s) e = absurd (subst T (sym e) tt)
the_nan (fin s m x) e = absurd (subst T (sym e) tt)

pub is_a_nan : (bits : ℕ) → 2047 * 2 ^ 52 < bits % 2 ^ 63 → nan ≡ of_bits binary64 bits
is_a_nan bits h = sym (the_nan (of_bits binary64 bits) (sym (nan_bits_is binary64 bits) ∙ nan_bits_above binary64 bits ∙ lt-ltb (2047 * 2 ^ 52) (bits % 2 ^ 63) h))

-- ---- floats

module _ (field : List ℕ) where
  float_formed : length field ≡ 16 → is_float field ≡ all_pass is_hex field 16
  unfolding is_float hex_step
  float_formed e = ap (λ (t : Bool). t && all_pass is_hex field 16) (eq-eqb (length field) 16 e)

  pub bits_read : (value : ℕ) → length field ≡ 16 → all_pass is_hex field 16 ≡ true × value ≡ number_of 16 hex_value field 16 → FieldValue is_float bits_of field value
  unfolding bits_of bits_step
  bits_read value l (s, v) = record { formed = float_formed l ∙ s; is = v }

  pub float_read : (bits : ℕ) (x : Float) → FieldValue is_float bits_of field bits → x ≡ of_bits binary64 bits → FieldValue is_float float_of field x
  unfolding float_of
  float_read bits x b e = record { formed = b.formed; is = e ∙ ap (λ (n : ℕ). of_bits binary64 n) b.is }

  pub float_broken : length field ≡ 16 → all_pass is_hex field 16 ≡ false → is_float field ≡ false
  float_broken l s = float_formed l ∙ s

  pub float_width : (length field ≡ 16 → ⊥) → is_float field ≡ false
  unfolding is_float
  float_width e = ap (λ (t : Bool). t && rounds (hex_step field) 16 true) (ne_eqb (length field) 16 e)

  -- ---- counts

  pub count_none : length field ≡ 0 → is_count field ≡ false
  unfolding is_count
  count_none e = ap (λ (n : ℕ). leb 1 n && (leb (length field) 3 && (leads_well field && all_decimal field))) e

  pub count_long : 3 < length field → is_count field ≡ false
  unfolding is_count
  count_long l = rw (lt-leb (length field) 3 l, le-leb 1 (length field) (one (length field) l)) refl
    where
      one : (n : ℕ) → 3 < n → 1 ≤ n
      one n h = omega arith

  -- a field of one to three bytes
  count_formed : (length field ≡ 0 → ⊥) → length field ≤ 3 → is_count field ≡ (leads_well field && all_pass is_decimal field (length field))
  unfolding is_count all_decimal decimal_step
  count_formed l m = rw (le-leb 1 (length field) (some (length field) l), le-leb (length field) 3 m) refl
    where
      some : (n : ℕ) → (n ≡ 0 → ⊥) → 1 ≤ n
      some n f = omega arith

  pub count_led : (length field ≡ 0 → ⊥) → length field ≤ 3 → (not (eqb (length field) 1) && eqb (get_or field 0 0) 48) ≡ true → is_count field ≡ false
  unfolding leads_well
  count_led l m e = count_formed l m ∙ ap (λ (t : Bool). t && all_pass is_decimal field (length field)) (go (eqb (length field) 1) (eqb (get_or field 0 0) 48) e)
    where
      go : (a b : Bool) → (not a && b) ≡ true → (a || not b) ≡ false
      go true b h = absurd (false≢true h)
      go false true h = refl
      go false false h = sym h

  pub count_read : (r : Option ℕ) → (length field ≡ 0 → ⊥) → length field ≤ 3 → (not (eqb (length field) 1) && eqb (get_or field 0 0) 48) ≡ false
      → Run 10 is_decimal decimal_value field (length field) r → MatchOption r (is_count field ≡ false) (FieldValue is_count count_of field)
  unfolding leads_well count_of count_step
  count_read r l m e h = by r h
    where
      go : (a b : Bool) → (not a && b) ≡ false → (a || not b) ≡ true
      go true b h = refl
      go false true h = sym h
      go false false h = refl

      formed : is_count field ≡ all_pass is_decimal field (length field)
      formed = count_formed l m ∙ ap (λ (t : Bool). t && all_pass is_decimal field (length field)) (go (eqb (length field) 1) (eqb (get_or field 0 0) 48) e)

      by : (r : Option ℕ) → Run 10 is_decimal decimal_value field (length field) r → MatchOption r (is_count field ≡ false) (FieldValue is_count count_of field)
      by None s = formed ∙ s
      by (Some n) (s, v) = record { formed = formed ∙ s; is = v }
