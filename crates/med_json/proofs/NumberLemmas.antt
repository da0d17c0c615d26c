-- Whole numbers among those that texts write.
use Rattle.std.proofs.Common.{◌≡◌, ◌^◌, ◌<◌, ◌&&◌, ℕ, Bool, true, false, Float, Option, Some, None, option_and_then, refl, sym, ap, arith, SomeIff}
use Rattle.std.specs.Prelude.{if◌then◌else◌, nat_lt, nat_le}
use Rattle.std.specs.Float.{binary64, float_is_finite}
use Rattle.fast_float.specs.Text.{Parts, IsInteger, digits_of, nearest, with_sign}
use Rattle.serde_json.specs.Data.{unsigned, negative, float}
use Rattle.serde_json.specs.Find.{as_u64}
use Rattle.serde_json.specs.Read.{number_from, float_of, is_integer}

-- a float is no whole number
float_is_none : (b : Bool) (x : Float)
    → option_and_then as_u64 (if b then Some (float x) else None) ≡ None
float_is_none true x = refl
float_is_none false x = refl

-- a number below zero is no whole number from 0
pub none_below : (p : Parts) → option_and_then as_u64 (number_from true p) ≡ None
none_below p = go (is_integer p && nat_lt 0 (digits_of p) && nat_le (digits_of p) (2 ^ 63))
  where
    go : (b : Bool) → option_and_then as_u64
        (if b then Some (negative (with_sign true (digits_of p))) else float_of true p) ≡ None
    go true = refl
    go false = float_is_none (float_is_finite (nearest binary64 true p))
        (nearest binary64 true p)

-- whether the parts are digits alone
pub integer_test : (p : Parts) → IsInteger p → is_integer p ≡ true
integer_test p (some, point, exponent) = grind (arith, some, point, exponent)

pub integer_tested : (p : Parts) → is_integer p ≡ true → IsInteger p
integer_tested p e = grind arith

-- a whole number that was read of the parts
pub whole_above : (p : Parts) (r : Option ℕ)
    → SomeIff r (IsInteger p × (digits_of p < 2 ^ 64)) (digits_of p)
    → r ≡ option_and_then as_u64 (number_from false p)
whole_above p r h = go (is_integer p && nat_lt (digits_of p) (2 ^ 64)) refl r h
  where
    go : (b : Bool) → (is_integer p && nat_lt (digits_of p) (2 ^ 64)) ≡ b → (r : Option ℕ)
        → SomeIff r (IsInteger p × (digits_of p < 2 ^ 64)) (digits_of p)
        → r ≡ option_and_then as_u64 (if b then Some (unsigned (digits_of p)) else float_of false p)
    go true e None h = absurd (h (grind arith))
    go true e (Some n) (is, same) = ap (λ m. Some m) same
    go false e None h = sym (float_is_none (float_is_finite (nearest binary64 false p))
        (nearest binary64 false p))
    go false e (Some n) (is, same) = absurd (grind arith)
