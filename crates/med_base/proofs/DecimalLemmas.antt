-- Texts that don't parse are no decimal numbers.
use Rattle.std.proofs.Common.{◌≡◌, ◌<◌, ◌&&◌, ℕ, true, false, List, length, Err, arith, rules, nat_lt, nat_le}
use Rattle.std.specs.Char.{is_ascii_digit}
use Rattle.std.specs.List.{list_all}
use Rattle.std.specs.Str.Parse.{digits_value, ParsesUnsigned}
use Rattle.std.proofs.lemmas.Bool.{and_parts, ltb-true, leb-true, false_from_ne_true}
use Rattle.std.proofs.lemmas.Str.Parse.{IsNumeralModel, numerals_by_value, parse_digits}
use Rattle.med_base.specs.Decimal.{is_decimal}

digits : IsNumeralModel (λ ds. list_all is_ascii_digit ds ≡ true) (digits_value 10)
digits = numerals_by_value _ (search rules)

pub not_decimal : {E : Type 0} (places limit : ℕ) (text : List ℕ) (e : E) → limit < 4294967296
    → ParsesUnsigned 32 10 text (Err e) → is_decimal places limit text ≡ false
not_decimal places limit text e fits h = false_from_ne_true (is_decimal places limit text) (λ is.
    let some = nat_lt 0 (length text) in
    let all = list_all is_ascii_digit text in
    let ends = and_parts (all && some && nat_le (length text) places)
    (nat_le (digits_value 10 text) limit) is in
    let front = and_parts (all && some) (nat_le (length text) places) ends.0 in
    let start = and_parts all some front.0 in
    let long = ltb-true 0 (length text) start.1 in
    let small = leb-true (digits_value 10 text) limit ends.1 in
    parse_digits digits 32 text (Err e) h start.0 (long, omega arith))
