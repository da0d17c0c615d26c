-- Numbers in decimal digits, as an option or a line writes them. This project's own rule.
use Rattle.std.specs.Prelude.{ℕ, Bool, ◌&&◌, nat_lt, nat_le, List, length}
use Rattle.std.specs.Char.{is_ascii_digit}
use Rattle.std.specs.List.{list_all}
use Rattle.std.specs.Str.Parse.{digits_value}

-- 1 to so many of the digits `0` to `9`, with a value of at most the limit; zeros may lead
abbrev pub is_decimal : (places limit : ℕ) → List ℕ → Bool
is_decimal places limit text = list_all is_ascii_digit text && nat_lt 0 (length text)
    && nat_le (length text) places && nat_le (digits_value 10 text) limit
