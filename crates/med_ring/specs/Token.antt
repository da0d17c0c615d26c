-- The tokens of a JSON text.
use Rattle.std.specs.Prelude.{◌≡◌, ℤ, Option, Some, option_and_then, IsSome}
use Rattle.serde_json.specs.Data.{Data}
use Rattle.serde_json.specs.Find.{as_number, as_i64}

-- the value is a number, of whatever spelling
abbrev pub IsNumber : Data → Type 0
IsNumber d = IsSome (as_number d)

-- the whole number from -2^63 to 2^63-1 that a value is; a number with a point or an exponent,
-- one beyond these limits and `-0` are none
abbrev pub token_of : Data → Option ℤ
token_of d = option_and_then as_i64 (as_number d)

abbrev pub IsToken : Data → ℤ → Type 0
IsToken d token = token_of d ≡ Some token
