-- What is asked of each word before clap reads it. The grammar spells no other words.
use Rattle.std.specs.Prelude.{◌≡◌, ◌<◌, ◌==◌, true, [], ◌∷◌, length}
use Rattle.std.specs.List.{after_first}
use Rattle.clap.specs.Lexer.{has_byte}
use Rattle.med_words.specs.Grammar.{Text}

-- behind a first `=`, if there is one, stands something
abbrev pub EndsWell : Text → Type 0
EndsWell rest = has_byte 61 rest ≡ true → 0 < length (after_first (λ x. x == 61) rest)

-- what stands behind a hyphen: a second one, and more that ends well
abbrev pub IsRestOfOption : Text → Type 0
IsRestOfOption [] = ⊥
IsRestOfOption (y ∷ []) = ⊥
IsRestOfOption (y ∷ z ∷ zs) = (y ≡ 45) × EndsWell (z ∷ zs)

-- a word that isn't empty, and is an option where it begins with a hyphen
abbrev pub IsWellFormed : Text → Type 0
IsWellFormed [] = ⊥
IsWellFormed (x ∷ xs) = x ≡ 45 → IsRestOfOption xs
