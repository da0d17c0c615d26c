-- Where the command word of a line stands: behind the words of main options, each of which takes a
-- value, as its next word where no `=` stands in it.
use Rattle.std.specs.Prelude.{◌==◌, ℕ, Bool, true, false, not, List, [], ◌∷◌, suc, map, string_bytes, if◌then◌else◌}
use Rattle.clap.specs.Lexer.{has_byte}
use Rattle.med_words.specs.Grammar.{Text}
use Rattle.med_words.specs.declared.cut.Cut.{Cut}

-- whether a word isn't empty and begins with no hyphen
abbrev pub is_plain : Text → Bool
is_plain [] = false
is_plain (x ∷ xs) = not (x == 45)

-- how many words stand before the command word, of which the first is a value where that is said
abbrev pub main_count : Bool → List Text → ℕ
main_count is_value [] = 0
main_count true (w ∷ ws) = suc (main_count false ws)
main_count false (w ∷ ws) = if is_plain w then 0 else suc (main_count (not (has_byte 61 w)) ws)

-- the words before the command word, it, and the words behind it
abbrev pub parts : Cut → List Text × Text × List Text
parts c = (map string_bytes c.main.now, c.word.now, map string_bytes c.own.now)
