-- A line of the ini form by itself. A line is the list of its bytes, without its line feed.
use Rattle.std.specs.Prelude.{ℕ, Bool, true, false, ◌+◌, ◌-◌, ◌==◌, ◌||◌, List, [], ◌∷◌, Option, Some, None, cond, length, take, drop, position, option_map, option_and_then}
use Rattle.std.specs.List.{prefix_len, suffix_len}
use Rattle.std.specs.Str.{str_to_ascii_lowercase}
use Rattle.med_base.specs.Cut.{pieces_of}

abbrev pub Line : Type 0
Line = List ℕ

-- the lines of a text, which end at line feeds alone
abbrev pub lines_of : List ℕ → List Line
lines_of text = pieces_of 10 text

-- white space: space, tab, carriage return, vertical tab and form feed
abbrev pub is_space : ℕ → Bool
is_space b = b == 32 || b == 9 || b == 13 || b == 11 || b == 12

-- white space or a line feed
abbrev pub is_blank : ℕ → Bool
is_blank b = is_space b || b == 10

-- the number of white space characters at the start
abbrev pub indent : Line → ℕ
indent line = prefix_len is_space line

-- what stands past the white space at the start
abbrev pub past : Line → Line
past line = drop (indent line) line

-- a text without the white space and the line feeds at its end
abbrev pub without_end : List ℕ → List ℕ
without_end text = take (length text - suffix_len is_blank text) text

-- a line without the white space at both ends; it has no line feed
abbrev pub stripped : Line → Line
stripped line = without_end (past line)

abbrev pub is_empty : Line → Bool
is_empty [] = true
is_empty (b ∷ rest) = false

-- `#` or `;` stands first
abbrev pub begins_comment : Line → Bool
begins_comment [] = false
begins_comment (b ∷ rest) = b == 35 || b == 59

-- a line feed
abbrev pub is_feed : ℕ → Bool
is_feed b = b == 10

-- `]`
abbrev pub is_close : ℕ → Bool
is_close b = b == 93

-- `=` or `:`
abbrev pub is_delimiter : ℕ → Bool
is_delimiter b = b == 61 || b == 58

-- the bytes up to a place, if there are any
abbrev pub named_to : Line → ℕ → Option Line
named_to text at = cond (at == 0) None (Some (take at text))

-- what stands before and behind the first byte that passes a test
abbrev pub parted : (ℕ → Bool) → Line → Option (Line × Line)
parted p text = option_map (λ at. (take at text, drop (at + 1) text)) (position p text)

-- what stands before the first `]`, at least one character
abbrev pub bracketed : Line → Option Line
bracketed text = option_and_then (named_to text) (position is_close text)

-- the name of a header: what stands between `[` and the first `]`, at least one character
abbrev pub header_of : Line → Option Line
header_of [] = None
header_of (b ∷ rest) = cond (b == 91) (bracketed rest) None

-- the key and the first line of the value: what stands before and behind the first `=` or `:`,
-- both stripped, the key with its ASCII letters in lower case
abbrev pub key_value : Line → Option (Line × Line)
key_value text = option_map
    (λ (p : Line × Line). (str_to_ascii_lowercase (stripped p.0), stripped p.1))
    (parted is_delimiter text)
