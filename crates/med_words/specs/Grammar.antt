-- The grammar of the command line, as what spells words: main options, one command word and the
-- options of that command. This project's own rules; a word is the list of its bytes.
use Rattle.std.specs.Prelude.{◌≡◌, ◌≢◌, ◌<◌, ℕ, Bool, true, false, List, [], ◌∷◌, ◌++◌, length, Option, Some, None, cond, option_map}
use Rattle.std.specs.List.{find, flat_map, list_any, AllByRecursion}
use Rattle.std.specs.Str.{bytes_eq}

-- a word, a name or a value, by its bytes
abbrev pub Text : Type 0
Text = List ℕ

-- ---- what a level offers

-- an option by its name, without its dashes: one with a value, which has to stand where the second
-- part is true, or a flag
pub data Opt : Type 0 where
  valued : Text → Bool → Opt
  flag : Text → Opt

-- the name of an option
abbrev pub opt_name : Opt → Text
opt_name (valued n q) = n
opt_name (flag n) = n

-- the option of that name
abbrev pub opt_of : List Opt → Text → Option Opt
opt_of table n = find (λ o. bytes_eq (opt_name o) n) table

-- a command word with its options
abbrev pub Row : Type 0
Row = Text × List Opt

-- the command words, each with its options
abbrev pub Commands : Type 0
Commands = List Row

-- the options of that command word
abbrev pub options_of : Commands → Text → Option (List Opt)
options_of commands word = option_map (λ c. c.1) (find (λ c. bytes_eq c.0 word) commands)

-- ---- uses of options

-- an option as it stands on the line: its name alone, its name with the value joined to it, or its
-- name with the value as the next word
pub data Use : Type 0 where
  alone : Text → Use
  joined : Text → Text → Use
  apart : Text → Text → Use

-- the words of a use: `--name`, `--name=value`, or `--name` and the value
abbrev pub spelled : Use → List Text
spelled (alone n) = (45 ∷ 45 ∷ n) ∷ []
spelled (joined n v) = (45 ∷ 45 ∷ (n ++ 61 ∷ v)) ∷ []
spelled (apart n v) = (45 ∷ 45 ∷ n) ∷ v ∷ []

-- the name of the option that is used
abbrev pub name_of : Use → Text
name_of (alone n) = n
name_of (joined n v) = n
name_of (apart n v) = n

-- the value that the use gives
abbrev pub value_of : Use → Option Text
value_of (alone n) = None
value_of (joined n v) = Some v
value_of (apart n v) = Some v

-- not empty, and begins with no hyphen
abbrev pub IsPlain : Text → Type 0
IsPlain [] = ⊥
IsPlain (x ∷ xs) = x ≢ 45

-- the table has the option, and the use gives it a value exactly where it takes one: a value that
-- is joined to the name isn't empty, and one that stands apart is plain
abbrev pub Fits : List Opt → Use → Type 0
Fits table (alone n) = opt_of table n ≡ Some (flag n)
Fits table (joined n v) = (q : Bool) × (opt_of table n ≡ Some (valued n q)) × (0 < length v)
Fits table (apart n v) = (q : Bool) × (opt_of table n ≡ Some (valued n q)) × IsPlain v

-- whether an option of that name is used
abbrev pub is_used : Text → List Use → Bool
is_used n us = list_any (λ u. bytes_eq (name_of u) n) us

-- the first value that the uses give to the name
abbrev pub value_in : Text → List Use → Option Text
value_in n [] = None
value_in n (u ∷ us) = cond (bytes_eq (name_of u) n) (value_of u) (value_in n us)

-- no name of the second list is used before it, in that list or in the first
abbrev pub AreOnce : List Use → List Use → Type 0
AreOnce before [] = Unit {0}
AreOnce before (u ∷ us) = (is_used (name_of u) before ≡ false) × AreOnce (before ++ u ∷ []) us

-- an option that has to stand is used
abbrev pub IsMet : List Use → Opt → Type 0
IsMet us (valued n true) = is_used n us ≡ true
IsMet us (valued n false) = Unit {0}
IsMet us (flag n) = Unit {0}

-- ---- the whole line

-- the words are these uses of main options, the command word, and these uses of its options; each
-- use fits its level and stands once, and what has to stand does
pub record IsLine (top : List Opt) (commands : Commands) (words : List Text) (main : List Use)
    (command : Text) (own : List Use) : Type 0 where
  pub words_are : words ≡ flat_map spelled main ++ command ∷ flat_map spelled own
  pub main_fit : AllByRecursion (Fits top) main
  pub main_once : AreOnce [] main
  pub main_required : AllByRecursion (IsMet main) top
  pub options : List Opt
  pub command_is : options_of commands command ≡ Some options
  pub own_fit : AllByRecursion (Fits options) own
  pub own_once : AreOnce [] own
  pub own_required : AllByRecursion (IsMet own) options
