-- Which refusal of the words is right.
use Rattle.std.specs.Prelude.{List, ◌≡◌, Some}
use Rattle.med_words.specs.declared.request.Usage.TheVariants.{Line, Value}
use Rattle.med_words.specs.declared.request.WordsError.{WordsError}
use Rattle.med_words.specs.declared.request.WordsError.TheVariants.{Usage, Memory}
use Rattle.med_words.specs.Grammar.{Text, Use, IsLine}
use Rattle.med_words.specs.Request.{Asked, IsRequest}
use Rattle.med_words.specs.Said.{said_by}
use Rattle.med_words.specs.Tables.{main_options, commands}
use Rattle.med_words.specs.Values.{first_bad}

-- the words are a line in which this option is the first that has a value which it doesn't take
pub record HasBadValue (words : List Text) (option : Text) : Type 0 where
  pub main : List Use
  pub word : Text
  pub own : List Use
  pub line : IsLine main_options commands words main word own
  pub first : first_bad (said_by own) ≡ Some option

-- a refusal of the words is right
abbrev pub BlamesWords : List Text → WordsError → Type 0
BlamesWords words (Usage Line) =
    (main own : List Use) (word : Text) → IsLine main_options commands words main word own → ⊥
BlamesWords words (Usage (Value option)) = HasBadValue words option.now
BlamesWords words Memory = Unit {0}

-- words that are refused ask for nothing
abbrev pub AsksNothing : List Text → WordsError → Type 0
AsksNothing words (Usage u) = (asked : Asked) → IsRequest words asked → ⊥
AsksNothing words Memory = Unit {0}
