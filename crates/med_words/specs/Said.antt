-- What the options of a command word say.
use Rattle.std.specs.Prelude.{Bool, List, Option}
use Rattle.med_words.specs.Grammar.{Text, Use, is_used, value_in}

-- the value of the option of a name, if it has one, and whether the flag of a name stands
pub record Said : Type 0 where
  pub value : Text → Option Text
  pub stands : Text → Bool

-- what these uses say
abbrev pub said_by : List Use → Said
said_by own = record { value = λ n. value_in n own; stands = λ n. is_used n own }
