-- What the words ask for.
use Rattle.std.specs.Prelude.{◌≡◌, List, Option, Some, None, codes, unwrap_or}
use Rattle.med_words.specs.Grammar.{Text, Use, value_in, IsLine}
use Rattle.med_words.specs.Said.{said_by}
use Rattle.med_words.specs.Tables.{main_options, commands, Action, word_of, action_for}
use Rattle.med_words.specs.Values.{first_bad}

-- what the whole line asks for
pub record Asked : Type 0 where
  pub config_file : Text
  pub bucket : Option Text
  pub prefix : Option Text
  pub fqdn : Option Text
  pub action : Action

-- what the uses of main options ask for
pub record IsMain (main : List Use) (asked : Asked) : Type 0 where
  pub config_file : asked.config_file
      ≡ unwrap_or (value_in (codes "config-file") main) (codes "/etc/medusa/medusa.ini")
  pub bucket : asked.bucket ≡ value_in (codes "bucket-name") main
  pub prefix : asked.prefix ≡ value_in (codes "prefix") main
  pub fqdn : asked.fqdn ≡ value_in (codes "fqdn") main

-- the words are a line in which each option has a value that it takes, and which asks for this
pub record IsRequest (words : List Text) (asked : Asked) : Type 0 where
  pub main : List Use
  pub own : List Use
  pub line : IsLine main_options commands words main (word_of asked.action) own
  pub taken : first_bad (said_by own) ≡ None
  pub main_is : IsMain main asked
  pub action_is : action_for (word_of asked.action) (said_by own) ≡ Some asked.action

-- words ask for one thing at most
abbrev pub AsksOnce : Type 0
AsksOnce = (words : List Text) (a b : Asked) → IsRequest words a → IsRequest words b → a ≡ b
