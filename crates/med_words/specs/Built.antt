-- What clap is told of the tables.
use Rattle.std.specs.Prelude.{true, List, [], map, Some, codes}
use Rattle.clap.specs.Words.{App, Rule, Shape, new_rule}
use Rattle.clap.specs.Simple.{new_shape}
use Rattle.clap.specs.declared.builder.ArgAction.TheVariants.{Set, SetTrue}
use Rattle.med_words.specs.Grammar.{Opt, valued, flag, Text}

-- an option, as clap is told of it
abbrev pub raw_rule : Opt → Rule
raw_rule (valued n q) = record (new_rule n) { long = Some n; action = Some Set; required = q }
raw_rule (flag n) = record (new_rule n) { long = Some n; action = Some SetTrue }

-- a command by its name and its options, and how words are read: they don't begin with a name of
-- the program, and nothing is answered by a text of help or of a version
abbrev pub raw_shape : Text → List Opt → Shape
raw_shape name table = record (new_shape name) {
  rules = map raw_rule table;
  no_binary_name = true;
  disable_help_flag = true;
  disable_help_subcommand = true;
  disable_version_flag = true;
}

-- a command that reads these options alone
abbrev pub flat_app : List Opt → App
flat_app table = record { top = raw_shape (codes "medusa") table; subs = [] }
