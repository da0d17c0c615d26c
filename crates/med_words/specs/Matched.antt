-- What the matches hold of the uses.
use Rattle.std.specs.Prelude.{◌≡◌, ◌⊎◌, ◌&&◌, not, Bool, true, false, List, [], ◌∷◌, codes, Option, Some, None}
use Rattle.std.specs.List.{list_all, list_any, flat_map, AllByRecursion}
use Rattle.std.specs.Str.{bytes_eq}
use Rattle.clap.specs.Walk.{Row, first_of, one_of, rows_of}
use Rattle.clap.specs.Lexer.{has_byte}
use Rattle.clap.specs.Faults.{is_simple_and_free}
use Rattle.clap.specs.Simple.{is_simple}
use Rattle.med_words.specs.Built.{flat_app}
use Rattle.clap.specs.Words.{found_of}
use Rattle.clap.specs.declared.parser.matches.ArgMatches.{ArgMatches}
use Rattle.med_words.specs.Grammar.{Text, Opt, Use, valued, flag, opt_name, spelled, is_used, value_in, Fits, AreOnce, IsMet}
use Rattle.med_words.specs.Fields.{Fields, MainFields}

-- whether the option is a flag of this name, or one with a value
abbrev pub is_flag : Text → Opt → Bool
is_flag n (valued m q) = false
is_flag n (flag m) = bytes_eq m n

abbrev pub is_valued : Text → Opt → Bool
is_valued n (valued m q) = bytes_eq m n
is_valued n (flag m) = false

-- whether the table has a flag of this name, or an option with a value
abbrev pub has_flag : Text → List Opt → Bool
has_flag n table = list_any (is_flag n) table

abbrev pub has_valued : Text → List Opt → Bool
has_valued n table = list_any (is_valued n) table

-- the text of a flag that stands, or of one that doesn't or isn't in the table
abbrev pub FlagRow : Bool → Option Text → Type 0
FlagRow true text = text ≡ Some (codes "true")
FlagRow false text = (text ≡ Some (codes "false")) ⊎ (text ≡ None)

-- each option has the value that the uses give it, and each flag says whether it stands
pub record HasRows (table : List Opt) (uses : List Use) (rows : List Row) : Type 0 where
  pub values : (n : Text) → has_flag n table ≡ false → first_of n rows ≡ value_in n uses
  pub flags : (n : Text) → has_valued n table ≡ false → FlagRow (is_used n uses) (one_of n rows)

-- the words spell these uses of a table, each of which stands once, and what has to stand does
pub record IsUses (table : List Opt) (words : List Text) (uses : List Use) : Type 0 where
  pub words_are : words ≡ flat_map spelled uses
  pub fit : AllByRecursion (Fits table) uses
  pub once : AreOnce [] uses
  pub required : AllByRecursion (IsMet uses) table

-- the matches are those of words that spell uses of a table
pub record IsMatched (table : List Opt) (words : List Text) (m : ArgMatches) : Type 0 where
  pub uses : List Use
  pub spell : IsUses table words uses
  pub held : HasRows table uses (rows_of (found_of m))

-- whether a name isn't empty and has no `=`
abbrev pub is_good_name : Text → Bool
is_good_name [] = false
is_good_name (z ∷ zs) = not (has_byte 61 (z ∷ zs))

-- whether no flag has the name of this option, if it is one with a value
abbrev pub is_clear : List Opt → Opt → Bool
is_clear table (valued n q) = not (has_flag n table)
is_clear table (flag n) = true

-- whether clap says all of a command with these options, each of which has a name of its kind
abbrev pub is_table : List Opt → Bool
is_table table = is_simple (flat_app table) && (is_simple_and_free (flat_app table)
    && (list_all (is_clear table) table && list_all (λ o. is_good_name (opt_name o)) table))

-- what the rows of the main options say
abbrev pub main_rows : List Row → MainFields
main_rows rows = record {
  config_file = first_of (codes "config-file") rows;
  bucket = first_of (codes "bucket-name") rows;
  prefix = first_of (codes "prefix") rows;
  fqdn = first_of (codes "fqdn") rows;
}

-- what the rows of a command's options say, beside these flags
abbrev pub own_rows : List Row → Bool → Bool → Fields
own_rows rows all_nodes show_all = record {
  name = first_of (codes "backup-name") rows;
  mode = first_of (codes "mode") rows;
  workers = first_of (codes "workers") rows;
  rounds = first_of (codes "rounds") rows;
  destination = first_of (codes "download-destination") rows;
  host_list = first_of (codes "host-list") rows;
  jobs_file = first_of (codes "jobs-file") rows;
  all_nodes = all_nodes;
  show_all = show_all;
}
