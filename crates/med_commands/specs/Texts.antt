-- The texts of refusals.
use Rattle.std.specs.Prelude.{ℕ, List, ◌++◌, codes, decimal, string_bytes}
use Rattle.std.specs.Fmt.{signed_decimal}
use Rattle.med_commands.specs.NodeConfig.{tag_of}
use Rattle.med_ini.specs.Options.{Fault, missing, bad_number, bad_name, unsupported}
use Rattle.med_ini.specs.Texts.{kind_text}
use Rattle.med_ini.specs.declared.errors.IniKind.{IniKind}
use Rattle.med_ring.specs.declared.error.RingWhy.{RingWhy}
use Rattle.med_ring.specs.declared.error.RingWhy.TheVariants.{NotJson, NotRing, TokenRange, TokenTwice}
use Rattle.med_words.specs.declared.request.Usage.{Usage}
use Rattle.med_words.specs.declared.request.Usage.TheVariants as usage

abbrev pub bad_value_text : List ℕ → List ℕ
bad_value_text option = codes "bad value for " ++ option

-- what is said of words that are refused
abbrev pub usage_text : Usage → List ℕ
usage_text usage.Line = codes "usage: medusa [options] command [options]"
usage_text (usage.Value option) = bad_value_text option.now

abbrev pub not_built_text : List ℕ → List ℕ
not_built_text word = codes "not built " ++ word

abbrev pub no_file_text : List ℕ → List ℕ
no_file_text name = codes "config: no file " ++ name

-- what is wrong in a line of the config file
abbrev pub line_text : ℕ → IniKind → List ℕ
line_text line kind = codes "config: line " ++ (decimal line ++ (codes ": " ++ kind_text kind))

-- why the options of the config file are refused
abbrev pub option_text : Fault → List ℕ
option_text (missing option) = codes "config: missing option " ++ option
option_text (bad_number option) = codes "config: bad number " ++ option
option_text (bad_name option) = codes "config: bad name " ++ option
option_text (unsupported provider) = codes "config: unsupported provider " ++ provider

abbrev pub taken_text : List ℕ → List ℕ → List ℕ
taken_text name path = codes "name " ++ (name ++ (codes " is taken by " ++ path))

abbrev pub no_snapshot_text : List ℕ → List ℕ
no_snapshot_text name = codes "no snapshot " ++ tag_of name

abbrev pub bad_file_text : ℕ → List ℕ
bad_file_text at = codes "bad file name at " ++ decimal at

abbrev pub bad_manifest_text : List ℕ → List ℕ
bad_manifest_text path = codes "bad manifest " ++ path

-- why the token map of a snapshot can't be read
abbrev pub ring_why_text : RingWhy → List ℕ
ring_why_text NotJson = codes "ring: not json"
ring_why_text (NotRing host) = codes "ring: bad host " ++ string_bytes host
ring_why_text (TokenRange host) = codes "ring: token out of range of " ++ string_bytes host
ring_why_text (TokenTwice token) = codes "ring: token " ++ (signed_decimal token ++ codes " twice")

abbrev pub not_in_ring_text : List ℕ → List ℕ
not_in_ring_text host = codes "ring: no host " ++ host

abbrev pub running_text : List ℕ → List ℕ
running_text name = codes "running " ++ name
