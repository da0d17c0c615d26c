-- The options of the commands: how each stands in the grammar, and which value it gives.
use Rattle.std.specs.Prelude.{ℕ, Bool, true, false, Option, Some, None, codes}
use Rattle.med_outside.specs.declared.mode.Mode.{Mode}
use Rattle.med_outside.specs.declared.mode.Mode.TheVariants.{Differential}
use Rattle.med_words.specs.Grammar.{Text, Opt, valued, flag, opt_name}
use Rattle.med_words.specs.Said.{Said}
use Rattle.med_words.specs.Values.{read_name, read_mode, read_workers, read_rounds, given_or}

-- an option of a command
pub data Setting : Type 0 where
  backup_name : Setting
  mode : Setting
  workers : Setting
  rounds : Setting
  destination : Setting
  host_list : Setting
  jobs_file : Setting
  all_nodes : Setting
  show_all : Setting

-- the option: one with a value, which has to stand where `true` is said, or a flag
abbrev pub option_of : Setting → Opt
option_of backup_name = valued (codes "backup-name") true
option_of mode = valued (codes "mode") false
option_of workers = valued (codes "workers") false
option_of rounds = valued (codes "rounds") true
option_of destination = valued (codes "download-destination") true
option_of host_list = valued (codes "host-list") true
option_of jobs_file = valued (codes "jobs-file") true
option_of all_nodes = flag (codes "all-nodes")
option_of show_all = flag (codes "show-all")

-- the type of its value
abbrev pub Given : Setting → Type 0
Given mode = Mode
Given workers = ℕ
Given rounds = ℕ
Given all_nodes = Bool
Given show_all = Bool
Given setting = Text

-- the text of its value, if it has one
abbrev pub text_of : Setting → Said → Option Text
text_of s said = said.value (opt_name (option_of s))

-- whether it stands
abbrev pub stands : Setting → Said → Bool
stands s said = said.stands (opt_name (option_of s))

-- the value that it gives, or that stands for an option that may be left out
abbrev pub value_of : (s : Setting) → Said → Option (Given s)
value_of backup_name said = given_or None read_name (text_of backup_name said)
value_of mode said = given_or (Some Differential) read_mode (text_of mode said)
value_of workers said = given_or (Some 1) read_workers (text_of workers said)
value_of rounds said = given_or None read_rounds (text_of rounds said)
value_of destination said = text_of destination said
value_of host_list said = text_of host_list said
value_of jobs_file said = text_of jobs_file said
value_of all_nodes said = Some (stands all_nodes said)
value_of show_all said = Some (stands show_all said)
