-- The tables of the command line: the main options, and a row for each command.
use Rattle.std.specs.Prelude.{ℕ, Bool, false, List, [], ◌∷◌, Option, Some, map, codes, option_and_then}
use Rattle.std.specs.List.{find}
use Rattle.std.specs.Str.{bytes_eq}
use Rattle.med_outside.specs.declared.mode.Mode.{Mode}
use Rattle.med_words.specs.Grammar.{Text, Opt, valued, Commands}
use Rattle.med_words.specs.Said.{Said}
use Rattle.med_words.specs.Settings.{Setting, Given, option_of, value_of, backup_name, mode, workers, rounds, destination, host_list, jobs_file, all_nodes, show_all}

-- the options before the command word, each with a value and none required
abbrev pub main_options : List Opt
main_options =
    valued (codes "config-file") false ∷ valued (codes "bucket-name") false
    ∷ valued (codes "prefix") false ∷ valued (codes "fqdn") false ∷ []

-- what is asked for, by a constructor for each command
pub data Action : Type 0 where
  backup : Text → Mode → Action
  backup_cluster : Text → Mode → ℕ → Action
  build_index : Action
  delete_backup : Text → Bool → Action
  download : Text → Text → Action
  fetch_tokenmap : Text → Action
  last_complete : Action
  list_backups : Bool → Action
  purge : Action
  purge_decommissioned : Action
  report_last : Action
  restore_cluster : Text → Text → Action
  restore_node : Text → Action
  status : Text → Action
  verify : Text → Action
  jobs : Text → Action
  rehearse : ℕ → Action

-- the word of the command that is asked for
abbrev pub word_of : Action → Text
word_of (backup _ _) = codes "backup"
word_of (backup_cluster _ _ _) = codes "backup-cluster"
word_of build_index = codes "build-index"
word_of (delete_backup _ _) = codes "delete-backup"
word_of (download _ _) = codes "download"
word_of (fetch_tokenmap _) = codes "fetch-tokenmap"
word_of last_complete = codes "get-last-complete-cluster-backup"
word_of (list_backups _) = codes "list-backups"
word_of purge = codes "purge"
word_of purge_decommissioned = codes "purge-decommissioned"
word_of report_last = codes "report-last-backup"
word_of (restore_cluster _ _) = codes "restore-cluster"
word_of (restore_node _) = codes "restore-node"
word_of (status _) = codes "status"
word_of (verify _) = codes "verify"
word_of (jobs _) = codes "jobs"
word_of (rehearse _) = codes "rehearse"

-- what the values of these options make
abbrev pub Makes : List Setting → Type 0
Makes [] = Action
Makes (s ∷ settings) = Given s → Makes settings

-- a command: its word, its options, and what their values make
pub record CommandRow : Type 0 where
  pub word : Text
  pub settings : List Setting
  pub make : Makes settings

-- the row of these three
abbrev pub row : Text → (settings : List Setting) → Makes settings → CommandRow
row word settings make = record { word = word; settings = settings; make = make }

-- the commands
abbrev pub rows : List CommandRow
rows =
    row (codes "backup") (backup_name ∷ mode ∷ []) backup
    ∷ row (codes "backup-cluster") (backup_name ∷ mode ∷ workers ∷ []) backup_cluster
    ∷ row (codes "build-index") [] build_index
    ∷ row (codes "delete-backup") (backup_name ∷ all_nodes ∷ []) delete_backup
    ∷ row (codes "download") (backup_name ∷ destination ∷ []) download
    ∷ row (codes "fetch-tokenmap") (backup_name ∷ []) fetch_tokenmap
    ∷ row (codes "get-last-complete-cluster-backup") [] last_complete
    ∷ row (codes "list-backups") (show_all ∷ []) list_backups
    ∷ row (codes "purge") [] purge
    ∷ row (codes "purge-decommissioned") [] purge_decommissioned
    ∷ row (codes "report-last-backup") [] report_last
    ∷ row (codes "restore-cluster") (backup_name ∷ host_list ∷ []) restore_cluster
    ∷ row (codes "restore-node") (backup_name ∷ []) restore_node
    ∷ row (codes "status") (backup_name ∷ []) status
    ∷ row (codes "verify") (backup_name ∷ []) verify
    ∷ row (codes "jobs") (jobs_file ∷ []) jobs
    ∷ row (codes "rehearse") (rounds ∷ []) rehearse
    ∷ []

-- each command word with its options
abbrev pub commands : Commands
commands = map (λ c. (c.word, map option_of c.settings)) rows

-- what is made of the values of these options, or none where one has none
abbrev pub made_of : Said → (settings : List Setting) → Makes settings → Option Action
made_of said [] action = Some action
made_of said (s ∷ settings) make =
    option_and_then (λ v. made_of said settings (make v)) (value_of s said)

-- what a command word and its options ask for
abbrev pub action_for : Text → Said → Option Action
action_for word said =
    option_and_then (λ c. made_of said c.settings c.make) (find (λ c. bytes_eq c.word word) rows)
