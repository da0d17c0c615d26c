-- The tables of the code, as plain data.
use Rattle.std.specs.Prelude.{◌≡◌, true, false, List, map, option_map, string_bytes}
use Rattle.med_words.specs.Grammar.{Text, Opt, valued, flag, Use, IsLine}
use Rattle.med_words.specs.Request.{Asked}
use Rattle.med_words.specs.Matched.{IsUses}
use Rattle.med_words.specs.Tables.{main_options, commands, Action, backup, backup_cluster, build_index, delete_backup, download, fetch_tokenmap, last_complete, list_backups, purge, purge_decommissioned, report_last, restore_cluster, restore_node, status, verify, jobs, rehearse}
use Rattle.med_words.specs.declared.request.Command.{Command}
use Rattle.med_words.specs.declared.request.Command.TheVariants as command
use Rattle.med_words.specs.declared.request.Request.{Request}
use Rattle.med_words.specs.Said.{Said, said_by}
use Rattle.med_words.specs.Fields.{Fields, fields_of, said_in, MainFields, main_fields}
use Rattle.med_words.specs.declared.line.Main.{Main}
use Rattle.med_words.specs.declared.line.Own.{Own}
use Rattle.med_words.specs.declared.line.Line.{Line}
use Rattle.med_words.specs.declared.table.Opt.TheVariants as opt
use Rattle.med_words.specs.declared.table.Opt.{Opt as OptRow}
use Rattle.med_words.specs.declared.table.Row.{Row}

-- an option of the code
abbrev pub opt_view : OptRow → Opt
opt_view (opt.Required n) = valued n.now true
opt_view (opt.Optional n) = valued n.now false
opt_view (opt.Flag n) = flag n.now

-- a command word of the code with its options
abbrev pub row_view : Row → Text × List Opt
row_view r = (r.word.now, map opt_view r.options.now)

-- what the main options of a line say
abbrev pub main_view : Main → MainFields
main_view m = record {
  config_file = option_map (λ s. s.now) m.config_file;
  bucket = option_map (λ s. s.now) m.bucket;
  prefix = option_map (λ s. s.now) m.prefix;
  fqdn = option_map (λ s. s.now) m.fqdn;
}

-- what the options of the command word of a line say
abbrev pub own_view : Own → Fields
own_view o = record {
  name = option_map (λ s. s.now) o.name;
  mode = option_map (λ s. s.now) o.mode;
  workers = option_map (λ s. s.now) o.workers;
  rounds = option_map (λ s. s.now) o.rounds;
  destination = option_map (λ s. s.now) o.destination;
  host_list = option_map (λ s. s.now) o.host_list;
  jobs_file = option_map (λ s. s.now) o.jobs_file;
  all_nodes = o.all_nodes;
  show_all = o.show_all;
}

-- the same by the names of the options
abbrev pub said_view : Own → Said
said_view o = said_in (own_view o)

-- the words spell main options that say this
pub record HasMain (words : List Text) (m : Main) : Type 0 where
  pub uses : List Use
  pub spell : IsUses main_options words uses
  pub said : main_view m ≡ main_fields uses

-- the words spell options of this table that say this
pub record HasOwn (table : List Opt) (words : List Text) (o : Own) : Type 0 where
  pub uses : List Use
  pub spell : IsUses table words uses
  pub said : own_view o ≡ fields_of (said_by uses)

-- the words are this line
pub record HasLine (words : List Text) (l : Line) : Type 0 where
  pub main : List Use
  pub own : List Use
  pub line : IsLine main_options commands words main l.word.now own
  pub main_is : main_view l.main ≡ main_fields main
  pub own_is : own_view l.own ≡ fields_of (said_by own)

-- what a command of the code asks for
abbrev pub action_of : Command → Action
action_of (command.Backup name mode) = backup name mode
action_of (command.BackupCluster name mode workers) = backup_cluster name mode workers
action_of command.BuildIndex = build_index
action_of (command.DeleteBackup name all_nodes) = delete_backup name all_nodes
action_of (command.Download name destination) = download name (string_bytes destination)
action_of (command.FetchTokenmap name) = fetch_tokenmap name
action_of command.LastComplete = last_complete
action_of (command.ListBackups show_all) = list_backups show_all
action_of command.Purge = purge
action_of command.PurgeDecommissioned = purge_decommissioned
action_of command.ReportLast = report_last
action_of (command.RestoreCluster name host_list) = restore_cluster name (string_bytes host_list)
action_of (command.RestoreNode name) = restore_node name
action_of (command.Status name) = status name
action_of (command.Verify name) = verify name
action_of (command.Jobs file) = jobs (string_bytes file)
action_of (command.Rehearse rounds) = rehearse rounds

-- what a request asks for, in plain bytes
abbrev pub asked_of : Request → Asked
asked_of r = record {
  config_file = string_bytes r.config_file;
  bucket = option_map string_bytes r.over.bucket;
  prefix = option_map string_bytes r.over.prefix;
  fqdn = option_map string_bytes r.over.fqdn;
  action = action_of r.command;
}
