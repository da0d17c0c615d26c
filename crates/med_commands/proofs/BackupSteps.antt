-- Steps of commands: the config file, what rose, and the last line.
use Rattle.std.proofs.Common.{◌≡◌, inl, inr, ℕ, List, Some, Result, Ok, Err, OnOk, OnErr, refl, sym, ap, subst, string_bytes, arith}
use Rattle.med_ini.specs.Entries.{Entry}
use Rattle.med_ini.specs.Grammar.{IsIni}
use Rattle.med_ini.specs.Options.{Fault as OptionFault, missing, bad_number, bad_name, unsupported, config_fault}
use Rattle.med_ini.specs.declared.config.ConfigError.TheVariants as options
use Rattle.med_ini.specs.declared.errors.IniError.TheVariants as ini
use Rattle.med_ini.specs.declared.overrides.Overrides.{Overrides}
use Rattle.med_outside.specs.Causes.{RoseOrFull}
use Rattle.med_outside.specs.Device.{Device, Files, Nodes, Storage, Output, Memory, on}
use Rattle.med_plan.specs.Ends.{StopsAt, Steps, Ends, seen}
use Rattle.med_plan.proofs.EndsLemmas.{stops}
use Rattle.med_outside.specs.World.{FileContents, World, IsLater, rose_of, rose_of_node, rose_of_output}
use Rattle.med_outside.specs.declared.mode.Mode.{Mode}
use Rattle.med_words.specs.Request.{Asked}
use Rattle.med_words.specs.Tables.{Action, backup}
use Rattle.med_plan.specs.Ends.{Passed}
use Rattle.med_commands.specs.Backups.{backup_plan}
use Rattle.med_commands.specs.Fault.{stop_of, stop_of_load}
use Rattle.med_commands.specs.Headline.{End, says}
use Rattle.med_commands.specs.Loaded.{AreOverrides, IsConfigFile, IsRefused, no_file, no_ini, bad_option, BlamesLoad}
use Rattle.med_commands.specs.Plans.{action_plan, plan_of}
use Rattle.med_commands.specs.Printed.{Wrote, WrotePart}
use Rattle.med_commands.specs.Steps.{ReadsConfig, prints}
use Rattle.med_commands.specs.Texts.{no_file_text, option_text}
use Rattle.med_commands.specs.declared.fault.Fault.{Fault}
use Rattle.med_commands.specs.declared.load.LoadError.{LoadError}
use Rattle.med_commands.specs.declared.load.LoadError.TheVariants as load

-- ---- steps

-- an option is refused for this fault
option_stop : {files : FileContents} {asked : Asked} (bytes : List ℕ) (over : Overrides)
    (fault : OptionFault) → IsConfigFile files asked (Some bytes) → AreOverrides asked over
    → (entries : List Entry) × IsIni bytes entries × (config_fault entries over ≡ Some fault)
    → IsRefused files asked (option_text fault)
option_stop bytes over fault file overrides (entries, is, first) =
    bad_option bytes over fault file overrides
    (record { entries = entries; ini = is; first = first }) refl

-- why there is no configuration
pub load_stop : (files : FileContents) (asked : Asked) (rose : Device → Type 0) (before now : ℕ)
    → (RoseOrFull before now → rose Files) → rose Memory → (e : LoadError)
    → BlamesLoad files asked before now e
    → StopsAt rose (ReadsConfig files asked) (on Files) (stop_of_load e)
load_stop files asked rose before now up memory (load.NoFile name) h =
    no_file h.1 (ap no_file_text h.0)
load_stop files asked rose before now up memory (load.Ini (ini.Fault line kind)) h =
    no_ini h.bytes line kind h.file h.blames refl
load_stop files asked rose before now up memory (load.Ini ini.Memory) h =
    (inr (inl refl), memory)
load_stop files asked rose before now up memory (load.Options (options.MissingOption option)) h =
    option_stop h.bytes h.over (missing option.now) h.file h.overrides h.blames
load_stop files asked rose before now up memory (load.Options (options.BadNumber option)) h =
    option_stop h.bytes h.over (bad_number option.now) h.file h.overrides h.blames
load_stop files asked rose before now up memory (load.Options (options.BadName option)) h =
    option_stop h.bytes h.over (bad_name option.now) h.file h.overrides h.blames
load_stop files asked rose before now up memory (load.Options (options.UnsupportedProvider name))
    h =
    option_stop h.bytes h.over (unsupported (string_bytes name)) h.file h.overrides h.blames
load_stop files asked rose before now up memory (load.Options options.Memory) h =
    (inr (inl refl), memory)
load_stop files asked rose before now up memory load.Files h = (inl refl, up h)
load_stop files asked rose before now up memory load.Memory h = (inr (inl refl), memory)

-- what rose of a part rose of the whole
pub up_node : (a b : World) (d : Device)
    → rose_of_node a.nodes.faults b.nodes.faults a.store.faults b.store.faults d → rose_of a b d
up_node a b Files h = absurd h
up_node a b Nodes h = h
up_node a b Storage h = h
up_node a b Output h = absurd h
up_node a b Memory h = h

pub up_output : (a b : World) (d : Device) → rose_of_output a.out.faults b.out.faults d
    → rose_of a b d
up_output a b Files h = absurd h
up_output a b Nodes h = absurd h
up_output a b Storage h = absurd h
up_output a b Output h = h
up_output a b Memory h = h

-- nothing is later than itself
pub later_itself : (a : World) → IsLater a a
later_itself a = record {
  files = refl;
  snaps = refl;
  files_later = omega arith;
  nodes_later = omega arith;
  store_later = omega arith;
  out_later = omega arith;
}

-- the last step of a command
pub printed : (a b : World) (line : List ℕ) (done : Type 0) (r : Result (Unit {0}) Fault)
    → Steps {T = Unit {0}} (rose_of_output a.out.faults b.out.faults) Passed (on Output)
    (seen (λ x. x) stop_of r)
    → done → OnOk r (Wrote line a.out.taken b.out.taken)
    → OnErr r (WrotePart line a.out.taken b.out.taken)
    → Ends (rose_of a b) says (prints line done a b) (seen (λ x. x) stop_of r)
printed a b line done (Ok x) steps d whole part = inr (x, tt, (refl, (d, whole)))
printed a b line done (Err fault) steps d whole part =
    inl (
      stops (rose_of_output a.out.faults b.out.faults) (rose_of a b) (up_output a b)
          (Passed {T = Unit {0}}) (on Output) (stop_of fault) steps,
      (d, part),
    )

-- the plan of a backup is that of what is asked for
pub asked_plan : (asked : Asked) (n : List ℕ) (mode : Mode) (a b : World) (end : End)
    → asked.action ≡ backup n mode → Ends (rose_of a b) says (backup_plan n mode a b asked) end
    → Ends (rose_of a b) says (plan_of asked a b) end
asked_plan asked n mode a b end is e =
    subst (λ (x : Action). Ends (rose_of a b) says (action_plan x asked a b) end) (sym is) e
