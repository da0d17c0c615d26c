-- How each fault of the code ends a command.
use Rattle.std.specs.Prelude.{ℕ, List, string_bytes}
use Rattle.med_backup.specs.declared.backup.BackupError.{BackupError}
use Rattle.med_backup.specs.declared.backup.BackupError.TheVariants as error
use Rattle.med_outside.specs.declared.copy_fault.CopyFault.TheVariants as copy
use Rattle.med_index.specs.declared.errors.IndexError.{IndexError}
use Rattle.med_index.specs.declared.errors.IndexError.TheVariants as index
use Rattle.med_ini.specs.Options.{missing, bad_number, bad_name, unsupported}
use Rattle.med_ini.specs.declared.config.ConfigError.{ConfigError}
use Rattle.med_ini.specs.declared.config.ConfigError.TheVariants as options
use Rattle.med_ini.specs.declared.errors.IniError.TheVariants as ini
use Rattle.med_outside.specs.Device as device
use Rattle.med_plan.specs.Ends as ends
use Rattle.med_plan.specs.Ends.{Stop, Refused, Failed}
use Rattle.med_commands.specs.Headline.{status_of_stop, text_of_stop}
use Rattle.med_commands.specs.Texts.{usage_text, no_file_text, line_text, option_text, ring_why_text}
use Rattle.med_commands.specs.declared.fault.Fault.{Fault}
use Rattle.med_commands.specs.declared.fault.Fault.TheVariants.{Usage, NotBuilt, Config, Taken, NoSnapshot, BadFileName, BadRing, NotInRing, Running, BadManifest, Nodes, Storage, Output, Memory}
use Rattle.med_commands.specs.declared.load.LoadError.{LoadError}
use Rattle.med_commands.specs.declared.load.LoadError.TheVariants as load
use Rattle.med_commands.specs.declared.status.Status.{Status}

-- the options of the config file are refused, or there was no memory
abbrev pub stop_of_options : ConfigError → Stop
stop_of_options (options.MissingOption option) =
    Refused (ends.BadConfig (option_text (missing option.now)))
stop_of_options (options.BadNumber option) =
    Refused (ends.BadConfig (option_text (bad_number option.now)))
stop_of_options (options.BadName option) =
    Refused (ends.BadConfig (option_text (bad_name option.now)))
stop_of_options (options.UnsupportedProvider name) =
    Refused (ends.BadConfig (option_text (unsupported (string_bytes name))))
stop_of_options options.Memory = Failed device.Memory

-- there is no configuration
abbrev pub stop_of_load : LoadError → Stop
stop_of_load (load.NoFile name) = Refused (ends.BadConfig (no_file_text (string_bytes name)))
stop_of_load (load.Ini (ini.Fault line kind)) = Refused (ends.BadConfig (line_text line kind))
stop_of_load (load.Ini ini.Memory) = Failed device.Memory
stop_of_load (load.Options error) = stop_of_options error
stop_of_load load.Files = Failed device.Files
stop_of_load load.Memory = Failed device.Memory

abbrev pub stop_of : Fault → Stop
stop_of (Usage usage) = Refused (ends.BadWords (usage_text usage))
stop_of (NotBuilt word) = Refused (ends.NotBuilt word.now)
stop_of (Config error) = stop_of_load error
stop_of (Taken name path) = Refused (ends.Taken name path)
stop_of (NoSnapshot name) = Refused (ends.NoSnapshot name)
stop_of (BadFileName at) = Refused (ends.BadFileName at)
stop_of (BadRing why) = Refused (ends.BadRing (ring_why_text why))
stop_of (NotInRing host) = Refused (ends.NotInRing host)
stop_of (Running name) = Refused (ends.Running name)
stop_of (BadManifest path) = Refused (ends.BadManifest path)
stop_of Nodes = Failed device.Nodes
stop_of Storage = Failed device.Storage
stop_of Output = Failed device.Output
stop_of Memory = Failed device.Memory

abbrev pub fault_text : Fault → List ℕ
fault_text fault = text_of_stop (stop_of fault)

abbrev pub status_of_fault : Fault → Status
status_of_fault fault = status_of_stop (stop_of fault)

-- the fault that an error is for a backup of this name
abbrev pub fault_for : List ℕ → BackupError → Fault
fault_for name error.NoSnapshot = NoSnapshot name
fault_for name (error.BadFileName at) = BadFileName at
fault_for name (error.BadRing why) = BadRing why
fault_for name (error.NotInRing host) = NotInRing host
fault_for name (error.Running other) = Running other
fault_for name (error.Taken path) = Taken name path
fault_for name (error.Fault copy.Snap) = Nodes
fault_for name (error.Fault copy.Store) = Storage
fault_for name (error.Fault copy.Memory) = Memory

-- the fault that an error of a rebuild is
abbrev pub fault_of_rebuild : IndexError → Fault
fault_of_rebuild (index.BadManifest path why) = BadManifest path
fault_of_rebuild index.Store = Storage
fault_of_rebuild index.Memory = Memory
