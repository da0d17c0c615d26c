-- How the calls of a shelf end, as sections do.
use Rattle.std.specs.Prelude.{Result, Ok, Err}
use Rattle.med_core.specs.Section.{Ending, Done, Refused, Halted, Unsure, IsRunning, IsTaken}
use Rattle.med_core.specs.Section as section
use Rattle.med_outside.specs.declared.copy_fault.CopyFault.{CopyFault}
use Rattle.med_outside.specs.declared.copy_fault.CopyFault.TheVariants as fault
use Rattle.med_outside.specs.Makes.{Last, Sure}
use Rattle.med_outside.specs.Makes as makes
use Rattle.med_shelf.specs.declared.errors.ClaimError.{ClaimError}
use Rattle.med_shelf.specs.declared.errors.ClaimError.TheVariants as error

-- a fault of the storage is a change that is unsure, or came before any was
abbrev pub store_ending : Last → Ending
store_ending Sure = Halted section.Store
store_ending (makes.Unsure change took_effect) = Unsure change took_effect

-- how a claim ends
abbrev pub claim_ending : {T : Type 0} → Result T ClaimError → Last → Ending
claim_ending (Ok x) last = Done
claim_ending (Err (error.Running name)) last = Refused IsRunning
claim_ending (Err (error.Taken path)) last = Refused (IsTaken path)
claim_ending (Err error.Store) last = store_ending last
claim_ending (Err error.Memory) last = Halted section.Memory

-- how a place and a finish end
abbrev pub copy_ending : {T : Type 0} → Result T CopyFault → Last → Ending
copy_ending (Ok x) last = Done
copy_ending (Err fault.Snap) last = Halted section.Snap
copy_ending (Err fault.Store) last = store_ending last
copy_ending (Err fault.Memory) last = Halted section.Memory
