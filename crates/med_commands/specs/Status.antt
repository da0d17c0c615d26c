-- The exit statuses as numbers.
use Rattle.std.specs.Prelude.{◌≡◌, ℕ}
use Rattle.med_commands.specs.declared.status.Status.{Status}
use Rattle.med_commands.specs.declared.status.Status.TheVariants.{Done, Usage, Config, Taken, ReadFault, StorageFault, WriteFault, BadSnapshot, BadRing, BadManifest, Running, Memory}

abbrev pub code : Status → ℕ
code Done = 0
code Usage = 2
code Config = 3
code Taken = 5
code ReadFault = 7
code StorageFault = 8
code WriteFault = 10
code BadSnapshot = 11
code BadRing = 12
code BadManifest = 13
code Running = 15
code Memory = 20

-- the number is that of a status of which this holds
abbrev pub IsCodeOf : ℕ → (Status → Type 0) → Type 0
IsCodeOf n P = (status : Status) × (n ≡ code status) × P status
