-- What a backup begins with: why it isn't there.
use Rattle.std.specs.Prelude.{◌≡◌, ℕ, List, [], Option, IfSome}
use Rattle.med_outside.specs.declared.copy_fault.CopyFault.TheVariants as fault
use Rattle.med_outside.specs.Causes.{RoseOrFull}
use Rattle.med_outside.specs.Snapshot.{Snapshot}
use Rattle.med_ring.specs.Blames.{IsRefused}
use Rattle.med_ring.specs.Host.{RingHost}
use Rattle.med_ring.specs.Ring.{IsRing}
use Rattle.med_ring.specs.Written.{ring_text}
use Rattle.med_backup.specs.Walked.{IsFirstBad}
use Rattle.med_shelf.specs.declared.errors.ClaimError.{ClaimError}
use Rattle.med_shelf.specs.declared.errors.ClaimError.TheVariants as claim
use Rattle.med_backup.specs.declared.backup.BackupError.{BackupError}
use Rattle.med_backup.specs.declared.backup.BackupError.TheVariants as error
use Rattle.med_backup.specs.declared.sources.Ready.{Ready}
use Rattle.med_backup.specs.Backups.{HasBadRing, HasHost, LacksHost, Sources}

-- what was read, as contracts see it
abbrev pub sources_of : Ready → Sources
sources_of ready =
    record { keys = ready.keys.items; schema = ready.schema.items; ring = ring_text ready.ring }

-- why the backup of the node f has nothing to begin with; the count of faults of its snapshot rose
-- where that is the cause
abbrev pub BlamesSources : (f : List ℕ) → Option Snapshot → (before now : ℕ) → BackupError → Type 0
BlamesSources f held before now error.NoSnapshot = IfSome held (λ s. s.order ≡ [])
BlamesSources f held before now (error.BadFileName at) = IfSome held (λ s. IsFirstBad at s.order)
BlamesSources f held before now (error.BadRing why) = HasBadRing held why
BlamesSources f held before now (error.NotInRing host) = (host ≡ f) × LacksHost held f
BlamesSources f held before now (error.Running name) = ⊥
BlamesSources f held before now (error.Taken path) = ⊥
BlamesSources f held before now (error.Fault fault.Snap) = RoseOrFull before now
BlamesSources f held before now (error.Fault fault.Store) = ⊥
BlamesSources f held before now (error.Fault fault.Memory) = Unit {0}

-- why the bytes have no ring with a host of the name
abbrev pub BlamesRing : (bytes f : List ℕ) → BackupError → Type 0
BlamesRing bytes f error.NoSnapshot = ⊥
BlamesRing bytes f (error.BadFileName at) = ⊥
BlamesRing bytes f (error.BadRing why) = IsRefused bytes why
BlamesRing bytes f (error.NotInRing host) =
    (host ≡ f) × ((hosts : List RingHost) × IsRing bytes hosts × (HasHost hosts f → ⊥))
BlamesRing bytes f (error.Running name) = ⊥
BlamesRing bytes f (error.Taken path) = ⊥
BlamesRing bytes f (error.Fault fault.Snap) = ⊥
BlamesRing bytes f (error.Fault fault.Store) = ⊥
BlamesRing bytes f (error.Fault fault.Memory) = Unit {0}

-- why a backup isn't made where its name isn't claimed
abbrev pub error_of_claim : ClaimError → BackupError
error_of_claim (claim.Running name) = error.Running name
error_of_claim (claim.Taken path) = error.Taken path
error_of_claim claim.Store = error.Fault fault.Store
error_of_claim claim.Memory = error.Fault fault.Memory
