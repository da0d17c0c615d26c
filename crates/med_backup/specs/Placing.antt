-- The places of files, one after another.
use Rattle.std.specs.Prelude.{◌≡◌, ◌++◌, ℕ, Bool, List, [], ◌∷◌, map, Option, IfSome, Result, IsOk, Ok, Err}
use Rattle.med_base.specs.declared.key.FileKey.{FileKey}
use Rattle.med_base.specs.Content.{Content}
use Rattle.med_core.specs.Section.{Event, Place}
use Rattle.med_index.specs.Modes.{is_differential}
use Rattle.med_outside.specs.declared.copy_fault.CopyFault.{CopyFault}
use Rattle.med_outside.specs.declared.copy_fault.CopyFault.TheVariants as fault
use Rattle.med_outside.specs.declared.trace.Trace.{Trace}
use Rattle.med_outside.specs.Makes.{IsError}
use Rattle.med_outside.specs.Snapshot.{Snapshot}
use Rattle.med_outside.specs.State.{State, History}
use Rattle.med_shelf.specs.declared.finished.Finished.{Finished}
use Rattle.med_shelf.specs.Records.{keys_of}
use Rattle.med_shelf.specs.Shelf.{ClaimState, IsClaimOf, ShelfState}
use Rattle.med_backup.specs.Backups.{ArePrints, AreWholeFiles, IsCutBehind, IsFinishedBehind, PlacedFile, places_of, records_over}
use Rattle.med_backup.specs.Sections.{AreDone, MakesSections}

-- The files of these keys were placed in order, and the claim, which had no record, has theirs.
pub record PlacedAll (shelf shelf_now : ShelfState) (claim claim_now : ClaimState)
    (keys : List FileKey) (held : Option Snapshot) (old new : State)
    (stood_before stood_after : History) (before after : Trace) : Type 0
  where
    pub events : List Event
    pub files : List PlacedFile
    pub whole : AreWholeFiles held files
    pub all : map (λ (p : PlacedFile). p.0) files ≡ keys
    pub done : AreDone shelf.node (places_of claim.name (is_differential claim.mode) files) events
    pub sections : MakesSections shelf shelf_now events (Unit {0}) ⊥ old new stood_before
        stood_after before after
    pub of : IsClaimOf shelf_now claim_now
    pub name_is : claim_now.name ≡ claim.name
    pub mode_is : claim_now.mode ≡ claim.mode
    pub keys_are : keys_of claim_now.records ≡ keys
    pub prints_are : ArePrints held claim_now.records
    pub records_are : IfSome old.content (λ c. claim_now.records
        ≡ records_over shelf.layout shelf.node claim.name (is_differential claim.mode) c files)

-- the files of the first keys were placed, and the place of the next one was cut short
pub record PlacedSome (shelf shelf_now : ShelfState) (claim claim_now : ClaimState)
    (keys : List FileKey) (held : Option Snapshot) (why : CopyFault) (old new : State)
    (stood_before stood_after : History) (before after : Trace) : Type 0
  where
    pub files : List PlacedFile
    pub next : PlacedFile
    pub rest : List FileKey
    pub whole : AreWholeFiles held (files ++ next ∷ [])
    pub keys_are : map (λ (p : PlacedFile). p.0) (files ++ next ∷ []) ++ rest ≡ keys
    pub front : List Event
    pub done : AreDone shelf.node (places_of claim.name (is_differential claim.mode) files) front
    pub cut : Event
    pub node_is : cut.node ≡ shelf.node
    pub call_is : cut.call ≡ Place claim.name (is_differential claim.mode) next.0 next.1
    pub sections : MakesSections shelf shelf_now (front ++ cut ∷ []) ⊥ (why ≡ fault.Store) old new
        stood_before stood_after before after
    pub of : IsClaimOf shelf_now claim_now
    pub name_is : claim_now.name ≡ claim.name

-- ---- the calls behind a claim

-- behind its claim a backup was made, or cut short, by the answer
abbrev pub EndsBehind : (before f n : List ℕ) (differential : Bool) → Option Snapshot
    → (keys : List FileKey) → (told told_now : Option Content) → List Event
    → Result Finished CopyFault → Type 0
EndsBehind before f n differential held keys told told_now events (Ok finished) =
    IsFinishedBehind before f n differential held keys told told_now events finished
EndsBehind before f n differential held keys told told_now events (Err why) =
    IsCutBehind before f n differential held why keys events

-- the sections behind a claim
pub record MakesBehind (shelf shelf_now : ShelfState) (claim : ClaimState) (keys : List FileKey)
    (held : Option Snapshot) (result : Result Finished CopyFault) (old new : State)
    (stood_before stood_after : History) (before after : Trace) : Type 0
  where
    pub events : List Event
    pub sections : MakesSections shelf shelf_now events (IsOk result) (IsError result fault.Store)
        old new stood_before stood_after before after
    pub ends : EndsBehind shelf.layout shelf.node claim.name (is_differential claim.mode) held keys
        old.content new.content events result
