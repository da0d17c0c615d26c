-- What a finish makes and answers.
use Rattle.std.specs.Prelude.{◌≡◌, ◌≢◌, ◌⊎◌, ◌++◌, ℕ, Bool, List, [], Option, Some, IfOk, IfSome, Result, IsOk, Ok, Err}
use Rattle.std.specs.FinMap.{get}
use Rattle.std.specs.List.{AllByRecursion}
use Rattle.med_base.specs.declared.layout.MetaKind.TheVariants.{Manifest}
use Rattle.med_base.specs.Content.{Content}
use Rattle.med_base.specs.Effects.{Effect, after_all}
use Rattle.med_base.specs.Layout.{meta_path}
use Rattle.med_core.specs.declared.records.Record.{Record}
use Rattle.med_core.specs.Finish.{Fresh, checked}
use Rattle.med_core.specs.Section.{Finish}
use Rattle.med_index.specs.Modes.{is_differential}
use Rattle.med_manifest.specs.Manifest.{IsManifest}
use Rattle.med_manifest.specs.Written.{manifest_text}
use Rattle.med_outside.specs.declared.copy_fault.CopyFault.{CopyFault}
use Rattle.med_outside.specs.declared.copy_fault.CopyFault.TheVariants as fault
use Rattle.med_outside.specs.declared.trace.Trace.{Trace}
use Rattle.med_outside.specs.Makes.{Makes, IsError}
use Rattle.med_outside.specs.Snapshot.{Snapshot, HasKey}
use Rattle.med_outside.specs.State.{State, History}
use Rattle.med_shelf.specs.declared.finished.Finished.{Finished}
use Rattle.med_shelf.specs.Acts.{ActsAsCopy}
use Rattle.med_shelf.specs.Checks.{AreChecked, AreFresh, PutsOne}
use Rattle.med_shelf.specs.Ends.{IsEnding}
use Rattle.med_shelf.specs.Records.{AreSorted, files_of}
use Rattle.med_shelf.specs.Shelf.{ShelfState, ClaimState}

-- each recorded key is one of the snapshot's, where that is told
abbrev pub HasKeys : ClaimState → Option Snapshot → Type 0
HasKeys claim held =
    IfSome held (λ s. AllByRecursion (λ (r : Record). HasKey r.file.key s) claim.records)

-- The changes put the manifest of these records, and what belongs to it. The records are those of the
-- sorted ones after a look at all of them, which made the changes `looked`.
pub record IsEnded (before f n : List ℕ) (differential : Bool) (sorted : List Record)
    (fresh : Fresh) (told : Option Content) (looked : List Effect) (rs : List Record) (second : ℕ)
    (xs : List Effect) : Type 0
  where
    pub records_are : AreChecked before f n differential sorted fresh told rs
    pub names : IsManifest before f n (manifest_text (files_of rs)) (files_of rs)
    pub ending : IsEnding before f n (after_all looked told) (manifest_text (files_of rs)) second xs

-- The changes behind the look: those of the end with the records that are answered. After a refusal
-- there are none, or those of an end of which only a first part was made; a fault of the snapshot comes
-- before the end, and there are none then.
abbrev pub EndsWith : (before f n : List ℕ) (differential : Bool) (sorted : List Record)
    → Fresh → Option Content → (looked : List Effect) → Result Finished CopyFault → List Effect
    → Type 0
EndsWith before f n differential sorted fresh told looked (Ok finished) xs =
    (finished.name ≡ n)
    × IsEnded before f n differential sorted fresh told looked finished.records.items
    finished.second xs
EndsWith before f n differential sorted fresh told looked (Err answer) xs =
    (xs ≡ [])
    ⊎ ((answer ≢ fault.Snap) × (rs : List Record) × (second : ℕ)
    × IsEnded before f n differential sorted fresh told looked rs second xs)

-- the manifest of the answer stands, with its second, where what stands is told
abbrev pub HasManifestOf : (before f n : List ℕ) → Option Content → Finished → Type 0
HasManifestOf before f n told finished =
    IfSome told
    (λ c. get c (meta_path before f n Manifest)
    ≡ Some (record {
      bytes = manifest_text (files_of finished.records.items);
      second = finished.second;
    }))

-- The records were looked at in order of their keys, and the files of those that weren't stored as
-- recorded were placed again; then the manifest of the records was put, and what belongs to it. So it
-- is over every storage: `looked` are puts of whole files, `ended` begins with the manifest.
pub record Finishes (shelf shelf_now : ShelfState) (claim : ClaimState) (held : Option Snapshot)
    (result : Result Finished CopyFault) (old new : State) (stood_before stood_after : History)
    (before after : Trace) : Type 0
  where
    pub sorted : List Record
    pub sorted_is : AreSorted claim.records sorted
    pub fresh : Fresh
    pub fresh_is : AreFresh held sorted fresh
    pub acts : ActsAsCopy shelf shelf_now
        (Finish claim.name (is_differential claim.mode) (files_of sorted)) result old new
        stood_before stood_after before after
    pub looked : List Effect
    pub looked_are : AllByRecursion
        (PutsOne claim.layout claim.node claim.name held sorted) looked
    pub ended : List Effect
    pub ends : EndsWith claim.layout claim.node claim.name (is_differential claim.mode) sorted fresh
        old.content looked result ended
    pub changes_are : acts.xs ≡ looked ++ ended
    pub manifest_is : IfOk result
        (HasManifestOf claim.layout claim.node claim.name new.content)

-- ---- for this crate's own clauses

-- the same of records that are sorted, but for the shelf
pub record FinishesSorted (before f n : List ℕ) (differential : Bool) (sorted : List Record)
    (held : Option Snapshot) (result : Result Finished CopyFault) (old new : State)
    (stood_before stood_after : History) (trace_before trace_after : Trace) : Type 0
  where
    pub fresh : Fresh
    pub fresh_is : AreFresh held sorted fresh
    pub looked : List Effect
    pub looked_are : AllByRecursion (PutsOne before f n held sorted) looked
    pub list : IfSome old.content
        (λ c. looked ≡ (checked before f n differential fresh c (files_of sorted)).changes)
    pub ended : List Effect
    pub ends : EndsWith before f n differential sorted fresh old.content looked result ended
    pub makes : Makes (IsOk result) (IsError result fault.Store) (looked ++ ended) old new
        stood_before stood_after trace_before trace_after
