-- What a look at the records of a backup before its finish makes, and the records afterwards.
use Rattle.std.specs.Prelude.{◌≡◌, ℕ, Bool, List, [], Contains, Option, Some, IfOk, IfSome, Result, IsOk, if◌then◌else◌}
use Rattle.std.specs.FinMap.{get}
use Rattle.std.specs.List.{AllByRecursion}
use Rattle.med_base.specs.Content.{Content}
use Rattle.med_base.specs.Effects.{Effect}
use Rattle.med_core.specs.declared.records.Record.{Record}
use Rattle.med_core.specs.Finish.{Fresh, checked, is_stored_as, rechecked}
use Rattle.med_core.specs.Place.{placed_record, placing}
use Rattle.med_manifest.specs.Manifest.{IsPathOf}
use Rattle.med_outside.specs.declared.copy_fault.CopyFault.{CopyFault}
use Rattle.med_outside.specs.declared.copy_fault.CopyFault.TheVariants as fault
use Rattle.med_outside.specs.declared.trace.Trace.{Trace}
use Rattle.med_outside.specs.Makes.{Makes, IsError}
use Rattle.med_outside.specs.Sent.{IsWholeFile}
use Rattle.med_outside.specs.Snapshot.{Snapshot}
use Rattle.med_outside.specs.State.{State, History}
use Rattle.med_shelf.specs.Places.{IsFilePut}
use Rattle.med_shelf.specs.Records.{files_of, keys_of}

-- these are the bytes of the files of the records in the snapshot, where that is told
abbrev pub AreFresh : Option Snapshot → List Record → Fresh → Type 0
AreFresh held rs fresh =
    IfSome held
    (λ s. AllByRecursion
    (λ (r : Record). get s.files r.file.key ≡ Some (fresh.bytes r.file.key)) rs)

-- the change puts the file of one of the records, with all its bytes
abbrev pub PutsOne : (before f n : List ℕ) → Option Snapshot → List Record → Effect → Type 0
PutsOne before f n held rs x =
    (r : Record) × (bytes : List ℕ) × Contains rs r × IsWholeFile held r.file.key bytes
    × IsFilePut before f n r.file.key bytes x

-- the records after a look at all: the same keys, each with a path of its file, and what is told
pub record AreChecked (before f n : List ℕ) (differential : Bool) (rs : List Record) (fresh : Fresh)
    (told : Option Content) (now : List Record) : Type 0
  where
    pub keys_are : keys_of now ≡ keys_of rs
    pub paths_are : AllByRecursion
        (λ (r : Record). IsPathOf before f n r.file.key r.file.path) now
    pub records_are : IfSome told (λ c. now ≡ rechecked before f n differential fresh c rs)

-- ---- for this crate's own clauses

-- the object under the path of the record has its fingerprint
abbrev pub is_kept : Content → Record → Bool
is_kept c r = is_stored_as r.file.fingerprint (get c r.file.path)

-- the changes of a look at one record: its file is placed again unless the record stays
abbrev pub changes_of_check : (before f n : List ℕ) (differential : Bool) → Record
    → (bytes : List ℕ) (second : ℕ) → Content → List Effect
changes_of_check before f n differential r bytes second c =
    if is_kept c r then [] else (placing before f n differential r.file.key bytes second c).changes

-- the record after such a look
abbrev pub checked_record : (before f n : List ℕ) (differential : Bool) → Record
    → (bytes : List ℕ) → Content → Record
checked_record before f n differential r bytes c =
    if is_kept c r then r else placed_record before f n differential r.file.key bytes c

-- the record after a look at one, of the same key, with a path of its file
pub record IsChecked (before f n : List ℕ) (differential : Bool) (r : Record) (bytes : List ℕ)
    (told : Option Content) (now : Record) : Type 0
  where
    pub key_is : now.file.key ≡ r.file.key
    pub path_is : IsPathOf before f n r.file.key now.file.path
    pub record_is : IfSome told (λ c. now ≡ checked_record before f n differential r bytes c)

-- the record was looked at, and its file placed again where it wasn't stored as recorded
pub record ChecksRecord (before f n : List ℕ) (differential : Bool) (r : Record)
    (held : Option Snapshot) (result : Result Record CopyFault) (old new : State)
    (stood_before stood_after : History) (trace_before trace_after : Trace) : Type 0
  where
    pub bytes : List ℕ
    pub file_is : IsWholeFile held r.file.key bytes
    pub second : ℕ
    pub xs : List Effect
    pub puts : AllByRecursion (IsFilePut before f n r.file.key bytes) xs
    pub list : IfSome old.content
        (λ c. xs ≡ changes_of_check before f n differential r bytes second c)
    pub makes : Makes (IsOk result) (IsError result fault.Store) xs old new stood_before
        stood_after trace_before trace_after
    pub answer : IfOk result (IsChecked before f n differential r bytes old.content)

-- the records were looked at in order, and the files of those that weren't stored as recorded were
-- placed again
pub record ChecksRecords {T : Type 0} (before f n : List ℕ) (differential : Bool) (rs : List Record)
    (held : Option Snapshot) (result : Result T CopyFault) (items : T → List Record)
    (old new : State) (stood_before stood_after : History) (trace_before trace_after : Trace)
    : Type 0
  where
    pub fresh : Fresh
    pub fresh_is : AreFresh held rs fresh
    pub xs : List Effect
    pub puts : AllByRecursion (PutsOne before f n held rs) xs
    pub list : IfSome old.content
        (λ c. xs ≡ (checked before f n differential fresh c (files_of rs)).changes)
    pub makes : Makes (IsOk result) (IsError result fault.Store) xs old new stood_before
        stood_after trace_before trace_after
    pub answer : IfOk result
        (λ v. AreChecked before f n differential rs fresh old.content (items v))
