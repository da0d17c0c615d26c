-- What a place makes, answers and records.
use Rattle.std.specs.Prelude.{◌≡◌, ◌++◌, ◌∷◌, ℕ, Bool, true, false, List, [], Option, Some, None, option_map, IfOk, IfSome, Contains, Result, IsOk, Ok, Err}
use Rattle.std.specs.FinMap.{get}
use Rattle.std.specs.List.{AllByRecursion}
use Rattle.med_base.specs.declared.fingerprint.Fingerprint.{Fingerprint}
use Rattle.med_base.specs.declared.key.FileKey.{FileKey}
use Rattle.med_base.specs.Content.{Content, Object}
use Rattle.med_base.specs.Effects.{Effect, Stores, Removes}
use Rattle.med_base.specs.Fingerprint.{fingerprint_of}
use Rattle.med_base.specs.Layout.{own_path}
use Rattle.med_core.specs.declared.records.How.{How}
use Rattle.med_core.specs.declared.records.How.TheVariants.{Reused, Stored, Aside}
use Rattle.med_core.specs.declared.records.Record.{Record}
use Rattle.med_core.specs.Place.{is_same_print, placed_record, placing}
use Rattle.med_core.specs.Section.{Place}
use Rattle.med_index.specs.Modes.{is_differential}
use Rattle.med_manifest.specs.Manifest.{IsPathOf}
use Rattle.med_outside.specs.declared.copy_fault.CopyFault.{CopyFault}
use Rattle.med_outside.specs.declared.copy_fault.CopyFault.TheVariants as fault
use Rattle.med_outside.specs.declared.trace.Trace.{Trace}
use Rattle.med_outside.specs.Makes.{Makes, IsError}
use Rattle.med_outside.specs.Sent.{IsWholeFile}
use Rattle.med_outside.specs.Snapshot.{Snapshot, HasKey}
use Rattle.med_outside.specs.State.{State, History}
use Rattle.med_shelf.specs.declared.sending.Placed.{Placed}
use Rattle.med_shelf.specs.Acts.{ActsAsCopy}
use Rattle.med_shelf.specs.Records.{keys_of}
use Rattle.med_shelf.specs.Shelf.{ShelfState, ClaimState}

-- the key is one of the snapshot's, where that is told, and the claim has no record of it
pub record IsToPlace (key : FileKey) (claim : ClaimState) (held : Option Snapshot) : Type 0 where
  pub fresh : Contains (keys_of claim.records) key → ⊥
  pub has : IfSome held (HasKey key)

-- the record of a file of these bytes: under its shared or its own path, in a full backup under its
-- own; and by what is told as a place records it
pub record IsRecordOf (before f n : List ℕ) (differential : Bool) (key : FileKey)
    (bytes : List ℕ) (told : Option Content) (r : Record) : Type 0
  where
    pub key_is : r.file.key ≡ key
    pub path_is : IsPathOf before f n key r.file.path
    pub print_is : r.file.fingerprint ≡ fingerprint_of bytes
    pub full : differential ≡ false → (r.file.path ≡ own_path before f n key) × (r.how ≡ Stored)
    pub record_is : IfSome told (λ c. r ≡ placed_record before f n differential key bytes c)

-- the same claim with one more record
abbrev pub with_record : Record → ClaimState → ClaimState
with_record r claim = record {
  layout = claim.layout;
  node = claim.node;
  name = claim.name;
  mode = claim.mode;
  records = claim.records ++ r ∷ [];
}

-- the claim has the file's record, which says how it was placed; after a refusal it is as before
abbrev pub RecordsFile : (bytes : List ℕ) → (told : Option Content) → FileKey
    → (claim claim_now : ClaimState) → Result How CopyFault → Type 0
RecordsFile bytes told key claim claim_now (Ok how) =
    (r : Record) × (r.how ≡ how) × (claim_now ≡ with_record r claim)
    × IsRecordOf claim.layout claim.node claim.name (is_differential claim.mode) key bytes told r
RecordsFile bytes told key claim claim_now (Err fault) = claim_now ≡ claim

-- the change puts the file of the key, under its shared or its own path
abbrev pub IsFilePut : (before f n : List ℕ) → FileKey → List ℕ → Effect → Type 0
IsFilePut before f n key bytes (Stores path stored second) =
    IsPathOf before f n key path × (stored ≡ bytes)
IsFilePut before f n key bytes (Removes path) = ⊥

-- the file of the key was placed with all its bytes, and recorded
pub record Places (shelf shelf_now : ShelfState) (claim claim_now : ClaimState) (key : FileKey)
    (held : Option Snapshot) (result : Result How CopyFault) (old new : State)
    (stood_before stood_after : History) (before after : Trace) : Type 0
  where
    pub bytes : List ℕ
    pub file_is : IsWholeFile held key bytes
    pub acts : ActsAsCopy shelf shelf_now
        (Place claim.name (is_differential claim.mode) key bytes) result old new stood_before
        stood_after before after
    pub records : RecordsFile bytes old.content key claim claim_now result

-- ---- for this crate's own clauses

-- the file of the key was placed with all its bytes: over every storage there is at most one put, of
-- the file, and over what is told the changes are those of a place
pub record PlacesFile (before f n : List ℕ) (differential : Bool) (key : FileKey)
    (held : Option Snapshot) (result : Result Record CopyFault) (old new : State)
    (stood_before stood_after : History) (trace_before trace_after : Trace) : Type 0
  where
    pub bytes : List ℕ
    pub file_is : IsWholeFile held key bytes
    pub second : ℕ
    pub xs : List Effect
    pub puts : AllByRecursion (IsFilePut before f n key bytes) xs
    pub list : IfSome old.content
        (λ c. xs ≡ (placing before f n differential key bytes second c).changes)
    pub makes : Makes (IsOk result) (IsError result fault.Store) xs old new stood_before
        stood_after trace_before trace_after
    pub record_is : IfOk result (IsRecordOf before f n differential key bytes old.content)

-- a shared file stands, and has this fingerprint
abbrev pub stands_as : Option Fingerprint → Fingerprint → Bool
stands_as None print = false
stands_as (Some standing) print = is_same_print standing print

-- the put of a file under the path, unless the shared file stands with its fingerprint
abbrev pub put_unless : (stands : Bool) → (path bytes : List ℕ) → (second : ℕ) → List Effect
put_unless true path bytes second = []
put_unless false path bytes second = Stores path bytes second ∷ []

-- how the file comes to its path where it is put, and where the shared file is named
abbrev pub how_unless : (stands : Bool) → Option Fingerprint → How
how_unless true standing = Reused
how_unless false None = Stored
how_unless false (Some standing) = Aside

-- The file of the key was sent with all its bytes, and put under the path, unless the shared file
-- stands with its fingerprint. `standing` is the fingerprint of the shared file, if one stands.
pub record SendsFile (standing : Option Fingerprint) (path : List ℕ) (key : FileKey)
    (held : Option Snapshot) (result : Result Placed CopyFault) (old new : State)
    (stood_before stood_after : History) (trace_before trace_after : Trace) : Type 0
  where
    pub bytes : List ℕ
    pub file_is : IsWholeFile held key bytes
    pub second : ℕ
    pub makes : Makes (IsOk result) (IsError result fault.Store)
        (put_unless (stands_as standing (fingerprint_of bytes)) path bytes second) old new
        stood_before stood_after trace_before trace_after
    pub placed_is : IfOk result
        (λ placed. placed ≡ record {
          fingerprint = fingerprint_of bytes;
          how = how_unless (stands_as standing (fingerprint_of bytes)) standing;
        })

-- where a file is put in a differential backup: under the shared path where no shared file stands
abbrev pub path_beside : Option Fingerprint → (shared own : List ℕ) → List ℕ
path_beside None shared own = shared
path_beside (Some standing) shared own = own

-- the path of the record of a file in a differential backup
abbrev pub path_by : How → (shared own : List ℕ) → List ℕ
path_by Reused shared own = shared
path_by Stored shared own = shared
path_by Aside shared own = own

-- the same as `SendsFile`, by what stands under the shared path
pub record SendsBeside (shared own : List ℕ) (key : FileKey) (held : Option Snapshot)
    (result : Result Placed CopyFault) (old new : State) (stood_before stood_after : History)
    (trace_before trace_after : Trace) : Type 0
  where
    pub standing : Option Fingerprint
    pub standing_is : IfSome old.content
        (λ c. standing ≡ option_map (λ (o : Object). fingerprint_of o.bytes) (get c shared))
    pub sends : SendsFile standing (path_beside standing shared own) key held result old new
        stood_before stood_after trace_before trace_after
