-- What a backup that was made leaves, over the contents before and after it.
use Rattle.std.specs.Prelude.{◌≡◌, ◌≢◌, ◌↔◌, ℕ, Bool, true, List, Option, Some, None, option_map}
use Rattle.std.specs.FinMap.{get, keys}
use Rattle.std.specs.List.{AllByRecursion}
use Rattle.med_base.specs.declared.layout.MetaKind.TheVariants.{Schema, Manifest, Tokenmap}
use Rattle.med_base.specs.Classify.{kind_of}
use Rattle.med_base.specs.Content.{Content, Object}
use Rattle.med_base.specs.Kinds.{Entry, Kind, Latest, Meta, Own, Shared}
use Rattle.med_base.specs.Layout.{meta_path}
use Rattle.med_core.specs.declared.records.Record.{Record}
use Rattle.med_core.specs.Place.{placed_record}
use Rattle.med_core.specs.Section.{IsFree}
use Rattle.med_manifest.specs.Vault.{IsBackup, IsListed, IsRow, Row}
use Rattle.med_manifest.specs.Whole.{IsWhole}
use Rattle.med_manifest.specs.Written.{manifest_text}
use Rattle.med_outside.specs.Snapshot.{Snapshot}
use Rattle.med_ring.specs.Host.{RingHost}
use Rattle.med_ring.specs.Ring.{IsRing}
use Rattle.med_ring.specs.Written.{ring_text}
use Rattle.med_shelf.specs.Records.{files_of, keys_of}

-- an object of these bytes stands under the path
abbrev pub HoldsBytes : Content → (path bytes : List ℕ) → Type 0
HoldsBytes c path bytes = option_map (λ (o : Object). o.bytes) (get c path) ≡ Some bytes

-- The file is one of the snapshot, and the record is that of a place over what stood before: in a
-- full backup under the own path, as stored; in a differential one under the shared path as stored
-- where no object had it, as reused where one with the file's fingerprint had it, and else under the
-- own path, as aside. Where the path of the record was free, the object there has the file's bytes.
pub record IsFileOf (before f n : List ℕ) (differential : Bool) (s : Snapshot) (old new : Content)
    (r : Record) : Type 0
  where
    pub bytes : List ℕ
    pub file_is : get s.files r.file.key ≡ Some bytes
    pub record_is : r ≡ placed_record before f n differential r.file.key bytes old
    pub held : get old r.file.path ≡ None → HoldsBytes new r.file.path bytes

-- another object than before may stand under the path: one of the backup itself, one of its entries
-- in the index, one that tells of the latest backup of its node, and in a differential backup a
-- shared file where none stood
abbrev pub MayDiffer : (f n : List ℕ) (differential : Bool) → Option Object → Kind → Type 0
MayDiffer f n differential stood (Shared g key) =
    (g ≡ f) × (differential ≡ true) × (stood ≡ None)
MayDiffer f n differential stood (Own g m key) = (g ≡ f) × (m ≡ n)
MayDiffer f n differential stood (Meta g m kind) = (g ≡ f) × (m ≡ n)
MayDiffer f n differential stood (Entry g m kind) = (g ≡ f) × (m ≡ n)
MayDiffer f n differential stood (Latest g kind) = g ≡ f
MayDiffer f n differential stood _ = ⊥

-- The backup is a new row of the vault of its node, which is finished and has this mode; the rows of
-- other names are as before.
pub record GainsRow (before f n : List ℕ) (differential : Bool) (old new : Content) : Type 0 where
  pub was_none : IsBackup old before f n → ⊥
  pub start : ℕ
  pub finish : ℕ
  pub listed : IsListed new before f n differential start (Some finish)
  pub others : (row : Row) → row.name ≢ n → IsRow old before f row ↔ IsRow new before f row

-- The backup n of the node f was made from the snapshot with these records, one for each key of it.
-- Its name was free; it is finished and whole, and its objects are those of the snapshot; it is a new
-- row of the vault; and every other path is as before.
pub record IsBackupOf (before f n : List ℕ) (differential : Bool) (s : Snapshot)
    (old new : Content) (rs : List Record) : Type 0
  where
    pub was_free : IsFree before old f n
    pub whole : IsWhole before f n new
    pub manifest_is : HoldsBytes new (meta_path before f n Manifest) (manifest_text (files_of rs))
    pub keys_are : keys_of rs ≡ keys s.files
    pub files_are : AllByRecursion (IsFileOf before f n differential s old new) rs
    pub schema_is : HoldsBytes new (meta_path before f n Schema) s.schema
    pub hosts : List RingHost
    pub ring_reads : IsRing s.ring hosts
    pub ring_is : HoldsBytes new (meta_path before f n Tokenmap) (ring_text hosts)
    pub row : GainsRow before f n differential old new
    pub others : (path : List ℕ)
        → (MayDiffer f n differential (get old path) (kind_of before path) → ⊥)
        → get new path ≡ get old path
