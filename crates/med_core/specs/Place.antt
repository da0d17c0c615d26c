-- The change of a place: a file of a snapshot is stored, or a stored one is reused.
use Rattle.std.specs.Prelude.{ℕ, Bool, true, false, ◌&&◌, ◌==◌, List, [], ◌∷◌, Option, Some, None, if◌then◌else◌, bytes_eq}
use Rattle.std.specs.FinMap.{get}
use Rattle.med_base.specs.declared.fingerprint.Fingerprint.{Fingerprint}
use Rattle.med_base.specs.declared.key.FileKey.{FileKey}
use Rattle.med_base.specs.Content.{Content, Object}
use Rattle.med_base.specs.Effects.{Effect, Stores}
use Rattle.med_base.specs.Fingerprint.{fingerprint_of}
use Rattle.med_base.specs.Layout.{shared_path, own_path}
use Rattle.med_core.specs.declared.records.How.{How}
use Rattle.med_core.specs.declared.records.How.TheVariants.{Reused, Stored, Aside}
use Rattle.med_core.specs.declared.records.Record.{Record}
use Rattle.med_manifest.specs.declared.manifest.FileRecord.{FileRecord}

-- the changes of a place, and the record of the file
pub record Placing : Type 0 where
  pub changes : List Effect
  pub file : FileRecord

-- the two have one size and one MD5
abbrev pub is_same_print : Fingerprint → Fingerprint → Bool
is_same_print a b = (a.size == b.size) && bytes_eq a.md5 b.md5

-- the file is stored as a shared one
abbrev pub stored_shared : (before f : List ℕ) (key : FileKey) (bytes : List ℕ) (second : ℕ)
    → Placing
stored_shared before f key bytes second = record {
  changes = Stores (shared_path before f key) bytes second ∷ [];
  file = record {
    key = key;
    path = shared_path before f key;
    fingerprint = fingerprint_of bytes;
  };
}

-- the file is stored as the backup's own
abbrev pub stored_own : (before f n : List ℕ) (key : FileKey) (bytes : List ℕ) (second : ℕ)
    → Placing
stored_own before f n key bytes second = record {
  changes = Stores (own_path before f n key) bytes second ∷ [];
  file = record {
    key = key;
    path = own_path before f n key;
    fingerprint = fingerprint_of bytes;
  };
}

-- the shared file that stands is named
abbrev pub reused : (before f : List ℕ) (key : FileKey) (bytes : List ℕ) → Placing
reused before f key bytes = record {
  changes = [];
  file = record {
    key = key;
    path = shared_path before f key;
    fingerprint = fingerprint_of bytes;
  };
}

-- by what stands under the shared path: nothing, a file with this fingerprint, or another one
abbrev pub placing_over : (before f n : List ℕ) (key : FileKey) (bytes : List ℕ) (second : ℕ)
    → Option Object → Placing
placing_over before f n key bytes second None = stored_shared before f key bytes second
placing_over before f n key bytes second (Some o) =
    if is_same_print (fingerprint_of o.bytes) (fingerprint_of bytes)
    then reused before f key bytes else stored_own before f n key bytes second

-- a place in a differential backup, and in a full one; `second` is that of the put
abbrev pub placing : (before f n : List ℕ) (is_differential : Bool) (key : FileKey)
    (bytes : List ℕ) (second : ℕ) → Content → Placing
placing before f n true key bytes second c =
    placing_over before f n key bytes second (get c (shared_path before f key))
placing before f n false key bytes second c = stored_own before f n key bytes second

-- how the file comes to its path, by what stands under the shared path
abbrev pub how_over : (bytes : List ℕ) → Option Object → How
how_over bytes None = Stored
how_over bytes (Some o) =
    if is_same_print (fingerprint_of o.bytes) (fingerprint_of bytes) then Reused else Aside

-- the same in a differential backup, and in a full one
abbrev pub how_placed : (before f : List ℕ) (is_differential : Bool) (key : FileKey)
    (bytes : List ℕ) → Content → How
how_placed before f true key bytes c = how_over bytes (get c (shared_path before f key))
how_placed before f false key bytes c = Stored

-- the record of a place
abbrev pub placed_record : (before f n : List ℕ) (is_differential : Bool) (key : FileKey)
    (bytes : List ℕ) → Content → Record
placed_record before f n is_differential key bytes c = record {
  file = (placing before f n is_differential key bytes 0 c).file;
  how = how_placed before f is_differential key bytes c;
}
