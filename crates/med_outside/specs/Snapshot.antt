-- What a snapshot of a node holds.
use Rattle.std.specs.Prelude.{◌≡◌, ℕ, List, Option, IsTrue, string_bytes, count_by, if◌then◌else◌}
use Rattle.std.specs.FinMap.{FinMap, contains_key}
use Rattle.med_base.specs.declared.key.FileKey.{FileKey}
use Rattle.med_base.specs.Key.{key_cmp, key_eq}
use Rattle.med_outside.specs.Counts.{Tagged}
use Rattle.med_outside.specs.declared.nodes.RawKey.{RawKey}

pub record Snapshot : Type 0 where
  -- the bytes of each file
  pub files : FinMap key_cmp (List ℕ)
  -- the order in which the keys are listed
  pub order : List FileKey
  pub schema : List ℕ
  -- the text of the ring
  pub ring : List ℕ

-- a raw key as a key of files, whether or not its parts are components
abbrev pub key_of_raw : RawKey → FileKey
key_of_raw k = record {
  keyspace = string_bytes k.keyspace;
  table = string_bytes k.table;
  file = string_bytes k.file;
}

abbrev pub HasKey : FileKey → Snapshot → Type 0
HasKey key s = IsTrue (contains_key s.files key)

-- the order lists each key that has a file once, and no other
abbrev pub IsListed : Snapshot → Type 0
IsListed s = (key : FileKey) → count_by (key_eq key)
    s.order ≡ (if contains_key s.files key then 1 else 0)

-- a snapshot that is open
pub record SnapState : Type 0 where
  -- what it holds, where it is told
  pub held : Option Snapshot
  -- how often a call failed
  pub faults : ℕ
  -- what it was opened for
  pub of : Tagged

-- a call left this of a snapshot: it holds what it held, and is of what it was
pub record StaysOpen (old new : SnapState) : Type 0 where
  pub held : new.held ≡ old.held
  pub of : new.of ≡ old.of
