-- The records of a claim.
use Rattle.std.specs.Prelude.{ℕ, List, map}
use Rattle.std.specs.List.{AllByRecursion, IsDistinct}
use Rattle.std.specs.List.Sorted.{IsPermutation}
use Rattle.std.specs.declared.cmp.Ordering.{Ordering}
use Rattle.med_base.specs.declared.key.FileKey.{FileKey}
use Rattle.med_base.specs.Key.{key_cmp, key_eq, AreRising, IsKey}
use Rattle.med_core.specs.declared.records.Record.{Record}
use Rattle.med_manifest.specs.declared.manifest.FileRecord.{FileRecord}
use Rattle.med_manifest.specs.Manifest.{IsPathOf}

-- the keys of the records
abbrev pub keys_of : List Record → List FileKey
keys_of rs = map (λ (r : Record). r.file.key) rs

-- no key stands twice, each is a key, and each path is the shared or the own path of its key in the
-- backup n of the node f
pub record AreRecordsOf (before f n : List ℕ) (rs : List Record) : Type 0 where
  pub once : IsDistinct key_eq (keys_of rs)
  pub each : AllByRecursion
      (λ (r : Record). IsKey r.file.key × IsPathOf before f n r.file.key r.file.path) rs

-- records in order of their keys
abbrev pub record_cmp : Record → Record → Ordering
record_cmp a b = key_cmp a.file.key b.file.key

-- the files of the records, as a manifest has them
abbrev pub files_of : List Record → List FileRecord
files_of rs = map (λ (r : Record). r.file) rs

-- these are the same records in order of their keys
pub record AreSorted (rs sorted : List Record) : Type 0 where
  pub same : IsPermutation rs sorted
  pub rising : AreRising (keys_of sorted)
