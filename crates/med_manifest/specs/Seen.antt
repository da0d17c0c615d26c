-- The keys of the files that were read so far, as the reader keeps them.
use Rattle.std.specs.Prelude.{◌≡◌, true}
use Rattle.std.specs.BTreeSet.{BTreeSet, contains}
use Rattle.med_base.specs.declared.key.FileKey.{FileKey}
use Rattle.med_base.specs.Key.{key_cmp}
use Rattle.med_manifest.specs.declared.manifest.FileRecord.{FileRecord}
use Rattle.med_manifest.specs.declared.why.ManifestWhy.{ManifestWhy}
use Rattle.med_manifest.specs.declared.why.ManifestWhy.TheVariants.{DuplicatePath}

-- the key of one more record was seen
abbrev pub IsSeen : BTreeSet FileKey → FileRecord → ManifestWhy → Type 0
IsSeen seen r (DuplicatePath path) = (path ≡ r.path) × (contains key_cmp seen r.key ≡ true)
IsSeen seen r _ = ⊥
