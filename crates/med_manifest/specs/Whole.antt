-- When a backup is finished, and when it is whole.
use Rattle.std.specs.Prelude.{◌≡◌, ℕ, List, Some}
use Rattle.std.specs.List.{AllByRecursion}
use Rattle.std.specs.FinMap.{get}
use Rattle.med_base.specs.declared.fingerprint.Fingerprint.{Fingerprint}
use Rattle.med_base.specs.declared.layout.MetaKind.TheVariants.{Manifest}
use Rattle.med_base.specs.Content.{Content, Object}
use Rattle.med_base.specs.Fingerprint.{fingerprint_of}
use Rattle.med_base.specs.Layout.{meta_path}
use Rattle.med_manifest.specs.declared.manifest.FileRecord.{FileRecord}
use Rattle.med_manifest.specs.Manifest.{IsManifest}

-- an object with this fingerprint stands under the path
pub record IsStoredAs (c : Content) (path : List ℕ) (print : Fingerprint) : Type 0 where
  pub object : Object
  pub stands : get c path ≡ Some object
  pub print_is : fingerprint_of object.bytes ≡ print

-- the object stands as the manifest of the backup, and names these files
pub record HasManifest (before f n : List ℕ) (c : Content) (files : List FileRecord) : Type 0 where
  pub object : Object
  pub stands : get c (meta_path before f n Manifest) ≡ Some object
  pub names : IsManifest before f n object.bytes files

-- each file is stored with its recorded size and MD5
abbrev pub AreStored : Content → List FileRecord → Type 0
AreStored c files = AllByRecursion (λ (r : FileRecord). IsStoredAs c r.path r.fingerprint) files

-- the backup is finished, its manifest reads, and each file that it names is stored as recorded
pub record IsWhole (before f n : List ℕ) (c : Content) : Type 0 where
  pub files : List FileRecord
  pub manifest : HasManifest before f n c files
  pub stored : AreStored c files
