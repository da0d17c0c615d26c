-- A backup is whole where its manifest stands and its files are stored.
use Rattle.std.proofs.Common.{◌≡◌, ℕ, List, Some, subst, sym}
use Rattle.std.specs.FinMap.{get}
use Rattle.med_base.specs.declared.layout.MetaKind.TheVariants.{Manifest}
use Rattle.med_base.specs.Content.{Content, Object}
use Rattle.med_base.specs.Layout.{meta_path}
use Rattle.med_manifest.specs.declared.manifest.FileRecord.{FileRecord}
use Rattle.med_manifest.specs.Manifest.{IsManifest}
use Rattle.med_manifest.specs.Whole.{AreStored, IsWhole}

-- a manifest that stands and whose files are all stored makes its backup whole
pub manifest_whole : (before f n text : List ℕ) (c : Content) (object : Object)
    (files : List FileRecord) → get c (meta_path before f n Manifest) ≡ Some object
    → object.bytes ≡ text → IsManifest before f n text files → AreStored c files
    → IsWhole before f n c
manifest_whole before f n text c object files stands is names stored = record {
  files = files;
  manifest = record {
    object = object;
    stands = stands;
    names = subst (λ (bytes : List ℕ). IsManifest before f n bytes files) (sym is) names;
  };
  stored = stored;
}
