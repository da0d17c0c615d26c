-- Which paths the backups of a node need that a removal leaves: those that their manifests name.
use Rattle.std.specs.Prelude.{◌≡◌, ◌↔◌, ℕ, List, Contains}
use Rattle.med_base.specs.Content.{Content}
use Rattle.med_base.specs.Kinds.{IsBackupName}
use Rattle.med_manifest.specs.declared.manifest.FileRecord.{FileRecord}
use Rattle.med_manifest.specs.Whole.{HasManifest}

-- the manifest of a finished backup of the node outside these names names the path
pub record IsNamedOutside (before : List ℕ) (c : Content) (f : List ℕ) (names : List (List ℕ))
    (path : List ℕ) : Type 0
  where
    pub n : List ℕ
    pub name : IsBackupName n
    pub outside : Contains names n → ⊥
    pub files : List FileRecord
    pub manifest : HasManifest before f n c files
    pub file : FileRecord
    pub among : Contains files file
    pub here : file.path ≡ path

-- these are the paths that those manifests name
abbrev pub AreNamedOutside : List ℕ → Content → List ℕ → (names named : List (List ℕ)) → Type 0
AreNamedOutside before c f names named =
    (path : List ℕ) → Contains named path ↔ IsNamedOutside before c f names path
