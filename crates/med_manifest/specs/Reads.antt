-- Whether the manifests of a node's finished backups read, and the first that doesn't.
use Rattle.std.specs.Prelude.{◌≡◌, ◌++◌, ℕ, List, ◌∷◌}
use Rattle.std.specs.List.{AllByRecursion}
use Rattle.med_base.specs.Classify.{kind_of}
use Rattle.med_base.specs.Content.{Content}
use Rattle.med_manifest.specs.declared.manifest.FileRecord.{FileRecord}
use Rattle.med_manifest.specs.Listed.{paths_of}
use Rattle.med_manifest.specs.Mend.{is_manifest_outside, name_in}
use Rattle.med_manifest.specs.Whole.{HasManifest}

-- the manifest under the path reads
abbrev pub DoesRead : List ℕ → Content → List ℕ → List ℕ → Type 0
DoesRead before c f path =
    (files : List FileRecord) × HasManifest before f (name_in (kind_of before path)) c files

-- the manifest of each finished backup of the node outside these names reads
abbrev pub DoAllRead : List ℕ → Content → List ℕ → List (List ℕ) → Type 0
DoAllRead before c f names =
    AllByRecursion (DoesRead before c f) (paths_of before c (is_manifest_outside f names))

-- the first of those manifests, in byte order of their paths, that doesn't read
pub record IsFirstUnread (before : List ℕ) (c : Content) (f : List ℕ) (names : List (List ℕ))
    (path : List ℕ) : Type 0
  where
    pub good : List (List ℕ)
    pub rest : List (List ℕ)
    pub paths : paths_of before c (is_manifest_outside f names) ≡ good ++ path ∷ rest
    pub read : AllByRecursion (DoesRead before c f) good
    pub unread : DoesRead before c f path → ⊥
