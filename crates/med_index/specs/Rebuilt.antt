-- What a mend and a rebuild of the index of a node make, and what a rebuild answers.
-- This project's own.
use Rattle.std.specs.Prelude.{◌≡◌, ◌⊎◌, ◌+◌, ℕ, List, [], ◌∷◌, Some, Option, IfSome, Result, Ok, Err}
use Rattle.std.specs.FinMap.{get}
use Rattle.std.specs.List.{AllByRecursion}
use Rattle.med_base.specs.Classify.{kind_of}
use Rattle.med_base.specs.Content.{Content, Object}
use Rattle.med_base.specs.Effects.{Effect, Stores, Removes}
use Rattle.med_base.specs.Kinds.{Kind, Entry, Latest}
use Rattle.med_manifest.specs.declared.why.ManifestWhy.{ManifestWhy}
use Rattle.med_manifest.specs.Mend.{changes_of_mend, name_in}
use Rattle.med_manifest.specs.Reads.{IsFirstUnread}
use Rattle.med_manifest.specs.Rebuild.{IsRebuildOf}
use Rattle.med_manifest.specs.Refusals.{IsRefused}
use Rattle.med_index.specs.declared.errors.IndexError.{IndexError}
use Rattle.med_index.specs.declared.errors.IndexError.TheVariants.{BadManifest, Store, Memory}
use Rattle.med_index.specs.declared.report.IndexReport.{IndexReport}

-- the path that a change is of
abbrev pub changed : Effect → List ℕ
changed (Stores path bytes second) = path
changed (Removes path) = path

-- an object that tells of the latest backup of the node
abbrev pub IsLatestOf : List ℕ → Kind → Type 0
IsLatestOf f (Latest g kind) = g ≡ f
IsLatestOf f _ = ⊥

-- an entry that the index has of the node, or an object that tells of its latest backup
abbrev pub IsOfIndex : List ℕ → Kind → Type 0
IsOfIndex f (Entry g n kind) = g ≡ f
IsOfIndex f (Latest g kind) = g ≡ f
IsOfIndex f _ = ⊥

-- each change is of such an object
abbrev pub AreOfLatest : List ℕ → List ℕ → List Effect → Type 0
AreOfLatest before f xs = AllByRecursion (λ x. IsLatestOf f (kind_of before (changed x))) xs

abbrev pub AreOfIndex : List ℕ → List ℕ → List Effect → Type 0
AreOfIndex before f xs = AllByRecursion (λ x. IsOfIndex f (kind_of before (changed x))) xs

-- the list of a mend of the node: over every storage changes of its latest objects, and over what is
-- told those that make them tell of its newest finished backup
pub record IsMend (before : List ℕ) (told : Option Content) (f : List ℕ) (xs : List Effect)
    : Type 0
  where
    pub reach : AreOfLatest before f xs
    pub list : IfSome told
        (λ c. (seconds : ℕ → ℕ) × (xs ≡ changes_of_mend before c f [] seconds))

-- how many of the changes store an object
abbrev pub stores : List Effect → ℕ
stores [] = 0
stores (Stores path bytes second ∷ xs) = 1 + stores xs
stores (Removes path ∷ xs) = stores xs

-- how many of them remove one
abbrev pub removals : List Effect → ℕ
removals [] = 0
removals (Stores path bytes second ∷ xs) = removals xs
removals (Removes path ∷ xs) = 1 + removals xs

-- the first manifest of the node that doesn't read has this path, and is refused for this cause
pub record IsFirstBad (before : List ℕ) (c : Content) (f path : List ℕ) (why : ManifestWhy)
    : Type 0
  where
    pub first : IsFirstUnread before c f [] path
    pub object : Object
    pub stands : get c path ≡ Some object
    pub why_is : IsRefused before f (name_in (kind_of before path)) object.bytes why

-- what an answer tells of the changes, over every storage
abbrev pub Reports : Result IndexReport IndexError → List Effect → Type 0
Reports (Ok report) xs = (report.put ≡ stores xs) × (report.deleted ≡ removals xs)
Reports (Err (BadManifest path why)) xs = xs ≡ []
Reports (Err Store) xs = Unit {0}
Reports (Err Memory) xs = Unit {0}

-- and over a content: a fault or want of memory may come before the manifests were read
abbrev pub AnswersRebuild : List ℕ → Content → List ℕ → Result IndexReport IndexError
    → List Effect → Type 0
AnswersRebuild before c f (Ok report) xs = IsRebuildOf before c f xs
AnswersRebuild before c f (Err (BadManifest path why)) xs = IsFirstBad before c f path why
AnswersRebuild before c f (Err Store) xs = (xs ≡ []) ⊎ IsRebuildOf before c f xs
AnswersRebuild before c f (Err Memory) xs = (xs ≡ []) ⊎ IsRebuildOf before c f xs

-- the list of a rebuild of the node, by its answer
pub record IsRebuild (before : List ℕ) (told : Option Content) (f : List ℕ)
    (result : Result IndexReport IndexError) (xs : List Effect) : Type 0
  where
    pub reach : AreOfIndex before f xs
    pub reports : Reports result xs
    pub list : IfSome told (λ c. AnswersRebuild before c f result xs)
