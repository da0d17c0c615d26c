-- All that a rebuild reads of a node, and what it says of a manifest that doesn't read.
use Rattle.std.specs.Prelude.{◌≡◌, ℕ, List, [], Some}
use Rattle.std.specs.BTreeSet.{BTreeSet}
use Rattle.std.specs.BTreeMap.{BTreeMap, IsOrdered}
use Rattle.med_base.specs.Classify.{kind_of}
use Rattle.med_base.specs.Content.{Content}
use Rattle.med_base.specs.NameOrder.{name_cmp}
use Rattle.med_manifest.specs.Index.{given_to}
use Rattle.med_manifest.specs.Reads.{DoAllRead}
use Rattle.med_index.specs.declared.errors.IndexError.{IndexError}
use Rattle.med_index.specs.declared.errors.IndexError.TheVariants.{BadManifest, Store, Memory}
use Rattle.med_index.specs.declared.marks.Marks.{Marks}
use Rattle.med_index.specs.Marks.{IsSetOf}
use Rattle.med_index.specs.Given.{AreRightly, AreSizes, Given, WasGiven}
use Rattle.med_index.specs.Manifests.{AreManifestsOf, AreRead, Manifests}
use Rattle.med_index.specs.Rebuilt.{IsFirstBad}

-- ---- for this crate's own clauses

-- the manifests of the finished ones of the backups that were found were read, and their entries are
-- given
pub record ReadsAll (before f : List ℕ) (c : Content) (found : BTreeMap (List ℕ) Marks)
    (old new : Given) : Type 0
  where
    pub none : BTreeSet (List ℕ)
    pub none_is : IsSetOf [] none
    pub manifests : Manifests
    pub rising : IsOrdered name_cmp manifests
    pub ordered : IsOrdered name_cmp found
    pub of_found : AreManifestsOf before f found none found.entries manifests
    pub reads : AreRead before f c manifests.entries old new

-- what the backups of the node give was gathered, and the sizes of the entries that stand
pub record IsGathered (before f : List ℕ) (c : Content) (given : Given)
    (sizes : BTreeMap (List ℕ) ℕ) : Type 0
  where
    pub sized : AreSizes before f c sizes
    pub right : AreRightly before f c given
    pub complete : (path bytes : List ℕ) → given_to before c f (kind_of before path) ≡ Some bytes
        → WasGiven given path
    pub read : DoAllRead before c f []

-- where a manifest is refused, it is the first that doesn't read
abbrev pub TellsUnread : List ℕ → Content → List ℕ → IndexError → Type 0
TellsUnread before c f (BadManifest path why) = IsFirstBad before c f path why
TellsUnread before c f Store = Unit {0}
TellsUnread before c f Memory = Unit {0}
