-- What a plan of a removal says.
use Rattle.std.specs.Prelude.{◌≡◌, ℕ, List}
use Rattle.std.specs.List.{AllByRecursion}
use Rattle.med_base.specs.Content.{Content}
use Rattle.med_base.specs.Effects.{Effect}
use Rattle.med_core.specs.Counts.{as_bytes, as_file}
use Rattle.med_core.specs.Outside.{AreNamedOutside}
use Rattle.med_core.specs.Removal.{paths_of_removal}
use Rattle.med_core.specs.Section.{Remove}
use Rattle.med_manifest.specs.Mend.{changes_of_mend}
use Rattle.med_manifest.specs.Reads.{DoAllRead}
use Rattle.med_index.specs.Planned.{ArePlanned, IsOfLatestPlan}
use Rattle.med_removal.specs.declared.going.Going.{Going}
use Rattle.med_removal.specs.declared.planning.RemovalPlan.{RemovalPlan}
use Rattle.med_removal.specs.Going.{AreRemovable, IsCounted, held, weights}

-- Over a content: every manifest outside reads, the plan's first changes are those of the mend, and
-- then goes what the removal of these names takes. The counts are those of the data objects of the node
-- that stand under the paths that go.
pub record IsPlanOver (before : List ℕ) (c : Content) (f : List ℕ) (names : List (List ℕ))
    (grace now : ℕ) (plan : RemovalPlan) : Type 0
  where
    pub read : DoAllRead before c f names
    pub mend : (xs : List Effect) → ArePlanned plan.mend.items xs
        → (seconds : ℕ → ℕ) × (xs ≡ changes_of_mend before c f names seconds)
    pub named : List (List ℕ)
    pub named_are : AreNamedOutside before c f names named
    pub paths : plan.paths.items ≡ paths_of_removal before c f names named grace now
    pub files : plan.removed.files ≡ held (weights (as_file before f) c plan.paths.items)
    pub bytes : plan.removed.bytes ≡ held (weights (as_bytes before f) c plan.paths.items)

-- Over every storage: the plan tells for what it was made, its first changes are of the latest entry
-- of the node, and a removal may remove what stands under each path.
pub record IsPlanFor (before f : List ℕ) (names : List (List ℕ)) (grace now : ℕ)
    (plan : RemovalPlan) : Type 0
  where
    pub names_are : plan.removed.names.items ≡ names
    pub grace_is : plan.grace_days ≡ grace
    pub now_is : plan.now ≡ now
    pub mend_within : AllByRecursion (IsOfLatestPlan before f) plan.mend.items
    pub within : AreRemovable before f (Remove names grace now) plan.paths.items

-- ---- for this crate's own clauses

-- the same of what goes
pub record IsGone (before : List ℕ) (c : Content) (f : List ℕ) (names : List (List ℕ))
    (grace now : ℕ) (going : Going) : Type 0
  where
    pub read : DoAllRead before c f names
    pub named : List (List ℕ)
    pub named_are : AreNamedOutside before c f names named
    pub paths : going.paths.items ≡ paths_of_removal before c f names named grace now
    pub counted : IsCounted before f c going
