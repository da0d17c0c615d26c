-- Which paths a call may change.
use Rattle.std.specs.Prelude.{◌≡◌, ℕ, List, Some, Contains}
use Rattle.std.specs.List.{AllByRecursion}
use Rattle.med_base.specs.Classify.{kind_of}
use Rattle.med_base.specs.Effects.{Effect, Stores, Removes}
use Rattle.med_base.specs.Kinds.{Kind, Shared, Own, Meta, Entry, Latest, Stray}
use Rattle.med_core.specs.Section.{Call, Remove}

-- the call is a removal of this name
abbrev pub Removing : Call → List ℕ → Type 0
Removing (Remove names grace now) n = Contains names n
Removing _ n = ⊥

-- the call may put an object of this kind
abbrev pub MayStore : List ℕ → Kind → Type 0
MayStore f (Shared g key) = g ≡ f
MayStore f (Own g n key) = g ≡ f
MayStore f (Meta g n kind) = g ≡ f
MayStore f (Entry g n kind) = g ≡ f
MayStore f (Latest g kind) = g ≡ f
MayStore f _ = ⊥

-- the call may remove an object of this kind: what lies in the folder of a backup goes only with
-- that backup
abbrev pub MayRemove : List ℕ → Call → Kind → Type 0
MayRemove f call (Shared g key) = g ≡ f
MayRemove f call (Own g n key) = (g ≡ f) × Removing call n
MayRemove f call (Meta g n kind) = (g ≡ f) × Removing call n
MayRemove f call (Entry g n kind) = g ≡ f
MayRemove f call (Latest g kind) = g ≡ f
MayRemove f call (Stray g (Some n)) = (g ≡ f) × Removing call n
MayRemove f call _ = ⊥

-- the call may make this change
abbrev pub MayChange : List ℕ → List ℕ → Call → Effect → Type 0
MayChange before f call (Stores path bytes second) = MayStore f (kind_of before path)
MayChange before f call (Removes path) = MayRemove f call (kind_of before path)

-- each change is of a path of the node that the call may change
abbrev pub AreWithin : List ℕ → List ℕ → Call → List Effect → Type 0
AreWithin before f call xs = AllByRecursion (MayChange before f call) xs
