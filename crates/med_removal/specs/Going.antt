-- What goes with a removal, as far as it was found.
use Rattle.std.specs.Prelude.{◌≡◌, ◌+◌, ◌^◌, ◌-◌, ◌++◌, ℕ, List, [], ◌∷◌, Option, Some, None, min}
use Rattle.std.specs.FinMap.{get}
use Rattle.std.specs.List.{AllByRecursion}
use Rattle.med_base.specs.Classify.{kind_of}
use Rattle.med_base.specs.Content.{Content}
use Rattle.med_core.specs.Counts.{Weight, weight_in, as_file, as_bytes}
use Rattle.med_core.specs.Reach.{MayRemove}
use Rattle.med_core.specs.Section.{Call}
use Rattle.med_removal.specs.declared.going.Going.{Going}

-- the sum over what stands under these paths
abbrev pub weights : Weight → Content → List (List ℕ) → ℕ
weights weight c [] = 0
weights weight c (p ∷ ps) = weight_in weight p (get c p) + weights weight c ps

-- held at the last value of 64 bits
abbrev pub held : ℕ → ℕ
held n = min n (2 ^ 64 - 1)

-- the counts are those of the data objects of the node under the paths
pub record IsCounted (before f : List ℕ) (c : Content) (g : Going) : Type 0 where
  pub files : g.files ≡ held (weights (as_file before f) c g.paths.items)
  pub bytes : g.bytes ≡ held (weights (as_bytes before f) c g.paths.items)

-- these paths were added, and what stands under them was counted
pub record Adds (before f : List ℕ) (c : Content) (ps : List (List ℕ)) (old new : Going) : Type 0
  where
    pub paths : new.paths.items ≡ old.paths.items ++ ps
    pub counted : IsCounted before f c old → IsCounted before f c new

-- a removal may remove what stands under each of these paths
abbrev pub AreRemovable : List ℕ → List ℕ → Call → List (List ℕ) → Type 0
AreRemovable before f call paths =
    AllByRecursion (λ p. MayRemove f call (kind_of before p)) paths

-- ---- for this crate's own clauses

-- one where a size is given, and else nothing
abbrev pub one_where : Option ℕ → ℕ
one_where None = 0
one_where (Some size) = 1

-- the size that is given, and else nothing
abbrev pub size_where : Option ℕ → ℕ
size_where None = 0
size_where (Some size) = size

-- one path was added, of an object with this size where it is counted
pub record AddsOne (path : List ℕ) (size : Option ℕ) (old new : Going) : Type 0 where
  pub paths : new.paths.items ≡ old.paths.items ++ path ∷ []
  pub files : new.files ≡ held (old.files + one_where size)
  pub bytes : new.bytes ≡ held (old.bytes + size_where size)

-- what was found elsewhere was added
pub record AddsAll (more old new : Going) : Type 0 where
  pub paths : new.paths.items ≡ old.paths.items ++ more.paths.items
  pub files : new.files ≡ held (old.files + more.files)
  pub bytes : new.bytes ≡ held (old.bytes + more.bytes)
