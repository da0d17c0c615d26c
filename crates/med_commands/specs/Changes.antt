-- Lists of changes that a command makes.
use Rattle.std.specs.Prelude.{◌≡◌, List, [], ◌++◌}
use Rattle.med_base.specs.Effects.{Effect}
use Rattle.med_outside.specs.State.{State, ChangesWithin, History}

-- some lists of changes: those of which this holds
abbrev pub ChangeLists : Type 1
ChangeLists = List Effect → Type 0

-- no change
abbrev pub IsNothing : ChangeLists
IsNothing xs = xs ≡ []

-- a list of the first, and after it one of the second
abbrev pub FollowedBy : (first next : ChangeLists) → ChangeLists
FollowedBy first next xs =
    (ys : List Effect) × (zs : List Effect) × first ys × next zs × (xs ≡ ys ++ zs)

-- one of these lists of changes was made, and nothing else
abbrev pub IsMadeBy : (old new : State) → (stood_before stood_after : History) → ChangeLists
    → Type 0
IsMadeBy old new stood_before stood_after made =
    (xs : List Effect) × made xs × ChangesWithin xs old new stood_before stood_after
