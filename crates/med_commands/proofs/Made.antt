-- Lists of changes that were made, one after another.
use Rattle.std.proofs.Common.{◌≡◌, ◌∙◌, [], ◌++◌, refl}
use Rattle.med_outside.specs.State.{State, Changes, ChangesWithin, History}
use Rattle.med_outside.proofs.Passing.{after_all-nothing, moves_on}
use Rattle.med_commands.specs.Changes.{ChangeLists, FollowedBy, IsMadeBy}

module _ (s0 s1 s2 : State) (p0 p1 p2 : History) where
  -- a list of the first, and after it one of the second
  pub made_on : (first next : ChangeLists) → IsMadeBy s0 s1 p0 p1 first
      → IsMadeBy s1 s2 p1 p2 next → IsMadeBy s0 s2 p0 p2 (FollowedBy first next)
  made_on first next (xs, is, moves) (ys, are, more) =
      (xs ++ ys, (xs, ys, is, are, refl), moves_on xs ys s0 s1 s2 p0 p1 p2 moves more)

  -- calls that changed nothing, and after them one of these lists
  pub made_later : ChangesWithin [] s0 s1 p0 p1 → (made : ChangeLists)
      → IsMadeBy s1 s2 p1 p2 made → IsMadeBy s0 s2 p0 p2 made
  made_later first made (xs, is, moves) =
      (xs, is, moves_on [] xs s0 s1 s2 p0 p1 p2 first moves)

pub same_content : (s0 s1 : State) (p0 p1 : History) → Changes [] s0 s1 p0 p1
    → s1.content ≡ s0.content
same_content s0 s1 p0 p1 a = a.content ∙ after_all-nothing s0.content
