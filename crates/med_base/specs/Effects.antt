-- Changes of a content as data, and what a list of them leaves.
use Rattle.std.specs.Prelude.{◌≡◌, ℕ, List, [], ◌∷◌, ◌++◌, Option, Some, option_map}
use Rattle.std.specs.FinMap.{remove}
use Rattle.med_base.specs.Content.{Content, with_object}

pub data Effect : Type 0 where
  -- an object stands under the path, in place of one that was there
  Stores : (path bytes : List ℕ) (second : ℕ) → Effect
  -- no object stands under the path
  Removes : (path : List ℕ) → Effect

abbrev pub made : Effect → Content → Content
made (Stores path bytes second) c = with_object path bytes second c
made (Removes path) c = remove c path

-- the content after these, in order
abbrev pub applied : List Effect → Content → Content
applied [] c = c
applied (x ∷ xs) c = applied xs (made x c)

-- what is told of the content after them
abbrev pub after_all : List Effect → Option Content → Option Content
after_all xs told = option_map (applied xs) told

-- the content is the told one with the first of these made
pub record IsMoment (xs : List Effect) (told : Option Content) (c : Content) : Type 0 where
  pub first : List Effect
  pub later : List Effect
  pub split : xs ≡ first ++ later
  pub held : after_all first told ≡ Some c
