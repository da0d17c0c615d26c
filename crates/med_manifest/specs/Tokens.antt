-- The tokens of JSON values, and what a writer of tokens was given.
use Rattle.std.specs.Prelude.{◌≡◌, List, flat_map, ◌++◌}
use Rattle.json.specs.Token.{Token}
use Rattle.json.specs.Tree.{json_tokens}
use Rattle.json.specs.Written.{Written}
use Rattle.serde_json.specs.Data.{Data, array}
use Rattle.serde_json.specs.View.{items_of}
use Rattle.serde_json.specs.Written.{outline}

-- the tokens of a value without floats
abbrev pub tokens_of : Data → List Token
tokens_of d = json_tokens (outline d)

-- the tokens of values, one after another
abbrev pub tokens_of_all : List Data → List Token
tokens_of_all ds = flat_map tokens_of ds

abbrev pub list_data : List Data → Data
list_data ds = array (items_of ds)

-- these tokens were added, and what stood before the text stays
pub record Adds (old new : Written) (added : List Token) : Type 0 where
  pub tokens : new.tokens ≡ old.tokens ++ added
  pub before : new.before ≡ old.before
