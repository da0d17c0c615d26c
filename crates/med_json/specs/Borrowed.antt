-- The tree of a value over borrowed text. The definition of a text's tree is over such a value.
use Rattle.std.specs.Prelude.{◌≡◌, Some, unwrap_or}
use Rattle.std.specs.declared.alloc.Global.{Global}
use Rattle.json.specs.Value.{value_view}
use Rattle.json.specs.declared.value.Value.{Value}
use Rattle.serde_json.specs.Data.{Data, null}
use Rattle.serde_json.specs.Read.{of_json}

-- the tree of a value that has one
unfoldable pub tree_of : Value Global → Data
tree_of value = unwrap_or (of_json (value_view value)) null

-- the value has a tree: each number in it is finite
unfoldable pub HasTree : Value Global → Type 0
unfolding tree_of
HasTree value = of_json (value_view value) ≡ Some (tree_of value)
