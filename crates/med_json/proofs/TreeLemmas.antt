-- The tree of a value, and of a text.
use Rattle.std.proofs.Common.{◌≡◌, ◌∙◌, ℕ, List, [], ◌∷◌, map, Some, option_map, option_and_then, refl, sym, ap}
use Rattle.serde_json.specs.Data.{Data, Members}
use Rattle.serde_json.specs.Find.{get, as_array, as_object}
use Rattle.serde_json.specs.View.{view, items_view, items_of}
use Rattle.serde_json.specs.declared.value.Value.{Value}
use Rattle.med_json.specs.Tree.{IsText, IsNoText, items_in, list_at}

-- a list of items is read as it was made
pub items_in-of : (ds : List Data) → items_in (items_of ds) ≡ ds
items_in-of [] = refl
items_in-of (d ∷ ds) = ap (λ (es : List Data). d ∷ es) (items_in-of ds)

-- the items of a value are those of its list
pub items_in-view : (vs : List Value) → items_in (items_view vs) ≡ map view vs
items_in-view vs = items_in-of (map view vs)

-- a list of values that stands at a key
pub list_found : (k : List ℕ) (d : Data) (vs : List Value)
    → option_and_then as_array (get k d) ≡ Some (items_view vs) → list_at k d ≡ Some (map view vs)
list_found k d vs found =
    ap (option_map items_in) found ∙ ap (λ (ds : List Data). Some ds) (items_in-view vs)

-- one text has one tree
pub tree_once : (bytes : List ℕ) (a b : Data) → IsText bytes a → IsText bytes b → a ≡ b
tree_once bytes a b p q = cc (sym p.reads ∙ q.reads)

-- a text that has a tree is one
pub no_text : (bytes : List ℕ) (tree : Data) → IsNoText bytes → IsText bytes tree → ⊥
no_text bytes tree none text = cc (sym text.reads ∙ none text.utf8)

-- one tree has the members of one object at most
pub members_once : (t u : Data) (ms ns : Members) → t ≡ u → as_object t ≡ Some ms
    → as_object u ≡ Some ns → ms ≡ ns
members_once t u ms ns same p q = cc (sym p ∙ ap as_object same ∙ q)
