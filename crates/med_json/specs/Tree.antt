-- The tree of a JSON text, and what stands at a key of it.
-- After RFC 8259, as the kit's serde_json reads it; of a repeated key the last counts.
use Rattle.std.specs.Prelude.{◌≡◌, ℕ, Bool, List, [], ◌∷◌, Option, Some, None, option_map, option_and_then}
use Rattle.std.specs.Str.{IsUtf8}
use Rattle.serde_json.specs.Data.{Data, Items, no_items, item, Members, no_members, member}
use Rattle.serde_json.specs.Find.{get, as_str, as_bool, as_number, as_u64, as_array}
use Rattle.serde_json.specs.Read.{read}

-- the bytes are a JSON text of this tree
pub record IsText (bytes : List ℕ) (tree : Data) : Type 0 where
  pub utf8 : IsUtf8 bytes
  pub reads : read bytes ≡ Some tree

-- the bytes are no JSON text: where they are UTF-8, they aren't read
abbrev pub IsNoText : List ℕ → Type 0
IsNoText bytes = IsUtf8 bytes → read bytes ≡ None

-- the items of a list
abbrev pub items_in : Items → List Data
items_in no_items = []
items_in (item d ds) = d ∷ items_in ds

-- the members of an object, each a key and a value, in byte order of the keys
abbrev pub members_in : Members → List (List ℕ × Data)
members_in no_members = []
members_in (member k d ms) = (k, d) ∷ members_in ms

-- the text at a key of an object
abbrev pub text_at : List ℕ → Data → Option (List ℕ)
text_at k d = option_and_then as_str (get k d)

-- a text where there is a value, and the empty one where there is none
abbrev pub text_or_empty : Option Data → Option (List ℕ)
text_or_empty None = Some []
text_or_empty (Some d) = as_str d

-- the text at a key, empty where the key is absent; a value that is no text, `null` too, has none
abbrev pub text_or_empty_at : List ℕ → Data → Option (List ℕ)
text_or_empty_at k d = text_or_empty (get k d)

-- the whole number below 2^64 at a key, written with digits alone
abbrev pub number_at : List ℕ → Data → Option ℕ
number_at k d = option_and_then as_u64 (option_and_then as_number (get k d))

-- the truth value at a key
abbrev pub truth_at : List ℕ → Data → Option Bool
truth_at k d = option_and_then as_bool (get k d)

-- the items of the list at a key
abbrev pub list_at : List ℕ → Data → Option (List Data)
list_at k d = option_map items_in (option_and_then as_array (get k d))
