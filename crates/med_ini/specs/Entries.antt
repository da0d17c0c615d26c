-- The options of a text in the ini form: the list of its entries, and the value of an option.
use Rattle.std.specs.Prelude.{ℕ, Bool, false, ◌&&◌, ◌||◌, List, [], ◌∷◌, Option, option_map, codes}
use Rattle.std.specs.List.{find, list_any}
use Rattle.std.specs.Option.{option_or}
use Rattle.std.specs.Str.{bytes_eq}

-- an option with its value, in its section
pub record Entry : Type 0 where
  pub section : List ℕ
  pub key : List ℕ
  pub value : List ℕ

-- the entry is that of the key in the section
abbrev pub is_of : List ℕ → List ℕ → Entry → Bool
is_of section key e = bytes_eq e.section section && bytes_eq e.key key

-- the value of the key in the section itself
abbrev pub own_value : List Entry → List ℕ → List ℕ → Option (List ℕ)
own_value entries section key =
    option_map (λ (e : Entry). e.value) (find (is_of section key) entries)

-- the own value, else that of the key in the section `DEFAULT`
abbrev pub value_of : List Entry → List ℕ → List ℕ → Option (List ℕ)
value_of entries section key =
    option_or (own_value entries section key) (own_value entries (codes "DEFAULT") key)

-- some key stands twice in a section
abbrev pub stands_twice : List Entry → Bool
stands_twice [] = false
stands_twice (e ∷ entries) =
    list_any (λ (x : Entry). is_of x.section x.key e) entries || stands_twice entries
