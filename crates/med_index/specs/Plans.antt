-- What a rebuild plans, by the maps of what stands and of what is given.
use Rattle.std.specs.Prelude.{ℕ, ◌+◌, Bool, true, false, List, [], ◌∷◌, ◌++◌, Vec, Option, Some, None, is_some, if◌then◌else◌}
use Rattle.std.specs.declared.alloc.Global.{Global}
use Rattle.std.specs.BTreeMap.{get}
use Rattle.med_base.specs.NameOrder.{name_cmp}
use Rattle.med_index.specs.Given.{Given}
use Rattle.med_index.specs.declared.changes.Planned.{Planned}
use Rattle.med_index.specs.declared.changes.Planned.TheVariants.{Put, Delete}

-- ---- for this crate's own clauses

-- the entry under the path is deleted, unless it is given
abbrev pub delete_unless : Given → List ℕ → List Planned
delete_unless m path = if is_some (get name_cmp m path) then [] else Delete path ∷ []

-- the entries under these paths are, each unless it is given
abbrev pub deletes_of : Given → List (List ℕ) → List Planned
deletes_of m [] = []
deletes_of m (path ∷ paths) = delete_unless m path ++ deletes_of m paths

-- the bytes that are to be put under the path, if any
abbrev pub put_of : List ℕ → Option (Vec ℕ Global) → List Planned
put_of path None = []
put_of path (Some bytes) = Put path bytes ∷ []

-- so are those under these paths
abbrev pub puts_of : List (List ℕ × Option (Vec ℕ Global)) → List Planned
puts_of [] = []
puts_of (e ∷ es) = put_of e.0 e.1 ++ puts_of es

-- whether the change is a put
abbrev pub is_put : Planned → Bool
is_put (Put path bytes) = true
is_put (Delete path) = false

-- whether the two are the same
abbrev pub agrees : Bool → Bool → Bool
agrees true true = true
agrees false false = true
agrees a b = false

-- how many of the changes are puts, or how many aren't
abbrev pub count_of : (puts : Bool) → List Planned → ℕ
count_of puts [] = 0
count_of puts (p ∷ ps) = if agrees (is_put p) puts then 1 + count_of puts ps else count_of puts ps
