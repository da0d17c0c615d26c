-- Where the first file of each key stands.
use Rattle.std.specs.Prelude.{◌≡◌, ◌+◌, ℕ, Bool, false, nat_lt, List, [], ◌∷◌, Option, Some, None}
use Rattle.std.specs.BTreeMap.{BTreeMap, get}
use Rattle.std.specs.FinMap.{find}
use Rattle.med_base.specs.declared.key.FileKey.{FileKey}
use Rattle.med_base.specs.Key.{key_cmp}
use Rattle.med_outside.specs.Snapshot.{key_of_raw}
use Rattle.med_mem.specs.declared.snapshot.MemFile.{MemFile}

-- ---- for this crate's own clauses

-- the key of each file, and its place from a first one on
abbrev pub places : ℕ → List MemFile → List (FileKey × ℕ)
places at [] = []
places at (f ∷ fs) = (key_of_raw f.key, at) ∷ places (at + 1) fs

-- the map has the place of the first file of each key, and no other key
abbrev pub IsIndex : BTreeMap FileKey ℕ → List MemFile → Type 0
IsIndex index files =
    (key : FileKey) → get key_cmp index key ≡ find key_cmp key (places 0 files)

-- there is a place, and it is before that one
abbrev pub is_before : ℕ → Option ℕ → Bool
is_before at None = false
is_before at (Some first) = nat_lt first at
