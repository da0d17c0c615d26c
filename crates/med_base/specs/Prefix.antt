-- The prefix of a layout: components joined by slashes, or nothing, in at most 512 bytes.
use Rattle.std.specs.Prelude.{ℕ, Bool, ◌||◌, ◌+◌, nat_lt, List, [], ◌∷◌, ◌++◌, Option, Some, None, is_some, min, length, codes, if◌then◌else◌}
use Rattle.med_base.specs.Cut.{pieces_of}
use Rattle.med_base.specs.Names.{component_fault, begins_with_dot}

-- the parts of a text between its slashes
abbrev pub parts : List ℕ → List (List ℕ)
parts text = pieces_of 47 text

-- no component, or one that begins with a dot
abbrev pub is_bad_part : List ℕ → Bool
is_bad_part part = is_some (component_fault part) || begins_with_dot part

-- where the first bad one of these parts starts, the first of them at the given place
abbrev pub bad_part_at : ℕ → List (List ℕ) → Option ℕ
bad_part_at start [] = None
bad_part_at start (part ∷ rest) =
    if is_bad_part part then Some start else bad_part_at (start + length part + 1) rest

-- the place of a fault in a text, and no place past the limit of its length
abbrev pub within_limit : ℕ → List ℕ → Option ℕ → Option ℕ
within_limit limit text None = if nat_lt limit (length text) then Some limit else None
within_limit limit text (Some at) = Some (if nat_lt limit (length text) then min at limit else at)

-- where a text first fails to be a prefix: at the start of its first bad part, or at the limit
abbrev pub prefix_fault : List ℕ → Option ℕ
prefix_fault [] = None
prefix_fault (b ∷ bs) = within_limit 512 (b ∷ bs) (bad_part_at 0 (parts (b ∷ bs)))

-- what stands before each path: nothing, or the prefix and a slash
abbrev pub before_of : List ℕ → List ℕ
before_of [] = []
before_of (b ∷ bs) = (b ∷ bs) ++ codes "/"
