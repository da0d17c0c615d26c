-- Which texts are names of files, nodes and backups, and where a text first breaks their rules.
-- This project's own rules; a text is the list of its bytes.
use Rattle.std.specs.Prelude.{◌≡◌, ℕ, Bool, false, ◌||◌, ◌==◌, nat_lt, List, [], ◌∷◌, Option, Some, None, length, if◌then◌else◌, codes, position}
use Rattle.std.specs.Option.{option_or}
use Rattle.std.specs.Str.{bytes_eq}
use Rattle.med_base.specs.declared.names.NameError.{NameError}
use Rattle.med_base.specs.declared.names.NameError.TheVariants.{BadName, Memory}

-- a slash, a NUL or a line feed
abbrev pub is_forbidden : ℕ → Bool
is_forbidden b = (b == 47) || (b == 0) || (b == 10)

-- the place of the first fault: 0 of a text that is refused whole, else that of the first
-- forbidden byte, else the limit of the length
abbrev pub first_fault : Bool → ℕ → List ℕ → Option ℕ
first_fault is_refused limit text =
    if is_refused then Some 0
    else option_or (position is_forbidden text)
    (if nat_lt limit (length text) then Some limit else None)

abbrev pub begins_with_dot : List ℕ → Bool
begins_with_dot [] = false
begins_with_dot (b ∷ bs) = b == 46

-- a part of a path: 1 to 255 bytes, and neither `.` nor `..`
abbrev pub component_fault : List ℕ → Option ℕ
component_fault text =
    first_fault (bytes_eq text [] || bytes_eq text (codes ".") || bytes_eq text (codes "..")) 255
    text

-- a node: 1 to 200 bytes, no dot first, and not `index`
abbrev pub fqdn_fault : List ℕ → Option ℕ
fqdn_fault text =
    first_fault (bytes_eq text [] || begins_with_dot text || bytes_eq text (codes "index")) 200 text

-- a backup: 1 to 200 bytes, no dot first, and neither `data` nor `meta`
abbrev pub backup_fault : List ℕ → Option ℕ
backup_fault text =
    first_fault (bytes_eq text [] || begins_with_dot text || bytes_eq text (codes "data") ||
    bytes_eq text (codes "meta")) 200 text

-- an error of a reader is right: a bad name has its fault at that place, and memory ran out only
-- over a text that has none
abbrev pub Blames : Option ℕ → NameError → Type 0
Blames fault (BadName at) = fault ≡ Some at
Blames fault Memory = fault ≡ None
