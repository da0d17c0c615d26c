-- Which paths below a bucket's folder are those of objects. This project's own rule.
use Rattle.std.specs.Prelude.{◌≡◌, ◌≢◌, ◌⊎◌, ◌<◌, ℕ, Bool, not, ◌&&◌, ◌||◌, ◌==◌, ◌++◌, is_none, List, [], ◌∷◌, codes, position, length, get_or}
use Rattle.std.specs.List.{list_all}
use Rattle.std.specs.Str.{bytes_eq}
use Rattle.med_base.specs.Content.{is_under}
use Rattle.med_base.specs.Prefix.{parts}

-- a slash or a NUL
abbrev pub is_separator : ℕ → Bool
is_separator b = (b == 47) || (b == 0)

-- a name in a folder: it isn't empty, has no slash and no NUL, and is neither `.` nor `..`
abbrev pub is_name : List ℕ → Bool
is_name text =
    not (bytes_eq text [] || bytes_eq text (codes ".") || bytes_eq text (codes ".."))
    && is_none (position is_separator text)

-- the folder of unfinished files, or a path below it
abbrev pub is_unfinished : List ℕ → Bool
is_unfinished path = bytes_eq path (codes ".medusa-tmp") || is_under (codes ".medusa-tmp/") path

-- no byte of the text is a slash
abbrev pub HasNoSlash : List ℕ → Type 0
HasNoSlash text = (i : ℕ) → i < length text → get_or text i 0 ≢ 47

-- the path has one part, and the parent is empty; or the parent stands before its last slash
abbrev pub IsParent : (path parent : List ℕ) → Type 0
IsParent path parent =
    (HasNoSlash path × (parent ≡ []))
    ⊎ ((name : List ℕ) × HasNoSlash name × (path ≡ parent ++ 47 ∷ name))

-- the folder of a bucket
abbrev pub bucket_folder : (base bucket : List ℕ) → List ℕ
bucket_folder base bucket = base ++ codes "/" ++ bucket

-- names joined by slashes, and not in the folder of unfinished files
abbrev pub is_object_path : List ℕ → Bool
is_object_path path = list_all is_name (parts path) && not (is_unfinished path)
