-- What the index says of the latest backup of a node, and the changes that mend it.
-- This project's own: the newest finished backup is the one with the greatest second, then name.
use Rattle.std.specs.Prelude.{ℕ, Bool, false, not, ◌&&◌, List, [], ◌∷◌, ◌++◌, map, Option, Some, None, if◌then◌else◌, bytes_eq}
use Rattle.std.specs.Cmp.Lexicographic.{slice_cmp}
use Rattle.std.specs.FinMap.{get}
use Rattle.std.specs.List.{list_any}
use Rattle.std.specs.Ordering.{nat_cmp, ordering_then, is_gt}
use Rattle.med_base.specs.declared.kinds.LatestKind.TheVariants as latest
use Rattle.med_base.specs.declared.layout.MetaKind.TheVariants.{Manifest, Tokenmap}
use Rattle.med_base.specs.Classify.{kind_of}
use Rattle.med_base.specs.Content.{Content, Object}
use Rattle.med_base.specs.Effects.{Effect, Stores}
use Rattle.med_base.specs.Kinds.{Kind, Meta}
use Rattle.med_base.specs.Layout.{meta_path, latest_path}
use Rattle.med_manifest.specs.Listed.{paths_of, remove_if_stands}

-- a second and a name are after others: in order of seconds, then of names
abbrev pub is_later : ℕ × List ℕ → ℕ × List ℕ → Bool
is_later a b = is_gt (ordering_then (nat_cmp a.0 b.0) (slice_cmp nat_cmp a.1 b.1))

-- the later of one and another, where there is another
abbrev pub later_of : ℕ × List ℕ → Option (ℕ × List ℕ) → ℕ × List ℕ
later_of a None = a
later_of a (Some b) = if is_later b a then b else a

-- the last of these in that order
abbrev pub latest_of : List (ℕ × List ℕ) → Option (ℕ × List ℕ)
latest_of [] = None
latest_of (a ∷ rest) = Some (later_of a (latest_of rest))

-- the manifest of a backup of the node whose name isn't among these
abbrev pub is_manifest_outside : List ℕ → List (List ℕ) → Kind → Bool
is_manifest_outside f names (Meta g n Manifest) = bytes_eq g f && not (list_any (bytes_eq n) names)
is_manifest_outside f names _ = false

-- the name of the backup of which an object tells
abbrev pub name_in : Kind → List ℕ
name_in (Meta f n kind) = n
name_in _ = []

-- the second of the object, if it stands
abbrev pub second_or_zero : Option Object → ℕ
second_or_zero None = 0
second_or_zero (Some o) = o.second

-- the second of the manifest under the path, and the name of its backup
abbrev pub finished_at : List ℕ → Content → List ℕ → ℕ × List ℕ
finished_at before c path = (second_or_zero (get c path), name_in (kind_of before path))

-- the newest finished backup of the node outside these names, with the second of its manifest
abbrev pub newest : List ℕ → Content → List ℕ → List (List ℕ) → Option (ℕ × List ℕ)
newest before c f names =
    latest_of (map (finished_at before c) (paths_of before c (is_manifest_outside f names)))

-- the object stands and has these bytes
abbrev pub has_bytes : Option Object → List ℕ → Bool
has_bytes None bytes = false
has_bytes (Some o) bytes = bytes_eq o.bytes bytes

-- the bytes are stored under the path, unless the object there has them
abbrev pub put_unless : Content → List ℕ → List ℕ → ℕ → List Effect
put_unless c path bytes second =
    if has_bytes (get c path) bytes then [] else Stores path bytes second ∷ []

-- the latest token map becomes that of a backup: it goes where the backup has none
abbrev pub mend_tokenmap : List ℕ → Content → List ℕ → Option Object → ℕ → List Effect
mend_tokenmap before c f None second = remove_if_stands c (latest_path before f latest.Tokenmap)
mend_tokenmap before c f (Some o) second =
    put_unless c (latest_path before f latest.Tokenmap) o.bytes second

-- the latest entry becomes that of this backup
abbrev pub mend_to : List ℕ → Content → List ℕ → Option (ℕ × List ℕ) → (ℕ → ℕ) → List Effect
mend_to before c f None seconds =
    remove_if_stands c (latest_path before f latest.Name)
    ++ remove_if_stands c (latest_path before f latest.Tokenmap)
mend_to before c f (Some newest) seconds =
    put_unless c (latest_path before f latest.Name) newest.1 (seconds 0)
    ++ mend_tokenmap before c f (get c (meta_path before f newest.1 Tokenmap)) (seconds 1)

-- the changes that make the latest entry of the node that of its newest finished backup outside
-- these names; `seconds` are those of the puts
abbrev pub changes_of_mend : List ℕ → Content → List ℕ → List (List ℕ) → (ℕ → ℕ) → List Effect
changes_of_mend before c f names seconds =
    mend_to before c f (newest before c f names) seconds
