-- The changes of a removal: the latest entry is mended, then each backup goes, its manifest before
-- its files, then the old shared files that no manifest names.
use Rattle.std.specs.Prelude.{ℕ, Bool, false, not, ◌+◌, ◌*◌, ◌&&◌, nat_lt, List, ◌++◌, filter, Option, Some, None, bytes_eq}
use Rattle.std.specs.List.{flat_map, list_any}
use Rattle.std.specs.FinMap.{get}
use Rattle.med_base.specs.declared.layout.MetaKind.TheVariants.{Schema, Differential, Tokenmap, Manifest}
use Rattle.med_base.specs.Content.{Content, Object}
use Rattle.med_base.specs.Effects.{Effect}
use Rattle.med_base.specs.Kinds.{Kind, Shared, Own, Stray}
use Rattle.med_base.specs.Layout.{meta_path}
use Rattle.med_manifest.specs.Listed.{paths_of, if_stands, removes}
use Rattle.med_manifest.specs.Mend.{changes_of_mend}
use Rattle.med_manifest.specs.Rebuild.{is_entry_of}

-- in the folder of the backup, and none of the objects that tell of it
abbrev pub is_content_of : List ℕ → List ℕ → Kind → Bool
is_content_of f n (Own g m key) = bytes_eq g f && bytes_eq m n
is_content_of f n (Stray g (Some m)) = bytes_eq g f && bytes_eq m n
is_content_of f n _ = false

-- a file that the backups of the node share
abbrev pub is_shared_of : List ℕ → Kind → Bool
is_shared_of f (Shared g key) = bytes_eq g f
is_shared_of f _ = false

-- what goes with one backup, in order
abbrev pub paths_of_backup : List ℕ → Content → List ℕ → List ℕ → List (List ℕ)
paths_of_backup before c f n =
    paths_of before c (is_entry_of f n) ++ (if_stands c (meta_path before f n Manifest)
    ++ (paths_of before c (is_content_of f n) ++ (if_stands c (meta_path before f n Differential)
    ++ (if_stands c (meta_path before f n Tokenmap) ++ if_stands c (meta_path before f n Schema)))))

-- the second of the object and so many days of grace are past
abbrev pub is_old : Option Object → (grace now : ℕ) → Bool
is_old None grace now = false
is_old (Some o) grace now = nat_lt (o.second + 86400 * grace) now

-- the old shared files of the node that aren't among the named paths
abbrev pub old_unnamed : List ℕ → Content → List ℕ → List (List ℕ) → (grace now : ℕ)
    → List (List ℕ)
old_unnamed before c f named grace now =
    filter (λ path. not (list_any (bytes_eq path) named) && is_old (get c path) grace now)
    (paths_of before c (is_shared_of f))

-- all that goes with these backups
abbrev pub paths_of_removal : List ℕ → Content → List ℕ → (names named : List (List ℕ))
    (grace now : ℕ) → List (List ℕ)
paths_of_removal before c f names named grace now =
    flat_map (paths_of_backup before c f) names ++ old_unnamed before c f named grace now

-- the backups of these names go, and of the shared files those that aren't among the named paths;
-- `seconds` are those of the mend's puts
abbrev pub changes_of_removal : List ℕ → Content → List ℕ → (names named : List (List ℕ))
    (grace now : ℕ) (seconds : ℕ → ℕ) → List Effect
changes_of_removal before c f names named grace now seconds =
    changes_of_mend before c f names seconds
    ++ removes (paths_of_removal before c f names named grace now)
