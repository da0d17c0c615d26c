-- The part of a content that one owner has: the objects whose paths pass a test.
use Rattle.std.specs.Prelude.{◌≡◌, ◌↔◌, ◌++◌, Bool, List, ℕ, Option, Some, None, bytes_eq}
use Rattle.std.specs.Option.{option_eq}
use Rattle.std.specs.FinMap.{retain_keys}
use Rattle.med_base.specs.declared.kinds.IndexKind.{IndexKind}
use Rattle.med_base.specs.declared.kinds.LatestKind.{LatestKind}
use Rattle.med_base.specs.Classify.{kind_of}
use Rattle.med_base.specs.Content.{Content}
use Rattle.med_base.specs.Kinds.{Kind, Shared, Own, Meta, Entry, Latest, Stray, Other, IsFqdn, IsBuilt}
use Rattle.med_base.specs.Layout.{node_folder}

abbrev pub part_of : (List ℕ → Bool) → Content → Content
part_of is_owned c = retain_keys c is_owned

-- the node to which a path of this kind belongs, if it belongs to one
abbrev pub owner_in : Kind → Option (List ℕ)
owner_in (Shared f key) = Some f
owner_in (Own f n key) = Some f
owner_in (Meta f n kind) = Some f
owner_in (Entry f n kind) = Some f
owner_in (Latest f kind) = Some f
owner_in (Stray f n) = Some f
owner_in Other = None

-- the node to which a path belongs under a layout
abbrev pub owner_of : List ℕ → List ℕ → Option (List ℕ)
owner_of before path = owner_in (kind_of before path)

-- the objects of one node
abbrev pub node_part : List ℕ → List ℕ → Content → Content
node_part before f c = part_of (λ path. option_eq bytes_eq (owner_of before path) (Some f)) c

-- the path lies in the folder of the node, is an entry that the index has of the node, or tells of
-- the node's latest backup
pub data BelongsTo (before path f : List ℕ) : Type 0 where
  lies_under : (rest : List ℕ) → IsFqdn f → path ≡ node_folder before f ++ rest
      → BelongsTo before path f
  is_entry : (n : List ℕ) (kind : IndexKind) → IsBuilt before path (Entry f n kind)
      → BelongsTo before path f
  is_latest : (kind : LatestKind) → IsBuilt before path (Latest f kind) → BelongsTo before path f

-- a path has this owner exactly where it belongs to it
abbrev pub OwnersAreTold : Type 0
OwnersAreTold = (before path f : List ℕ) → (owner_of before path ≡ Some f) ↔ BelongsTo before path f
