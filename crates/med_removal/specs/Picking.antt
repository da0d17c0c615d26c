-- Which objects of a listing go with a removal, as far as the listing was walked.
use Rattle.std.specs.Prelude.{◌≡◌, ◌+◌, ◌*◌, ◌++◌, ℕ, Bool, true, not, ◌&&◌, nat_lt, List, [], ◌∷◌, filter, length, Option, Some, None, if◌then◌else◌}
use Rattle.std.specs.BTreeSet.{BTreeSet, contains}
use Rattle.std.specs.FinMap.{get}
use Rattle.std.specs.List.{AllByRecursion}
use Rattle.med_base.specs.Classify.{is_data, kind_of}
use Rattle.med_base.specs.Content.{Content, Object, is_under}
use Rattle.med_base.specs.Kinds.{Kind}
use Rattle.med_base.specs.NameOrder.{name_cmp}
use Rattle.med_core.specs.Reach.{Removing}
use Rattle.med_core.specs.Section.{Call}
use Rattle.med_core.specs.Removal.{is_content_of, is_old, is_shared_of}
use Rattle.med_manifest.specs.Listed.{paths_of}
use Rattle.med_outside.specs.declared.storage.Entry.{Entry}
use Rattle.med_removal.specs.declared.going.Going.{Going}
use Rattle.med_removal.specs.declared.picking.Which.{Which}
use Rattle.med_removal.specs.declared.picking.Which.TheVariants.{Content as OfBackup, Old}
use Rattle.med_removal.specs.Going.{IsCounted}

-- the old shared files of the node that aren't in the set
abbrev pub old_outside : List ℕ → Content → List ℕ → BTreeSet (List ℕ) → (grace now : ℕ)
    → List (List ℕ)
old_outside before c f named grace now =
    filter (λ path. not (contains name_cmp named path) && is_old (get c path) grace now)
    (paths_of before c (is_shared_of f))

-- ---- for this crate's own clauses

-- the entry is one of those that go
abbrev pub goes : List ℕ → List ℕ → Which → Entry → Bool
goes before f (OfBackup name) e = is_content_of f name.now (kind_of before e.path)
goes before f (Old named grace now) e =
    is_shared_of f (kind_of before e.path)
    && (not (contains name_cmp named.now e.path) && nat_lt (e.second + 86400 * grace) now)

-- the size of an entry, where it is that of a data object
abbrev pub data_size : List ℕ → Entry → Option ℕ
data_size before e = if is_data before e.path then Some e.size else None

-- its path is of a kind that may go
abbrev pub may_go : List ℕ → Which → Kind → Bool
may_go f (OfBackup name) k = is_content_of f name.now k
may_go f (Old named grace now) k = is_shared_of f k

-- a call that removes what goes
abbrev pub Suits : Call → Which → Type 0
Suits call (OfBackup name) = Removing call name.now
Suits call (Old named grace now) = Unit {0}

-- what may go lies under the text
abbrev pub Covers : List ℕ → List ℕ → Which → List ℕ → Type 0
Covers before f which text =
    (path : List ℕ) → may_go f which (kind_of before path) ≡ true → is_under text path ≡ true

-- the paths of the entries that go
abbrev pub picked : List ℕ → List ℕ → Which → List Entry → List (List ℕ)
picked before f which [] = []
picked before f which (e ∷ es) =
    if goes before f which e then e.path ∷ picked before f which es else picked before f which es

-- all paths of a content that go
abbrev pub picked_of : List ℕ → Content → List ℕ → Which → List (List ℕ)
picked_of before c f (OfBackup name) = paths_of before c (is_content_of f name.now)
picked_of before c f (Old named grace now) = old_outside before c f named.now grace now

-- the entry is that of an object of the content
pub record IsEntryIn (c : Content) (e : Entry) : Type 0 where
  pub object : Object
  pub stands : get c e.path ≡ Some object
  pub second : e.second ≡ object.second
  pub size : e.size ≡ length object.bytes

-- what was picked so far, and what is of the rest of a listing, is all that goes
pub record ArePicked (before : List ℕ) (c : Content) (f : List ℕ) (which : Which) (node : List ℕ)
    (going : Going) (rest : List Entry) : Type 0
  where
    pub node_is : node ≡ f
    pub paths : going.paths.items ++ picked before f which rest ≡ picked_of before c f which
    pub counted : IsCounted before f c going
    pub entries : AllByRecursion (IsEntryIn c) rest

-- what was picked is of kinds that may go
abbrev pub IsPicking : List ℕ → List ℕ → Which → (node : List ℕ) → List (List ℕ) → Type 0
IsPicking before f which node paths =
    (node ≡ f) × AllByRecursion (λ p. may_go f which (kind_of before p) ≡ true) paths
