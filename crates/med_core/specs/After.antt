-- What a removal leaves.
use Rattle.std.specs.Prelude.{◌≡◌, ◌+◌, ◌*◌, ◌<◌, ℕ, Bool, false, not, ◌&&◌, List, Some, None, Contains, bytes_eq}
use Rattle.std.specs.FinMap.{get, retain_keys}
use Rattle.std.specs.List.{list_any}
use Rattle.med_base.specs.Classify.{kind_of}
use Rattle.med_base.specs.Content.{Content, Object}
use Rattle.med_base.specs.Effects.{applied}
use Rattle.med_base.specs.Kinds.{Kind, Shared, Own, Meta, Entry, Stray}
use Rattle.med_manifest.specs.Mend.{changes_of_mend}
use Rattle.med_core.specs.Outside.{IsNamedOutside}
use Rattle.med_core.specs.Removal.{is_old}

-- an object of this kind goes: it lies in the folder of a removed backup or is an entry of one, or
-- it is a shared file that no manifest outside names, and is older than the grace
abbrev pub IsRemoved : List ℕ → Content → List ℕ → List (List ℕ) → (grace now : ℕ)
    → (path : List ℕ) → Object → Kind → Type 0
IsRemoved before c f names grace now path o (Own g n key) = (g ≡ f) × Contains names n
IsRemoved before c f names grace now path o (Meta g n kind) = (g ≡ f) × Contains names n
IsRemoved before c f names grace now path o (Stray g (Some n)) = (g ≡ f) × Contains names n
IsRemoved before c f names grace now path o (Entry g n kind) = (g ≡ f) × Contains names n
IsRemoved before c f names grace now path o (Shared g key) =
    (g ≡ f) × (IsNamedOutside before c f names path → ⊥) × (o.second + 86400 * grace < now)
IsRemoved before c f names grace now path o _ = ⊥

-- what is left of a content: what goes is gone, and each other path is as in the mended content
pub record IsAfter (before : List ℕ) (c : Content) (f : List ℕ) (names : List (List ℕ))
    (grace now : ℕ) (mended left : Content) : Type 0
  where
    pub gone : (path : List ℕ) (o : Object) → get c path ≡ Some o
        → IsRemoved before c f names grace now path o (kind_of before path) → get left path ≡ None
    pub stays : (path : List ℕ)
        → ((o : Object) → get c path ≡ Some o
        → IsRemoved before c f names grace now path o (kind_of before path) → ⊥)
        → get left path ≡ get mended path

-- the same as a test of a path of this kind, over the paths that are named outside
abbrev pub is_removed : Content → List ℕ → (names named : List (List ℕ)) → (grace now : ℕ)
    → (path : List ℕ) → Kind → Bool
is_removed c f names named grace now path (Own g n key) =
    bytes_eq g f && list_any (bytes_eq n) names
is_removed c f names named grace now path (Meta g n kind) =
    bytes_eq g f && list_any (bytes_eq n) names
is_removed c f names named grace now path (Stray g (Some n)) =
    bytes_eq g f && list_any (bytes_eq n) names
is_removed c f names named grace now path (Entry g n kind) =
    bytes_eq g f && list_any (bytes_eq n) names
is_removed c f names named grace now path (Shared g key) =
    bytes_eq g f
    && (not (list_any (bytes_eq path) named) && is_old (get c path) grace now)
is_removed c f names named grace now path _ = false

-- the mended content without what goes
abbrev pub content_after : List ℕ → Content → List ℕ → (names named : List (List ℕ))
    → (grace now : ℕ) → (seconds : ℕ → ℕ) → Content
content_after before c f names named grace now seconds =
    retain_keys (applied (changes_of_mend before c f names seconds) c)
    (λ path. not (is_removed c f names named grace now path (kind_of before path)))
