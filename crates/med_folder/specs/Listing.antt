-- What a listing of folders shows.
use Rattle.std.specs.Prelude.{◌≡◌, ℕ, Bool, false, not, ◌&&◌, ◌||◌, List, Option, Some, None, IfSome, IsTrue, IsSortedByKey}
use Rattle.std.specs.List.{All}
use Rattle.std.specs.Ordering.{nat_cmp}
use Rattle.std.specs.Cmp.Lexicographic.{slice_cmp}
use Rattle.med_base.specs.Content.{is_under}
use Rattle.med_folder.specs.Place.{is_unfinished}
use Rattle.med_outside.specs.Pages.{is_behind, last_path}
use Rattle.med_outside.specs.declared.storage.Entry.{Entry}
use Rattle.med_outside.specs.declared.storage.Page.{Page}
use Rattle.med_outside.specs.declared.storage.PageEnd.{PageEnd}

-- the path begins with the text, comes behind the end of a page, and isn't in the folder of
-- unfinished files
unfoldable pub is_shown : (text : List ℕ) → Option PageEnd → (path : List ℕ) → Bool
is_shown text after path =
    (is_under text path && not (is_unfinished path)) && is_behind after path

-- a page ends in the folder, whose path has a slash at its end
abbrev pub ends_in : Option PageEnd → (folder : List ℕ) → Bool
ends_in None folder = false
ends_in (Some end) folder = is_under folder end.path

-- what is below the folder may be shown: the end of a page doesn't come behind all of it
abbrev pub may_hold : (text : List ℕ) → Option PageEnd → (folder : List ℕ) → Bool
may_hold text after folder =
    (is_under text folder && not (is_unfinished folder))
    && (is_behind after folder || ends_in after folder)

-- each path is shown
abbrev pub AreShown : List ℕ → Option PageEnd → List Entry → Type 0
AreShown text after entries = All (λ (e : Entry). IsTrue (is_shown text after e.path)) entries

-- in byte order of the paths
abbrev pub AreInOrder : List Entry → Type 0
AreInOrder entries = IsSortedByKey (λ (e : Entry). e.path) (slice_cmp nat_cmp) entries

-- a page behind which entries are left ends at its last path
abbrev pub EndsAtLast : Page → Type 0
EndsAtLast page = IfSome page.end (λ (end : PageEnd). end.path ≡ last_path page.entries.items)
