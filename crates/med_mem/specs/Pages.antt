-- What a page of the objects of a store in memory has.
use Rattle.std.specs.Prelude.{◌≡◌, ℕ, List, Option, take}
use Rattle.std.specs.List.{filter}
use Rattle.med_base.specs.Content.{Object}
use Rattle.med_outside.specs.Pages.{page_size, page_end, is_behind}
use Rattle.med_outside.specs.declared.storage.Entry.{Entry}
use Rattle.med_outside.specs.declared.storage.Page.{Page}
use Rattle.med_outside.specs.declared.storage.PageEnd.{PageEnd}
use Rattle.med_mem.specs.Objects.{listed_under}

-- ---- for this crate's own clauses

-- the entries behind the end of a page
abbrev pub those_behind : Option PageEnd → List (List ℕ × Object) → List (List ℕ × Object)
those_behind after objects = filter (λ (e : List ℕ × Object). is_behind after e.0) objects

-- the entries of those behind the end of a page whose path begins with a text
abbrev pub listed_behind : List ℕ → Option PageEnd → List (List ℕ × Object) → List Entry
listed_behind text after objects =
    filter (λ (e : Entry). is_behind after e.path) (listed_under text objects)

-- the first of these entries, and how many are left
pub record HasFirst (all : List Entry) (page : Page) : Type 0 where
  pub entries : page.entries.items ≡ take page_size all
  pub end_is : page.end ≡ page_end all
