-- Listings in pages.
use Rattle.std.specs.Prelude.{◌≡◌, ◌≤◌, ◌<◌, ◌+◌, ◌-◌, ℕ, Bool, true, nat_le, if◌then◌else◌, List, [], ◌∷◌, take, drop, length, Option, Some, None, option_map, IfSome}
use Rattle.std.proofs.Common.{Bor}
use Rattle.std.specs.List.{filter}
use Rattle.std.specs.Ordering.{nat_cmp, is_lt}
use Rattle.std.specs.Cmp.Lexicographic.{slice_cmp}
use Rattle.med_base.specs.Content.{Content}
use Rattle.med_outside.specs.Storage.{listing}
use Rattle.med_outside.specs.declared.storage.Entry.{Entry}
use Rattle.med_outside.specs.declared.storage.Page.{Page}
use Rattle.med_outside.specs.declared.storage.PageEnd.{PageEnd}

-- how many entries a page has at most
abbrev pub page_size : ℕ
page_size = 1000

-- the path comes behind the end of a page
abbrev pub is_behind : Option PageEnd → List ℕ → Bool
is_behind None path = true
is_behind (Some end) path = is_lt (slice_cmp nat_cmp end.path path)

-- the objects under a text behind the end of a page, in byte order of their paths
abbrev pub behind : List ℕ → Option PageEnd → Content → List Entry
behind text after c = filter (λ (e : Entry). is_behind after e.path) (listing text c)

abbrev pub last_path : List Entry → List ℕ
last_path [] = []
last_path (e ∷ []) = e.path
last_path (e ∷ (f ∷ es)) = last_path (f ∷ es)

-- the end of a page of these entries, where more are left than it has
abbrev pub page_end : List Entry → Option PageEnd
page_end entries =
    if nat_le (length entries) page_size then None
    else Some (record {
      path = last_path (take page_size entries);
      left = length entries - page_size;
    })

-- the first of the entries behind an end, and how many are left
pub record IsPage (text : List ℕ) (after : Option PageEnd) (c : Content) (page : Page) : Type 0
  where
    pub entries : page.entries.items ≡ take page_size (behind text after c)
    pub end_is : page.end ≡ page_end (behind text after c)

abbrev pub left_of : Option PageEnd → ℕ
left_of None = 0
left_of (Some end) = end.left

-- What holds of a page of every storage, told or not: the number that is left falls by that of the
-- entries, of which there is one where one was left. So a reader comes to the last page.
pub record CountsDown (after : Option PageEnd) (page : Page) : Type 0 where
  pub size : length page.entries.items ≤ page_size
  pub sum : IfSome after (λ end. length page.entries.items + left_of page.end ≡ end.left)
  pub goes_on : IfSome after (λ end. 0 < end.left → 0 < length page.entries.items)
  pub some_left : IfSome page.end (λ end. 0 < end.left)

-- where the storage is told, the number that is left is that of the objects behind the end
abbrev pub CountsRight : List ℕ → Option PageEnd → Option Content → Type 0
CountsRight text after told =
    IfSome told (λ c. IfSome after (λ end. end.left ≡ length (behind text after c)))

-- the end that a reference shows
abbrev pub shown : Option (Bor PageEnd) → Option PageEnd
shown end = option_map (λ (e : Bor PageEnd). e.now) end
