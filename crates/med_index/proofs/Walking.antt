-- Pages in a row, as a walk goes over them.
use Rattle.std.proofs.Common.{◌≡◌, ◌∙◌, ℕ, List, ◌++◌, Option, Some, None, IfSome, refl, sym, ap, subst}
use Rattle.med_base.specs.Content.{Content}
use Rattle.med_outside.specs.Pages.{CountsRight, IsPage, behind}
use Rattle.med_outside.specs.State.{State, History, OnlyReads}
use Rattle.med_outside.specs.Storage.{listing}
use Rattle.med_outside.specs.declared.storage.Entry.{Entry}
use Rattle.med_outside.specs.declared.storage.Page.{Page}
use Rattle.med_outside.specs.declared.storage.PageEnd.{PageEnd}
use Rattle.med_outside.proofs.Paging.{behind_end, next_counts, page_splits, none_before}
use Rattle.med_outside.proofs.Passing.{after_all-nothing}
use Rattle.med_index.specs.Visits.{left_behind}

-- ---- calls that only read

pub same_content : (s0 s1 : State) (p0 p1 : History) → OnlyReads s0 s1 p0 p1
    → s1.content ≡ s0.content
same_content s0 s1 p0 p1 looks = looks.moves.passes.content ∙ after_all-nothing s0.content

-- ---- one page

behind_is : (text : List ℕ) (end : Option PageEnd) (c : Content)
    → left_behind text end c ≡ behind_end text end c
behind_is text None c = refl
behind_is text (Some end) c = refl

-- what a visitor found, by a node, a content and the entries to come
abbrev pub Finding : Type 1
Finding = List ℕ → Content → List Entry → Type 0

module _ (F G : Finding) (text : List ℕ) (after : Option PageEnd) (page : Page) where
  -- all entries of the page were visited, so what comes behind it is still to come
  pub page_found : (told : Option Content) → IfSome told (λ c. IsPage text after c page)
      → ((f : List ℕ) (c : Content) (rest : List Entry) → F f c (page.entries.items ++ rest)
      → G f c rest)
      → IfSome told (λ c. (f : List ℕ) → F f c (behind text after c)
      → G f c (left_behind text page.end c))
  page_found None is step = tt
  page_found (Some c) is step = λ f before.
      let split = ap (λ l. page.entries.items ++ l) (behind_is text page.end c)
      ∙ page_splits text after c page is in
      step f c (left_behind text page.end c) (subst (F f c) (sym split) before)

pub page_counts : (text : List ℕ) (after : Option PageEnd) (page : Page) (told : Option Content)
    → IfSome told (λ c. IsPage text after c page) → CountsRight text page.end told
page_counts text after page None is = tt
page_counts text after page (Some c) is = next_counts text after c page is

-- ---- pages in a row

-- the first page
pub first_found : (F G : Finding) (text : List ℕ) (end : Option PageEnd) (told : Option Content)
    → IfSome told (λ c. (f : List ℕ) → F f c (behind text None c) → G f c (left_behind text end c))
    → IfSome told (λ c. (f : List ℕ) → F f c (listing text c) → G f c (left_behind text end c))
first_found F G text end None found = tt
first_found F G text end (Some c) found = λ f before.
    found f (subst (F f c) (sym (none_before text c)) before)
