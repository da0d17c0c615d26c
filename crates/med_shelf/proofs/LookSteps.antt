-- A look at the folder of a backup: the first of a page is the first of all.
use Rattle.std.proofs.Common.{◌≡◌, ◌∙◌, ℕ, suc, List, [], ◌∷◌, map, take, Option, Some, None, IfSome, refl, sym, ap}
use Rattle.std.specs.List.{filter}
use Rattle.med_base.specs.Content.{Content, Object, objects_under}
use Rattle.med_outside.specs.Pages.{is_behind, IsPage}
use Rattle.med_outside.specs.Storage.{entry_of}
use Rattle.med_outside.specs.declared.storage.Entry.{Entry}
use Rattle.med_outside.specs.declared.storage.Page.{Page}
use Rattle.med_shelf.specs.Claims.{IsFirstUnder, first_entry}

listed_first : (n : ℕ) (folder : List ℕ) (c : Content) (xs : List (List ℕ × Object))
    → objects_under folder c ≡ xs → (answer : Option (List ℕ))
    → answer
    ≡ first_entry (take (suc n) (filter (λ (e : Entry). is_behind None e.path) (map entry_of xs)))
    → IsFirstUnder folder (Some c) answer
listed_first n folder c [] is None e = is
listed_first n folder c [] is (Some path) e = absurd (cc e)
listed_first n folder c (x ∷ xs) is None e = absurd (cc e)
listed_first n folder c (x ∷ xs) is (Some path) e =
    let same : path ≡ x.0 = cc e in
    (x.1, xs, is ∙ ap (λ p. (p, x.1) ∷ xs) (sym same))

untold : (folder : List ℕ) (answer : Option (List ℕ)) → IsFirstUnder folder None answer
untold folder None = tt
untold folder (Some path) = tt

-- the first of a page without an end before it
pub first_of_page : (folder : List ℕ) (told : Option Content) (page : Page)
    (answer : Option (List ℕ)) → IfSome told (λ c. IsPage folder None c page)
    → answer ≡ first_entry page.entries.items → IsFirstUnder folder told answer
first_of_page folder None page answer is first = untold folder answer
first_of_page folder (Some c) page answer is first =
    listed_first 999 folder c (objects_under folder c) refl answer
    (first ∙ ap first_entry is.entries)
