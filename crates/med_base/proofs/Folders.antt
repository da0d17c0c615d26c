-- What lies under a text, and that nothing lies under one where a listing is empty.
use Rattle.std.proofs.Common.{◌≡◌, ◌&&◌, ℕ, true, cond, None, List, [], ◌∷◌, ◌++◌, refl, sym, ap, ◌∙◌}
use Rattle.std.specs.Ordering.{nat_cmp}
use Rattle.std.specs.Cmp.Lexicographic.{slice_cmp}
use Rattle.std.specs.FinMap.{get, get-entries}
use Rattle.std.specs.FinMap.Entries.{find}
use Rattle.std.proofs.lemmas.Bool.{eq-eqb}
use Rattle.med_base.specs.Content.{Content, is_under, objects_under}
use Rattle.med_base.specs.Part.{part_of}
use Rattle.med_base.proofs.Parts.{entries-part_of, get-part_of}

-- a text with more behind it begins with the text
pub is_under-append : (text rest : List ℕ) → is_under text (text ++ rest) ≡ true
is_under-append [] rest = refl
is_under-append (b ∷ text) rest = ap (λ v. v && is_under text (text ++ rest)) (eq-eqb b b refl)
    ∙ is_under-append text rest

-- where no object lies under the text, every path that begins with it is free
pub free_under : (text : List ℕ) (c : Content) (path : List ℕ) → objects_under text c ≡ []
    → is_under text path ≡ true → get c path ≡ None
free_under text c path none under =
    let part = part_of (is_under text) c in
    sym (get-part_of (is_under text) c path ∙ ap (λ b. cond b (get c path) None) under)
    ∙ get-entries part path
    ∙ ap (find (slice_cmp nat_cmp) path) (entries-part_of (is_under text) c ∙ none)
