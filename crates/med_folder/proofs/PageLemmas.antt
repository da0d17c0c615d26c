-- The last path of a page.
use Rattle.std.proofs.Common.{◌≡◌, ◌∙◌, ◌-◌, ℕ, suc, List, [], ◌∷◌, Option, Some, None, length, slice_get, refl, ap, arith}
use Rattle.med_outside.specs.Pages.{last_path}
use Rattle.med_outside.specs.declared.storage.Entry.{Entry}

abbrev pub path_of : Option Entry → List ℕ
path_of None = []
path_of (Some e) = e.path

pub last_at : (es : List Entry) → path_of (slice_get es (length es - 1)) ≡ last_path es
last_at [] = refl
last_at (e ∷ []) = refl
last_at (e ∷ (f ∷ es)) =
    let there : length (e ∷ (f ∷ es)) - 1 ≡ suc (length (f ∷ es) - 1) = omega arith in
    ap (λ k. path_of (slice_get (e ∷ (f ∷ es)) k)) there ∙ last_at (f ∷ es)
