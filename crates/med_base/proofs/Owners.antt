-- The owner of a path is the node that it belongs to.
use Rattle.std.proofs.Common.{◌≡◌, ◌∙◌, ℕ, List, [], ◌∷◌, ◌++◌, codes, bytes_eq, Option, Some, None, is_none, refl, sym, subst, ap}
use Rattle.std.proofs.lemmas.Option.{same_Some}
use Rattle.med_base.specs.Names.{backup_fault}
use Rattle.med_base.specs.Kinds.{Kind, Shared, Own, Meta, Entry, Latest, Stray, Other, IsFqdn}
use Rattle.med_base.specs.KindRelation.{IsOfKind}
use Rattle.med_base.specs.Classify.{key_of, meta_of, backup_kind, node_kind, kind_of}
use Rattle.med_base.specs.Layout.{node_folder, shared_path, own_path, meta_path, meta_file}
use Rattle.med_base.specs.Part.{owner_in, owner_of, BelongsTo, lies_under, is_entry, is_latest, OwnersAreTold}
use Rattle.med_base.proofs.Slashes.{has_parts}
use Rattle.med_base.proofs.KindsMade.{built_is_told, under_node, nested, shared_flat, own_flat, meta_flat}
use Rattle.med_base.proofs.KindsTold.{by_cond, by_option, folder_flat}
use Rattle.med_base.proofs.KindsLaw.{kind_told}

-- ---- whatever lies in the folder of a node belongs to it

abbrev IsOf : List ℕ → Kind → Type 0
IsOf f k = owner_in k ≡ Some f

backup_owner : (f n : List ℕ) (ps : List (List ℕ)) → IsOf f (backup_kind f n ps)
backup_owner f n [] = refl
backup_owner f n (p ∷ ps) =
    by_cond (IsOf f) (bytes_eq p (codes "data")) _ _
    (λ _. by_option (IsOf f) (Own f n) (key_of ps) (Stray f (Some n)) (λ key _. refl) refl)
    (λ _. by_cond (IsOf f) (bytes_eq p (codes "meta")) _ _
    (λ _. by_option (IsOf f) (Meta f n) (meta_of ps) (Stray f (Some n)) (λ kind _. refl) refl)
    (λ _. refl))

node_owner : (f p : List ℕ) (ps : List (List ℕ)) → IsOf f (node_kind f (p ∷ ps))
node_owner f p ps =
    by_cond (IsOf f) (bytes_eq p (codes "data")) _ _
    (λ _. by_option (IsOf f) (Shared f) (key_of ps) (Stray f None) (λ key _. refl) refl)
    (λ _. by_cond (IsOf f) (is_none (backup_fault p)) (backup_kind f p ps) (Stray f None)
    (λ _. backup_owner f p ps) (λ _. refl))

owner_under : (before f rest : List ℕ) → IsFqdn f
    → owner_of before (node_folder before f ++ rest) ≡ Some f
owner_under before f rest valid =
    let h = has_parts rest in
    ap (owner_of before) (folder_flat before f rest)
    ∙ ap owner_in (under_node before f rest valid)
    ∙ ap (λ ps. owner_in (node_kind f ps)) h.are
    ∙ node_owner f h.first h.others

owner_back : (before path f : List ℕ) → BelongsTo before path f → owner_of before path ≡ Some f
owner_back before path f (lies_under rest valid under) = ap (owner_of before) under
    ∙ owner_under before f rest valid
owner_back before path f (is_entry n kind built) = ap owner_in
    (built_is_told before path (Entry f n kind) built)
owner_back before path f (is_latest kind built) = ap owner_in
    (built_is_told before path (Latest f kind) built)

-- ---- and what has an owner belongs to it

belongs_below : (before path f text rest : List ℕ) → IsFqdn f
    → ◌≡◌ {A = Option (List ℕ)} (Some text) (Some path)
    → text ≡ before ++ (f ++ 47 ∷ rest) → BelongsTo before path f
belongs_below before path f text rest valid built flat =
    lies_under rest valid
    (sym (same_Some text path built) ∙ flat ∙ sym (folder_flat before f rest))

owner_there : (before path : List ℕ) (k : Kind) (g : List ℕ) → IsOfKind before path k
    → owner_in k ≡ Some g → BelongsTo before path g
owner_there before path (Shared f key) g b e =
    subst (BelongsTo before path) (same_Some f g e)
    (belongs_below before path f (shared_path before f key) (codes "data" ++ 47 ∷ nested key)
    b.valid.0
    b.built (shared_flat before f key))
owner_there before path (Own f n key) g b e =
    subst (BelongsTo before path) (same_Some f g e)
    (belongs_below before path f (own_path before f n key)
    (n ++ 47 ∷ (codes "data" ++ 47 ∷ nested key))
    b.valid.0 b.built (own_flat before f n key))
owner_there before path (Meta f n kind) g b e =
    subst (BelongsTo before path) (same_Some f g e)
    (belongs_below before path f (meta_path before f n kind)
    (n ++ 47 ∷ (codes "meta" ++ 47 ∷ meta_file kind)) b.valid.0 b.built
    (meta_flat before f n kind))
owner_there before path (Entry f n kind) g b e = subst (BelongsTo before path) (same_Some f g e)
    (is_entry n kind b)
owner_there before path (Latest f kind) g b e = subst (BelongsTo before path) (same_Some f g e)
    (is_latest kind b)
owner_there before path (Stray f n) g s e = subst (BelongsTo before path) (same_Some f g e)
    (lies_under s.rest s.node s.under)
owner_there before path Other g o e = absurd (cc)

pub owners_are_told : OwnersAreTold
owners_are_told before path f = (
  owner_there before path (kind_of before path) f (kind_told before path),
  owner_back before path
      f,
)
