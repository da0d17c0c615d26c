-- Each key of a snapshot has a file, and a backup's own objects lie under its folder.
use Rattle.std.proofs.Common.{◌≡◌, ◌||◌, ℕ, true, List, [], ◌∷◌, ◌++◌, Option, IfSome, append_assoc, sym, ap, ◌∙◌, subst}
use Rattle.std.specs.Prelude.{IsTrue, codes}
use Rattle.std.specs.List.{AllByRecursion, list_any}
use Rattle.std.specs.Ordering.{is_eq}
use Rattle.std.specs.Cmp.{tied_itself}
use Rattle.std.specs.FinMap.{FinMap, keys, contains_key, contains_key-keys}
use Rattle.std.proofs.lemmas.Bool.{or_right}
use Rattle.std.proofs.lemmas.Option.{IfSome_then}
use Rattle.med_base.specs.declared.key.FileKey.{FileKey}
use Rattle.med_base.specs.declared.layout.MetaKind.{MetaKind}
use Rattle.med_base.specs.Content.{is_under}
use Rattle.med_base.specs.Key.{key_cmp, key_eq}
use Rattle.med_base.specs.KeyOrder.{key_total}
use Rattle.med_base.specs.Layout.{backup_folder, meta_path, meta_file}
use Rattle.med_base.proofs.Folders.{is_under-append}
use Rattle.med_base.proofs.Lists.{all_with}
use Rattle.med_outside.specs.Snapshot.{Snapshot, HasKey}

-- ---- each key of the snapshot has a file

same_key : (k : FileKey) → key_eq k k ≡ true
same_key k = ap is_eq (tied_itself key_total k)

all_found : (ks : List FileKey) → AllByRecursion (λ k. list_any (key_eq k) ks ≡ true) ks
all_found [] = tt
all_found (k ∷ ks) = (
  ap (λ b. b || list_any (key_eq k) ks) (same_key k),
  all_with (λ j. list_any (key_eq j) ks ≡ true) (λ j. list_any (key_eq j) (k ∷ ks) ≡ true)
      (λ j e. or_right (key_eq j k) _ e) ks (all_found ks),
)

all_contained : {X : Type 0} (m : FinMap key_cmp X)
    → AllByRecursion (λ k. IsTrue (contains_key m k)) (keys m)
all_contained m =
    all_with (λ k. list_any (key_eq k) (keys m) ≡ true) (λ k. IsTrue (contains_key m k))
    (λ k e. contains_key-keys m k ∙ e) (keys m) (all_found (keys m))

pub all_have : (held : Option Snapshot) (order : List FileKey)
    → IfSome held (λ s. order ≡ keys s.files)
    → IfSome held (λ s. AllByRecursion (λ k. HasKey k s) order)
all_have held order is = IfSome_then held is
    (λ s e. subst (AllByRecursion (λ k. HasKey k s)) (sym e) (all_contained s.files))

-- ---- what lies under the folder

module _ (before f n : List ℕ) where
  meta_tail : (kind : MetaKind) → meta_path before f n kind ≡ backup_folder before f n ++
      (codes "meta/" ++ meta_file kind)
  meta_tail kind = append_assoc (backup_folder before f n) (codes "meta/") (meta_file kind)

  pub meta_under : (kind : MetaKind)
      → is_under (backup_folder before f n) (meta_path before f n kind) ≡ true
  meta_under kind = ap (is_under (backup_folder before f n)) (meta_tail kind)
      ∙ is_under-append (backup_folder before f n) (codes "meta/" ++ meta_file kind)
