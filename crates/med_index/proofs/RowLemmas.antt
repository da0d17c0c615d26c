-- The rows of the backups that were found.
use Rattle.std.proofs.Common.{◌≡◌, ◌∙◌, inl, inr, ◌↔◌, ℕ, true, List, [], ◌∷◌, map, Option, Some, None, is_some, IfSome, IsTrue, Contains, refl, sym, ap, subst}
use Rattle.std.proofs.lemmas.List.Elements.{All-from_recursion, recursion_from_All}
use Rattle.std.proofs.lemmas.List.Sorted.{All-permutation, Contains-permutation, IsPermutation-map}
use Rattle.std.proofs.lemmas.Map.Keys.{IsDistinct-from_sorted, IsDistinct-IsPermutation}
use Rattle.std.proofs.lemmas.Map.Lookups.{exact_bytes}
use Rattle.std.proofs.lemmas.Map.Views.{All-found, btree_map_contains_key_iff}
use Rattle.std.specs.BTreeMap.{BTreeMap, IsOrdered, get, keys}
use Rattle.std.specs.BTreeSet.{BTreeSet}
use Rattle.std.specs.Cmp.{IsEquivalence, eq_by_cmp_equiv}
use Rattle.std.specs.Cmp.Lexicographic.{nat_list_cmp_total}
use Rattle.std.specs.List.{AllByRecursion, IsDistinct}
use Rattle.std.specs.List.Sorted.{IsPermutation}
use Rattle.med_base.specs.declared.layout.MetaKind.{MetaKind}
use Rattle.med_base.specs.declared.layout.MetaKind.TheVariants.{Differential, Manifest}
use Rattle.med_base.specs.Content.{Content}
use Rattle.med_base.specs.NameOrder.{name_cmp, name_eq}
use Rattle.med_manifest.specs.Vault.{IsBackup, second_of}
use Rattle.med_outside.specs.declared.backup_row.BackupRow.{BackupRow}
use Rattle.med_index.specs.declared.marks.Marks.{Marks}
use Rattle.med_index.specs.Marks.{IsSetOf, mark_of, row_of}
use Rattle.med_index.specs.Rows.{AreApart, AreBackups, AreMarked, IsTold, names_of}
use Rattle.med_index.specs.Visits.{AreFound, found_second}
use Rattle.med_index.proofs.Finding.{nothing_marked}
use Rattle.med_index.proofs.Starts.{mode_is, start_is}

abbrev Found : Type 0
Found = BTreeMap (List ℕ) Marks

abbrev Pair : Type 0
Pair = List ℕ × Marks

-- ---- lists

all_map : {A B : Type 0} (P : A → Type 0) (Q : B → Type 0) (g : A → B) → ((x : A) → P x → Q (g x))
    → (xs : List A) → AllByRecursion P xs → AllByRecursion Q (map g xs)
all_map P Q g step [] all = tt
all_map P Q g step (x ∷ xs) all = (step x all.0, all_map P Q g step xs all.1)

each : {A B : Type 0} (Q : B → Type 0) (g : A → B) → ((x : A) → Q (g x)) → (xs : List A)
    → AllByRecursion Q (map g xs)
each Q g step [] = tt
each Q g step (x ∷ xs) = (step x, each Q g step xs)

all_moved : {A : Type 0} (P : A → Type 0) (xs ys : List A) → IsPermutation xs ys
    → AllByRecursion P xs → AllByRecursion P ys
all_moved P xs ys same all =
    recursion_from_All P ys (All-permutation P xs ys same (All-from_recursion P xs all))

row_names : (running : BTreeSet (List ℕ)) (es : List Pair)
    → names_of (map (row_of running) es) ≡ map (λ (e : Pair). e.0) es
row_names running [] = refl
row_names running (e ∷ es) = ap (λ l. e.0 ∷ l) (row_names running es)

same_second : (a b : Option ℕ) → ((s : ℕ) → a ≡ Some s → b ≡ Some s)
    → ((s : ℕ) → b ≡ Some s → a ≡ Some s) → a ≡ b
same_second (Some x) b there back = sym (there x refl)
same_second None None there back = refl
same_second None (Some y) there back = back y refl

-- ---- names

name_equiv : IsEquivalence name_eq
name_equiv = eq_by_cmp_equiv nat_list_cmp_total

module _ (running : BTreeSet (List ℕ)) (m : Found) (rows sorted : List BackupRow)
    (rows_are : rows ≡ map (row_of running) m.entries) (same : IsPermutation rows sorted) where
  pub marked : (names : List (List ℕ)) → IsSetOf names running → AreMarked names sorted
  marked names set =
      all_moved (λ (r : BackupRow). IsTrue r.running ↔ Contains names r.name) rows sorted same
      (subst (AreMarked names) (sym rows_are)
      (each (λ (r : BackupRow). IsTrue r.running ↔ Contains names r.name) (row_of running)
      (λ (e : Pair). set e.0) m.entries))

  names_are : names_of rows ≡ keys m
  names_are = ap names_of rows_are ∙ row_names running m.entries

  moved : IsPermutation (names_of rows) (names_of sorted)
  moved = IsPermutation-map (λ (r : BackupRow). r.name) rows sorted same

  module _ (ordered : IsOrdered name_cmp m) where
    pub apart : AreApart sorted
    apart =
        IsDistinct-IsPermutation name_eq name_equiv.symm (names_of rows) (names_of sorted) moved
        (subst (IsDistinct name_eq) (sym names_are)
        (IsDistinct-from_sorted name_cmp (keys m) ordered))

    -- ---- rows and backups

    module _ (c : Content) (before f : List ℕ) (found : AreFound f m before f c []) where
      got_some : (n : List ℕ) (kind : MetaKind) (second : ℕ) (o : Option Marks)
          → found_second kind o ≡ Some second → is_some o ≡ true
      got_some n kind second None is = absurd (nothing_marked kind second is)
      got_some n kind second (Some marks) is = refl

      found_all : (n : List ℕ) (b : IsBackup c before f n)
          → found_second b.kind (get name_cmp m n) ≡ Some b.second
      found_all n b = elim (found.all n b.kind b.second b.name b.stands) [
        | inl there ↦ there
        | inr none ↦ absurd none
      ]

      contained : (n : List ℕ) → IsBackup c before f n → Contains (keys m) n
      contained n b =
          (btree_map_contains_key_iff nat_list_cmp_total exact_bytes m n).0
          (got_some n b.kind b.second (get name_cmp m n) (found_all n b))

      module _ (e : Pair) (got : get name_cmp m e.0 ≡ Some e.1) where
        backup : IsBackup c before f e.0
        backup = found.names e.0 e.1 got

        exact : (kind : MetaKind) → mark_of kind e.1 ≡ second_of c before f e.0 kind
        exact kind =
            same_second (mark_of kind e.1) (second_of c before f e.0 kind)
            (λ s is. found.stands e.0 kind s (ap (found_second kind) got ∙ is))
            (λ s is. elim (found.all e.0 kind s backup.name is) [
              | inl there ↦ sym (ap (found_second kind) got) ∙ there
              | inr none ↦ absurd none
            ])

        told : IsTold c before f (row_of running e)
        told = record {
          backup = backup;
          mode = mode_is e.1 ∙ ap is_some (exact Differential);
          started = start_is c before f e.0 e.1 exact backup.kind backup.second backup.stands;
          finished = exact Manifest;
        }

      are_backups : AreBackups c before f sorted
      are_backups = record {
        rows_are =
            all_moved (IsTold c before f) rows sorted same
            (subst (AllByRecursion (IsTold c before f)) (sym rows_are)
            (all_map (λ (e : Pair). get name_cmp m e.0 ≡ Some e.1) (IsTold c before f)
            (row_of running) told m.entries
            (recursion_from_All (λ (e : Pair). get name_cmp m e.0 ≡ Some e.1) m.entries
            (All-found nat_list_cmp_total m ordered))));
        all = λ n b.
            Contains-permutation (names_of rows) (names_of sorted) n moved
            (subst (λ (l : List (List ℕ)). Contains l n) (sym names_are) (contained n b));
      }

    -- where the storage is told
    pub backups_told : (content : Option Content) (before f : List ℕ)
        → IfSome content (λ c. AreFound f m before f c [])
        → IfSome content (λ c. AreBackups c before f sorted)
    backups_told None before f found = tt
    backups_told (Some c) before f found = are_backups c before f found
