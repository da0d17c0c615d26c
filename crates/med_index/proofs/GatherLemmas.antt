-- What was found of a node gives all that its backups give, where each manifest reads.
use Rattle.std.proofs.Common.{◌≡◌, ◌∙◌, ◌&&◌, inl, inr, ℕ, Bool, true, false, cond, not, List, [], ◌∷◌, Option, Some, None, option_map, is_some, bytes_eq, refl, sym, ap, subst}
use Rattle.std.proofs.lemmas.List.Elements.{recursion_from_All}
use Rattle.std.proofs.lemmas.Map.Lookups.{exact_bytes}
use Rattle.std.proofs.lemmas.Map.Views.{All-found}
use Rattle.std.proofs.lemmas.Option.{same_Some}
use Rattle.std.specs.BTreeMap.{BTreeMap, IsOrdered, get, is_at}
use Rattle.std.specs.Cmp.{both_ways}
use Rattle.std.specs.Cmp.Lexicographic.{nat_list_cmp_total}
use Rattle.std.specs.BTreeSet.{BTreeSet, contains}
use Rattle.std.specs.FinMap as finite
use Rattle.std.specs.List.{AllByRecursion, list_any}
use Rattle.std.specs.Map.{keys_of, lookup}
use Rattle.med_base.specs.declared.kinds.IndexKind.{IndexKind}
use Rattle.med_base.specs.declared.kinds.IndexKind.TheVariants as entry
use Rattle.med_base.specs.declared.layout.MetaKind.{MetaKind}
use Rattle.med_base.specs.declared.layout.MetaKind.TheVariants as meta
use Rattle.med_base.specs.Classify.{kind_of}
use Rattle.med_base.specs.Content.{Content, Object}
use Rattle.med_base.specs.Kinds.{Kind, Shared, Own, Meta, Entry, Latest, Stray, Other, IsBackupName}
use Rattle.med_base.specs.Layout.{entry_path, meta_path}
use Rattle.med_base.specs.NameOrder.{name_cmp}
use Rattle.med_base.proofs.Bools.{bytes_same, same_bytes}
use Rattle.med_base.proofs.KindsLaw.{kinds_are_told}
use Rattle.med_manifest.specs.Index.{bytes_in, empty_at, empty_where, given, given_to, meta_in, second_in}
use Rattle.med_manifest.specs.Listed.{paths_of}
use Rattle.med_manifest.specs.Mend.{is_manifest_outside}
use Rattle.med_manifest.specs.Reads.{DoAllRead, DoesRead}
use Rattle.med_manifest.specs.Vault.{second_of}
use Rattle.med_manifest.proofs.ByKind.{manifest_path}
use Rattle.med_manifest.proofs.Members.{get_kept}
use Rattle.med_manifest.proofs.Newest.{and_first, and_second}
use Rattle.med_manifest.proofs.Starts.{absence_is_told}
use Rattle.med_index.specs.declared.marks.Marks.{Marks}
use Rattle.med_index.specs.Given.{AreRestsGiven, Given, IsFoundAs, IsNoCopy, IsRestGiven, WasGiven}
use Rattle.med_index.specs.Manifests.{AreManifestsOf, AreRead, IsReadIn, Manifests}
use Rattle.med_index.specs.Marks.{IsSetOf}
use Rattle.med_index.specs.Planned.{outside}
use Rattle.med_index.specs.Visits.{AreFound, found_second}
use Rattle.med_index.proofs.EntryListing.{entry_built}
use Rattle.med_index.proofs.MendLemmas.{not_in_names, not_in_set}
use Rattle.med_index.proofs.NewestLemmas.{is_outside}
use Rattle.med_index.proofs.Finding.{equal_of, nothing_marked}
use Rattle.med_index.proofs.RebuildLemmas.{find_is, keys_same, sorted_of}

-- what holds of each entry holds of one that is looked up
pub at_found : {X : Type 0} (P : List ℕ × X → Type 0) (es : List (List ℕ × X)) (q : List ℕ) (x : X)
    → lookup (is_at (name_cmp q)) es ≡ Some x → AllByRecursion P es → P (q, x)
at_found P [] q x e all = absurd (cc e)
at_found {X} P (d ∷ es) q x e all =
    go (is_at (name_cmp q) d.0) refl e (λ more. at_found P es q x more all.1)
  where
    go : (b : Bool) → is_at (name_cmp q) d.0 ≡ b
        → cond b (Some d.1) (lookup (is_at (name_cmp q)) es) ≡ Some x
        → (lookup (is_at (name_cmp q)) es ≡ Some x → P (q, x)) → P (q, x)
    go true is e later =
        subst (λ y. P (q, y)) (same_Some d.1 x e)
        (subst (λ k. P (k, d.1)) (sym (exact_bytes q d.0 (equal_of (name_cmp q d.0) is))) all.0)
    go false is e later = later e

manifest_by : (k : Kind) (f : List ℕ) (names : List (List ℕ))
    → is_manifest_outside f names k ≡ true
    → (n : List ℕ) × (k ≡ Meta f n meta.Manifest)
    × (not (list_any (bytes_eq n) names) ≡ true)
manifest_by (Meta g n meta.Manifest) f names e =
    let free = not (list_any (bytes_eq n) names) in
    let same = same_bytes g f (and_first (bytes_eq g f) free e) in
    (n, λ i. Meta (same i) n meta.Manifest, and_second (bytes_eq g f) free e)
manifest_by (Meta g n meta.Schema) f names e = absurd (cc)
manifest_by (Meta g n meta.Differential) f names e = absurd (cc)
manifest_by (Meta g n meta.Tokenmap) f names e = absurd (cc)
manifest_by (Shared g key) f names e = absurd (cc)
manifest_by (Own g n key) f names e = absurd (cc)
manifest_by (Entry g n kind) f names e = absurd (cc)
manifest_by (Latest g kind) f names e = absurd (cc)
manifest_by (Stray g n) f names e = absurd (cc)
manifest_by Other f names e = absurd (cc)

stands_by : (o : Option Object) (second : ℕ)
    → option_map (λ (x : Object). x.second) o ≡ Some second → (x : Object) × (o ≡ Some x)
stands_by None second e = absurd (cc)
stands_by (Some x) second e = (x, refl)

none_by : (o : Option Object) → option_map (λ (x : Object). x.second) o ≡ None → o ≡ None
none_by None e = refl
none_by (Some x) e = absurd (cc)

module _ (before f : List ℕ) (c : Content) (found : BTreeMap (List ℕ) Marks)
    (ordered : IsOrdered name_cmp found) (are : AreFound f found before f c []) where
  pub all_found : AllByRecursion (IsFoundAs found) found.entries
  all_found =
      recursion_from_All (IsFoundAs found) found.entries
      (All-found nat_list_cmp_total found ordered)

  -- of a backup that wasn't found nothing stands
  none_stands : (n : List ℕ) → IsBackupName n → get name_cmp found n ≡ None → (kind : MetaKind)
      → second_of c before f n kind ≡ None
  none_stands n name none kind = go (second_of c before f n kind) refl
    where
      go : (o : Option ℕ) → second_of c before f n kind ≡ o → second_of c before f n kind ≡ None
      go None e = e
      go (Some s) e =
          elim (are.all n kind s name e) [
            | inl there ↦
                absurd (nothing_marked kind s (sym (ap (found_second kind) none) ∙ there))
            | inr never ↦ absurd never
          ]

  nothing_given : (n : List ℕ) → IsBackupName n → get name_cmp found n ≡ None
      → (kind : IndexKind) → given before c f n kind ≡ None
  nothing_given n name none entry.Tokenmap =
      ap bytes_in (none_by (meta_in before c f n meta.Tokenmap)
      (none_stands n name none meta.Tokenmap))
  nothing_given n name none entry.Manifest =
      ap bytes_in (none_by (meta_in before c f n meta.Manifest)
      (none_stands n name none meta.Manifest))
  nothing_given n name none (entry.Started second) =
      ap (λ o. empty_at o second) ((absence_is_told before c f n).1 (none_stands n name none))
  nothing_given n name none (entry.Finished second) =
      ap (λ o. empty_at (second_in o) second) (none_by (meta_in before c f n meta.Manifest)
      (none_stands n name none meta.Manifest))
  nothing_given n name none entry.Differential =
      ap empty_where (none_by (meta_in before c f n meta.Differential)
      (none_stands n name none meta.Differential))

  was_found : (n : List ℕ) → IsBackupName n → (kind : IndexKind) (bytes : List ℕ)
      → given before c f n kind ≡ Some bytes
      → (marks : Marks) × (get name_cmp found n ≡ Some marks)
  was_found n name kind bytes e = go (get name_cmp found n) refl
    where
      go : (o : Option Marks) → get name_cmp found n ≡ o
          → (marks : Marks) × (get name_cmp found n ≡ Some marks)
      go None is = absurd (let none = nothing_given n name is kind in cc (none, e))
      go (Some marks) is = (marks, is)

  module _ (names : List (List ℕ)) (but : BTreeSet (List ℕ)) (set : IsSetOf names but)
      (m : Manifests) (rising : IsOrdered name_cmp m)
      (of_found : AreManifestsOf before f found but found.entries m) where
    -- a manifest that stands is among those that were found
    manifest_found : (n : List ℕ) (o : Object) → IsBackupName n
        → contains name_cmp but n ≡ false
        → finite.get c (meta_path before f n meta.Manifest) ≡ Some o
        → get name_cmp m (meta_path before f n meta.Manifest) ≡ Some n
    manifest_found n o name isnt stands =
        elim (are.all n meta.Manifest o.second name
        (ap (option_map (λ (x : Object). x.second)) stands)) [
          | inl there ↦ go (get name_cmp found n) refl there
          | inr never ↦ absurd never
        ]
      where
        go : (p : Option Marks) → get name_cmp found n ≡ p
            → found_second meta.Manifest p ≡ Some o.second
            → get name_cmp m (meta_path before f n meta.Manifest) ≡ Some n
        go None is there = absurd (cc there)
        go (Some marks) is there =
            at_found
            (λ (e : List ℕ × Marks). (second : ℕ) → outside but e.0 e.1.manifest ≡ Some second
            → get name_cmp m (meta_path before f e.0 meta.Manifest) ≡ Some e.0) found.entries n
            marks is of_found.all o.second
            (ap (λ t. cond t None marks.manifest) isnt ∙ there)

    -- and each of those stands
    pub manifest_stands : (path n : List ℕ) → get name_cmp m path ≡ Some n
        → (o : Object) × (finite.get c path ≡ Some o)
    manifest_stands path n e =
        let named = of_found.named path n e in
        let finished = (is_outside but n named.marks.manifest named.second (contains name_cmp but n)
        refl named.finished).1 in
        let second = are.stands n meta.Manifest named.second
        (ap (found_second meta.Manifest) named.got ∙ finished) in
        let o = stands_by (finite.get c (meta_path before f n meta.Manifest)) named.second second in
        (o.0, ap (finite.get c) named.path_is ∙ o.1)

    pub paths_are : keys_of m.entries ≡ paths_of before c (is_manifest_outside f names)
    paths_are =
        let test = λ (p : List ℕ). is_manifest_outside f names (kind_of before p) in
        let part = finite.retain_keys c test in
        keys_same m.entries (finite.entries part) (sorted_of m.entries rising)
        (finite.entries_sorted part)
        (λ q. ap is_some (find_is q m.entries) ∙ alike q
        ∙ ap is_some (sym (get_kept c test q) ∙ finite.get-entries part q))
      where
        passes : (path n : List ℕ) → kind_of before path ≡ Meta f n meta.Manifest
            → contains name_cmp but n ≡ false
            → is_manifest_outside f names (kind_of before path) ≡ true
        passes path n e isnt =
            ap (is_manifest_outside f names) e
            ∙ (ap (λ b. b && not (list_any (bytes_eq n) names)) (bytes_same f)
            ∙ not_in_names names but set n (list_any (bytes_eq n) names) refl isnt)

        there : (q : List ℕ) (n : List ℕ) → get name_cmp m q ≡ Some n
            → is_some (cond (is_manifest_outside f names (kind_of before q)) (finite.get c q) None)
            ≡ true
        there q n e =
            ap (λ b. is_some (cond b (finite.get c q) None))
            (passes q n (of_found.named q n e).kind_is
            (is_outside but n (of_found.named q n e).marks.manifest (of_found.named q n e).second
            (contains name_cmp but n) refl (of_found.named q n e).finished).0)
            ∙ ap is_some (manifest_stands q n e).1

        back : (q : List ℕ) (b : Bool) → is_manifest_outside f names (kind_of before q) ≡ b
            → (o : Option Object) → finite.get c q ≡ o → is_some (cond b o None) ≡ true
            → is_some (get name_cmp m q) ≡ true
        back q false p o s e = absurd (cc e)
        back q true p None s e = absurd (cc e)
        back q true p (Some o) s e =
            let (n, kind, free) = manifest_by (kind_of before q) f names p in
            let here = manifest_path before q f n kind in
            let name = ((kinds_are_told before q (Meta f n meta.Manifest)).0 kind).valid.1 in
            ap is_some
            (ap (get name_cmp m) here
            ∙ manifest_found n o name
            (not_in_set names but set n (list_any (bytes_eq n) names) (contains name_cmp but n)
            refl refl free) (ap (finite.get c) (sym here) ∙ s))

        some_name : (q : List ℕ) (o : Option (List ℕ)) → get name_cmp m q ≡ o → is_some o ≡ true
            → is_some (cond (is_manifest_outside f names (kind_of before q)) (finite.get c q) None)
            ≡ true
        some_name q None is e = absurd (cc e)
        some_name q (Some n) is e = there q n is

        alike : (q : List ℕ) → is_some (get name_cmp m q)
            ≡ is_some (cond (is_manifest_outside f names (kind_of before q)) (finite.get c q) None)
        alike q =
            both_ways (is_some (get name_cmp m q))
            (is_some (cond (is_manifest_outside f names (kind_of before q)) (finite.get c q) None))
            (λ e. some_name q (get name_cmp m q) refl e)
            (λ e. back q (is_manifest_outside f names (kind_of before q)) refl (finite.get c q) refl e)

  module _ (but : BTreeSet (List ℕ)) (set : IsSetOf [] but) (m : Manifests)
      (rising : IsOrdered name_cmp m)
      (of_found : AreManifestsOf before f found but found.entries m) where
    -- no name is among none
    isnt_in : (n : List ℕ) → contains name_cmp but n ≡ false
    isnt_in n = not_in_set [] but set n false (contains name_cmp but n) refl refl refl

    module _ (old first last : Given) (reads : AreRead before f c m.entries old first)
        (rests : AreRestsGiven before f c found.entries first last) where
      other_entry : (n : List ℕ) → IsBackupName n → (kind : IndexKind) (bytes : List ℕ)
          → IsNoCopy kind → given before c f n kind ≡ Some bytes
          → WasGiven last (entry_path before f n kind)
      other_entry n name kind bytes copy e =
          let marks = was_found n name kind bytes e in
          at_found (λ (e : List ℕ × Marks). IsRestGiven before f c last e.0) found.entries n
          marks.0 marks.1 rests.all kind bytes copy e

      given_entry : (n : List ℕ) → IsBackupName n → (kind : IndexKind) (bytes : List ℕ)
          → given before c f n kind ≡ Some bytes → WasGiven last (entry_path before f n kind)
      given_entry n name entry.Manifest bytes e =
          go (meta_in before c f n meta.Manifest) refl e
        where
          go : (o : Option Object) → meta_in before c f n meta.Manifest ≡ o
              → bytes_in o ≡ Some bytes → WasGiven last (entry_path before f n entry.Manifest)
          go None is e = absurd (cc e)
          go (Some o) is e =
              rests.grows.keeps (entry_path before f n entry.Manifest)
              (at_found (IsReadIn before f c first) m.entries
              (meta_path before f n meta.Manifest) n (manifest_found [] but set m rising of_found n o name
              (isnt_in n) is) reads.all o is).1
      given_entry n name entry.Tokenmap bytes e = other_entry n name entry.Tokenmap bytes tt e
      given_entry n name (entry.Started second) bytes e =
          other_entry n name (entry.Started second) bytes tt e
      given_entry n name (entry.Finished second) bytes e =
          other_entry n name (entry.Finished second) bytes tt e
      given_entry n name entry.Differential bytes e =
          other_entry n name entry.Differential bytes tt e

      pub complete : (path bytes : List ℕ) → given_to before c f (kind_of before path) ≡ Some bytes
          → WasGiven last path
      complete path bytes e = go (kind_of before path) refl e
        where
          here : (g n : List ℕ) (kind : IndexKind) → kind_of before path ≡ Entry g n kind
              → (b : Bool) → bytes_eq g f ≡ b
              → cond b (given before c f n kind) None ≡ Some bytes → WasGiven last path
          here g n kind is false same e = absurd (cc e)
          here g n kind is true same e =
              let node = same_bytes g f same in
              let so : kind_of before path ≡ Entry f n kind = is ∙ (λ i. Entry (node i) n kind) in
              let name = ((kinds_are_told before path (Entry f n kind)).0 so).valid.1 in
              subst (WasGiven last) (entry_built before path f n kind so)
              (given_entry n name kind bytes e)

          go : (k : Kind) → kind_of before path ≡ k → given_to before c f k ≡ Some bytes
              → WasGiven last path
          go (Entry g n kind) is e = here g n kind is (bytes_eq g f) refl e
          go (Shared g key) is e = absurd (cc e)
          go (Own g n key) is e = absurd (cc e)
          go (Meta g n kind) is e = absurd (cc e)
          go (Latest g kind) is e = absurd (cc e)
          go (Stray g n) is e = absurd (cc e)
          go Other is e = absurd (cc e)

      reads_of : (es : List (List ℕ × List ℕ))
          → AllByRecursion (λ (e : List ℕ × List ℕ). get name_cmp m e.0 ≡ Some e.1) es
          → AllByRecursion (IsReadIn before f c first) es
          → AllByRecursion (DoesRead before c f) (keys_of es)
      reads_of [] got all = tt
      reads_of (e ∷ es) got all =
          let o = manifest_stands [] but set m rising of_found e.0 e.1 got.0 in
          ((all.0 o.0 o.1).0, reads_of es got.1 all.1)

      pub all_read : DoAllRead before c f []
      all_read =
          subst (AllByRecursion (DoesRead before c f))
          (paths_are [] but set m rising of_found)
          (reads_of m.entries
          (recursion_from_All (λ (e : List ℕ × List ℕ). get name_cmp m e.0 ≡ Some e.1) m.entries
          (All-found nat_list_cmp_total m rising)) reads.all)
