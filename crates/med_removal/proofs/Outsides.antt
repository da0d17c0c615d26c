-- What the manifests of a node outside some names name, where each reads.
use Rattle.std.proofs.Common.{◌≡◌, ◌∙◌, ◌++◌, ◌∷◌, ◌&&◌, [], inl, inr, ℕ, Bool, true, false, not, List, Contains, Option, Some, None, IfSome, bytes_eq, map, refl, sym, ap, subst}
use Rattle.std.proofs.lemmas.List.Elements.{All-contains, All-from_recursion, recursion_from_All}
use Rattle.std.proofs.lemmas.Map.Views.{All-found}
use Rattle.std.proofs.lemmas.Option.{same_Some}
use Rattle.std.specs.BTreeMap.{BTreeMap, IsOrdered, get as lookup}
use Rattle.std.specs.BTreeSet.{BTreeSet, contains}
use Rattle.std.specs.Cmp.Lexicographic.{nat_list_cmp_total}
use Rattle.std.specs.FinMap as finite
use Rattle.std.specs.List.{AllByRecursion, list_any}
use Rattle.std.specs.Map.{keys_of}
use Rattle.med_base.proofs.Lists.{all_split, contains_map}
use Rattle.med_base.proofs.KindsLaw.{kinds_are_told}
use Rattle.med_base.specs.declared.layout.MetaKind.TheVariants.{Manifest}
use Rattle.med_base.specs.Classify.{kind_of}
use Rattle.med_base.specs.Content.{Content, Object}
use Rattle.med_base.specs.Kinds.{Meta, IsFqdn}
use Rattle.med_base.specs.Layout.{meta_path}
use Rattle.med_base.specs.NameOrder.{name_cmp}
use Rattle.med_core.specs.Outside.{IsNamedOutside}
use Rattle.med_manifest.proofs.ByKind.{path_has}
use Rattle.med_manifest.proofs.Gets.{same_itself}
use Rattle.med_manifest.proofs.Members.{contains_first, contains_head, contains_more, contains_nothing, is_listed}
use Rattle.med_manifest.specs.declared.manifest.FileRecord.{FileRecord}
use Rattle.med_manifest.specs.declared.why.ManifestWhy.{ManifestWhy}
use Rattle.med_manifest.specs.Listed.{paths_of}
use Rattle.med_manifest.specs.Manifest.{IsManifest}
use Rattle.med_manifest.specs.Mend.{is_manifest_outside, name_in}
use Rattle.med_manifest.specs.Reads.{DoAllRead, DoesRead}
use Rattle.med_manifest.specs.Refusals.{IsRefused}
use Rattle.med_manifest.specs.Whole.{HasManifest}
use Rattle.med_index.specs.declared.errors.IndexError.{IndexError}
use Rattle.med_index.specs.declared.errors.IndexError.TheVariants.{BadManifest, Store, Memory}
use Rattle.med_index.specs.declared.marks.Marks.{Marks}
use Rattle.med_index.specs.Given.{IsFoundAs}
use Rattle.med_index.specs.Manifests.{AreManifests, AreManifestsOf, AreNamed, IsStopped, IsStoppedAt, Manifests}
use Rattle.med_index.specs.Marks.{IsSetOf}
use Rattle.med_index.specs.Visits.{AreFound}
use Rattle.med_index.proofs.GatherLemmas.{manifest_stands, paths_are}
use Rattle.med_index.proofs.MendLemmas.{not_in_names}
use Rattle.med_index.proofs.NewestLemmas.{is_outside}
use Rattle.med_removal.specs.Named.{AreNamesNoted, AreNamesOf, AreNamesOutside, AreNoted, HasShared, IsFirstBadOutside, IsWithin, ReadsIfThere, TellsUnreadOutside, paths_in}

abbrev Named : Type 0
Named = List ℕ × List ℕ

contains_of_map : {X Y : Type 0} (g : X → Y) (xs : List X) (y : Y) → Contains (map g xs) y
    → (x : X) × Contains xs x × (g x ≡ y)
contains_of_map g [] y has = absurd (contains_nothing y has)
contains_of_map g (x ∷ xs) y has = elim (contains_first (g x) y (map g xs) has) [
  | inl same ↦ (x, contains_head x xs, same)
  | inr more ↦ let (z, there, is) = contains_of_map g xs y more in (z, contains_more x z xs there, is)
]

found_all : (found : BTreeMap (List ℕ) Marks) → IsOrdered name_cmp found
    → AllByRecursion (IsFoundAs found) found.entries
found_all found ordered =
    recursion_from_All (IsFoundAs found) found.entries (All-found nat_list_cmp_total found ordered)

module _ (before f : List ℕ) (found : BTreeMap (List ℕ) Marks) (but : BTreeSet (List ℕ))
    (m : Manifests) (ordered : IsOrdered name_cmp found)
    (are : AreManifests before f found but found.entries m) where
  of_found : AreManifestsOf before f found but found.entries m
  of_found = are (found_all found ordered)

  pub named_of : AreNamed before f m
  named_of path n e = (of_found.named path n e).kind_is

  module _ (node : IsFqdn f) (rising : IsOrdered name_cmp m) (c : Content)
      (there : AreFound f found before f c []) (names : List (List ℕ)) (set : IsSetOf names but)
    where
      abbrev IsGot : Named → Type 0
      IsGot e = lookup name_cmp m e.0 ≡ Some e.1

      all_got : AllByRecursion IsGot m.entries
      all_got = recursion_from_All IsGot m.entries (All-found nat_list_cmp_total m rising)

      got_of : (e : Named) → Contains m.entries e → IsGot e
      got_of e has =
          All-contains IsGot m.entries e (All-from_recursion IsGot m.entries all_got) has

      keys_are : keys_of m.entries ≡ paths_of before c (is_manifest_outside f names)
      keys_are = paths_are before f c found ordered there names but set m rising of_found

      reads_of : (es : List Named) → AllByRecursion IsGot es
          → AllByRecursion (ReadsIfThere before f c) es
          → AllByRecursion (DoesRead before c f) (keys_of es)
      reads_of [] got all = tt
      reads_of (e ∷ es) got all =
          let o = manifest_stands before f c found ordered there names but set m rising of_found e.0
          e.1 got.0 in
          (all.0 o.0 o.1, reads_of es got.1 all.1)

      module _ (paths : List (List ℕ)) (so : AreNamesOf before f c m.entries paths) where
        all_read : DoAllRead before c f names
        all_read =
            subst (AllByRecursion (DoesRead before c f)) keys_are (reads_of m.entries all_got so.read)

        -- what is named is named by a manifest outside
        sound : (p : List ℕ) → Contains paths p → IsNamedOutside before c f names p
        sound p has =
            let by = so.sound p has in
            let n = by.entry.1 in
            let named = of_found.named by.entry.0 n (got_of by.entry by.among) in
            let isnt = (is_outside but n named.marks.manifest named.second (contains name_cmp but n)
            refl named.finished).0 in
            let (file, among, here) = contains_of_map (λ (r : FileRecord). r.path) by.files p by.here
            in
            record {
              n = n;
              name =
                  ((kinds_are_told before by.entry.0 (Meta f n Manifest)).0 named.kind_is).valid.1;
              outside = λ is. absurd (let in_set = (set n).1 is in cc (in_set, isnt));
              files = by.files;
              manifest = by.manifest;
              file = file;
              among = among;
              here = here;
            }

        not_in : (n : List ℕ) → (Contains names n → ⊥) → (t : Bool) → contains name_cmp but n ≡ t
            → contains name_cmp but n ≡ false
        not_in n outside true e = absurd (outside ((set n).0 e))
        not_in n outside false e = e

        -- and what a manifest outside names is among them
        complete : (p : List ℕ) → IsNamedOutside before c f names p → Contains paths p
        complete p by =
            let n = by.n in
            let kind = path_has before (Meta f n Manifest) tt (node, by.name) in
            let isnt = not_in n by.outside (contains name_cmp but n) refl in
            let passes : is_manifest_outside f names (kind_of before (meta_path before f n Manifest))
            ≡ true =
            ap (is_manifest_outside f names) kind
            ∙ (ap (λ b. b && not (list_any (bytes_eq n) names)) (same_itself f)
            ∙ not_in_names names but set n (list_any (bytes_eq n) names) refl isnt) in
            let listed = is_listed before c (is_manifest_outside f names)
            (meta_path before f n Manifest) by.manifest.object passes by.manifest.stands in
            let (e, among, key) = contains_of_map (λ (e : Named). e.0) m.entries
            (meta_path before f n Manifest)
            (subst (λ ps. Contains ps (meta_path before f n Manifest)) (sym keys_are) listed) in
            let same : e.1 ≡ n =
            ap name_in (sym (of_found.named e.0 e.1 (got_of e among)).kind_is
            ∙ ap (kind_of before) key ∙ kind) in
            All-contains (IsWithin before f c paths) m.entries e
            (All-from_recursion (IsWithin before f c paths) m.entries so.complete) among by.files
            (subst (λ k. HasManifest before f k c by.files) (sym same) by.manifest) p
            (subst (Contains (paths_in by.files)) by.here
            (contains_in_paths by.files by.file by.among))
          where
            contains_in_paths : (files : List FileRecord) (r : FileRecord) → Contains files r
                → Contains (paths_in files) r.path
            contains_in_paths files r (i, less, is) =
                contains_map (λ (r : FileRecord). r.path) files i r less (sym is)

        pub names_outside : (none named : BTreeSet (List ℕ)) → HasShared before [] none
            → AreNoted before paths none named → AreNamesOutside before c f names named
        names_outside none named empty noted = record {
          read = all_read;
          paths = paths;
          paths_are = λ p. (sound p, complete p);
          shared = noted [] empty;
        }

      keys_append : (es ds : List Named) → keys_of (es ++ ds) ≡ keys_of es ++ keys_of ds
      keys_append [] ds = refl
      keys_append (e ∷ es) ds = ap (λ l. e.0 ∷ l) (keys_append es ds)

      first_bad : (at : List ℕ) (why : ManifestWhy) → IsStoppedAt before f c m.entries at why
          → IsFirstBadOutside before c f names at why
      first_bad at why stop =
          let parts = all_split IsGot stop.good ((at, stop.name) ∷ stop.rest)
          (subst (AllByRecursion IsGot) stop.parts all_got) in
          let named = of_found.named at stop.name parts.1.0 in
          let name : name_in (kind_of before at) ≡ stop.name = ap name_in named.kind_is in
          record {
            first = record {
              good = keys_of stop.good;
              rest = keys_of stop.rest;
              paths =
                  sym keys_are ∙ ap keys_of stop.parts
                  ∙ keys_append stop.good ((at, stop.name) ∷ stop.rest);
              read = reads_of stop.good parts.0 stop.read;
              unread = λ (files, has).
                  let here = sym (ap (finite.get c)
                  (named.path_is ∙ ap (λ n. meta_path before f n Manifest) (sym name)))
                  ∙ stop.stands in
                  let same = same_Some has.object stop.object (sym has.stands ∙ here) in
                  stop.none files
                  (subst (λ (o : Object). IsManifest before f stop.name o.bytes files) same
                  (subst (λ n. IsManifest before f n has.object.bytes files) name has.names));
            };
            object = stop.object;
            stands = stop.stands;
            why_is = subst (λ n. IsRefused before f n stop.object.bytes why) (sym name) stop.why_is;
          }

      pub tells_unread : (e : IndexError) → IsStopped (Some c) before f m.entries e
          → TellsUnreadOutside before c f names e
      tells_unread (BadManifest at why) stop = first_bad at why stop
      tells_unread Store stop = tt
      tells_unread Memory stop = tt

  -- the same by the answer, over any storage
  pub named_told : (node : IsFqdn f) (rising : IsOrdered name_cmp m) (told : Option Content)
      (none named : BTreeSet (List ℕ)) → ((b : List ℕ) → HasShared b [] none)
      → AreNamesNoted told before f m.entries none named
      → IfSome told (λ c. AreFound f found before f c [] → (names : List (List ℕ))
      → IsSetOf names but → AreNamesOutside before c f names named)
  named_told node rising None none named empty noted = tt
  named_told node rising (Some c) none named empty (paths, so, noted) = λ there names set.
      names_outside node rising c there names set paths so none named (empty before) noted

  pub unread_told : (node : IsFqdn f) (rising : IsOrdered name_cmp m) (told : Option Content)
      (e : IndexError) → IsStopped told before f m.entries e
      → IfSome told (λ c. AreFound f found before f c [] → (names : List (List ℕ))
      → IsSetOf names but → TellsUnreadOutside before c f names e)
  unread_told node rising None e stop = tt
  unread_told node rising (Some c) e stop = λ there names set.
      tells_unread node rising c there names set e stop
