-- What was read of a node, from one call to the next.
use Rattle.std.proofs.Common.{◌≡◌, ◌∙◌, ℕ, List, [], ◌∷◌, ◌++◌, Option, Some, None, IfSome, Result, Ok, Err, OnOk, IfErr, refl, sym, ap, subst}
use Rattle.std.proofs.lemmas.List.Elements.{recursion_from_All}
use Rattle.std.proofs.lemmas.Map.Views.{All-found}
use Rattle.std.proofs.lemmas.Option.{same_Some}
use Rattle.std.specs.BTreeSet.{BTreeSet}
use Rattle.std.specs.BTreeMap.{BTreeMap, IsOrdered, get}
use Rattle.std.specs.Cmp.Lexicographic.{nat_list_cmp_total}
use Rattle.std.specs.FinMap as finite
use Rattle.std.specs.List.{AllByRecursion}
use Rattle.std.specs.Map.{keys_of}
use Rattle.med_base.specs.Classify.{kind_of}
use Rattle.med_base.specs.Content.{Content, Object}
use Rattle.med_base.specs.NameOrder.{name_cmp}
use Rattle.med_base.proofs.Lists.{all_split}
use Rattle.med_base.specs.declared.layout.MetaKind.TheVariants.{Manifest}
use Rattle.med_base.specs.Layout.{meta_path}
use Rattle.med_manifest.specs.declared.why.ManifestWhy.{ManifestWhy}
use Rattle.med_manifest.specs.Manifest.{IsManifest}
use Rattle.med_manifest.specs.Mend.{name_in}
use Rattle.med_manifest.specs.Reads.{DoesRead}
use Rattle.med_manifest.specs.Refusals.{IsRefused}
use Rattle.med_index.specs.declared.errors.IndexError.{IndexError}
use Rattle.med_index.specs.declared.errors.IndexError.TheVariants.{BadManifest, Store, Memory}
use Rattle.med_index.specs.declared.marks.Marks.{Marks}
use Rattle.med_index.specs.Gathered.{IsGathered, ReadsAll, TellsUnread}
use Rattle.med_index.specs.Marks.{IsSetOf}
use Rattle.med_index.specs.Given.{AreOfNode, AreRestsTold, AreRightly, AreSizes, Given, IsFoundAs}
use Rattle.med_index.specs.Manifests.{AreManifests, AreManifestsOf, AreNamed, AreReadTold, IsStopped, IsStoppedAt, Manifests}
use Rattle.med_index.specs.Rebuilt.{IsFirstBad}
use Rattle.med_index.specs.Visits.{AreFound}
use Rattle.med_index.proofs.GatherLemmas.{all_read, complete, manifest_stands, paths_are}

-- each backup of the map is found in it
pub found_all : (found : BTreeMap (List ℕ) Marks) → IsOrdered name_cmp found
    → AllByRecursion (IsFoundAs found) found.entries
found_all found ordered =
    recursion_from_All (IsFoundAs found) found.entries (All-found nat_list_cmp_total found ordered)

pub on_both : {T E : Type 0} (r : Result T E) (P Q R : Type 0) → (P → Q → R) → OnOk r P → OnOk r Q
    → OnOk r R
on_both (Ok x) P Q R step p q = step p q
on_both (Err e) P Q R step p q = p

-- one more map that was looked up
names_all : (m : Manifests) → IsOrdered name_cmp m
    → AllByRecursion (λ (e : List ℕ × List ℕ). get name_cmp m e.0 ≡ Some e.1) m.entries
names_all m rising =
    recursion_from_All (λ (e : List ℕ × List ℕ). get name_cmp m e.0 ≡ Some e.1) m.entries
    (All-found nat_list_cmp_total m rising)

keys_append : (es ds : List (List ℕ × List ℕ)) → keys_of (es ++ ds) ≡ keys_of es ++ keys_of ds
keys_append [] ds = refl
keys_append (e ∷ es) ds = ap (λ l. e.0 ∷ l) (keys_append es ds)

module _ (before f : List ℕ) (found : BTreeMap (List ℕ) Marks) (but : BTreeSet (List ℕ))
    (m : Manifests) where
  pub named_of : IsOrdered name_cmp found → AreManifests before f found but found.entries m
      → AreNamed before f m
  named_of ordered are path n e = ((are (found_all found ordered)).named path n e).kind_is

  module _ (ordered : IsOrdered name_cmp found) (rising : IsOrdered name_cmp m)
      (are : AreManifests before f found but found.entries m) (set : IsSetOf [] but) where
    of_found : AreManifestsOf before f found but found.entries m
    of_found = are (found_all found ordered)

    pub reads_all : (told : Option Content) (old new : Given)
        → AreReadTold told before f m.entries old new
        → IfSome told (λ c. ReadsAll before f c found old new)
    reads_all None old new reads = tt
    reads_all (Some c) old new reads = record {
      none = but;
      none_is = set;
      manifests = m;
      rising = rising;
      ordered = ordered;
      of_found = of_found;
      reads = reads;
    }

    module _ (c : Content) (there : AreFound f found before f c []) where
      good_read : (es : List (List ℕ × List ℕ))
          → AllByRecursion (λ (e : List ℕ × List ℕ). get name_cmp m e.0 ≡ Some e.1) es
          → AllByRecursion
          (λ (e : List ℕ × List ℕ). (o : Object) → finite.get c e.0 ≡ Some o
          → DoesRead before c f e.0) es
          → AllByRecursion (DoesRead before c f) (keys_of es)
      good_read [] got all = tt
      good_read (e ∷ es) got all =
          let o = manifest_stands before f c found ordered there [] but set m rising of_found e.0
          e.1 got.0 in
          (all.0 o.0 o.1, good_read es got.1 all.1)

      first_bad : (at : List ℕ) (why : ManifestWhy)
          → IsStoppedAt before f c m.entries at why → IsFirstBad before c f at why
      first_bad at why stop =
          let parts = all_split
          (λ (e : List ℕ × List ℕ). get name_cmp m e.0 ≡ Some e.1) stop.good
          ((at, stop.name) ∷ stop.rest)
          (subst (AllByRecursion (λ (e : List ℕ × List ℕ). get name_cmp m e.0 ≡ Some e.1))
          stop.parts (names_all m rising)) in
          let named = of_found.named at stop.name parts.1.0 in
          let name : name_in (kind_of before at) ≡ stop.name = ap name_in named.kind_is in
          record {
            first = record {
              good = keys_of stop.good;
              rest = keys_of stop.rest;
              paths =
                  sym (paths_are before f c found ordered there [] but set m rising of_found)
                  ∙ ap keys_of stop.parts ∙ keys_append stop.good ((at, stop.name) ∷ stop.rest);
              read = good_read stop.good parts.0 stop.read;
              unread = λ (files, has).
                  let here = sym (ap (finite.get c)
                  (named.path_is ∙ ap (λ n. meta_path before f n Manifest) (sym name)))
                  ∙ stop.stands in
                  let same = same_Some has.object stop.object (sym has.stands ∙ here) in
                  stop.none files
                  (subst (λ (o : Object). IsManifest before f stop.name o.bytes files) same
                  (subst (λ n. IsManifest before f n has.object.bytes files) name has.names));
            };
            object = stop.object;
            stands = stop.stands;
            why_is = subst (λ n. IsRefused before f n stop.object.bytes why) (sym name) stop.why_is;
          }

    pub stopped_tells : (told : Option Content) (e : IndexError)
        → IsStopped told before f m.entries e
        → IfSome told (λ c. AreFound f found before f c [] → TellsUnread before c f e)
    stopped_tells None e stop = tt
    stopped_tells (Some c) (BadManifest at why) stop = λ there. first_bad c there at why stop
    stopped_tells (Some c) Store stop = λ there. tt
    stopped_tells (Some c) Memory stop = λ there. tt

    pub refused_tells : {T : Type 0} (told : Option Content) (r : Result T IndexError)
        → IfErr r (IsStopped told before f m.entries)
        → IfErr r (λ e. IfSome told
        (λ c. AreFound f found before f c [] → TellsUnread before c f e))
    refused_tells told (Ok x) stop = tt
    refused_tells told (Err e) stop = stopped_tells told e stop

-- ---- the gathered

pub nothing_of : {X : Type 0} (before f : List ℕ) (m : BTreeMap (List ℕ) X) → m.entries ≡ []
    → AreOfNode before f m
nothing_of before f m none path x got = absurd (cc (got, none))

nothing_right : (before f : List ℕ) (c : Content) (m : Given) → m.entries ≡ []
    → AreRightly before f c m
nothing_right before f c m none path value got = absurd (cc (got, none))

pub gathered : (before f : List ℕ) (found : BTreeMap (List ℕ) Marks)
    (sizes : BTreeMap (List ℕ) ℕ) (old first last : Given) (told once twice : Option Content)
    → once ≡ told → twice ≡ told → old.entries ≡ []
    → IfSome told (λ c. AreSizes before f c sizes)
    → IfSome once (λ c. ReadsAll before f c found old first)
    → AreRestsTold twice before f found sizes found.entries first last
    → IfSome told (λ c. AreFound f found before f c [] → IsGathered before f c last sizes)
gathered before f found sizes old first last None once twice same1 same2 none sized reads rests = tt
gathered before f found sizes old first last (Some c) once twice same1 same2 none sized reads rests =
    λ there.
    let all = subst (λ t. IfSome t (λ c. ReadsAll before f c found old first)) same1 reads in
    let more = subst (λ t. AreRestsTold t before f found sizes found.entries first last) same2
    rests there sized (found_all found all.ordered) in
    record {
      sized = sized;
      right = more.grows.right (all.reads.grows.right (nothing_right before f c old none));
      complete =
          complete before f c found all.ordered there all.none all.none_is all.manifests all.rising all.of_found old
          first last all.reads more;
      read =
          all_read before f c found all.ordered there all.none all.none_is all.manifests all.rising all.of_found old
          first last all.reads more;
    }

-- the same of what an earlier content told
pub told_before : (P : Content → Type 0) (told once : Option Content) → once ≡ told
    → IfSome once P → IfSome told P
told_before P told once same h = subst (λ t. IfSome t P) same h
