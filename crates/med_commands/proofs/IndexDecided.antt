-- What is told of the content leads a rebuild of the index to one end.
use Rattle.std.proofs.Common.{◌≡◌, ◌≢◌, ◌⊎◌, ℕ, Bool, true, false, cond, zero, suc, List, [], ◌∷◌, ◌++◌, Contains, Option, Some, None, Ok, Err, refl, sym, ◌∙◌, ap, subst, inl, inr, arith, bytes_eq}
use Rattle.std.specs.Cmp.Lexicographic.{nat_list_cmp_total}
use Rattle.std.specs.FinMap as fin
use Rattle.std.specs.List.{AllByRecursion}
use Rattle.std.specs.List.Sorted.{IsStrictlySortedBy}
use Rattle.std.specs.declared.cmp.Ordering.TheVariants.{Less}
use Rattle.std.proofs.lemmas.List.Elements.{All-from_recursion, All-contains}
use Rattle.std.proofs.lemmas.Map.Keys.{sorted_head, sorted_tail}
use Rattle.med_base.specs.declared.layout.MetaKind.TheVariants as meta_kind
use Rattle.med_base.specs.Classify.{kind_of}
use Rattle.med_base.specs.Content.{Content}
use Rattle.med_base.specs.Effects.{Effect, applied}
use Rattle.med_base.specs.Kinds.{Kind, Meta}
use Rattle.med_base.specs.NameOrder.{name_cmp}
use Rattle.med_base.proofs.Lists.{all_split, all_with}
use Rattle.med_commands.specs.Changes.{ChangeLists, IsNothing}
use Rattle.med_commands.specs.NodeConfig.{NodeConfig, opened_at}
use Rattle.med_plan.specs.Ends.{Passed}
use Rattle.med_index.specs.Rebuilt.{AreOfIndex, IsOfIndex}
use Rattle.med_index.specs.Rows.{AreNodes, HasBackup}
use Rattle.med_manifest.specs.Listed.{paths_of}
use Rattle.med_manifest.specs.Mend.{is_manifest_outside, name_in}
use Rattle.med_manifest.specs.Reads.{DoAllRead, DoesRead, IsFirstUnread}
use Rattle.med_manifest.proofs.ByKind.{manifest, manifest_path}
use Rattle.med_manifest.proofs.Elsewhere.{applied_append}
use Rattle.med_manifest.proofs.Gets.{from_same, same_path}
use Rattle.med_manifest.proofs.Members.{IsListed, all_listed, get_kept}
use Rattle.med_manifest.proofs.Newest.{and_first}
use Rattle.med_outside.specs.Device.{Storage, on}
use Rattle.med_plan.specs.Ends.{Refusal, BadManifest, Refused, Plan, step, then, said_as, Leads}
use Rattle.med_outside.specs.World.{World}
use Rattle.med_commands.specs.Headline.{End}
use Rattle.med_commands.specs.Indexed.{Rebuilds, Rebuilt, all_of, nodes_plan, rebuilds_plan}
use Rattle.med_commands.specs.Plans.{IsIndexed}
use Rattle.med_commands.specs.Steps.{IsLeft, prints}
use Rattle.med_commands.specs.Report.{index_lines}
use Rattle.med_commands.proofs.DecidedWork.{by_answer}
use Rattle.med_commands.proofs.IndexFacts.{all_nodes, stays}
use Rattle.med_commands.proofs.IndexSteps.{flat_push}

-- ---- the manifests of a node, in two contents

-- a manifest of a finished backup of the node
abbrev IsManifestOf : List ℕ → Kind → Type 0
IsManifestOf f k = is_manifest_outside f [] k ≡ true

named : (f : List ℕ) (k : Kind) → IsManifestOf f k
    → (n : List ℕ) × (k ≡ Meta f n meta_kind.Manifest)
named f (Meta g n meta_kind.Manifest) is =
    let same : g ≡ f = from_same g f (and_first (bytes_eq g f) true is) in
    (n, ap (λ (h : List ℕ). Meta h n meta_kind.Manifest) same)
named f _ is = absurd (cc is)

-- it is nothing of an index
not_of_index : (f g : List ℕ) (k : Kind) → IsManifestOf f k → IsOfIndex g k → ⊥
not_of_index f g k is h =
    let (n, kind) = named f k is in subst (IsOfIndex g) kind h

module _ (before f : List ℕ) (c d : Content)
    (same : (q : List ℕ) → IsManifestOf f (kind_of before q) → fin.get d q ≡ fin.get c q) where
  same_manifests : paths_of before d (is_manifest_outside f [])
      ≡ paths_of before c (is_manifest_outside f [])
  same_manifests =
      ap fin.keys (fin.same_map nat_list_cmp_total
      (fin.slice_cmp-IsAntisymmetric fin.nat_cmp-IsAntisymmetric) (kept d) (kept c)
      (λ q. get_kept d test q ∙ by q (test q) refl ∙ sym (get_kept c test q)))
    where
      test : List ℕ → Bool
      test q = is_manifest_outside f [] (kind_of before q)

      kept : Content → Content
      kept e = fin.retain_keys e test

      by : (q : List ℕ) (b : Bool) → test q ≡ b
          → cond b (fin.get d q) None ≡ cond b (fin.get c q) None
      by q true is = same q is
      by q false is = refl

  -- a manifest that reads in the one reads in the other
  reads_too : (path : List ℕ) → IsManifestOf f (kind_of before path) → DoesRead before c f path
      → DoesRead before d f path
  reads_too path is (files, has) =
      let (n, kind) = named f (kind_of before path) is in
      let n_is : name_in (kind_of before path) ≡ n = ap name_in kind in
      let there : path ≡ manifest before f (name_in (kind_of before path)) =
      manifest_path before path f n kind
      ∙ ap (manifest before f) (sym n_is) in (
        files,
        record {
          object = has.object;
          stands = subst (λ (q : List ℕ). fin.get d q ≡ fin.get c q) there (same path is)
              ∙ has.stands;
          names = has.names;
        },
      )

  abbrev reads_there : List ℕ → Type 0
  reads_there path = DoesRead before d f path

  all_read_too : DoAllRead before c f [] → DoAllRead before d f []
  all_read_too read =
      subst (AllByRecursion reads_there) (sym same_manifests)
      (both (paths_of before c (is_manifest_outside f []))
      (all_listed before c (is_manifest_outside f [])) read)
    where
      both : (paths : List (List ℕ))
          → AllByRecursion (IsListed before c (is_manifest_outside f [])) paths
          → AllByRecursion (DoesRead before c f) paths → AllByRecursion reads_there paths
      both [] listed all = tt
      both (p ∷ paths) listed all =
          (reads_too p listed.0.0 all.0, both paths listed.1 all.1)

  first_too : (path : List ℕ) → IsFirstUnread before c f [] path
      → (DoesRead before d f path → DoesRead before c f path)
      → IsFirstUnread before d f [] path
  first_too path first back =
      let parts = same_manifests ∙ first.paths in
      let all = all_listed before c (is_manifest_outside f []) in
      let listed = subst (AllByRecursion (IsListed before c (is_manifest_outside f [])))
      first.paths all in
      record {
        good = first.good;
        rest = first.rest;
        paths = parts;
        read = both first.good
            (all_split (IsListed before c (is_manifest_outside f [])) first.good
            (path ∷ first.rest) listed).0 first.read;
        unread = λ reads. first.unread (back reads);
      }
    where
      both : (paths : List (List ℕ))
          → AllByRecursion (IsListed before c (is_manifest_outside f [])) paths
          → AllByRecursion (DoesRead before c f) paths → AllByRecursion reads_there paths
      both [] listed all = tt
      both (p ∷ paths) listed all =
          (reads_too p listed.0.0 all.0, both paths listed.1 all.1)

-- the path of the first is that of a manifest
first_is : (before f : List ℕ) (c : Content) (path : List ℕ) → IsFirstUnread before c f [] path
    → IsManifestOf f (kind_of before path)
first_is before f c path first =
    (all_split (IsListed before c (is_manifest_outside f [])) first.good (path ∷ first.rest)
    (subst (AllByRecursion (IsListed before c (is_manifest_outside f []))) first.paths
    (all_listed before c (is_manifest_outside f [])))).1.0.0

-- there is no first where all read
none_first : (before f : List ℕ) (c : Content) (path : List ℕ) → DoAllRead before c f []
    → IsFirstUnread before c f [] path → ⊥
none_first before f c path read first =
    first.unread (all_split (DoesRead before c f) first.good (path ∷ first.rest)
    (subst (AllByRecursion (DoesRead before c f)) first.paths read)).1.0

one_path : (P : List ℕ → Type 0) (xs ys zs us : List (List ℕ)) (p q : List ℕ)
    → xs ++ p ∷ ys ≡ zs ++ q ∷ us → AllByRecursion P xs → (P p → ⊥) → AllByRecursion P zs
    → (P q → ⊥) → p ≡ q
one_path P [] ys [] us p q e good bad also worse = cc e
one_path P [] ys (z ∷ zs) us p q e good bad also worse =
    let is : p ≡ z = cc e in absurd (bad (subst P (sym is) also.0))
one_path P (x ∷ xs) ys [] us p q e good bad also worse =
    let is : x ≡ q = cc e in absurd (worse (subst P is good.0))
one_path P (x ∷ xs) ys (z ∷ zs) us p q e good bad also worse =
    let rest : xs ++ p ∷ ys ≡ zs ++ q ∷ us = cc e in
    one_path P xs ys zs us p q rest good.1 bad also.1 worse

one_first : (before f : List ℕ) (c : Content) (p q : List ℕ) → IsFirstUnread before c f [] p
    → IsFirstUnread before c f [] q → p ≡ q
one_first before f c p q a b =
    one_path (DoesRead before c f) a.good a.rest b.good b.rest p q (sym a.paths ∙ b.paths) a.read
    a.unread b.read b.unread

-- ---- after the rebuild of a node

module _ (before f g : List ℕ) (xs : List Effect) (c : Content) (reach : AreOfIndex before g xs)
  where
    same_on : (q : List ℕ) → IsManifestOf f (kind_of before q)
        → fin.get (applied xs c) q ≡ fin.get c q
    same_on q is = stays before g q xs c (not_of_index f g (kind_of before q) is) reach

    read_on : DoAllRead before c f [] → DoAllRead before (applied xs c) f []
    read_on = all_read_too before f c (applied xs c) same_on

    first_on : (path : List ℕ) → IsFirstUnread before c f [] path
        → IsFirstUnread before (applied xs c) f [] path
    first_on path first =
        first_too before f c (applied xs c) same_on path first
        (reads_too before f (applied xs c) c (λ q is. sym (same_on q is)) path
        (first_is before f c path first))

-- ---- the work on the nodes

-- an item that isn't the first stands among the others
among_rest : (x y : List ℕ) (xs : List (List ℕ)) → (x ≢ y) → Contains (x ∷ xs) y → Contains xs y
among_rest x y xs apart (zero, less, is) = absurd (apart is)
among_rest x y xs apart (suc i, less, is) = (i, omega (arith, less), is)

module _ (before : List ℕ) (c : Content) (word : ChangeLists → Type 0)
    (ending : List Rebuilt → Plan (Type 0) (Unit {0})) where
  -- the rebuilds of these nodes after those that were made, and what follows them
  abbrev from : List Rebuilt → List (List ℕ) → Plan (Type 0) (Unit {0})
  from done fs = then (said_as word (rebuilds_plan before (Some c) done fs)) ending

  -- what stands then
  abbrev now_at : List Rebuilt → Content
  now_at done = applied (all_of done) c

  one_more : (done : List Rebuilt) (row : Rebuilt)
      → now_at (done ++ row ∷ []) ≡ applied row.1 (now_at done)
  one_more done row =
      ap (λ (l : List Effect). applied l c) (flat_push (λ (r : Rebuilt). r.1) done row)
      ∙ applied_append (all_of done) row.1 c

  -- no node whose manifests read is refused
  no_refusal : (r : End) (done : List Rebuilt) (f : List ℕ) → DoAllRead before (now_at done) f []
      → (e : Refusal) → Rebuilds before f (Some (now_at done)) (Err e) → r ≡ Err (Refused e)
  no_refusal r done f read (BadManifest path) h =
      absurd (none_first before f (now_at done) path read h.1.first)
  no_refusal r done f read e h = absurd h

  -- the manifests of all nodes read: the end decides
  read_leads : (r : End) → ((rows : List Rebuilt) → Leads (ending rows) r) → (done : List Rebuilt)
      (fs : List (List ℕ)) → AllByRecursion (λ f. DoAllRead before (now_at done) f []) fs
      → Leads (from done fs) r
  read_leads r ends done [] read = ends done
  read_leads r ends done (f ∷ fs) read =
      by_answer _ _ _ (λ xs h.
      by_answer _ _ _ (λ x p. read_leads r ends (done ++ (f, xs) ∷ []) fs (still xs h.0))
      (λ e p. absurd p)) (no_refusal r done f read.0)
    where
      still : (xs : List Effect) → AreOfIndex before f xs
          → AllByRecursion (λ g. DoAllRead before (now_at (done ++ (f, xs) ∷ [])) g []) fs
      still xs reach =
          subst (λ (d : Content). AllByRecursion (λ g. DoAllRead before d g []) fs)
          (sym (one_more done (f, xs)))
          (all_with (λ g. DoAllRead before (now_at done) g [])
          (λ g. DoAllRead before (applied xs (now_at done)) g [])
          (λ g. read_on before g f xs (now_at done) reach) fs read.1)

  module _ (f path : List ℕ) where
    -- the manifests of a node before this one read
    abbrev ReadsBefore : Content → List ℕ → Type 0
    ReadsBefore d g = name_cmp g f ≡ Less → DoAllRead before d g []

    -- at the node itself
    refused_here : (done : List Rebuilt) (fs : List (List ℕ))
        → IsFirstUnread before (now_at done) f [] path
        → Leads (from done (f ∷ fs)) (Err (Refused (BadManifest path)))
    refused_here done fs first =
        by_answer _ _ _
        (λ xs h. absurd (none_first before f (now_at done) path h.1.read first)) yes
      where
        yes : (e : Refusal) → Rebuilds before f (Some (now_at done)) (Err e)
            → ◌≡◌ {A = End} (Err (Refused (BadManifest path))) (Err (Refused e))
        yes (BadManifest other) h =
            ap (λ (p : List ℕ). Err (Refused (BadManifest p)))
            (one_first before f (now_at done) path other first h.1.first)
        yes f h = absurd h

    unread_leads : (done : List Rebuilt) (fs : List (List ℕ))
        → IsFirstUnread before (now_at done) f [] path → IsStrictlySortedBy name_cmp fs
        → Contains fs f → AllByRecursion (ReadsBefore (now_at done)) fs
        → Leads (from done fs) (Err (Refused (BadManifest path)))
    unread_leads done [] first sorted (i, less, is) read = absurd (omega (arith, less))
    unread_leads done (g ∷ gs) first sorted has read =
        go (same_path g f)
        (λ apart xs reach. unread_leads (done ++ (g, xs) ∷ []) gs (on xs reach)
        (sorted_tail name_cmp g gs sorted) (among_rest g f gs apart has) (still xs reach))
      where
        below : (g ≢ f) → name_cmp g f ≡ Less
        below apart =
            All-contains (λ y. name_cmp g y ≡ Less) gs f
            (All-from_recursion (λ y. name_cmp g y ≡ Less) gs (sorted_head name_cmp g gs sorted))
            (among_rest g f gs apart has)

        still : (xs : List Effect) → AreOfIndex before g xs
            → AllByRecursion (ReadsBefore (now_at (done ++ (g, xs) ∷ []))) gs
        still xs reach =
            subst (λ (d : Content). AllByRecursion (ReadsBefore d) gs)
            (sym (one_more done (g, xs)))
            (all_with (ReadsBefore (now_at done)) (ReadsBefore (applied xs (now_at done)))
            (λ h before_f less. read_on before h g xs (now_at done) reach (before_f less)) gs
            read.1)

        on : (xs : List Effect) → AreOfIndex before g xs
            → IsFirstUnread before (now_at (done ++ (g, xs) ∷ [])) f [] path
        on xs reach =
            subst (λ (d : Content). IsFirstUnread before d f [] path)
            (sym (one_more done (g, xs))) (first_on before f g xs (now_at done) reach path first)

        go : (g ≡ f) ⊎ (g ≢ f)
            → ((g ≢ f) → (xs : List Effect) → AreOfIndex before g xs
            → Leads (from (done ++ (g, xs) ∷ []) gs) (Err (Refused (BadManifest path))))
            → Leads (from done (g ∷ gs)) (Err (Refused (BadManifest path)))
        go (inl is) next =
            subst (λ (h : List ℕ). Leads (from done (h ∷ gs)) (Err (Refused (BadManifest path))))
            (sym is) (refused_here done gs first)
        go (inr apart) next =
            by_answer _ _ _ (λ xs h.
            by_answer _ _ _ (λ x p. next apart xs h.0) (λ e p. absurd p))
            (no_refusal (Err (Refused (BadManifest path))) done g (read.0 (below apart)))

-- ---- the work on the storage

module _ (node_config : NodeConfig) (a b : World) where
  abbrev before : List ℕ
  before = node_config.before

  abbrev index_word : ChangeLists → Type 0
  index_word made = IsLeft (opened_at node_config) made a b

  abbrev index_ending : List Rebuilt → Plan (Type 0) (Unit {0})
  index_ending rows = prints (index_lines rows) (IsIndexed node_config rows a b) a b

  -- the opening of the bucket, the work on the nodes, and what follows it
  abbrev pub index_work : Plan (Type 0) (Unit {0})
  index_work =
      step {T = Unit {0}} Passed (on Storage) (IsLeft (λ s. s) IsNothing a b) (λ _.
      then (said_as index_word (nodes_plan before a.store.content)) index_ending)

  -- over a content that is told, each list of its nodes leads to this end
  over_nodes : (c : Content) (r : End) → a.store.content ≡ Some c
      → ((nodes : List (List ℕ)) → IsStrictlySortedBy name_cmp nodes → AreNodes c before nodes
      → Leads (from before c index_word index_ending [] nodes) r)
      → Leads index_work r
  over_nodes c r is leads =
      by_answer _ _ _ (λ x p.
      subst (λ (t : Option Content).
      Leads (then (said_as index_word (nodes_plan before t)) index_ending) r) (sym is)
      (by_answer _ _ _ (λ nodes h. leads nodes h.0 h.1) (λ e h. absurd h))) (λ e p. absurd p)

  pub all_read_leads : (c : Content) → a.store.content ≡ Some c
      → ((f : List ℕ) → HasBackup c before f → DoAllRead before c f [])
      → Leads index_work (Ok tt)
  all_read_leads c is read =
      over_nodes c (Ok tt) is (λ nodes sorted are.
      read_leads before c index_word index_ending (Ok tt)
      (λ rows. by_answer _ _ _ (λ x h. refl) (λ e h. absurd h)) [] nodes
      (all_nodes before c nodes (λ f. DoAllRead before c f []) are read))

  pub first_unread_leads : (c : Content) (f path : List ℕ) → a.store.content ≡ Some c
      → HasBackup c before f
      → ((g : List ℕ) → HasBackup c before g → name_cmp g f ≡ Less → DoAllRead before c g [])
      → IsFirstUnread before c f [] path
      → Leads index_work (Err (Refused (BadManifest path)))
  first_unread_leads c f path is has read first =
      over_nodes c (Err (Refused (BadManifest path))) is (λ nodes sorted are.
      unread_leads before c index_word index_ending f path [] nodes first sorted ((are f).1 has)
      (all_nodes before c nodes (λ g. name_cmp g f ≡ Less → DoAllRead before c g []) are read))
