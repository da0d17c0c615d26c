-- A rebuild makes the index exact, and makes no change where it is.
use Rattle.std.proofs.Common.{◌≡◌, ◌≢◌, ◌⊎◌, ◌==◌, ℕ, Bool, true, false, cond, not, ◌||◌, List, [], ◌∷◌, ◌++◌, filter, Some, None, Option, refl, sym, ◌∙◌, ap, subst, inl, inr, Contains, is_some, true≢false, bytes_eq}
use Rattle.std.specs.List.{AllByRecursion, list_any}
use Rattle.std.proofs.lemmas.List.Elements.{All-contains, All-from_recursion, recursion_from_All, Contains-get_or}
use Rattle.std.specs.FinMap as fin
use Rattle.med_base.specs.declared.layout.MetaKind.TheVariants as meta_kind
use Rattle.med_base.specs.declared.kinds.IndexKind.TheVariants as index_kind
use Rattle.med_base.specs.declared.kinds.LatestKind.TheVariants as latest_kind
use Rattle.med_base.specs.Classify.{kind_of}
use Rattle.med_base.specs.Content.{Content, Object}
use Rattle.med_base.specs.Effects.{Effect, Removes, Stores, applied, made}
use Rattle.med_base.specs.Kinds.{Entry, Kind, Latest, Meta}
use Rattle.med_base.specs.declared.kinds.IndexKind.{IndexKind}
use Rattle.med_base.specs.declared.kinds.LatestKind.{LatestKind}
use Rattle.med_base.specs.declared.layout.MetaKind.{MetaKind}
use Rattle.med_manifest.proofs.ByKind.{FinishedByKind, HasPath, IsProper, NodeByKind, SoundByKind, StandsByKind, Text, at, folder, manifest, only, under}
use Rattle.med_manifest.proofs.Elsewhere.{applied_append, deletes_get}
use Rattle.med_manifest.proofs.Exacts.{given_same, manifests_by_name, mend_at, mend_done, mend_other, mend_same, put_done}
use Rattle.med_manifest.proofs.Gets.{equal_is, from_same, get_put_other, get_put_same, same_itself, same_path}
use Rattle.med_manifest.proofs.IndexByKind.{ExactByKind, IsGivenAs, pair_on, pairs, put_given, rebuild_by, rebuild_list}
use Rattle.med_manifest.proofs.Members.{IsListed, all_filtered, all_listed, all_so, any_same, contains_first, contains_nothing, is_listed, keys_any, passes_filter, same_any}
use Rattle.med_manifest.proofs.Newest.{IsAllOf, IsOutside, newest_outside, not_true}
use Rattle.med_manifest.specs.Index.{Entries, IsGiven, bytes_in, empty_at, given, given_to, meta_in, second_in}
use Rattle.med_manifest.specs.Listed.{paths_of, remove_if_stands, removes}
use Rattle.med_manifest.specs.Mend.{changes_of_mend, has_bytes, mend_to, mend_tokenmap, newest, put_unless}
use Rattle.med_manifest.specs.Rebuild.{is_entry_of_node, not_given}

filter_none : {X : Type 0} (test : X → Bool) (xs : List X) → AllByRecursion (λ x. test x ≡ false) xs
    → filter test xs ≡ []
filter_none test [] h = refl
filter_none test (x ∷ xs) h = ap (λ b. cond b (x ∷ filter test xs) (filter test xs)) h.0
    ∙ filter_none test xs h.1

filter_as : {X : Type 0} (g h : X → Bool) (xs : List X) → ((x : X) → g x ≡ h x) → filter g xs
    ≡ filter h xs
filter_as g h [] k = refl
filter_as g h (x ∷ xs) k = λ i. cond (k x i) (x ∷ filter_as g h xs k i) (filter_as g h xs k i)

has_bytes_is : (o : Option Object) (b : Text) → has_bytes o b ≡ true → bytes_in o ≡ Some b
has_bytes_is None b h = absurd (cc)
has_bytes_is (Some o) b h = ap (λ x. Some x) (from_same o.bytes b h)

in_keys : (G : Entries) (p b : Text) → fin.get G p ≡ Some b → Contains (fin.keys G) p
in_keys G p b e =
    let holds : fin.contains_key G p ≡ true = ap is_some e in
    same_any p (fin.keys G) (sym (keys_any G p) ∙ holds)

of_keys : (G : Entries) (p : Text) → Contains (fin.keys G) p → is_some (fin.get G p) ≡ true
of_keys G p h = keys_any G p ∙ any_same p (fin.keys G) h

pub entry_is : (before : Text) (c : Content) (f p b : Text) (k : Kind) → given_to before c f k
    ≡ Some b → is_entry_of_node f k ≡ true
entry_is before c f p b (Entry g n e) h = go (bytes_eq g f) h
  where
    go : (x : Bool) → cond x (given before c f n e) None ≡ Some b → x ≡ true
    go true k = refl
    go false k = absurd (cc)
entry_is before c f p b _ h = absurd (cc)

module _ (before : Text) (f : Text) (node : NodeByKind before f) (c : Content) (G : Entries)
    (is_given : IsGiven before c f G) where
  only_entries : (p b : Text) → fin.get G p ≡ Some b → is_entry_of_node f (kind_of before p) ≡ true
  only_entries p b e = entry_is before c f p b (kind_of before p) (sym (is_given p) ∙ e)

  at_given : (n : Text) (e : IndexKind) → HasPath before (Entry f n e)
      → fin.get G (at before (Entry f n e)) ≡ given before c f n e
  at_given n e has = is_given (at before (Entry f n e)) ∙ ap (given_to before c f) has
      ∙ ap (λ b. cond b (given before c f n e) None) (same_itself f)

  exact_at : ExactByKind before c f → (p : Text) (k : Kind) → kind_of before p ≡ k
      → is_entry_of_node f k ≡ true → bytes_in (fin.get c p) ≡ fin.get G p
  exact_at exact p (Entry g n e) is h =
      let a : g ≡ f = from_same g f h in
      let there : kind_of before p ≡ Entry f n e = is ∙ ap (λ x. Entry x n e) a in
      let here : p ≡ at before (Entry f n e) = only before p (subst IsProper (sym there) tt)
      ∙ ap (at before) there in
      let has : HasPath before (Entry f n e) = ap (kind_of before) (sym here) ∙ there in
      subst (λ q. bytes_in (fin.get c q) ≡ fin.get G q) (sym here) (exact.entries n e has
      ∙ sym (at_given n e has))
  exact_at exact p _ is h = absurd (cc)

  module _ (u : Text → ℕ) where
    abbrev put_on : Text → Option Text → List Effect
    put_on p None = []
    put_on p (Some b) = put_unless c p b (u p)

    put_first : (p : Text) (x : Option Text) (rest : List (Text × Text))
        → put_given c (pair_on p x rest) u ≡ put_on p x ++ put_given c rest u
    put_first p None rest = refl
    put_first p (Some b) rest = refl

    abbrev puts : List Text → List Effect
    puts ps = put_given c (pairs G ps) u

    puts_on : (p : Text) (ps : List Text) (d : Content) → applied (puts (p ∷ ps)) d
        ≡ applied (puts ps) (applied (put_on p (fin.get G p)) d)
    puts_on p ps d = ap (λ l. applied l d) (put_first p (fin.get G p) (pairs G ps))
        ∙ applied_append (put_on p (fin.get G p)) (puts ps) d

    step_keep : (p q : Text) (x o : Option Text) (d : Content) → fin.get G p ≡ x → fin.get G q ≡ o
        → bytes_in (fin.get d q) ≡ o → bytes_in (fin.get (applied (put_on p x) d) q) ≡ o
    step_keep p q None o d h k stands = stands
    step_keep p q (Some b) o d h k stands = go (has_bytes (fin.get c p) b)
      where
        by : (q ≡ p) ⊎ (q ≢ p) → bytes_in (fin.get (made (Stores p b (u p)) d) q) ≡ o
        by (inl e) = ap (λ y. bytes_in (fin.get (made (Stores p b (u p)) d) y)) e
            ∙ ap bytes_in (get_put_same d p b (u p)) ∙ sym h ∙ ap (fin.get G) (sym e) ∙ k
        by (inr apart) = ap bytes_in (get_put_other d p b (u p) q apart) ∙ stands

        go : (x : Bool) → bytes_in (fin.get (applied (cond x [] (Stores p b (u p) ∷ [])) d) q) ≡ o
        go true = stands
        go false = by (same_path q p)

    puts_keep : (ps : List Text) (d : Content) (q : Text) (o : Option Text) → fin.get G q ≡ o
        → bytes_in (fin.get d q) ≡ o → bytes_in (fin.get (applied (puts ps) d) q) ≡ o
    puts_keep [] d q o h stands = stands
    puts_keep (p ∷ ps) d q o h stands = ap (λ y. bytes_in (fin.get y q)) (puts_on p ps d)
        ∙ puts_keep ps (applied (put_on p (fin.get G p)) d) q o h (step_keep p q (fin.get G p) o d
        refl h stands)

    step_reach : (p b : Text) (d : Content) → (has_bytes (fin.get c p) b ≡ true
        → bytes_in (fin.get d p) ≡ Some b) → bytes_in (fin.get (applied (put_unless c p b (u p)) d)
        p) ≡ Some b
    step_reach p b d had = go (has_bytes (fin.get c p) b) refl
      where
        go : (x : Bool) → has_bytes (fin.get c p) b ≡ x
            → bytes_in (fin.get (applied (cond x [] (Stores p b (u p) ∷ [])) d) p) ≡ Some b
        go true e = had e
        go false e = ap bytes_in (get_put_same d p b (u p))

    puts_reach : (ps : List Text) (d : Content) (q b : Text) → fin.get G q ≡ Some b → Contains ps q
        → (has_bytes (fin.get c q) b ≡ true → bytes_in (fin.get d q) ≡ Some b)
        → bytes_in (fin.get (applied (puts ps) d) q) ≡ Some b
    puts_reach [] d q b h among had = absurd (contains_nothing q among)
    puts_reach (p ∷ ps) d q b h among had = ap (λ y. bytes_in (fin.get y q)) (puts_on p ps d)
        ∙ go (contains_first p q ps among)
        (λ k. puts_reach ps (applied (put_on p (fin.get G p)) d) q b h k (λ e. step_keep p q
        (fin.get G p) (Some b) d refl h (had e)))
      where
        there : p ≡ q → bytes_in (fin.get (applied (put_on p (fin.get G p)) d) q) ≡ Some b
        there e = subst (λ y. bytes_in (fin.get (applied (put_on y (fin.get G y)) d) q) ≡ Some b)
            (sym e) (ap (λ x. bytes_in (fin.get (applied (put_on q x) d) q)) h
            ∙ step_reach q b d had)

        go : (p ≡ q) ⊎ Contains ps q
            → (Contains ps q
            → bytes_in (fin.get (applied (puts ps) (applied (put_on p (fin.get G p)) d)) q)
            ≡ Some b) → bytes_in (fin.get (applied (puts ps) (applied (put_on p (fin.get G p)) d))
            q) ≡ Some b
        go (inl e) more = puts_keep ps (applied (put_on p (fin.get G p)) d) q (Some b) h (there e)
        go (inr k) more = more k

    -- elsewhere nothing changes
    step_other : (p q : Text) (x : Option Text) (d : Content) → fin.get G p ≡ x → is_entry_of_node f
        (kind_of before q) ≡ false → fin.get (applied (put_on p x) d) q ≡ fin.get d q
    step_other p q None d h other_kind = refl
    step_other p q (Some b) d h other_kind = go (has_bytes (fin.get c p) b)
      where
        apart : q ≢ p
        apart e = true≢false (sym (only_entries p b h)
            ∙ ap (λ y. is_entry_of_node f (kind_of before y)) (sym e) ∙ other_kind)

        go : (x : Bool) → fin.get (applied (cond x [] (Stores p b (u p) ∷ [])) d) q ≡ fin.get d q
        go true = refl
        go false = get_put_other d p b (u p) q apart

    puts_other : (ps : List Text) (d : Content) (q : Text) → is_entry_of_node f (kind_of before q)
        ≡ false → fin.get (applied (puts ps) d) q ≡ fin.get d q
    puts_other [] d q other_kind = refl
    puts_other (p ∷ ps) d q other_kind = ap (λ y. fin.get y q) (puts_on p ps d)
        ∙ puts_other ps (applied (put_on p (fin.get G p)) d) q other_kind
        ∙ step_other p q (fin.get G p) d refl other_kind

    puts_none : ExactByKind before c f → (ps : List Text) → puts ps ≡ []
    puts_none exact [] = refl
    puts_none exact (p ∷ ps) = put_first p (fin.get G p) (pairs G ps)
        ∙ (λ i. by (fin.get G p) refl i ++ puts_none exact ps i)
      where
        by : (x : Option Text) → fin.get G p ≡ x → put_on p x ≡ []
        by None e = refl
        by (Some b) e = put_done c p b (u p) (exact_at exact p (kind_of before p) refl
            (only_entries p b e) ∙ e)

  abbrev IsExtra : Text → Type 0
  IsExtra p = (is_entry_of_node f (kind_of before p) ≡ true) × (fin.contains_key G p ≡ false)

  extra_is : (p : Text) → Contains (not_given before c f G) p → IsExtra p
  extra_is p h = All-contains IsExtra (not_given before c f G) p (All-from_recursion IsExtra
      (not_given before c f G)
      (all_filtered (IsListed before c (is_entry_of_node f)) IsExtra
      (λ q. not (fin.contains_key G q)) (λ q e k. (k.0, not_true (fin.contains_key G q) e)) _
      (all_listed before c (is_entry_of_node f)))) h

  deletes_other : (d : Content) (q : Text) → ¬ (IsExtra q)
      → fin.get (applied (removes (not_given before c f G)) d) q ≡ fin.get d q
  deletes_other d q out = deletes_get (not_given before c f G) d q
      ∙ go (list_any (bytes_eq q) (not_given before c f G)) refl
    where
      go : (b : Bool) → list_any (bytes_eq q) (not_given before c f G) ≡ b
          → cond b None (fin.get d q) ≡ fin.get d q
      go true e = absurd (out (extra_is q (same_any q (not_given before c f G) e)))
      go false e = refl

  deletes_gone : (d : Content) (q : Text) → Contains (not_given before c f G) q
      → fin.get (applied (removes (not_given before c f G)) d) q ≡ None
  deletes_gone d q h = deletes_get (not_given before c f G) d q
      ∙ ap (λ b. cond b None (fin.get d q)) (any_same q (not_given before c f G) h)

  module _ (t : ℕ → ℕ) (u : Text → ℕ) where
    abbrev first : Content
    first = applied (changes_of_mend before c f [] t) c

    abbrev second : Content
    second = applied (removes (not_given before c f G)) first

    abbrev third : Content
    third = applied (puts u (fin.keys G)) second

    third_is : applied (rebuild_by before c f G t u) c ≡ third
    third_is = applied_append (changes_of_mend before c f [] t) (removes (not_given before c f G)
        ++ puts u (fin.keys G)) c ∙ applied_append (removes (not_given before c f G))
        (puts u (fin.keys G)) first

    tail_other : (q : Text) → is_entry_of_node f (kind_of before q) ≡ false → fin.get third q
        ≡ fin.get first q
    tail_other q other_kind = puts_other u (fin.keys G) second q other_kind ∙ deletes_other first q
        (λ e. true≢false (sym e.0 ∙ other_kind))

    third_other : (q : Text) → is_entry_of_node f (kind_of before q) ≡ false → ((e : LatestKind)
        → (kind_of before q ≢ Latest f e)) → fin.get third q ≡ fin.get c q
    third_other q other_kind apart = tail_other q other_kind ∙ mend_other before f node c [] t q
        apart

    third_meta : (n : Text) (k : MetaKind) → HasPath before (Meta f n k)
        → fin.get third (at before (Meta f n k)) ≡ fin.get c (at before (Meta f n k))
    third_meta n k has = third_other (at before (Meta f n k)) (ap (is_entry_of_node f) has)
        (λ e is. let none : Meta f n k ≡ Latest f e = sym has ∙ is in cc)

    third_entry : (n : Text) (e : IndexKind) → HasPath before (Entry f n e) → (o : Option Text)
        → fin.get G (at before (Entry f n e)) ≡ o
        → bytes_in (fin.get third (at before (Entry f n e))) ≡ o
    third_entry n e has (Some b) is =
        let q : Text = at before (Entry f n e) in
        let stays : fin.get second q ≡ fin.get c q = deletes_other first q
        (λ x. let some : fin.contains_key G q ≡ true = ap is_some is in
        true≢false (sym some ∙ x.1)) ∙ mend_at before f node c [] t (Entry f n e) has
        (λ l k. cc) in
        puts_reach u (fin.keys G) second q b is (in_keys G q b is) (λ h. ap bytes_in stays
        ∙ has_bytes_is (fin.get c q) b h)
    third_entry n e has None is = puts_keep u (fin.keys G) second q None is
        (ap bytes_in (by (fin.get c q) refl))
      where
        q : Text
        q = at before (Entry f n e)

        stays : fin.get first q ≡ fin.get c q
        stays = mend_at before f node c [] t (Entry f n e) has (λ l k. cc)

        by : (o : Option Object) → fin.get c q ≡ o → fin.get second q ≡ None
        by None h = deletes_get (not_given before c f G) first q
            ∙ ap (λ o. cond (list_any (bytes_eq q) (not_given before c f G)) None o) (stays ∙ h)
            ∙ either (list_any (bytes_eq q) (not_given before c f G))
          where
            either : (b : Bool) → ◌≡◌ {A = Option Object} (cond b None None) None
            either true = refl
            either false = refl
        by (Some o) h = deletes_gone first q (passes_filter (λ p. not (fin.contains_key G p)) q
            (paths_of before c (is_entry_of_node f)) (ap (λ x. not (is_some x)) is)
            (is_listed before c (is_entry_of_node f) q o (ap (is_entry_of_node f) has
            ∙ same_itself f) h))

    third_exact : ExactByKind before third f
    third_exact = record {
      entries = λ n e has. third_entry n e has (given before c f n e) (at_given n e has)
          ∙ sym (given_same before f node third c n e (λ k. third_meta n k
          (under before f n e k has)));
      latest = λ t'. mend_same before f node third first [] [] t'
          (manifests_by_name before f node third first [] (λ n has. tail_other (manifest before f n)
          (ap (is_entry_of_node f) has)))
          (λ e. tail_other (at before (Latest f e)) (ap (is_entry_of_node f) (node.latest e)))
          (λ n (o, stands) out. tail_other (at before (Meta f n meta_kind.Tokenmap))
          (ap (is_entry_of_node f) (folder before f n meta_kind.Manifest meta_kind.Tokenmap
          stands.0)))
          ∙ mend_done before f node c [] t t';
    }

    pub rebuild_reaches : ExactByKind before (applied (rebuild_by before c f G t u) c) f
    rebuild_reaches = subst (λ x. ExactByKind before x f) (sym third_is) third_exact

    pub rebuild_other : (q : Text) → is_entry_of_node f (kind_of before q) ≡ false
        → ((e : LatestKind) → (kind_of before q ≢ Latest f e))
        → fin.get (applied (rebuild_by before c f G t u) c) q ≡ fin.get c q
    rebuild_other q other_kind apart = ap (λ x. fin.get x q) third_is
        ∙ third_other q other_kind apart

    pub rebuild_nothing : ExactByKind before c f → rebuild_by before c f G t u ≡ []
    rebuild_nothing exact = λ i. exact.latest t i ++ (removes (no_extra i) ++ puts_none u exact
        (fin.keys G) i)
      where
        by : (p : Text) (o : Option Object) (x : Option Text) → bytes_in o ≡ x
            → ((y : Object) × (o ≡ Some y)) → not (is_some x) ≡ false
        by p o x e (y, is) = ap (λ z. not (is_some z)) (sym e)
            ∙ ap (λ z. not (is_some (bytes_in z))) is

        no_extra : not_given before c f G ≡ []
        no_extra = filter_none (λ p. not (fin.contains_key G p))
            (paths_of before c (is_entry_of_node f))
            (all_so (IsListed before c (is_entry_of_node f)) (λ p. not (fin.contains_key G p)
            ≡ false)
            (λ p k. by p (fin.get c p) (fin.get G p) (exact_at exact p (kind_of before p) refl k.0)
            k.1) _ (all_listed before c (is_entry_of_node f)))

    -- the list is one of the law's
    with_pairs : (p : Text) (ps : List Text) → AllByRecursion (λ x. is_some (fin.get G x) ≡ true) ps
        → list_any (λ (e : Text × Text). bytes_eq p e.0) (pairs G ps) ≡ list_any (bytes_eq p) ps
    with_pairs p [] h = refl
    with_pairs p (x ∷ ps) h = go (fin.get G x) h.0 (with_pairs p ps h.1)
      where
        go : (o : Option Text) → is_some o ≡ true → list_any (λ (e : Text × Text). bytes_eq p e.0)
            (pairs G ps) ≡ list_any (bytes_eq p) ps → list_any (λ (e : Text × Text). bytes_eq p e.0)
            (pair_on x o (pairs G ps)) ≡ (bytes_eq p x || list_any (bytes_eq p) ps)
        go None e more = absurd (true≢false (sym e))
        go (Some b) e more = ap (λ y. bytes_eq p x || y) more

    all_keys : AllByRecursion (λ x. is_some (fin.get G x) ≡ true) (fin.keys G)
    all_keys = recursion_from_All (λ x. is_some (fin.get G x) ≡ true) (fin.keys G)
        (λ k d lt. of_keys G _ (Contains-get_or (fin.keys G) k d lt))

    pub rebuild_is : rebuild_by before c f G t u ≡ rebuild_list before c f (pairs G (fin.keys G)) t
        u
    rebuild_is = ap (λ l. changes_of_mend before c f [] t ++ (removes l ++ puts u (fin.keys G)))
        (filter_as (λ p. not (fin.contains_key G p))
        (λ p. not (list_any (λ (e : Text × Text). bytes_eq p e.0) (pairs G (fin.keys G))))
        (paths_of before c (is_entry_of_node f))
        (λ p. ap not (keys_any G p ∙ sym (with_pairs p (fin.keys G) all_keys))))

-- each pair is an entry that a backup gives
module _ (before : Text) (f : Text) (c : Content) (G : Entries) (is_given : IsGiven before c f G)
  where
    there : (g n : Text) (e : IndexKind) (k : MetaKind) (p : Text) → kind_of before p ≡ Entry g n e
        → g ≡ f → HasPath before (Meta f n k)
    there g n e k p is a =
        let here : kind_of before p ≡ Entry f n e = is ∙ ap (λ x. Entry x n e) a in
        under before f n e k (subst (λ q. kind_of before q ≡ Entry f n e)
        (only before p (subst IsProper (sym here) tt) ∙ ap (at before) here) here)

    with_bytes : (n b : Text) (k : MetaKind) → HasPath before (Meta f n k) → (o : Option Object)
        → meta_in before c f n k ≡ o → bytes_in o ≡ Some b → (x : Object) × StandsByKind before c
        (Meta f n k) x × (x.bytes ≡ b)
    with_bytes n b k has None is e = absurd (cc)
    with_bytes n b k has (Some o) is e = (o, (has, is), cc)

    with_second : (n b : Text) (t : ℕ) → HasPath before (Meta f n meta_kind.Manifest)
        → (o : Option Object) → meta_in before c f n meta_kind.Manifest ≡ o
        → empty_at (second_in o) t
        ≡ Some b → (x : Object) × StandsByKind before c (Meta f n meta_kind.Manifest) x
        × (x.second ≡ t)
    with_second n b t has None is e = absurd (cc)
    with_second n b t has (Some o) is e = (o, (has, is), go (t == o.second) refl e)
      where
        go : (x : Bool) → (t == o.second) ≡ x → cond x (Some []) None ≡ Some b → o.second ≡ t
        go true h k = sym (equal_is t o.second h)
        go false h k = absurd (cc)

    given_as : (p b : Text) (k : Kind) → kind_of before p ≡ k → given_to before c f k ≡ Some b
        → IsGivenAs before c f b k
    given_as p b (Entry g n e) is h = go (bytes_eq g f) refl h
      where
        by : (x : IndexKind) → kind_of before p ≡ Entry g n x → g ≡ f → given before c f n x
            ≡ Some b
            → IsGivenAs before c f b (Entry g n x)
        by index_kind.Tokenmap here a k = (
          a,
          with_bytes n b meta_kind.Tokenmap
              (there g n index_kind.Tokenmap meta_kind.Tokenmap p here a)
              (meta_in before c f n meta_kind.Tokenmap) refl k,
        )
        by index_kind.Manifest here a k = (
          a,
          with_bytes n b meta_kind.Manifest
              (there g n index_kind.Manifest meta_kind.Manifest p here a)
              (meta_in before c f n meta_kind.Manifest) refl k,
        )
        by (index_kind.Finished t) here a k = (
          a,
          with_second n b t (there g n (index_kind.Finished t) meta_kind.Manifest p here a)
              (meta_in before c f n meta_kind.Manifest) refl k,
        )
        by _ here a k = a

        go : (x : Bool) → bytes_eq g f ≡ x → cond x (given before c f n e) None ≡ Some b
            → IsGivenAs before c f b (Entry g n e)
        go true a k = by e is (from_same g f a) k
        go false a k = absurd (cc)
    given_as p b _ is h = absurd (cc)

    pub pairs_given : (ps : List Text) → AllByRecursion (λ e. IsGivenAs before c f e.1
        (kind_of before e.0)) (pairs G ps)
    pairs_given [] = tt
    pairs_given (p ∷ ps) = go (fin.get G p) refl (pairs_given ps)
      where
        go : (o : Option Text) → fin.get G p ≡ o → AllByRecursion (λ e. IsGivenAs before c f e.1
            (kind_of before e.0)) (pairs G ps) → AllByRecursion (λ e. IsGivenAs before c f e.1
            (kind_of before e.0)) (pair_on p o (pairs G ps))
        go None e more = more
        go (Some b) e more = (given_as p b (kind_of before p) refl (sym (is_given p) ∙ e), more)

-- an exact index is sound
module _ (before : Text) (f : Text) (node : NodeByKind before f) (c : Content) where
  pub exact_sound : ExactByKind before c f → SoundByKind before c f
  exact_sound exact = record {
    entry = λ n o (has, stands). bytes_there n o has (fin.get c (manifest before f n)) refl
        (sym (ap bytes_in stands) ∙ exact.entries n index_kind.Manifest has);
    finished = λ n t o (has, stands). second_there n t has (fin.get c (manifest before f n)) refl
        (sym (ap bytes_in stands) ∙ exact.entries n (index_kind.Finished t) has);
    latest = λ o (has, stands). named o stands (newest before c f []) (newest_outside before c f [])
        (exact.latest (λ i. 0));
  }
    where
      bytes_there : (n : Text) (o : Object) → HasPath before (Entry f n index_kind.Manifest)
          → (x : Option Object) → fin.get c (manifest before f n) ≡ x → Some o.bytes ≡ bytes_in x
          → (y : Object) × StandsByKind before c (Meta f n meta_kind.Manifest) y
          × (y.bytes ≡ o.bytes)
      bytes_there n o has None is e = absurd (cc)
      bytes_there n o has (Some y) is e =
          (y, (under before f n index_kind.Manifest meta_kind.Manifest has, is), cc)

      second_there : {b : Text} (n : Text) (t : ℕ)
          → HasPath before (Entry f n (index_kind.Finished t)) → (x : Option Object)
          → fin.get c (manifest before f n) ≡ x → Some b ≡ empty_at (second_in x) t → (y : Object)
          × StandsByKind before c (Meta f n meta_kind.Manifest) y × (y.second ≡ t)
      second_there n t has None is e = absurd (cc)
      second_there n t has (Some y) is e = (
        y,
        (under before f n (index_kind.Finished t) meta_kind.Manifest has, is),
        by
            (t == y.second) refl e,
      )
        where
          by : {b : Text} (x : Bool) → (t == y.second) ≡ x → Some b ≡ cond x (Some []) None
              → y.second ≡ t
          by true h k = sym (equal_is t y.second h)
          by false h k = absurd (cc)

      named : (o : Object) → fin.get c (at before (Latest f latest_kind.Name)) ≡ Some o
          → (a : Option (ℕ × Text)) → IsAllOf (IsOutside before c f []) a → mend_to before c f a
          (λ i. 0) ≡ [] → FinishedByKind before c f o.bytes
      named o stands None h e =
          let more : Removes (at before (Latest f latest_kind.Name)) ∷ remove_if_stands c
          (at before (Latest f latest_kind.Tokenmap))
          ≡ [] = ap (λ x. cond (is_some x) (Removes (at before (Latest f latest_kind.Name))
          ∷ []) [] ++ remove_if_stands c (at before (Latest f latest_kind.Tokenmap)))
          (sym stands) ∙ e in
          absurd (cc)
      named o stands (Some a) h e = go (bytes_eq o.bytes a.1) refl
          (ap (λ x. cond (has_bytes x a.1) [] (Stores (at before (Latest f latest_kind.Name)) a.1 0
          ∷ []) ++ mend_tokenmap before c f (fin.get c (at before (Meta f a.1 meta_kind.Tokenmap)))
          0) (sym stands) ∙ e)
        where
          go : (x : Bool) → bytes_eq o.bytes a.1 ≡ x
              → cond x [] (Stores (at before (Latest f latest_kind.Name)) a.1 0 ∷ [])
              ++ mend_tokenmap before c f (fin.get c (at before (Meta f a.1 meta_kind.Tokenmap))) 0
              ≡ [] → FinishedByKind before c f o.bytes
          go true is k = subst (FinishedByKind before c f) (sym (from_same o.bytes a.1 is)) h.0
          go false is k = absurd (cc)
