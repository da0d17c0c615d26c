-- The calls keep an exact index, and a rebuild makes it exact.
use Rattle.std.proofs.Common.{◌≡◌, ◌^◌, ◌<◌, ◌≢◌, ◌⊎◌, ◌==◌, ℕ, Bool, true, false, cond, not, ◌&&◌, List, [], ◌∷◌, ◌++◌, Some, None, Option, refl, sym, ◌∙◌, ap, subst, inl, inr, All, bytes_eq}
use Rattle.std.specs.List.{list_any}
use Rattle.std.proofs.lemmas.List.Elements.{All-head, All-tail}
use Rattle.std.specs.FinMap as fin
use Rattle.med_base.specs.declared.layout.MetaKind.TheVariants as meta_kind
use Rattle.med_base.specs.declared.kinds.IndexKind.TheVariants as index_kind
use Rattle.med_base.specs.Classify.{kind_of}
use Rattle.med_base.specs.Content.{Content, Object}
use Rattle.med_base.specs.Effects.{Effect, applied}
use Rattle.med_base.specs.Fingerprint.{fingerprint_of}
use Rattle.med_base.specs.Kinds.{Entry, Kind, Latest, Meta, Own, Shared}
use Rattle.med_base.specs.declared.key.FileKey.{FileKey}
use Rattle.med_base.specs.declared.kinds.IndexKind.{IndexKind}
use Rattle.med_base.specs.declared.kinds.LatestKind.{LatestKind}
use Rattle.med_base.specs.declared.layout.MetaKind.{MetaKind}
use Rattle.med_core.proofs.Afters.{leaves_after}
use Rattle.med_core.proofs.SafeByKind.{finish_with}
use Rattle.med_core.proofs.Sections.{FreeByKind, IsUnder, is_owned}
use Rattle.med_core.specs.After.{content_after, is_removed}
use Rattle.med_core.specs.Claim.{changes_of_claim}
use Rattle.med_core.specs.Finish.{Checked, Fresh, checked, is_stored_as, manifest_puts, with_placing, with_record}
use Rattle.med_core.specs.Place.{Placing, is_same_print, placing, placing_over, reused, stored_own}
use Rattle.med_core.specs.Removal.{changes_of_removal}
use Rattle.med_manifest.proofs.ByKind.{FinishedByKind, HasPath, KeyByKind, NameByKind, NodeByKind, Text, at, folder, manifest, under}
use Rattle.med_manifest.proofs.Elsewhere.{AreElsewhere, applied_append, get_elsewhere}
use Rattle.med_manifest.proofs.Exacts.{AreSpots, given_same, look, look_get, manifests_by_name, mend_at, mend_done, mend_same, spots_elsewhere}
use Rattle.med_manifest.proofs.Gets.{same_itself, same_path}
use Rattle.med_manifest.proofs.IndexByKind.{ExactByKind, GivenByKind, InIndex, InMeta, Spot, puts_at, spot}
use Rattle.med_manifest.proofs.Members.{get_kept}
use Rattle.med_manifest.specs.Index.{bytes_in, empty_at, given, given_by, meta_in, started_by}
use Rattle.med_manifest.specs.Mend.{changes_of_mend, is_manifest_outside}
use Rattle.med_manifest.specs.Named.{named}
use Rattle.med_manifest.specs.declared.manifest.FileRecord.{FileRecord}

-- of these kinds the index and the meta objects are
abbrev pub IsTold : Kind → Type 0
IsTold (Meta f n e) = Unit {0}
IsTold (Entry f n e) = Unit {0}
IsTold (Latest f e) = Unit {0}
IsTold _ = ⊥

spot_names : (f m n : Text) (a b : Spot) → spot f m a ≡ spot f n b → m ≡ n
spot_names f m n (InMeta d) (InMeta e) h = cc
spot_names f m n (InIndex d) (InIndex e) h = cc
spot_names f m n _ _ h = absurd (cc)

spot_not_latest : (f n : Text) (a : Spot) (g : Text) (e : LatestKind) → (spot f n a ≢ Latest g e)
spot_not_latest f n (InMeta d) g e h = absurd (cc)
spot_not_latest f n (InIndex d) g e h = absurd (cc)

given_nothing : (e : IndexKind) → given_by None None None None e ≡ None
given_nothing index_kind.Tokenmap = refl
given_nothing index_kind.Manifest = refl
given_nothing (index_kind.Started t) = refl
given_nothing (index_kind.Finished t) = refl
given_nothing index_kind.Differential = refl

bytes_cond : (b : Bool) (o : Object) (x : Option Object) → o.bytes ≡ [] → bytes_in x ≡ None
    → bytes_in (cond b (Some o) x) ≡ cond b (Some []) None
bytes_cond true o x h e = ap (λ y. Some y) h
bytes_cond false o x h e = e

no_bytes : (o : Option Object) → bytes_in o ≡ None → o ≡ None
no_bytes None e = refl
no_bytes (Some x) e = absurd (cc)

abbrev pub object : Text → ℕ → Object
object b s = record { bytes = b; second = s }

abbrev pub claim_spots : Bool → Text → Text → (ℕ → ℕ) → List (Spot × Object)
claim_spots d schema ring t = (InMeta meta_kind.Schema, object schema (t 0))
    ∷ cond d ((InMeta meta_kind.Differential, object [] (t 1)) ∷ []) []
    ++ (InMeta meta_kind.Tokenmap, object ring (t 2)) ∷ (
      InIndex index_kind.Tokenmap,
      object ring
          (t 3),
    )
    ∷ (InIndex (index_kind.Started (t 0)), object [] (t 4))
    ∷ cond d ((InIndex index_kind.Differential, object [] (t 5)) ∷ []) []

abbrev pub finish_spots : Text → (ℕ → ℕ) → List (Spot × Object)
finish_spots b t = (InMeta meta_kind.Manifest, object b (t 0))
    ∷ (InIndex index_kind.Manifest, object b (t 1)) ∷ (
      InIndex (index_kind.Finished (t 0)),
      object [] (t 2),
    ) ∷ []

pub claim_is : (before : Text) (f n : Text) (d : Bool) (schema ring : Text) (t : ℕ → ℕ)
    → changes_of_claim before f n d schema ring t ≡ puts_at before f n (claim_spots d schema ring t)
claim_is before f n true schema ring t = refl
claim_is before f n false schema ring t = refl

claim_manifest : (d : Bool) (schema ring : Text) (t : ℕ → ℕ) (o : Option Object)
    → look (claim_spots d schema ring t) (InMeta meta_kind.Manifest) o ≡ o
claim_manifest true schema ring t o = refl
claim_manifest false schema ring t o = refl

claim_given : (d : Bool) (schema ring : Text) (t : ℕ → ℕ) (e : IndexKind)
    → bytes_in (look (claim_spots d schema ring t) (InIndex e) None)
    ≡ given_by (look (claim_spots d schema ring t) (InMeta meta_kind.Schema) None)
    (look (claim_spots d schema ring t) (InMeta meta_kind.Differential) None)
    (look (claim_spots d schema ring t) (InMeta meta_kind.Tokenmap) None)
    (look (claim_spots d schema ring t) (InMeta meta_kind.Manifest) None) e
claim_given true schema ring t index_kind.Tokenmap = refl
claim_given true schema ring t index_kind.Manifest = refl
claim_given true schema ring t (index_kind.Started s) = bytes_cond (s == t 0) (object [] (t 4)) None
    refl refl
claim_given true schema ring t (index_kind.Finished s) = refl
claim_given true schema ring t index_kind.Differential = refl
claim_given false schema ring t index_kind.Tokenmap = refl
claim_given false schema ring t index_kind.Manifest = refl
claim_given false schema ring t (index_kind.Started s) = bytes_cond (s == t 0) (object [] (t 4))
    None refl refl
claim_given false schema ring t (index_kind.Finished s) = refl
claim_given false schema ring t index_kind.Differential = refl

-- the new manifest gives two entries, and takes none where schema.cql stands
finish_given : (b : Text) (t : ℕ → ℕ) (s : Object) (k d r : Option Object) → k ≡ Some s
    → (e : IndexKind) (o : Option Object) → bytes_in o ≡ given_by k d r None e
    → bytes_in (look (finish_spots b t) (InIndex e) o) ≡ given_by k d r (Some (object b (t 0))) e
finish_given b t s k d r is index_kind.Tokenmap o h = h
finish_given b t s k d r is index_kind.Manifest o h = refl
finish_given b t s k d r is (index_kind.Started u) o h = h
    ∙ ap (λ x. empty_at (started_by x d r None) u) is
    ∙ sym (ap (λ x. empty_at (started_by x d r (Some (object b (t 0)))) u) is)
finish_given b t s k d r is (index_kind.Finished u) o h = bytes_cond (u == t 0) (object [] (t 2)) o
    refl h
finish_given b t s k d r is index_kind.Differential o h = h

gone_bool : (a b : Bool) (x : Option Object) → cond (a && true) (cond (not (a && b)) x None) None
    ≡ cond (a && not b) x None
gone_bool true true x = refl
gone_bool true false x = refl
gone_bool false b x = refl

module _ (before : Text) (f : Text) (node : NodeByKind before f) where
  -- where the index and the meta objects are the same, the index is as exact
  pub exact_same : (c d : Content) → ((k : Kind) → HasPath before k → IsTold k → is_owned f k ≡ true
      → fin.get d (at before k) ≡ fin.get c (at before k)) → ExactByKind before c f
      → ExactByKind before d f
  exact_same c d h exact = record {
    entries = λ n e has. ap bytes_in (h (Entry f n e) has tt (same_itself f))
        ∙ exact.entries n e has ∙ sym (given_same before f node d c n e (λ k. h (Meta f n k)
        (under before f n e k has) tt (same_itself f)));
    latest = λ t. mend_same before f node d c [] [] t (manifests_by_name before f node d c []
        (λ n has. h (Meta f n meta_kind.Manifest) has tt (same_itself f))) (λ e. h (Latest f e)
        (node.latest e) tt (same_itself f))
        (λ n (o, stands) out. h (Meta f n meta_kind.Tokenmap) (folder before f n meta_kind.Manifest
        meta_kind.Tokenmap stands.0) tt (same_itself f)) ∙ exact.latest t;
  }

  -- after puts at spots of (f, n)
  module _ (n : Text) (xs : List (Spot × Object)) (are : AreSpots before f n xs) (c : Content) where
    abbrev then : Content
    then = applied (puts_at before f n xs) c

    other_spot : (m : Text) (s : Spot) → HasPath before (spot f m s) → (m ≢ n)
        → fin.get then (at before (spot f m s)) ≡ fin.get c (at before (spot f m s))
    other_spot m s has apart = get_elsewhere (at before (spot f m s)) (puts_at before f n xs) c
        (spots_elsewhere before f n xs (at before (spot f m s)) are (λ b there e. apart
        (spot_names f m n s b (sym has ∙ ap (kind_of before) e ∙ there))))

    latest_spot : (e : LatestKind) → fin.get then (at before (Latest f e))
        ≡ fin.get c (at before (Latest f e))
    latest_spot e = get_elsewhere (at before (Latest f e)) (puts_at before f n xs) c
        (spots_elsewhere before f n xs (at before (Latest f e)) are (λ b there is. spot_not_latest f
        n b f e (sym there ∙ ap (kind_of before) (sym is) ∙ node.latest e)))

    pub spots_given : GivenByKind before c f
        → ((e : IndexKind) → HasPath before (Entry f n e)
        → bytes_in (look xs (InIndex e) (fin.get c (at before (Entry f n e))))
        ≡ given_by (look xs (InMeta meta_kind.Schema) (meta_in before c f n meta_kind.Schema))
        (look xs (InMeta meta_kind.Differential) (meta_in before c f n meta_kind.Differential))
        (look xs (InMeta meta_kind.Tokenmap) (meta_in before c f n meta_kind.Tokenmap))
        (look xs (InMeta meta_kind.Manifest) (meta_in before c f n meta_kind.Manifest)) e)
        → GivenByKind before then f
    spots_given exact here m e has = go (same_path m n)
      where
        look_meta : (has : HasPath before (Entry f n e)) (k : MetaKind) → meta_in before then f n k
            ≡ look xs (InMeta k) (meta_in before c f n k)
        look_meta has k = look_get before f n xs c (InMeta k) (under before f n e k has) are

        at_n : HasPath before (Entry f n e) → bytes_in (fin.get then (at before (Entry f n e)))
            ≡ given before then f n e
        at_n has = ap bytes_in (look_get before f n xs c (InIndex e) has are) ∙ here e has
            ∙ (λ i. given_by (sym (look_meta has meta_kind.Schema) i)
            (sym (look_meta has meta_kind.Differential) i) (sym (look_meta has meta_kind.Tokenmap)
            i) (sym (look_meta has meta_kind.Manifest) i) e)

        go : (m ≡ n) ⊎ (m ≢ n) → bytes_in (fin.get then (at before (Entry f m e)))
            ≡ given before then f m e
        go (inl is) = subst (λ x. HasPath before (Entry f x e)
            → bytes_in (fin.get then (at before (Entry f x e))) ≡ given before then f x e)
            (sym is) at_n has
        go (inr apart) = ap bytes_in (other_spot m (InIndex e) has apart) ∙ exact m e has
            ∙ sym (given_same before f node then c m e (λ k. other_spot m (InMeta k)
            (under before f m e k has) apart))

    pub spots_mend : ((o : Option Object) → look xs (InMeta meta_kind.Manifest) o ≡ o)
        → (FinishedByKind before c f n → ⊥) → (t : ℕ → ℕ) → changes_of_mend before then f [] t
        ≡ changes_of_mend before c f [] t
    spots_mend keeps open_yet t = mend_same before f node then c [] [] t
        (manifests_by_name before f node then c [] man) latest_spot
        (λ m (o, stands) out. other_spot m (InMeta meta_kind.Tokenmap)
        (folder before f m meta_kind.Manifest meta_kind.Tokenmap stands.0)
        (λ is. open_yet (subst (FinishedByKind before c f) is
        (o, (stands.0, sym (man m stands.0) ∙ stands.1)))))
      where
        man : (m : Text) → HasPath before (Meta f m meta_kind.Manifest)
            → fin.get then (manifest before f m) ≡ fin.get c (manifest before f m)
        man m has = go (same_path m n)
          where
            go : (m ≡ n) ⊎ (m ≢ n) → fin.get then (manifest before f m)
                ≡ fin.get c (manifest before f m)
            go (inl is) = subst (λ x. HasPath before (Meta f x meta_kind.Manifest)
                → fin.get then (manifest before f x) ≡ fin.get c (manifest before f x)) (sym is)
                (λ there. look_get before f n xs c (InMeta meta_kind.Manifest) there are ∙ keeps _)
                has
            go (inr apart) = other_spot m (InMeta meta_kind.Manifest) has apart

  -- claim
  none_free : (c : Content) (n : Text) (e : MetaKind) → HasPath before (Meta f n e)
      → FreeByKind before c f n → fin.get c (at before (Meta f n e)) ≡ None
  none_free c n e has free = go (fin.get c (at before (Meta f n e))) refl
    where
      go : (o : Option Object) → fin.get c (at before (Meta f n e)) ≡ o → o ≡ None
      go None is = refl
      go (Some o) is = absurd (free (at before (Meta f n e)) o is (subst (IsUnder f n) (sym has)
          (refl, refl)))

  pub claim_has : (n : Text) (d : Bool) (schema ring : Text) (t : ℕ → ℕ) → NameByKind before f n
      → (t 0 < 2 ^ 64) → AreSpots before f n (claim_spots d schema ring t)
  claim_has n true schema ring t named small = (
    named.meta meta_kind.Schema,
    (
      named.meta meta_kind.Differential,
      (
        named.meta meta_kind.Tokenmap,
        (
          named.entry index_kind.Tokenmap tt,
          (
            named.entry (index_kind.Started (t 0)) small,
            (named.entry index_kind.Differential tt, tt),
          ),
        ),
      ),
    ),
  )
  claim_has n false schema ring t named small = (
    named.meta meta_kind.Schema,
    (
      named.meta meta_kind.Tokenmap,
      (
        named.entry index_kind.Tokenmap tt,
        (named.entry (index_kind.Started (t 0)) small, tt),
      ),
    ),
  )

  pub claim_keeps : (c : Content) (n : Text) (d : Bool) (schema ring : Text) (t : ℕ → ℕ)
      → NameByKind before f n → FreeByKind before c f n → (t 0 < 2 ^ 64) → ExactByKind before c f
      → ExactByKind before (applied (changes_of_claim before f n d schema ring t) c) f
  claim_keeps c n d schema ring t named free small exact =
      let xs : List (Spot × Object) = claim_spots d schema ring t in
      let are : AreSpots before f n xs = claim_has n d schema ring t named small in
      let none : (k : MetaKind) → meta_in before c f n k ≡ None = λ k. none_free c n k
      (named.meta k) free in
      subst (λ l. ExactByKind before (applied l c) f) (sym (claim_is before f n d schema ring t))
      record {
        entries = spots_given n xs are c exact.entries (λ e has.
            let nothing : fin.get c (at before (Entry f n e)) ≡ None = no_bytes _
            (exact.entries n e has ∙ (λ i. given_by (none meta_kind.Schema i)
            (none meta_kind.Differential i) (none meta_kind.Tokenmap i)
            (none meta_kind.Manifest i) e) ∙ given_nothing e) in
            ap (λ o. bytes_in (look xs (InIndex e) o)) nothing ∙ claim_given d schema ring t e
            ∙ (λ i. given_by (look xs (InMeta meta_kind.Schema) (sym (none meta_kind.Schema) i))
            (look xs (InMeta meta_kind.Differential) (sym (none meta_kind.Differential) i))
            (look xs (InMeta meta_kind.Tokenmap) (sym (none meta_kind.Tokenmap) i))
            (look xs (InMeta meta_kind.Manifest) (sym (none meta_kind.Manifest) i)) e));
        latest = λ t'. spots_mend n xs are c (claim_manifest d schema ring t)
            (λ (o, stands). let no : fin.get c (manifest before f n)
            ≡ None = none meta_kind.Manifest in absurd (cc (no, stands.1))) t' ∙ exact.latest t';
      }

  -- place
  told_apart : (q : Text) (k : Kind) → HasPath before k → IsTold (kind_of before q) → (IsTold k → ⊥)
      → (q ≢ at before k)
  told_apart q k has told never e = never (subst IsTold (ap (kind_of before) e ∙ has) told)

  placing_elsewhere : (c : Content) (n : Text) (d : Bool) (k : FileKey) (b : Text) (t : ℕ)
      (q : Text) → KeyByKind before f n k → IsTold (kind_of before q)
      → AreElsewhere q (placing before f n d k b t c).changes
  placing_elsewhere c n false k b t q key told = (
    told_apart q (Own f n k) key.own told (λ x. x),
    tt,
  )
  placing_elsewhere c n true k b t q key told = go (fin.get c (at before (Shared f k)))
    where
      by : (o : Object) (x : Bool) → AreElsewhere q (cond {A = Placing} x (reused before f k b)
          (stored_own before f n k b t)).changes
      by o true = tt
      by o false = (told_apart q (Own f n k) key.own told (λ x. x), tt)

      go : (o : Option Object) → AreElsewhere q (placing_over before f n k b t o).changes
      go None = (told_apart q (Shared f k) key.shared told (λ x. x), tt)
      go (Some o) = by o (is_same_print (fingerprint_of o.bytes) (fingerprint_of b))

  pub place_keeps : (c : Content) (n : Text) (d : Bool) (k : FileKey) (b : Text) (t : ℕ)
      → KeyByKind before f n k → ExactByKind before c f → ExactByKind before
      (applied (placing before f n d k b t c).changes c) f
  place_keeps c n d k b t key exact = exact_same c _ (λ x has told own. get_elsewhere (at before x)
      (placing before f n d k b t c).changes c (placing_elsewhere c n d k b t (at before x) key
      (subst IsTold (sym has) told))) exact

  -- finish
  join_elsewhere : (q : Text) (xs ys : List Effect) → AreElsewhere q xs → AreElsewhere q ys
      → AreElsewhere q (xs ++ ys)
  join_elsewhere q [] ys h k = k
  join_elsewhere q (x ∷ xs) ys h k = (h.0, join_elsewhere q xs ys h.1 k)

  checked_elsewhere : (n : Text) (d : Bool) (x : Fresh) (q : Text) → IsTold (kind_of before q)
      → (records : List FileRecord) (c : Content) → All (λ r. KeyByKind before f n r.key) records
      → AreElsewhere q (checked before f n d x c records).changes
  checked_elsewhere n d x q told [] c keys = tt
  checked_elsewhere n d x q told (r ∷ rs) c keys = go (is_stored_as r.fingerprint
      (fin.get c r.path)) (checked_elsewhere n d x q told rs c
      (All-tail (λ y. KeyByKind before f n y.key) r rs keys))
      (checked_elsewhere n d x q told rs (applied (placing before f n d r.key (x.bytes r.key)
      (x.second r.key) c).changes c) (All-tail (λ y. KeyByKind before f n y.key) r rs keys))
    where
      go : (b : Bool) → AreElsewhere q (checked before f n d x c rs).changes
          → AreElsewhere q (checked before f n d x
          (applied (placing before f n d r.key (x.bytes r.key) (x.second r.key) c).changes c)
          rs).changes
          → AreElsewhere q (cond {A = Checked} b (with_record r (checked before f n d x c rs))
          (with_placing (placing before f n d r.key (x.bytes r.key) (x.second r.key) c)
          (checked before f n d x (applied (placing before f n d r.key (x.bytes r.key)
          (x.second r.key) c).changes c) rs))).changes
      go true h k = h
      go false h k = join_elsewhere q (placing before f n d r.key (x.bytes r.key) (x.second r.key)
          c).changes _ (placing_elsewhere c n d r.key (x.bytes r.key) (x.second r.key) q
          (All-head (λ y. KeyByKind before f n y.key) r rs keys) told) k

  pub finish_keeps : (c : Content) (n : Text) (d : Bool) (records : List FileRecord) (x : Fresh)
      (b : Text) (t u : ℕ → ℕ) → NameByKind before f n → All (λ r. KeyByKind before f n r.key)
      records → (t 0 < 2 ^ 64)
      → (s : Object) → fin.get c (at before (Meta f n meta_kind.Schema)) ≡ Some s
      → fin.get c (manifest before f n) ≡ None → ExactByKind before c f
      → ExactByKind before (applied (finish_with before f n (checked before f n d x c records) b t
      (changes_of_mend before (applied (manifest_puts before f n b t)
      (applied (checked before f n d x c records).changes c)) f [] u)) c) f
  finish_keeps c n d records x b t u named keys small s schema fresh exact =
      let found : List Effect = (checked before f n d x c records).changes in
      let c₁ : Content = applied found c in
      let puts : List Effect = manifest_puts before f n b t in
      let c₂ : Content = applied puts c₁ in
      let latest : List Effect = changes_of_mend before c₂ f [] u in
      let stays : (k : Kind) → HasPath before k → IsTold k → fin.get c₁ (at before k)
      ≡ fin.get c (at before k) = λ k has told. get_elsewhere (at before k) found c
      (checked_elsewhere n d x (at before k) (subst IsTold (sym has) told) records c keys) in
      let exact₁ : ExactByKind before c₁ f = exact_same c c₁ (λ k has told own. stays k has told)
      exact in
      let schema₁ : meta_in before c₁ f n meta_kind.Schema
      ≡ Some s = stays (Meta f n meta_kind.Schema) (named.meta meta_kind.Schema) tt ∙ schema in
      let fresh₁ : meta_in before c₁ f n meta_kind.Manifest
      ≡ None = stays (Meta f n meta_kind.Manifest) (named.meta meta_kind.Manifest) tt ∙ fresh in
      let xs : List (Spot × Object) = finish_spots b t in
      let are : AreSpots before f n xs = (
        named.meta meta_kind.Manifest,
        (
          named.entry index_kind.Manifest tt,
          (
            named.entry (index_kind.Finished (t 0)) small,
            tt,
          ),
        ),
      ) in
      let given₂ : GivenByKind before c₂ f = spots_given n xs are c₁ exact₁.entries
      (λ e has. finish_given b t s (meta_in before c₁ f n meta_kind.Schema)
      (meta_in before c₁ f n meta_kind.Differential) (meta_in before c₁ f n meta_kind.Tokenmap)
      schema₁ e (fin.get c₁ (at before (Entry f n e)))
      (exact₁.entries n e has ∙ ap (λ o. given_by (meta_in before c₁ f n meta_kind.Schema)
      (meta_in before c₁ f n meta_kind.Differential) (meta_in before c₁ f n meta_kind.Tokenmap)
      o e) fresh₁)) in
      subst (λ y. ExactByKind before y f) (sym (applied_append found (puts ++ latest) c
      ∙ applied_append puts latest c₁)) record {
        entries = λ m e has. ap bytes_in (mend_at before f node c₂ [] u (Entry f m e) has
            (λ l is. cc)) ∙ given₂ m e has
            ∙ sym (given_same before f node (applied latest c₂) c₂ m e
            (λ k. mend_at before f node c₂ [] u (Meta f m k) (under before f m e k has)
            (λ l is. cc)));
        latest = λ t'. mend_done before f node c₂ [] u t';
      }

  -- remove
  module _ (c : Content) (names named : List Text) (grace now : ℕ) (t : ℕ → ℕ) where
    abbrev mended : Content
    mended = applied (changes_of_mend before c f names t) c

    abbrev left : Content
    left = content_after before c f names named grace now t

    left_at : (k : Kind) → HasPath before k → fin.get left (at before k)
        ≡ cond (not (is_removed c f names named grace now (at before k) k))
        (fin.get mended (at before k)) None
    left_at k has = get_kept mended (λ p. not (is_removed c f names named grace now p
        (kind_of before p))) (at before k)
        ∙ ap (λ x. cond (not (is_removed c f names named grace now (at before k) x))
        (fin.get mended (at before k)) None) has

    left_spot : (n : Text) (s : Spot) → HasPath before (spot f n s) → (b : Bool)
        → list_any (bytes_eq n) names ≡ b → fin.get left (at before (spot f n s))
        ≡ cond (not b) (fin.get c (at before (spot f n s))) None
    left_spot n (InMeta e) has b is = left_at (Meta f n e) has
        ∙ (λ i. cond (not (same_itself f i && is i)) (mend_at before f node c names t (Meta f n e)
        has (λ l no. cc) i) None)
    left_spot n (InIndex e) has b is = left_at (Entry f n e) has
        ∙ (λ i. cond (not (same_itself f i && is i)) (mend_at before f node c names t (Entry f n e)
        has (λ l no. cc) i) None)

    left_man : (q : Text) (k : Kind) → kind_of before q ≡ k → cond (is_manifest_outside f [] k)
        (fin.get left q) None ≡ cond (is_manifest_outside f names k) (fin.get mended q) None
    left_man q (Meta g n meta_kind.Manifest) e = ap (λ o. cond (bytes_eq g f && true) o None)
        (get_kept mended (λ p. not (is_removed c f names named grace now p (kind_of before p))) q
        ∙ ap (λ x. cond (not (is_removed c f names named grace now q x)) (fin.get mended q) None) e)
        ∙ gone_bool (bytes_eq g f) (list_any (bytes_eq n) names) (fin.get mended q)
    left_man q _ e = refl

    left_keeps : ExactByKind before c f → ExactByKind before left f
    left_keeps exact = record {
      entries = λ n e has. entry n e has (list_any (bytes_eq n) names) refl;
      latest = λ u. mend_same before f node left mended [] names u
          (λ q. left_man q (kind_of before q) refl) (λ e. left_at (Latest f e) (node.latest e))
          (λ n (o, stands) out. ring n o stands.0 stands.1 (list_any (bytes_eq n) names) refl)
          ∙ mend_done before f node c names t u;
    }
      where
        entry : (n : Text) (e : IndexKind) → HasPath before (Entry f n e) → (b : Bool)
            → list_any (bytes_eq n) names ≡ b → bytes_in (fin.get left (at before (Entry f n e)))
            ≡ given before left f n e
        entry n e has true is =
            let none : (k : MetaKind) → meta_in before left f n k ≡ None = λ k. left_spot n
            (InMeta k) (under before f n e k has) true is in
            ap bytes_in (left_spot n (InIndex e) has true is) ∙ sym (given_nothing e)
            ∙ (λ i. given_by (sym (none meta_kind.Schema) i) (sym (none meta_kind.Differential)
            i) (sym (none meta_kind.Tokenmap) i) (sym (none meta_kind.Manifest) i) e)
        entry n e has false is = ap bytes_in (left_spot n (InIndex e) has false is)
            ∙ exact.entries n e has ∙ given_same before f node c left n e
            (λ k. sym (left_spot n (InMeta k) (under before f n e k has) false is))

        ring : (n : Text) (o : Object) → HasPath before (Meta f n meta_kind.Manifest)
            → fin.get left (manifest before f n) ≡ Some o → (b : Bool) → list_any (bytes_eq n) names
            ≡ b → fin.get left (at before (Meta f n meta_kind.Tokenmap))
            ≡ fin.get mended (at before (Meta f n meta_kind.Tokenmap))
        ring n o has stands true is = let none : fin.get left (manifest before f n)
            ≡ None = left_spot n (InMeta meta_kind.Manifest) has true is in absurd (cc)
        ring n o has stands false is =
            let there : HasPath before (Meta f n meta_kind.Tokenmap) = folder before f n
            meta_kind.Manifest meta_kind.Tokenmap has in
            left_spot n (InMeta meta_kind.Tokenmap) there false is
            ∙ sym (mend_at before f node c names t (Meta f n meta_kind.Tokenmap) there
            (λ l no. cc))

  pub remove_keeps : (c : Content) (names named : List Text) (grace now : ℕ) (t : ℕ → ℕ)
      → All (NameByKind before f) names → ExactByKind before c f → ExactByKind before
      (applied (changes_of_removal before c f names named grace now t) c) f
  remove_keeps c names named grace now t are exact = subst (λ y. ExactByKind before y f)
      (sym (leaves_after before c f names named grace now node are t))
      (left_keeps c names named grace now t exact)
