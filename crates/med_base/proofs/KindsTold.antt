-- Each path is of the kind that is told of it, and of no other.
use Rattle.std.proofs.Common.{◌≡◌, ◌&&◌, ◌∙◌, ℕ, Bool, true, false, cond, List, [], ◌∷◌, ◌++◌, codes, bytes_eq, Option, Some, None, is_none, option_map, option_and_then, unwrap_or, append_assoc, refl, sym, subst, ap, true≢false}
use Rattle.std.proofs.lemmas.Slice.Eq.{bytes_eq-Decides}
use Rattle.std.proofs.lemmas.Bool.{and_parts}
use Rattle.med_base.specs.declared.key.FileKey.{FileKey}
use Rattle.med_base.specs.declared.layout.MetaKind.{MetaKind}
use Rattle.med_base.specs.Key.{IsKey}
use Rattle.med_base.specs.Names.{backup_fault}
use Rattle.med_base.specs.Kinds.{Kind, Shared, Own, Meta, Stray, Other, IsFqdn, IsBackupName, path_of}
use Rattle.med_base.specs.KindRelation.{IsUnbuilt, IsInBackup, IsOfKind}
use Rattle.med_base.specs.Classify.{is_component, pair_of, valid_key, key_of, meta_of, backup_kind, node_kind, kind_of}
use Rattle.med_base.specs.Layout.{node_folder, meta_file}
use Rattle.med_base.specs.Prefix.{parts}
use Rattle.med_base.proofs.Paths.{HasNoSlash, same_parts, same_rest}
use Rattle.med_base.proofs.Slashes.{slash_within, CutAt, whole, around, cut_at_slash, parts_whole, parts_around, pair_of_more}
use Rattle.med_base.proofs.EntryLemmas.{then_is}
use Rattle.med_base.proofs.MetaLemmas.{meta_of_parts, meta_is}
use Rattle.med_base.proofs.NameLemmas.{backup_no_slash}
use Rattle.med_base.proofs.KindsMade.{built_is_told, nested, shared_flat, own_flat, meta_flat}
use Rattle.med_base.proofs.Options.{none_by_test}

-- ---- from the kind to the text

pub pair_is : (t : List ℕ) (p : List ℕ × List ℕ) → pair_of (parts t) ≡ Some p → t ≡ p.0 ++ 47 ∷ p.1
pair_is t p e = elim (cut_at_slash t) [
  | whole h ↦ let bad : None ≡ Some p = sym (ap pair_of (parts_whole t h)) ∙ e in absurd (cc)
  | around x rest h is ↦ second x rest is (ap pair_of (ap parts is ∙ parts_around x rest h))
      (cut_at_slash rest)
]
  where
    second : (x rest : List ℕ) → t ≡ x ++ 47 ∷ rest → pair_of (parts t) ≡ pair_of (x ∷ parts rest)
        → CutAt rest → t ≡ p.0 ++ 47 ∷ p.1
    second x rest is from (whole h) =
        let same : ◌≡◌ {A = Option (List ℕ × List ℕ)} (Some (x, rest)) (Some p) = sym
        (ap (λ ps. pair_of (x ∷ ps)) (parts_whole rest h)) ∙ sym from ∙ e in
        let both : ◌≡◌ {A = List ℕ × List ℕ} (x, rest) p = cc in
        is ∙ ap (λ (q : List ℕ × List ℕ). q.0 ++ 47 ∷ q.1) both
    second x rest is from (around y more h js) =
        let bad : None ≡ Some p = sym
        (ap (λ ps. pair_of (x ∷ ps)) (ap parts js ∙ parts_around y more h)
        ∙ pair_of_more x y more) ∙ sym from ∙ e in
        absurd (cc)

-- the key is one, and its file lies there
pub record IsKeyAt (t : List ℕ) (key : FileKey) : Type 0 where
  pub valid : IsKey key
  pub text : t ≡ nested key

valid_key_is : (keyspace : List ℕ) (p : List ℕ × List ℕ) (key : FileKey)
    → valid_key keyspace p ≡ Some key
    → IsKey key × (keyspace ++ 47 ∷ (p.0 ++ 47 ∷ p.1) ≡ nested key)
valid_key_is keyspace p key e = go (is_component keyspace && (is_component p.0 && is_component p.1))
    refl e
  where
    go : (b : Bool) → (is_component keyspace && (is_component p.0 && is_component p.1)) ≡ b
        → cond b (Some (record { keyspace = keyspace; table = p.0; file = p.1 })) None ≡ Some key
        → IsKey key × (keyspace ++ 47 ∷ (p.0 ++ 47 ∷ p.1) ≡ nested key)
    go true is k =
        let first = and_parts (is_component keyspace) (is_component p.0 && is_component p.1) is in
        let rest = and_parts (is_component p.0) (is_component p.1) first.1 in
        let made : FileKey = record { keyspace = keyspace; table = p.0; file = p.1 } in
        let same : made ≡ key = cc in
        let valid : IsKey made = record {
          keyspace = none_by_test _ first.0;
          table = none_by_test _ rest.0;
          file = none_by_test _ rest.1;
        } in (
          subst IsKey same valid,
          ap nested same,
        )
    go false is k = absurd (cc)

key_is : (t : List ℕ) (key : FileKey) → key_of (parts t) ≡ Some key → IsKeyAt t key
key_is t key e = elim (cut_at_slash t) [
  | whole h ↦ let bad : None ≡ Some key = sym (ap key_of (parts_whole t h)) ∙ e in absurd (cc)
  | around x rest h is ↦
      let found : option_and_then (valid_key x) (pair_of (parts rest)) ≡ Some key = sym
      (ap key_of (ap parts is ∙ parts_around x rest h)) ∙ e in
      let (p, pair, made) = then_is (valid_key x) (pair_of (parts rest)) key found in
      let valid = valid_key_is x p key made in
      record { valid = valid.0; text = is ∙ ap (λ r. x ++ 47 ∷ r) (pair_is rest p pair) ∙ valid.1 }
]

-- ---- what has no builder

-- the kind that is told of the path is the path's
abbrev pub Told : List ℕ → List ℕ → Kind → Type 0
Told before path k = kind_of before path ≡ k → IsOfKind before path k

pub by_cond : (P : Kind → Type 0) (b : Bool) (x y : Kind) → (b ≡ true → P x) → (b ≡ false → P y)
    → P (cond b x y)
by_cond P true x y h k = h refl
by_cond P false x y h k = k refl

-- a kind made of what was found, or else another
pub by_option : {X : Type 0} (P : Kind → Type 0) (make : X → Kind) (o : Option X) (fallback : Kind)
    → ((x : X) → o ≡ Some x → P (make x)) → P fallback → P (unwrap_or (option_map make o) fallback)
by_option P make None fallback h k = k
by_option P make (Some x) fallback h k = h x refl

-- a kind that was found, or else another
pub by_kind : (P : Kind → Type 0) (o : Option Kind) (fallback : Kind)
    → ((x : Kind) → o ≡ Some x → P x) → P fallback → P (unwrap_or o fallback)
by_kind P None fallback h k = k
by_kind P (Some x) fallback h k = h x refl

pub no_builder : (before path : List ℕ) (k : Kind) → path_of before k ≡ None
    → kind_of before path ≡ k → IsUnbuilt before path
no_builder before path k none is j b =
    let same : j ≡ k = sym (built_is_told before path j b) ∙ is in
    let bad : None ≡ Some path = sym none ∙ ap (path_of before) (sym same) ∙ b.built in
    absurd (cc)

pub folder_flat : (before f rest : List ℕ)
    → node_folder before f ++ rest ≡ before ++ (f ++ 47 ∷ rest)
folder_flat before f rest = simp append_assoc

-- a path whose first component is no node's name lies in the folder of no node
pub other_outside : (before path text : List ℕ) → path ≡ before ++ text
    → ((f rest : List ℕ) → IsFqdn f → text ≡ f ++ 47 ∷ rest → ⊥)
    → kind_of before path ≡ Other → IsOfKind before path Other
other_outside before path text is not told = record {
  outside = λ f rest h under. not f rest h
      (same_rest before text (f ++ 47 ∷ rest) (sym is ∙ under ∙ folder_flat before f rest));
  unbuilt = no_builder before path Other refl told;
}

-- ---- in the folder of a node

module _ (before path f rest : List ℕ) (node : IsFqdn f) (is : path ≡ before ++ (f ++ 47 ∷ rest))
  where
    stray : (n : Option (List ℕ)) → IsInBackup rest n → Told before path (Stray f n)
    stray n backup told = record {
      node = node;
      rest = rest;
      under = is ∙ sym (folder_flat before f rest);
      backup = backup;
      unbuilt = no_builder before path (Stray f n) refl told;
    }

    stray_alone : HasNoSlash rest → Told before path (Stray f None)
    stray_alone h = stray None (λ n more valid e. slash_within n more (subst HasNoSlash e h))

    -- the first component is no backup's name
    stray_under : (part more : List ℕ) → HasNoSlash part → rest ≡ part ++ 47 ∷ more
        → (IsBackupName part → ⊥) → Told before path (Stray f None)
    stray_under part more h stands not = stray None (λ n m valid e.
        let same = same_parts n part m more (backup_no_slash n valid) h (sym e ∙ stands) in
        not (subst IsBackupName same.0 valid))

    shared : (more : List ℕ) → rest ≡ codes "data" ++ 47 ∷ more → (key : FileKey)
        → key_of (parts more) ≡ Some key → Told before path (Shared f key)
    shared more stands key found told =
        let k = key_is more key found in
        record {
          valid = (node, k.valid);
          built = ap Some (shared_flat before f key
              ∙ ap (λ t. before ++ (f ++ 47 ∷ (codes "data" ++ 47 ∷ t))) (sym k.text)
              ∙ ap (λ t. before ++ (f ++ 47 ∷ t)) (sym stands) ∙ sym is);
        }

    -- ---- in the folder of a backup

    module _ (n more : List ℕ) (backup : IsBackupName n) (stands : rest ≡ n ++ 47 ∷ more) where
      in_backup_stray : Told before path (Stray f (Some n))
      in_backup_stray = stray (Some n) (backup, (more, stands))

      built_there : (t : List ℕ) → more ≡ t → before ++ (f ++ 47 ∷ (n ++ 47 ∷ t)) ≡ path
      built_there t e = ap (λ t. before ++ (f ++ 47 ∷ (n ++ 47 ∷ t))) (sym e)
          ∙ ap (λ t. before ++ (f ++ 47 ∷ t)) (sym stands) ∙ sym is

      own : (last : List ℕ) → more ≡ codes "data" ++ 47 ∷ last → (key : FileKey)
          → key_of (parts last) ≡ Some key → Told before path (Own f n key)
      own last e key found told =
          let k = key_is last key found in
          record {
            valid = (node, backup, k.valid);
            built = ap Some (own_flat before f n key
                ∙ built_there (codes "data" ++ 47 ∷ nested key)
                (e ∙ ap (λ t. codes "data" ++ 47 ∷ t) k.text));
          }

      meta : (last : List ℕ) → more ≡ codes "meta" ++ 47 ∷ last → (kind : MetaKind)
          → meta_of (parts last) ≡ Some kind → Told before path (Meta f n kind)
      meta last e kind found told = record {
        valid = (node, backup);
        built = ap Some (meta_flat before f n kind
            ∙ built_there (codes "meta" ++ 47 ∷ meta_file kind)
            (e ∙ ap (λ t. codes "meta" ++ 47 ∷ t)
            (meta_is last kind (sym (meta_of_parts last) ∙ found))));
      }

      backup_alone : (part : List ℕ) → backup_kind f n (part ∷ []) ≡ Stray f (Some n)
      backup_alone part = go (bytes_eq part (codes "data")) (bytes_eq part (codes "meta"))
        where
          go : (a b : Bool) → cond a (Stray f (Some n))
              (cond b (Stray f (Some n)) (Stray f (Some n))) ≡ Stray f (Some n)
          go true b = refl
          go false true = refl
          go false false = refl

      backup_told : Told before path (backup_kind f n (parts more))
      backup_told = elim (cut_at_slash more) [
        | whole h ↦ subst (Told before path)
            (sym (ap (backup_kind f n) (parts_whole more h) ∙ backup_alone more)) in_backup_stray
        | around part last h e ↦
            subst (Told before path)
            (sym (ap (backup_kind f n) (ap parts e ∙ parts_around part last h)))
            (by_cond (Told before path) (bytes_eq part (codes "data")) _ _
            (λ word. let is_data = e ∙ ap (λ w. w ++ 47 ∷ last)
            ((bytes_eq-Decides part (codes "data")).0 word) in
            by_option (Told before path) (Own f n) (key_of (parts last)) (Stray f (Some n))
            (own last is_data) in_backup_stray)
            (λ _. by_cond (Told before path) (bytes_eq part (codes "meta")) _ _
            (λ word. let is_meta = e ∙ ap (λ w. w ++ 47 ∷ last)
            ((bytes_eq-Decides part (codes "meta")).0 word) in
            by_option (Told before path) (Meta f n) (meta_of (parts last)) (Stray f (Some n))
            (meta last is_meta) in_backup_stray)
            (λ _. in_backup_stray)))
      ]

    node_alone : (part : List ℕ) → node_kind f (part ∷ []) ≡ Stray f None
    node_alone part = go (bytes_eq part (codes "data")) (is_none (backup_fault part))
      where
        go : (a b : Bool) → cond a (Stray f None) (cond b (Stray f None) (Stray f None)) ≡ Stray f
            None
        go true b = refl
        go false true = refl
        go false false = refl

    not_backup : (part : List ℕ) → is_none (backup_fault part) ≡ false → IsBackupName part → ⊥
    not_backup part bad valid = true≢false (sym (ap is_none valid) ∙ bad)

    pub node_told : Told before path (node_kind f (parts rest))
    node_told = elim (cut_at_slash rest) [
      | whole h ↦ subst (Told before path)
          (sym (ap (node_kind f) (parts_whole rest h) ∙ node_alone rest)) (stray_alone h)
      | around part more h e ↦
          subst (Told before path) (sym (ap (node_kind f) (ap parts e ∙ parts_around part more h)))
          (by_cond (Told before path) (bytes_eq part (codes "data")) _ _
          (λ word. let is_data = (bytes_eq-Decides part (codes "data")).0 word in
          by_option (Told before path) (Shared f) (key_of (parts more)) (Stray f None)
          (shared more (e ∙ ap (λ w. w ++ 47 ∷ more) is_data))
          (stray_under part more h e
          (λ valid. let bad : IsBackupName (codes "data") = subst IsBackupName is_data valid in
          absurd (cc))))
          (λ _. by_cond (Told before path) (is_none (backup_fault part))
          (backup_kind f part (parts more)) (Stray f None)
          (λ yes. backup_told part more (none_by_test (backup_fault part) yes) e)
          (λ bad. stray_under part more h e (not_backup part bad))))
    ]
