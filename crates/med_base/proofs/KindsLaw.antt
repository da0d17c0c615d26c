-- Each path is of exactly one kind, and `kind_of` tells it.
use Rattle.std.proofs.Common.{◌≡◌, ◌∙◌, ℕ, Bool, true, false, cond, List, [], ◌∷◌, ◌++◌, codes, bytes_eq, Option, Some, None, is_none, option_map, option_and_then, unwrap_or, refl, sym, subst, ap, ap₂, true≢false}
use Rattle.std.proofs.lemmas.Slice.Eq.{bytes_eq-Decides}
use Rattle.med_base.specs.Entries.{behind, entry_of}
use Rattle.med_base.specs.Names.{fqdn_fault, backup_fault}
use Rattle.med_base.specs.Kinds.{Kind, Shared, Own, Meta, Entry, Latest, Stray, Other, IsFqdn}
use Rattle.med_base.specs.KindRelation.{IsInBackup, IsStray, IsOther, IsOfKind, KindsAreTold, PathsAreApart}
use Rattle.med_base.specs.Classify.{pair_of, node_kind, entry_kind, latest_kind, index_kind, kind_below, kind_of}
use Rattle.med_base.specs.Prefix.{parts}
use Rattle.med_base.proofs.Paths.{HasNoSlash, same_parts, same_rest}
use Rattle.med_base.proofs.Slashes.{slash_within, no_slash_by_test, whole, around, cut_at_slash, parts_whole, parts_around}
use Rattle.med_base.proofs.PieceLemmas.{behind_is, behind_made}
use Rattle.med_base.proofs.EntryLemmas.{then_is, map_is, entry_is}
use Rattle.med_base.proofs.MetaLemmas.{latest_is, latest_found}
use Rattle.med_base.proofs.NameLemmas.{fqdn_no_slash, backup_no_slash}
use Rattle.med_base.proofs.KindsMade.{built_is_told, entry_if_fqdn, entry_flat, latest_flat}
use Rattle.med_base.proofs.KindsTold.{pair_is, Told, by_cond, by_kind, no_builder, folder_flat, other_outside, node_told}
use Rattle.med_base.proofs.Options.{none_by_test}

some_if : {X : Type 0} (b : Bool) (o : Option X) (v : X) → cond b o None ≡ Some v → (b ≡ true)
    × (o ≡ Some v)
some_if true o v e = (refl, e)
some_if false o v e = absurd (cc)

index_is_plain : HasNoSlash (codes "index")
index_is_plain = no_slash_by_test (codes "index") refl

-- ---- in the folder of the index

module _ (before path rest : List ℕ) (is : path ≡ before ++ (codes "index" ++ 47 ∷ rest)) where
  index_other : Told before path Other
  index_other = other_outside before path (codes "index" ++ 47 ∷ rest) is (λ f more valid e.
      let same = same_parts (codes "index") f rest more index_is_plain (fqdn_no_slash f valid) e in
      let bad : IsFqdn (codes "index") = subst IsFqdn (sym same.0) valid in
      absurd (cc))

  stands_at : (t u : List ℕ) → rest ≡ t → t ≡ u → before ++ (codes "index" ++ 47 ∷ u) ≡ path
  stands_at t u e h = ap (λ t. before ++ (codes "index" ++ 47 ∷ t)) (sym (e ∙ h)) ∙ sym is

  entry_told : (text : List ℕ) → rest ≡ codes "backup_index" ++ 47 ∷ text
      → (k : Kind) → option_and_then entry_kind (pair_of (parts text)) ≡ Some k → Told before path k
  entry_told text stands k found =
      let (p, pair, made) = then_is entry_kind (pair_of (parts text)) k found in
      let named = some_if (is_none (backup_fault p.0))
      (option_and_then (entry_if_fqdn p.0) (entry_of p.1)) k made in
      let (e, read, kept) = then_is (entry_if_fqdn p.0) (entry_of p.1) k named.1 in
      let node = some_if (is_none (fqdn_fault e.0)) (Some (Entry e.0 p.0 e.1)) k kept in
      let entry = entry_is p.1 e read in
      let same : Entry e.0 p.0 e.1 ≡ k = let n : ◌≡◌ {A = Option Kind} (Some (Entry e.0 p.0 e.1))
      (Some k) = node.1 in cc in
      let line = ap (λ t. codes "backup_index" ++ 47 ∷ t)
      (pair_is text p pair ∙ ap (λ t. p.0 ++ 47 ∷ t) entry.0) in
      subst (Told before path) same (λ told. record {
        valid = (
          none_by_test (fqdn_fault e.0) node.0,
          none_by_test (backup_fault p.0) named.0,
          entry.1,
        );
        built = ap Some (entry_flat before e.0 p.0 e.1 ∙ stands_at _ _ stands line);
      })

  latest_told : (text : List ℕ) → rest ≡ codes "latest_backup" ++ 47 ∷ text
      → (k : Kind) → option_and_then latest_kind (pair_of (parts text)) ≡ Some k
      → Told before path k
  latest_told text stands k found =
      let (p, pair, made) = then_is latest_kind (pair_of (parts text)) k found in
      let node = some_if (is_none (fqdn_fault p.0)) (option_map (Latest p.0) (latest_found p.1)) k
      made in
      let (kind, read, same) = map_is (Latest p.0) (latest_found p.1) k node.1 in
      let line = ap (λ t. codes "latest_backup" ++ 47 ∷ t)
      (pair_is text p pair ∙ ap (λ t. p.0 ++ 47 ∷ t) (latest_is p.1 kind read)) in
      subst (Told before path) same (λ told. record {
        valid = none_by_test (fqdn_fault p.0) node.0;
        built = ap Some (latest_flat before p.0 kind ∙ stands_at _ _ stands line);
      })

  index_alone : (part : List ℕ) → index_kind (part ∷ []) ≡ Other
  index_alone part = go (bytes_eq part (codes "backup_index"))
      (bytes_eq part (codes "latest_backup"))
    where
      go : (a b : Bool) → cond a Other (cond b Other Other) ≡ Other
      go true b = refl
      go false true = refl
      go false false = refl

  index_told : Told before path (index_kind (parts rest))
  index_told = elim (cut_at_slash rest) [
    | whole h ↦ subst (Told before path)
        (sym (ap index_kind (parts_whole rest h) ∙ index_alone rest)) index_other
    | around part text h e ↦
        subst (Told before path) (sym (ap index_kind (ap parts e ∙ parts_around part text h)))
        (by_cond (Told before path) (bytes_eq part (codes "backup_index")) _ _
        (λ word. let at = e ∙ ap (λ w. w ++ 47 ∷ text)
        ((bytes_eq-Decides part (codes "backup_index")).0 word) in
        by_kind (Told before path) (option_and_then entry_kind (pair_of (parts text))) Other
        (entry_told text at) index_other)
        (λ _. by_cond (Told before path) (bytes_eq part (codes "latest_backup")) _ _
        (λ word. let at = e ∙ ap (λ w. w ++ 47 ∷ text)
        ((bytes_eq-Decides part (codes "latest_backup")).0 word) in
        by_kind (Told before path) (option_and_then latest_kind (pair_of (parts text))) Other
        (latest_told text at) index_other)
        (λ _. index_other)))
  ]

-- ---- each path

module _ (before path : List ℕ) where
  below_alone : (part : List ℕ) → kind_below (part ∷ []) ≡ Other
  below_alone part = go (bytes_eq part (codes "index")) (is_none (fqdn_fault part))
    where
      go : (a b : Bool) → cond a Other (cond b Other Other) ≡ Other
      go true b = refl
      go false true = refl
      go false false = refl

  -- the first component is neither the index nor a node
  other_below : (part rest : List ℕ) → HasNoSlash part → path ≡ before ++ (part ++ 47 ∷ rest)
      → is_none (fqdn_fault part) ≡ false → Told before path Other
  other_below part rest h is bad = other_outside before path (part ++ 47 ∷ rest) is
      (λ f more valid e.
      let same = same_parts part f rest more h (fqdn_no_slash f valid) e in
      true≢false (sym (ap is_none (subst IsFqdn (sym same.0) valid)) ∙ bad))

  below_told : (text : List ℕ) → path ≡ before ++ text → Told before path (kind_below (parts text))
  below_told text is = elim (cut_at_slash text) [
    | whole h ↦
        subst (Told before path) (sym (ap kind_below (parts_whole text h) ∙ below_alone text))
        (other_outside before path text is
        (λ f more valid e. slash_within f more (subst HasNoSlash e h)))
    | around part rest h e ↦
        let at = is ∙ ap (λ t. before ++ t) e in
        subst (Told before path) (sym (ap kind_below (ap parts e ∙ parts_around part rest h)))
        (by_cond (Told before path) (bytes_eq part (codes "index")) _ _
        (λ word. index_told before path rest
        (at ∙ ap (λ w. before ++ (w ++ 47 ∷ rest))
        ((bytes_eq-Decides part (codes "index")).0 word)))
        (λ _. by_cond (Told before path) (is_none (fqdn_fault part)) (node_kind part (parts rest))
        Other
        (λ yes. node_told before path part rest (none_by_test (fqdn_fault part) yes) at)
        (λ bad. other_below part rest h at bad)))
  ]

  told_behind : (o : Option (List ℕ)) → behind before path ≡ o
      → Told before path (unwrap_or (option_map (λ text. kind_below (parts text)) o) Other)
  told_behind None is told = record {
    outside = λ f rest valid under.
        let found : behind before path ≡ Some (f ++ 47 ∷ rest) = ap (behind before)
        (under ∙ folder_flat before f rest) ∙ behind_made before (f ++ 47 ∷ rest) in
        let bad : None ≡ Some (f ++ 47 ∷ rest) = sym is ∙ found in
        absurd (cc);
    unbuilt = no_builder before path Other refl told;
  }
  told_behind (Some text) is told = below_told text (behind_is before path text is) told

  pub kind_told : IsOfKind before path (kind_of before path)
  kind_told = told_behind (behind before path) refl refl

-- ---- and no other

backup_same : (rest : List ℕ) (n m : Option (List ℕ)) → IsInBackup rest n → IsInBackup rest m
    → n ≡ m
backup_same rest None None a b = refl
backup_same rest None (Some m) a b = absurd (a m b.1.0 b.0 b.1.1)
backup_same rest (Some n) None a b = absurd (b n a.1.0 a.0 a.1.1)
backup_same rest (Some n) (Some m) a b =
    ap Some (same_parts n m a.1.0 b.1.0 (backup_no_slash n a.0) (backup_no_slash m b.0)
    (sym a.1.1 ∙ b.1.1)).0

stray_same : (before path f g : List ℕ) (n m : Option (List ℕ)) → IsStray before path f n
    → IsStray before path g m → Stray f n ≡ Stray g m
stray_same before path f g n m a b =
    let flat_a = folder_flat before f a.rest in
    let flat_b = folder_flat before g b.rest in
    let texts = same_rest before (f ++ 47 ∷ a.rest) (g ++ 47 ∷ b.rest)
    (sym flat_a ∙ sym a.under ∙ b.under ∙ flat_b) in
    let same = same_parts f g a.rest b.rest (fqdn_no_slash f a.node) (fqdn_no_slash g b.node)
    texts in
    ap₂ Stray same.0 (backup_same b.rest n m
    (subst (λ (r : List ℕ). IsInBackup r n) same.1 a.backup) b.backup)

one_stray : (before path f : List ℕ) (n : Option (List ℕ)) → IsStray before path f n
    → (k : Kind) → IsOfKind before path k → k ≡ Stray f n
one_stray before path f n s (Shared g key) b = absurd (s.unbuilt (Shared g key) b)
one_stray before path f n s (Own g m key) b = absurd (s.unbuilt (Own g m key) b)
one_stray before path f n s (Meta g m kind) b = absurd (s.unbuilt (Meta g m kind) b)
one_stray before path f n s (Entry g m kind) b = absurd (s.unbuilt (Entry g m kind) b)
one_stray before path f n s (Latest g kind) b = absurd (s.unbuilt (Latest g kind) b)
one_stray before path f n s (Stray g m) t = stray_same before path g f m n t s
one_stray before path f n s Other o = absurd (o.outside f s.rest s.node s.under)

one_other : (before path : List ℕ) → IsOther before path → (k : Kind) → IsOfKind before path k
    → k ≡ Other
one_other before path o (Shared g key) b = absurd (o.unbuilt (Shared g key) b)
one_other before path o (Own g m key) b = absurd (o.unbuilt (Own g m key) b)
one_other before path o (Meta g m kind) b = absurd (o.unbuilt (Meta g m kind) b)
one_other before path o (Entry g m kind) b = absurd (o.unbuilt (Entry g m kind) b)
one_other before path o (Latest g kind) b = absurd (o.unbuilt (Latest g kind) b)
one_other before path o (Stray g m) t = absurd (o.outside g t.rest t.node t.under)
one_other before path o Other t = refl

only_kind : (before path : List ℕ) (k : Kind) → IsOfKind before path k → kind_of before path ≡ k
only_kind before path (Stray f n) h = one_stray before path f n h (kind_of before path)
    (kind_told before path)
only_kind before path Other h = one_other before path h (kind_of before path)
    (kind_told before path)
only_kind before path (Shared f key) h = built_is_told before path (Shared f key) h
only_kind before path (Own f n key) h = built_is_told before path (Own f n key) h
only_kind before path (Meta f n kind) h = built_is_told before path (Meta f n kind) h
only_kind before path (Entry f n kind) h = built_is_told before path (Entry f n kind) h
only_kind before path (Latest f kind) h = built_is_told before path (Latest f kind) h

pub kinds_are_told : KindsAreTold
kinds_are_told before path k =
    (λ e. subst (IsOfKind before path) e (kind_told before path), only_kind before path k)

pub paths_are_apart : PathsAreApart
paths_are_apart before path j k a b = sym (built_is_told before path j a)
    ∙ built_is_told before path k b
