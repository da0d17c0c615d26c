-- A whole removal leaves what «After» says, and its counts are those of what is gone.
use Rattle.std.proofs.Common.{◌≡◌, ℕ, ◌+◌, Bool, true, false, cond, not, ◌&&◌, List, [], ◌∷◌, Some, None, Option, refl, sym, ◌∙◌, ap, arith, All, Contains, nat_cmp, length, Ordering, Less, Equal, Greater, bytes_eq}
use Rattle.std.specs.Ordering.{is_eq}
use Rattle.std.specs.List.{AllByRecursion, list_any}
use Rattle.std.proofs.lemmas.Bool.{lt-ltb, ltb-true}
use Rattle.std.specs.Cmp.Lexicographic.{slice_cmp, nat_list_cmp_total}
use Rattle.std.specs.FinMap as fin
use Rattle.med_base.specs.declared.layout.MetaKind.TheVariants as meta_kind
use Rattle.med_base.specs.declared.kinds.LatestKind.TheVariants as latest_kind
use Rattle.med_base.specs.Classify.{kind_of}
use Rattle.med_base.specs.Content.{Content, Object}
use Rattle.med_base.specs.Effects.{Effect, Removes, Stores, applied, made}
use Rattle.med_base.specs.Kinds.{Entry, Kind, Latest, Meta, Own, Shared, Stray}
use Rattle.med_base.specs.declared.kinds.LatestKind.{LatestKind}
use Rattle.med_core.proofs.Afters.{leaves_after, not_latest}
use Rattle.med_core.specs.After.{IsAfter, IsRemoved, is_removed}
use Rattle.med_core.specs.Counts.{as_bytes, as_file, is_data_of, lost, lost_all, removed_bytes, removed_files, total, weighed, weight_in}
use Rattle.med_core.specs.Outside.{AreNamedOutside, IsNamedOutside}
use Rattle.med_core.specs.Removal.{changes_of_removal, is_old, paths_of_removal}
use Rattle.med_manifest.proofs.ByKind.{NameByKind, NodeByKind, Text, at}
use Rattle.med_manifest.proofs.Gets.{cmp_itself, cmp_same, from_cmp, from_same, same_itself}
use Rattle.med_manifest.proofs.Members.{any_same, append_all, get_kept, same_any}
use Rattle.med_manifest.proofs.Newest.{and_first, and_second, not_true}
use Rattle.med_manifest.specs.Listed.{remove_if_stands, removes}
use Rattle.med_manifest.specs.Mend.{changes_of_mend, has_bytes, mend_to, mend_tokenmap, newest, put_unless}
use Rattle.med_manifest.specs.Named.{named}

and_both : (a b : Bool) → a ≡ true → b ≡ true → (a && b) ≡ true
and_both true b h k = k
and_both false b h k = h

module _ (before : Text) (c : Content) (f : Text) (names named : List Text) (grace now : ℕ)
    (exactly : AreNamedOutside before c f names named) where
  by_name : (g n : Text) → (bytes_eq g f && list_any (bytes_eq n) names) ≡ true → (g ≡ f)
      × Contains names n
  by_name g n h = (
    from_same g f (and_first (bytes_eq g f) (list_any (bytes_eq n) names) h),
    same_any n names (and_second (bytes_eq g f) (list_any (bytes_eq n) names) h),
  )

  of_name : (g n : Text) → g ≡ f → Contains names n → (bytes_eq g f && list_any (bytes_eq n) names)
      ≡ true
  of_name g n a h = and_both (bytes_eq g f) (list_any (bytes_eq n) names) (ap (λ x. bytes_eq x f) a
      ∙ same_itself f) (any_same n names h)

  names_it : (p : Text) → IsNamedOutside before c f names p → list_any (bytes_eq p) named ≡ true
  names_it p h = any_same p named ((exactly p).1 h)

  named_by : (p : Text) → list_any (bytes_eq p) named ≡ true → IsNamedOutside before c f names p
  named_by p h = (exactly p).0 (same_any p named h)

  pub to_removed : (p : Text) (o : Object) (k : Kind) → fin.get c p ≡ Some o
      → is_removed c f names named grace now p k ≡ true → IsRemoved before c f names grace now p o k
  to_removed p o (Own g n k) e h = by_name g n h
  to_removed p o (Meta g n k) e h = by_name g n h
  to_removed p o (Entry g n k) e h = by_name g n h
  to_removed p o (Stray g (Some n)) e h = by_name g n h
  to_removed p o (Shared g k) e h =
      let rest : (not (list_any (bytes_eq p) named) && is_old (fin.get c p) grace now)
      ≡ true = and_second (bytes_eq g f) (not (list_any (bytes_eq p) named)
      && is_old (fin.get c p) grace now) h in
      let free : list_any (bytes_eq p) named ≡ false = not_true (list_any (bytes_eq p) named)
      (and_first (not (list_any (bytes_eq p) named)) (is_old (fin.get c p) grace now) rest) in
      let old : is_old (fin.get c p) grace now ≡ true = and_second
      (not (list_any (bytes_eq p) named)) (is_old (fin.get c p) grace now) rest in (
        from_same g f (and_first (bytes_eq g f) _ h),
        λ is. cc (names_it p is, free),
        ltb-true _ now
            (ap (λ x. is_old x grace now) (sym e) ∙ old),
      )
  to_removed p o _ e h = absurd (cc)

  pub from_removed : (p : Text) (o : Object) (k : Kind) → fin.get c p ≡ Some o
      → IsRemoved before c f names grace now p o k → is_removed c f names named grace now p k ≡ true
  from_removed p o (Own g n k) e (a, h) = of_name g n a h
  from_removed p o (Meta g n k) e (a, h) = of_name g n a h
  from_removed p o (Entry g n k) e (a, h) = of_name g n a h
  from_removed p o (Stray g (Some n)) e (a, h) = of_name g n a h
  from_removed p o (Shared g k) e (a, free, old) = and_both (bytes_eq g f)
      (not (list_any (bytes_eq p) named) && is_old (fin.get c p) grace now)
      (ap (λ x. bytes_eq x f) a ∙ same_itself f)
      (and_both (not (list_any (bytes_eq p) named)) (is_old (fin.get c p) grace now)
      (go (list_any (bytes_eq p) named) refl) (ap (λ x. is_old x grace now) e
      ∙ lt-ltb _ now old))
    where
      go : (b : Bool) → list_any (bytes_eq p) named ≡ b → not b ≡ true
      go true h = absurd (free (named_by p h))
      go false h = refl
  from_removed p o _ e h = absurd h

  module _ (node : NodeByKind before f) (are : All (NameByKind before f) names) (t : ℕ → ℕ) where
    left_is : (p : Text) → fin.get (applied (changes_of_removal before c f names named grace now t)
        c) p ≡ cond (not (is_removed c f names named grace now p (kind_of before p)))
        (fin.get (applied (changes_of_mend before c f names t) c) p) None
    left_is p = ap (λ d. fin.get d p) (leaves_after before c f names named grace now node are t)
        ∙ get_kept (applied (changes_of_mend before c f names t) c)
        (λ q. not (is_removed c f names named grace now q (kind_of before q))) p

    pub removal_is_after : IsAfter before c f names grace now
        (applied (changes_of_mend before c f names t) c)
        (applied (changes_of_removal before c f names named grace now t) c)
    removal_is_after = record {
      gone = λ p o e h. left_is p
          ∙ ap (λ b. cond (not b) (fin.get (applied (changes_of_mend before c f names t) c) p) None)
          (from_removed p o (kind_of before p) e h);
      stays = λ p h. left_is p ∙ keep p h (is_removed c f names named grace now p
          (kind_of before p)) refl (fin.get c p) refl;
    }
      where
        keep : (p : Text) → ((o : Object) → fin.get c p ≡ Some o
            → ¬ (IsRemoved before c f names grace now p o (kind_of before p))) → (b : Bool)
            → is_removed c f names named grace now p (kind_of before p) ≡ b → (o : Option Object)
            → fin.get c p ≡ o
            → cond (not b) (fin.get (applied (changes_of_mend before c f names t) c) p) None
            ≡ fin.get (applied (changes_of_mend before c f names t) c) p
        keep p h false is o e = refl
        keep p h true is None e = sym (not_latest before c f names named grace now node are t p
            (kind_of before p) refl is ∙ e)
        keep p h true is (Some o) e = absurd (h o e (to_removed p o (kind_of before p) e is))

-- counts
module _ (g : Text → Object → ℕ) where
  total_put : (k : Text) (v : Object) (es : List (Text × Object)) → fin.find (slice_cmp nat_cmp) k
      es ≡ None → total g (fin.put (slice_cmp nat_cmp) k v es) ≡ g k v + total g es
  total_put k v [] h = refl
  total_put k v (e ∷ es) h = go (slice_cmp nat_cmp k e.0) refl (total_put k v es)
    where
      go : (r : Ordering) → slice_cmp nat_cmp k e.0 ≡ r → (fin.find (slice_cmp nat_cmp) k es ≡ None
          → total g (fin.put (slice_cmp nat_cmp) k v es) ≡ g k v + total g es)
          → total g (fin.put (slice_cmp nat_cmp) k v (e ∷ es)) ≡ g k v + (g e.0 e.1 + total g es)
      go Less is more = rw is refl
      go Equal is more = let none : ◌≡◌ {A = Option Object} (Some e.1) None = ap
          (λ r. cond (is_eq r) (Some e.1) (fin.find (slice_cmp nat_cmp) k es)) (sym is) ∙ h in
          absurd (cc)
      go Greater is more =
          let none : fin.find (slice_cmp nat_cmp) k es ≡ None = ap (λ r. cond (is_eq r) (Some e.1)
          (fin.find (slice_cmp nat_cmp) k es)) (sym is) ∙ h in
          let ih : total g (fin.put (slice_cmp nat_cmp) k v es) ≡ g k v + total g es = more none in
          rw is (omega (arith, ih))

  put_weighed : (c : Content) (p : Text) (v : Object) → fin.get c p ≡ None
      → weighed g (fin.insert c p v) ≡ g p v + weighed g c
  put_weighed c p v none = ap (total g) (fin.entries-insert nat_list_cmp_total c p v)
      ∙ total_put p v (fin.entries c) (sym (fin.get-entries c p) ∙ none)

  same_text : (c d : Content) → ((q : Text) → fin.get c q ≡ fin.get d q) → c ≡ d
  same_text c d h = fin.same_map nat_list_cmp_total
      (fin.slice_cmp-IsAntisymmetric fin.nat_cmp-IsAntisymmetric) c d h

  put_back : (c : Content) (p : Text) (v : Object) → fin.insert c p v ≡ fin.insert (fin.remove c p)
      p v
  put_back c p v = same_text _ _ (λ q. fin.get-insert nat_list_cmp_total c p v q
      ∙ twice q (cmp_same q p) ∙ ap (cond (cmp_same q p) (Some v))
      (sym (fin.get-remove nat_list_cmp_total c p q)) ∙ sym (fin.get-insert nat_list_cmp_total
      (fin.remove c p) p v q))
    where
      twice : (q : Text) (b : Bool) → cond b (Some v) (fin.get c q) ≡ cond b (Some v)
          (cond b None (fin.get c q))
      twice q true = refl
      twice q false = refl

  put_again : (c : Content) (p : Text) (v : Object) → fin.get c p ≡ Some v → c ≡ fin.insert c p v
  put_again c p v e = same_text _ _ (λ q. by q (cmp_same q p) refl
      ∙ sym (fin.get-insert nat_list_cmp_total c p v q))
    where
      by : (q : Text) (b : Bool) → cmp_same q p ≡ b → fin.get c q ≡ cond b (Some v) (fin.get c q)
      by q true is = ap (fin.get c) (from_cmp q p is) ∙ e
      by q false is = refl

  none_there : (c : Content) (p : Text) → fin.get (fin.remove c p) p ≡ None
  none_there c p = fin.get-remove nat_list_cmp_total c p p ∙ ap (λ b. cond b None (fin.get c p))
      (cmp_itself p)

  with_removed : (c : Content) (p : Text) (v : Object) → weighed g (fin.insert c p v)
      ≡ g p v + weighed g (fin.remove c p)
  with_removed c p v = ap (weighed g) (put_back c p v) ∙ put_weighed (fin.remove c p) p v
      (none_there c p)

  same_removed : (c : Content) (p : Text) → fin.get c p ≡ None → fin.remove c p ≡ c
  same_removed c p e = same_text _ _ (λ q. fin.get-remove nat_list_cmp_total c p q
      ∙ by q (cmp_same q p) refl)
    where
      by : (q : Text) (b : Bool) → cmp_same q p ≡ b → cond b None (fin.get c q) ≡ fin.get c q
      by q true is = sym (ap (fin.get c) (from_cmp q p is) ∙ e)
      by q false is = refl

  -- a put has no weight, before and after
  abbrev pub IsWeightless : Effect → Type 0
  IsWeightless (Stores p b s) = (o : Object) → g p o ≡ 0
  IsWeightless (Removes p) = Unit {0}

  lost_one : (x : Effect) (c : Content) → IsWeightless x → weighed g (made x c) + lost g c x
      ≡ weighed g c
  lost_one (Removes p) c h = go (fin.get c p) refl
    where
      go : (o : Option Object) → fin.get c p ≡ o → weighed g (fin.remove c p) + weight_in g p o
          ≡ weighed g c
      go None e = let is : weighed g (fin.remove c p) ≡ weighed g c = ap (weighed g)
          (same_removed c p e) in omega (arith, is)
      go (Some o) e = let is : weighed g c ≡ g p o + weighed g (fin.remove c p) = ap (weighed g)
          (put_again c p o e) ∙ with_removed c p o in omega (arith, is)
  lost_one (Stores p b s) c h = go (fin.get c p) refl
    where
      v : Object
      v = record { bytes = b; second = s }

      none : g p (record { bytes = b; second = s }) ≡ 0
      none = h (record { bytes = b; second = s })

      go : (o : Option Object) → fin.get c p ≡ o
          → weighed g (fin.insert c p (record { bytes = b; second = s })) + 0 ≡ weighed g c
      go None e = let is : weighed g (fin.insert c p (record { bytes = b; second = s }))
          ≡ g p (record { bytes = b; second = s }) + weighed g c = put_weighed c p _ e in
          let z = none in omega (arith, is, z)
      go (Some o) e =
          let is : weighed g c ≡ g p o + weighed g (fin.remove c p) = ap (weighed g)
          (put_again c p o e) ∙ with_removed c p o in
          let as_new : weighed g (fin.insert c p (record { bytes = b; second = s }))
          ≡ g p (record { bytes = b; second = s }) + weighed g (fin.remove c p) = with_removed c
          p _ in
          let z = none in
          let y : g p o ≡ 0 = h o in
          omega (arith, is, as_new, z, y)

  pub lost_is : (xs : List Effect) (c : Content) → AllByRecursion IsWeightless xs
      → weighed g (applied xs c) + lost_all g c xs ≡ weighed g c
  lost_is [] c h = omega arith
  lost_is (x ∷ xs) c h =
      let first : weighed g (made x c) + lost g c x ≡ weighed g c = lost_one x c h.0 in
      let more : weighed g (applied xs (made x c)) + lost_all g (made x c) xs
      ≡ weighed g (made x c) = lost_is xs (made x c) h.1 in
      omega (arith, first, more)

  all_deletes : (ps : List Text) → AllByRecursion IsWeightless (removes ps)
  all_deletes [] = tt
  all_deletes (p ∷ ps) = (tt, all_deletes ps)

-- each change of a mend is one of the latest entries
pub mend_all : (P : Effect → Type 0) (before : Text) (c : Content) (f : Text) (names : List Text)
    (t : ℕ → ℕ) → ((e : LatestKind) (b : Text) (s : ℕ) → P (Stores (at before (Latest f e)) b s))
    → ((e : LatestKind) → P (Removes (at before (Latest f e)))) → AllByRecursion P
    (changes_of_mend before c f names t)
mend_all P before c f names t put delete = to (newest before c f names)
  where
    if : (e : LatestKind) → AllByRecursion P (remove_if_stands c (at before (Latest f e)))
    if e = by (fin.contains_key c (at before (Latest f e)))
      where
        by : (b : Bool) → AllByRecursion P (cond b (Removes (at before (Latest f e)) ∷ []) [])
        by true = (delete e, tt)
        by false = tt

    unless : (e : LatestKind) (b : Text) (s : ℕ) → AllByRecursion P
        (put_unless c (at before (Latest f e)) b s)
    unless e b s = by (has_bytes (fin.get c (at before (Latest f e))) b)
      where
        by : (x : Bool) → AllByRecursion P (cond x [] (Stores (at before (Latest f e)) b s ∷ []))
        by true = tt
        by false = (put e b s, tt)

    ring : (o : Option Object) (s : ℕ) → AllByRecursion P (mend_tokenmap before c f o s)
    ring None s = if latest_kind.Tokenmap
    ring (Some o) s = unless latest_kind.Tokenmap o.bytes s

    to : (a : Option (ℕ × Text)) → AllByRecursion P (mend_to before c f a t)
    to None = append_all P (remove_if_stands c (at before (Latest f latest_kind.Name))) _
        (if latest_kind.Name) (if latest_kind.Tokenmap)
    to (Some a) = append_all P (put_unless c (at before (Latest f latest_kind.Name)) a.1 (t 0)) _
        (unless latest_kind.Name a.1 (t 0))
        (ring (fin.get c (at before (Meta f a.1 meta_kind.Tokenmap))) (t 1))

pub removal_counts : (before : Text) (g : Text → Object → ℕ) (c : Content) (f : Text)
    (names named : List Text) (grace now : ℕ) (t : ℕ → ℕ) → ((e : LatestKind) (o : Object)
    → g (at before (Latest f e)) o ≡ 0)
    → weighed g (applied (changes_of_removal before c f names named grace now t) c) + lost_all g c
    (changes_of_removal before c f names named grace now t) ≡ weighed g c
removal_counts before g c f names named grace now t latest = lost_is g
    (changes_of_removal before c f names named grace now t) c
    (append_all (IsWeightless g) (changes_of_mend before c f names t) _
    (mend_all (IsWeightless g) before c f names t (λ e b s o. latest e o) (λ e. tt))
    (all_deletes g (paths_of_removal before c f names named grace now)))

pub counts_files : (before : Text) (c : Content) (f : Text) (names named : List Text)
    (grace now : ℕ) (t : ℕ → ℕ) → NodeByKind before f
    → weighed (as_file before f) (applied (changes_of_removal before c f names named grace now t) c)
    + removed_files before f c (changes_of_removal before c f names named grace now t)
    ≡ weighed (as_file before f) c
counts_files before c f names named grace now t node = removal_counts before (as_file before f) c f
    names named grace now t (λ e o. ap (λ k. cond (is_data_of f k) 1 0) (node.latest e))

pub counts_bytes : (before : Text) (c : Content) (f : Text) (names named : List Text)
    (grace now : ℕ) (t : ℕ → ℕ) → NodeByKind before f
    → weighed (as_bytes before f) (applied (changes_of_removal before c f names named grace now t)
    c) + removed_bytes before f c (changes_of_removal before c f names named grace now t)
    ≡ weighed (as_bytes before f) c
counts_bytes before c f names named grace now t node = removal_counts before (as_bytes before f) c f
    names named grace now t (λ e o. ap (λ k. cond (is_data_of f k) (length o.bytes) 0)
    (node.latest e))

-- one content at most is `after`
module _ (before : Text) (c : Content) (f : Text) (names named : List Text) (grace now : ℕ)
    (exactly : AreNamedOutside before c f names named) where
  pub after_one : (latest d e : Content) → IsAfter before c f names grace now latest d
      → IsAfter before c f names grace now latest e → d ≡ e
  after_one latest d e h k = fin.same_map nat_list_cmp_total
      (fin.slice_cmp-IsAntisymmetric fin.nat_cmp-IsAntisymmetric) d e (λ p. go p (fin.get c p) refl
      (is_removed c f names named grace now p (kind_of before p)) refl)
    where
      go : (p : Text) (o : Option Object) → fin.get c p ≡ o → (b : Bool)
          → is_removed c f names named grace now p (kind_of before p) ≡ b → fin.get d p
          ≡ fin.get e p
      go p None is b test = h.stays p (λ o x r. cc (is, x)) ∙ sym (k.stays p (λ o x r. cc (is, x)))
      go p (Some o) is true test = let r : IsRemoved before c f names grace now p o
          (kind_of before p) = to_removed before c f names named grace now exactly p o
          (kind_of before p) is test in h.gone p o is r ∙ sym (k.gone p o is r)
      go p (Some o) is false test =
          let out : (x : Object) → fin.get c p ≡ Some x
          → ¬ (IsRemoved before c f names grace now p x (kind_of before p)) = λ x there r.
          let y : is_removed c f names named grace now p (kind_of before p)
          ≡ true = from_removed before c f names named grace now exactly p x (kind_of before p)
          there r in cc (y, test) in
          h.stays p out ∙ sym (k.stays p out)
