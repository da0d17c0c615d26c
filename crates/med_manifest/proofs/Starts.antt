-- When a backup started, found by its four objects, is when it started by the definition.
use Rattle.std.proofs.Common.{◌≡◌, ◌⊎◌, ◌↔◌, ◌≤◌, ℕ, Bool, true, false, cond, nat_lt, Option, Some, None, option_map, refl, sym, ◌∙◌, ap, inl, inr, arith, ⊎_elim}
use Rattle.std.specs.FinMap.{get}
use Rattle.med_base.specs.declared.layout.MetaKind.{MetaKind}
use Rattle.med_base.specs.declared.layout.MetaKind.TheVariants as meta_kind
use Rattle.med_base.specs.Content.{Content, Object}
use Rattle.med_base.specs.Layout.{meta_path}
use Rattle.med_manifest.specs.Index.{meta_in, second_in, earlier, or_second, started}
use Rattle.med_manifest.specs.Vault.{second_of, IsStarted, by_schema, by_others}
use Rattle.med_manifest.proofs.ByKind.{Text}

-- a second that is the earlier of two is one of them, and none is earlier
record IsLeast (a b : Option ℕ) (t : ℕ) : Type 0 where
  among : (a ≡ Some t) ⊎ (b ≡ Some t)
  first : (x : ℕ) → a ≡ Some x → t ≤ x
  second : (x : ℕ) → b ≡ Some x → t ≤ x

least_of : (a b : Option ℕ) (t : ℕ) → earlier a b ≡ Some t → IsLeast a b t
least_of None b t e = record {
  among = inr e;
  first = λ x h. absurd (cc);
  second = λ x h. let same : t ≡ x = cc in omega (arith, same);
}
least_of (Some x) None t e = record {
  among = inl e;
  first = λ y h. let same : t ≡ y = cc in omega (arith, same);
  second = λ y h. absurd (cc);
}
least_of (Some x) (Some y) t e = go (nat_lt y x) refl e
  where
    go : (b : Bool) → nat_lt y x ≡ b → ◌≡◌ {A = Option ℕ} (Some (cond b y x)) (Some t)
        → IsLeast (Some x) (Some y) t
    go true h k = record {
      among = inr k;
      first = λ z i. let same : x ≡ z = cc in let there : y ≡ t = cc in grind (arith, h);
      second = λ z i. let same : y ≡ z = cc in let there : y ≡ t = cc in omega (arith, same, there);
    }
    go false h k = record {
      among = inl k;
      first = λ z i. let same : x ≡ z = cc in let there : x ≡ t = cc in omega (arith, same, there);
      second = λ z i. let same : y ≡ z = cc in let there : x ≡ t = cc in grind (arith, h);
    }

none_of : (a b : Option ℕ) → earlier a b ≡ None → (a ≡ None) × (b ≡ None)
none_of None b e = (refl, e)
none_of (Some x) None e = absurd (cc)
none_of (Some x) (Some y) e = absurd (cc)

seconds_same : (o : Option Object) → second_in o ≡ option_map (λ (x : Object). x.second) o
seconds_same None = refl
seconds_same (Some o) = refl

module _ (before : Text) (c : Content) (f n : Text) where
  abbrev at_kind : MetaKind → Option ℕ
  at_kind kind = second_of c before f n kind

  same_at : (kind : MetaKind) → second_in (meta_in before c f n kind) ≡ at_kind kind
  same_at kind = seconds_same (get c (meta_path before f n kind))

  abbrev others : Option ℕ
  others = earlier (at_kind meta_kind.Differential)
      (earlier (at_kind meta_kind.Tokenmap) (at_kind meta_kind.Manifest))

  started_by_seconds : started before c f n ≡ or_second (at_kind meta_kind.Schema) others
  started_by_seconds = λ i. or_second (same_at meta_kind.Schema i)
      (earlier (same_at meta_kind.Differential i)
      (earlier (same_at meta_kind.Tokenmap i) (same_at meta_kind.Manifest i)))

  by_least : (t : ℕ) → at_kind meta_kind.Schema ≡ None → others ≡ Some t
      → IsStarted c before f n t
  by_least t none e = go outer.among
    where
      outer : IsLeast (at_kind meta_kind.Differential)
          (earlier (at_kind meta_kind.Tokenmap) (at_kind meta_kind.Manifest)) t
      outer = least_of (at_kind meta_kind.Differential)
          (earlier (at_kind meta_kind.Tokenmap) (at_kind meta_kind.Manifest)) t e

      inner : (u : ℕ) → earlier (at_kind meta_kind.Tokenmap) (at_kind meta_kind.Manifest) ≡ Some u
          → IsLeast (at_kind meta_kind.Tokenmap) (at_kind meta_kind.Manifest) u
      inner u k = least_of (at_kind meta_kind.Tokenmap) (at_kind meta_kind.Manifest) u k

      below : (o : Option ℕ)
          → earlier (at_kind meta_kind.Tokenmap) (at_kind meta_kind.Manifest) ≡ o
          → (x : ℕ) → (at_kind meta_kind.Tokenmap ≡ Some x) ⊎ (at_kind meta_kind.Manifest ≡ Some x)
          → t ≤ x
      below None k x h =
          let both = none_of (at_kind meta_kind.Tokenmap) (at_kind meta_kind.Manifest) k in
          let a = both.0 in let b = both.1 in ⊎_elim (λ i. absurd (cc (i, a)))
          (λ i. absurd (cc (i, b))) h
      below (Some u) k x h =
          let lower = outer.second u k in
          let upper : u ≤ x = ⊎_elim (λ i. (inner u k).first x i) (λ i. (inner u k).second x i) h in
          omega (arith, lower, upper)

      least : (kind : MetaKind) (x : ℕ) → at_kind kind ≡ Some x → t ≤ x
      least meta_kind.Schema x h = absurd (cc)
      least meta_kind.Differential x h = outer.first x h
      least meta_kind.Tokenmap x h = below (earlier (at_kind meta_kind.Tokenmap)
          (at_kind meta_kind.Manifest)) refl x (inl h)
      least meta_kind.Manifest x h = below (earlier (at_kind meta_kind.Tokenmap)
          (at_kind meta_kind.Manifest)) refl x (inr h)

      go : (at_kind meta_kind.Differential ≡ Some t)
          ⊎ (earlier (at_kind meta_kind.Tokenmap) (at_kind meta_kind.Manifest) ≡ Some t)
          → IsStarted c before f n t
      go (inl h) = by_others none meta_kind.Differential h least
      go (inr h) = ⊎_elim (λ k. by_others none meta_kind.Tokenmap k least)
          (λ k. by_others none meta_kind.Manifest k least) (inner t h).among

  pub started_so : (t : ℕ) → started before c f n ≡ Some t → IsStarted c before f n t
  started_so t e = go (at_kind meta_kind.Schema) refl (sym started_by_seconds ∙ e)
    where
      go : (o : Option ℕ) → at_kind meta_kind.Schema ≡ o → or_second o others ≡ Some t
          → IsStarted c before f n t
      go None k h = by_least t k h
      go (Some x) k h = by_schema (k ∙ h)

  started_once : (t u : ℕ) → IsStarted c before f n t → IsStarted c before f n u → t ≡ u
  started_once t u (by_schema a) (by_schema b) = cc
  started_once t u (by_schema a) (by_others none kind e least) = absurd (cc (a, none))
  started_once t u (by_others none kind e least) (by_schema b) = absurd (cc (b, none))
  started_once t u (by_others none kind e least) (by_others none_too other d lower) =
      let one = least other u d in let two = lower kind t e in omega (arith, one, two)

  none_started : started before c f n ≡ None → (kind : MetaKind) → at_kind kind ≡ None
  none_started e = go (at_kind meta_kind.Schema) refl (sym started_by_seconds ∙ e)
    where
      each : at_kind meta_kind.Schema ≡ None → others ≡ None → (kind : MetaKind)
          → at_kind kind ≡ None
      each k h meta_kind.Schema = k
      each k h meta_kind.Differential = (none_of (at_kind meta_kind.Differential)
          (earlier (at_kind meta_kind.Tokenmap) (at_kind meta_kind.Manifest)) h).0
      each k h meta_kind.Tokenmap = (none_of (at_kind meta_kind.Tokenmap)
          (at_kind meta_kind.Manifest) (none_of (at_kind meta_kind.Differential)
          (earlier (at_kind meta_kind.Tokenmap) (at_kind meta_kind.Manifest)) h).1).0
      each k h meta_kind.Manifest = (none_of (at_kind meta_kind.Tokenmap)
          (at_kind meta_kind.Manifest) (none_of (at_kind meta_kind.Differential)
          (earlier (at_kind meta_kind.Tokenmap) (at_kind meta_kind.Manifest)) h).1).1

      go : (o : Option ℕ) → at_kind meta_kind.Schema ≡ o → or_second o others ≡ None
          → (kind : MetaKind) → at_kind kind ≡ None
      go None k h kind = each k h kind
      go (Some x) k h kind = absurd (cc)

  so_started : (t : ℕ) → IsStarted c before f n t → started before c f n ≡ Some t
  so_started t h = go (started before c f n) refl h
    where
      go : (o : Option ℕ) → started before c f n ≡ o → IsStarted c before f n t → o ≡ Some t
      go (Some u) e k = ap (λ x. Some x) (started_once u t (started_so u e) k)
      go None e (by_schema k) = let none = none_started e meta_kind.Schema in absurd (cc (none, k))
      go None e (by_others absent kind k least) =
          let none = none_started e kind in absurd (cc (none, k))

  no_start : ((kind : MetaKind) → at_kind kind ≡ None) → started before c f n ≡ None
  no_start h = started_by_seconds ∙ (λ i. or_second (h meta_kind.Schema i)
      (earlier (h meta_kind.Differential i) (earlier (h meta_kind.Tokenmap i)
      (h meta_kind.Manifest i))))

  pub start_is_told : (t : ℕ) → (started before c f n ≡ Some t) ↔ IsStarted c before f n t
  start_is_told t = (started_so t, so_started t)

  pub absence_is_told : (started before c f n ≡ None) ↔ ((kind : MetaKind) → at_kind kind ≡ None)
  absence_is_told = (none_started, no_start)
