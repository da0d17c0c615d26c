-- When a backup started, by the seconds that were found of it.
use Rattle.std.proofs.Common.{◌≡◌, ◌∙◌, ◌⊎◌, inl, inr, ◌≤◌, ℕ, Bool, true, false, List, Option, Some, None, is_some, refl, sym, arith, ltb-true, ltb-false}
use Rattle.std.specs.Prelude.{nat_lt, if◌then◌else◌}
use Rattle.std.proofs.lemmas.Option.{same_Some}
use Rattle.med_base.specs.declared.layout.MetaKind.{MetaKind}
use Rattle.med_base.specs.declared.layout.MetaKind.TheVariants.{Schema, Differential, Tokenmap, Manifest}
use Rattle.med_base.specs.Content.{Content}
use Rattle.med_manifest.specs.Index.{earlier}
use Rattle.med_manifest.specs.Vault.{second_of, IsStarted, by_schema, by_others}
use Rattle.med_index.specs.declared.marks.Marks.{Marks}
use Rattle.med_index.specs.Marks.{mark_of, mode_of, start_of}
use Rattle.med_index.specs.Modes.{is_differential}

-- the second is the least of the two
record IsLeast (a b : Option ℕ) (second : ℕ) : Type 0 where
  one : (a ≡ Some second) ⊎ (b ≡ Some second)
  first : (x : ℕ) → a ≡ Some x → second ≤ x
  later : (x : ℕ) → b ≡ Some x → second ≤ x

at_most : (x y : ℕ) → ◌≡◌ {A = Option ℕ} (Some x) (Some y) → x ≤ y
at_most x y e = let same = same_Some x y e in omega (arith, same)

least_is : (a b : Option ℕ) (second : ℕ) → earlier a b ≡ Some second → IsLeast a b second
least_is None b second is = record {
  one = inr is;
  first = λ x e. absurd (cc);
  later = λ x e. at_most second x (sym is ∙ e);
}
least_is (Some a) None second is = record {
  one = inl is;
  first = λ x e. at_most second x (sym is ∙ e);
  later = λ x e. absurd (cc);
}
least_is (Some a) (Some b) second is = go (nat_lt b a) refl is
  where
    go : (t : Bool) → nat_lt b a ≡ t
        → ◌≡◌ {A = Option ℕ} (Some (if t then b else a)) (Some second)
        → IsLeast (Some a) (Some b) second
    go true e is =
        let less = ltb-true b a e in
        let same = same_Some b second is in
        record {
          one = inr is;
          first = λ x p. let q = same_Some a x p in omega (arith, less, same, q);
          later = λ x p. let q = same_Some b x p in omega (arith, same, q);
        }
    go false e is =
        let more = ltb-false b a e in
        let same = same_Some a second is in
        record {
          one = inl is;
          first = λ x p. let q = same_Some a x p in omega (arith, same, q);
          later = λ x p. let q = same_Some b x p in omega (arith, more, same, q);
        }

no_least : (a b : Option ℕ) → earlier a b ≡ None → (a ≡ None) × (b ≡ None)
no_least None b is = (refl, is)
no_least (Some a) None is = absurd (cc)
no_least (Some a) (Some b) is = absurd (cc)

module _ (c : Content) (before f n : List ℕ) where
  abbrev at : MetaKind → Option ℕ
  at = second_of c before f n

  -- the marks are the seconds of what stands
  abbrev AreExact : Marks → Type 0
  AreExact m = (kind : MetaKind) → mark_of kind m ≡ at kind

  module _ (m : Marks) (exact : AreExact m) (kind : MetaKind) (some : ℕ)
      (stands : at kind ≡ Some some) where
    abbrev others : Option ℕ
    others = earlier m.differential (earlier m.tokenmap m.manifest)

    by_least : (second : ℕ) → others ≡ Some second → m.schema ≡ None
        → IsStarted c before f n second
    by_least second is none =
        let first = least_is m.differential (earlier m.tokenmap m.manifest) second is in
        by_others (sym (exact Schema) ∙ none) (of_one first).0 (of_one first).1
        (λ other x there. at_least first other x there)
      where
        of_one : IsLeast m.differential (earlier m.tokenmap m.manifest) second
            → (k : MetaKind) × (at k ≡ Some second)
        of_one first = elim first.one [
          | inl a ↦ (Differential, sym (exact Differential) ∙ a)
          | inr b ↦
              elim (least_is m.tokenmap m.manifest second b).one [
                | inl t ↦ (Tokenmap, sym (exact Tokenmap) ∙ t)
                | inr l ↦ (Manifest, sym (exact Manifest) ∙ l)
              ]
        ]

        pair_least : (a b : Option ℕ) (x : ℕ) → (a ≡ Some x) ⊎ (b ≡ Some x)
            → ((y : ℕ) → earlier a b ≡ Some y → second ≤ y) → second ≤ x
        pair_least a b x there all = go (earlier a b) refl
          where
            go : (o : Option ℕ) → earlier a b ≡ o → second ≤ x
            go None e =
                let none = no_least a b e in
                elim there [
                  | inl p ↦ absurd (let q = none.0 in cc (p, q))
                  | inr p ↦ absurd (let q = none.1 in cc (p, q))
                ]
            go (Some y) e =
                let least = least_is a b y e in
                let low = all y e in
                elim there [
                  | inl p ↦ let q = least.first x p in omega (arith, low, q)
                  | inr p ↦ let q = least.later x p in omega (arith, low, q)
                ]

        at_least : IsLeast m.differential (earlier m.tokenmap m.manifest) second
            → (other : MetaKind) (x : ℕ) → at other ≡ Some x → second ≤ x
        at_least first Schema x there =
            absurd (let q = exact Schema in cc (none, q, there))
        at_least first Differential x there = first.first x (exact Differential ∙ there)
        at_least first Tokenmap x there =
            pair_least m.tokenmap m.manifest x (inl (exact Tokenmap ∙ there)) first.later
        at_least first Manifest x there =
            pair_least m.tokenmap m.manifest x (inr (exact Manifest ∙ there)) first.later

    none_stands : m.schema ≡ None → others ≡ None → (k : MetaKind) → at k ≡ Some some → ⊥
    none_stands none rest Schema is = absurd (let q = exact Schema in cc (none, q, is))
    none_stands none rest Differential is =
        absurd
        (let q = exact Differential in
        let p = (no_least m.differential (earlier m.tokenmap m.manifest) rest).0 in cc (p, q, is))
    none_stands none rest Tokenmap is =
        absurd
        (let q = exact Tokenmap in
        let p = (no_least m.tokenmap m.manifest
        (no_least m.differential (earlier m.tokenmap m.manifest) rest).1).0 in cc (p, q, is))
    none_stands none rest Manifest is =
        absurd
        (let q = exact Manifest in
        let p = (no_least m.tokenmap m.manifest
        (no_least m.differential (earlier m.tokenmap m.manifest) rest).1).1 in cc (p, q, is))

    pub start_is : IsStarted c before f n (start_of m)
    start_is = go m.schema others refl refl
      where
        go : (s o : Option ℕ) → m.schema ≡ s → others ≡ o → IsStarted c before f n (start_of m)
        go (Some second) o e p = rw e (by_schema (sym (exact Schema) ∙ e))
        go None (Some second) e p = rw (e, p) (by_least second p e)
        go None None e p = absurd (none_stands e p kind stands)

pub mode_is : (m : Marks) → is_differential (mode_of m) ≡ is_some m.differential
mode_is m = go (is_some m.differential) refl
  where
    go : (b : Bool) → is_some m.differential ≡ b → is_differential (mode_of m) ≡ b
    go true e = rw e refl
    go false e = rw e refl
