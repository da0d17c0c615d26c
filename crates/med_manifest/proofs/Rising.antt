-- Records whose keys rise: the next key is above all of them, and none of them is the next one.
use Rattle.std.proofs.Common.{◌≡◌, true≢false, ◌∙◌, ◌≤◌, ◌-◌, suc, Bool, true, false, refl, sym, ap, subst, List, [], ◌∷◌, ◌++◌, length, get_or, arith}
use Rattle.std.specs.List.{AllByRecursion, list_any}
use Rattle.std.specs.Bool.{IsTrue}
use Rattle.std.specs.Ordering.{is_lt}
use Rattle.std.specs.declared.cmp.Ordering.{Ordering}
use Rattle.std.specs.declared.cmp.Ordering.TheVariants.{Less, Equal, Greater}
use Rattle.std.proofs.lemmas.Cmp.{tied_itself}
use Rattle.std.proofs.lemmas.List.{map-append}
use Rattle.med_base.specs.declared.key.FileKey.{FileKey}
use Rattle.med_base.specs.Key.{key_cmp, key_eq, AreRising}
use Rattle.med_base.specs.KeyOrder.{key_total}
use Rattle.med_base.proofs.Lists.{all_push}
use Rattle.med_manifest.specs.declared.manifest.FileRecord.{FileRecord}
use Rattle.med_manifest.proofs.RecordLemmas.{keys_of, same_key}

pub less_from : (o : Ordering) (b : Bool) → b ≡ is_lt o → IsTrue b → o ≡ Less
less_from Less b e is = refl
less_from Equal b e is = absurd (true≢false (sym (subst IsTrue e is)))
less_from Greater b e is = absurd (true≢false (sym (subst IsTrue e is)))

-- each of these keys is below that key
abbrev pub AreBelow : List FileKey → FileKey → Type 0
AreBelow ks k = AllByRecursion (λ (j : FileKey). key_cmp j k ≡ Less) ks

-- what is above the last is above all
pub above_all : (rs : List FileRecord) (last : FileRecord) (k : FileKey) → 1 ≤ length rs
    → last ≡ get_or rs (length rs - 1) last → key_cmp last.key k ≡ Less → AreRising (keys_of rs)
    → AreBelow (keys_of rs) k
above_all [] last k le at less rising = absurd (omega arith)
above_all (r ∷ []) last k le at less rising =
    (subst (λ (q : FileRecord). key_cmp q.key k ≡ Less) at less, tt)
above_all (r ∷ s ∷ rs) last k le at less rising =
    let here : length (r ∷ s ∷ rs) - 1 ≡ suc (length rs) = omega arith in
    let there : length (s ∷ rs) - 1 ≡ length rs = omega arith in
    let last_is = at ∙ ap (λ i. get_or (r ∷ s ∷ rs) i last) here
    ∙ sym (ap (λ i. get_or (s ∷ rs) i last) there) in
    let later = above_all (s ∷ rs) last k (omega arith) last_is less rising.1 in
    (key_total.trans r.key s.key k rising.0.0 later.0, later)

-- one more key that is above all
pub rising_push : (ks : List FileKey) (k : FileKey) → AreRising ks → AreBelow ks k
    → AreRising (ks ++ k ∷ [])
rising_push [] k rising below = (tt, tt)
rising_push (j ∷ ks) k rising below = (
  all_push (λ (i : FileKey). key_cmp j i ≡ Less) ks k rising.0 below.0,
  rising_push ks k rising.1 below.1,
)

pub rising_next : (rs all : List FileRecord) (r : FileRecord) → AreRising (keys_of rs)
    → AreBelow (keys_of rs) r.key → all ≡ rs ++ r ∷ [] → AreRising (keys_of all)
rising_next rs all r rising below is =
    subst AreRising (sym (ap keys_of is ∙ map-append (λ (q : FileRecord). q.key) rs (r ∷ [])))
    (rising_push (keys_of rs) r.key rising below)

apart : (j k : FileKey) → key_cmp j k ≡ Less → (b : Bool) → key_eq k j ≡ b → key_eq k j ≡ false
apart j k less false e = e
apart j k less true e =
    let same : key_cmp j j ≡ Less = subst (λ (i : FileKey). key_cmp j i ≡ Less) (same_key k j e) less
    in
    let tied : key_cmp j j ≡ Equal = tied_itself key_total j in
    cc

-- none of them is that key
pub none_same : (ks : List FileKey) (k : FileKey) → AreBelow ks k → list_any (key_eq k) ks ≡ false
none_same [] k below = refl
none_same (j ∷ ks) k below =
    rw (apart j k below.0 (key_eq k j) refl, none_same ks k below.1) refl
