-- A key that a snapshot lists has a file.
use Rattle.std.proofs.Common.{◌≡◌, ◌∙◌, ◌<◌, Bool, true, false, cond, suc, List, [], ◌∷◌, Option, Some, None, IfSome, map, length, get_or, refl, sym, ap, arith}
use Rattle.std.specs.Prelude.{count_by}
use Rattle.std.specs.List.{filter}
use Rattle.std.specs.FinMap.{contains_key}
use Rattle.std.specs.Cmp.{eq_by_cmp_equiv}
use Rattle.std.proofs.lemmas.List.Sums.{length-filter}
use Rattle.med_base.specs.declared.key.FileKey.{FileKey}
use Rattle.med_base.specs.Key.{key_eq}
use Rattle.med_base.specs.KeyOrder.{key_total}
use Rattle.med_outside.specs.declared.nodes.RawKey.{RawKey}
use Rattle.med_outside.specs.Snapshot.{Snapshot, key_of_raw, HasKey, IsListed}

module _ (E : FileKey → Bool) (k : FileKey) (ks : List FileKey) where
  counted : E k ≡ true → count_by E (k ∷ ks) ≡ 0 → ⊥
  counted is none =
      let kept = ap (λ b. cond b (k ∷ filter E ks) (filter E ks)) is in
      let long : length (filter E (k ∷ ks)) ≡ suc (length (filter E ks)) = ap length kept in
      let short : length (filter E (k ∷ ks)) ≡ 0 = length-filter E (k ∷ ks) ∙ none in
      absurd (omega (arith, long, short))

module _ (s : Snapshot) (listed : IsListed s) where
  in_order : (k : FileKey) (ks : List FileKey) → k ∷ ks ≡ s.order → HasKey k s
  in_order k ks is = go (contains_key s.files k) refl
    where
      go : (b : Bool) → contains_key s.files k ≡ b → contains_key s.files k ≡ true
      go true has = has
      go false has =
          let none = ap (count_by (key_eq k)) is ∙ listed k ∙ ap (λ b. cond b 1 0) has in
          absurd (counted (key_eq k) k ks ((eq_by_cmp_equiv key_total).refl k) none)

-- the first key of those that it answers
pub first_has_file : (told : Option Snapshot) (keys : List RawKey) (raw : RawKey) (key : FileKey)
    → IfSome told IsListed → IfSome told (λ s. map key_of_raw keys ≡ s.order)
    → 0 < length keys → raw ≡ get_or keys 0 raw → key ≡ key_of_raw raw → IfSome told (HasKey key)
first_has_file None keys raw key listed is some at named = tt
first_has_file (Some s) [] raw key listed is some at named = absurd (omega arith)
first_has_file (Some s) (k ∷ keys) raw key listed is some at named =
    let same : key_of_raw k ≡ key = ap key_of_raw (sym at) ∙ sym named in
    rw (← same) (in_order s listed (key_of_raw k) (map key_of_raw keys) is)
