-- What stands under the paths of a removal is what its list takes.
use Rattle.std.proofs.Common.{◌≡◌, ◌≢◌, ◌∙◌, ◌++◌, ◌+◌, ◌∷◌, [], ℕ, Bool, true, false, List, Option, Some, None, bytes_eq, cond, length, refl, sym, ap, arith}
use Rattle.std.specs.FinMap.{get}
use Rattle.std.specs.List.{AllByRecursion}
use Rattle.med_base.specs.declared.kinds.LatestKind.{LatestKind}
use Rattle.med_base.specs.Classify.{kind_of}
use Rattle.med_base.specs.Content.{Content, Object}
use Rattle.med_base.specs.Effects.{Effect, Stores, Removes, made}
use Rattle.med_base.specs.Kinds.{Latest, IsFqdn, IsBackupName}
use Rattle.med_core.proofs.Removals.{mend_all}
use Rattle.med_core.specs.Counts.{Weight, as_bytes, as_file, is_data_of, lost, lost_all, removed_bytes, removed_files, weight_in}
use Rattle.med_core.specs.Removal.{changes_of_removal, paths_of_removal}
use Rattle.med_core.specs.Section.{AreInByteOrder}
use Rattle.med_manifest.proofs.ByKind.{at, path_has}
use Rattle.med_manifest.proofs.Gets.{from_same, get_delete_other, get_put_other, same_itself}
use Rattle.med_manifest.specs.Listed.{removes}
use Rattle.med_manifest.specs.Mend.{changes_of_mend}
use Rattle.med_index.specs.Rebuilt.{changed}
use Rattle.med_removal.specs.Going.{weights}
use Rattle.med_removal.proofs.Apart.{AreApart, removal_apart}

module _ (w : Weight) where
  -- what the change is of weighs nothing
  abbrev IsQuiet : Effect → Type 0
  IsQuiet x = (o : Object) → w (changed x) o ≡ 0

  none_in : (path : List ℕ) → ((o : Object) → w path o ≡ 0) → (o : Option Object)
      → weight_in w path o ≡ 0
  none_in path quiet None = refl
  none_in path quiet (Some o) = quiet o

  lost_nothing : (c : Content) (x : Effect) → IsQuiet x → lost w c x ≡ 0
  lost_nothing c (Stores path bytes second) quiet = refl
  lost_nothing c (Removes path) quiet = none_in path quiet (get c path)

  get_other : (c : Content) (x : Effect) (p : List ℕ) → p ≢ changed x
      → get (made x c) p ≡ get c p
  get_other c (Stores path bytes second) p other = get_put_other c path bytes second p other
  get_other c (Removes path) p other = get_delete_other c path p other

  weight_stays : (c : Content) (x : Effect) → IsQuiet x → (p : List ℕ)
      → weight_in w p (get (made x c) p) ≡ weight_in w p (get c p)
  weight_stays c x quiet p = go (bytes_eq p (changed x)) refl
    where
      go : (b : Bool) → bytes_eq p (changed x) ≡ b
          → weight_in w p (get (made x c) p) ≡ weight_in w p (get c p)
      go true e =
          let none : (o : Object) → w p o ≡ 0 =
          λ o. ap (λ q. w q o) (from_same p (changed x) e) ∙ quiet o in
          none_in p none (get (made x c) p) ∙ sym (none_in p none (get c p))
      go false e =
          ap (weight_in w p)
          (get_other c x p
          (λ same. absurd (let is = ap (bytes_eq p) (sym same) ∙ same_itself p in cc (is, e))))

  weights_stay : (c : Content) (x : Effect) → IsQuiet x → (ps : List (List ℕ))
      → weights w (made x c) ps ≡ weights w c ps
  weights_stay c x quiet [] = refl
  weights_stay c x quiet (p ∷ ps) = λ i. weight_stays c x quiet p i + weights_stay c x quiet ps i

  -- the paths weigh as much behind the removal of another one
  weights_behind : (c : Content) (p : List ℕ) (ps : List (List ℕ))
      → AllByRecursion (λ q. p ≢ q) ps → weights w (made (Removes p) c) ps ≡ weights w c ps
  weights_behind c p [] apart = refl
  weights_behind c p (q ∷ ps) apart = λ i.
      weight_in w q (get_delete_other c p q (λ same. apart.0 (sym same)) i)
      + weights_behind c p ps apart.1 i

  lost_removed : (ps : List (List ℕ)) (c : Content) → AreApart ps
      → lost_all w c (removes ps) ≡ weights w c ps
  lost_removed [] c apart = refl
  lost_removed (p ∷ ps) c apart =
      ap (λ n. weight_in w p (get c p) + n)
      (lost_removed ps (made (Removes p) c) apart.1 ∙ weights_behind c p ps apart.0)

  lost_behind : (xs : List Effect) (ps : List (List ℕ)) (c : Content)
      → AllByRecursion IsQuiet xs → AreApart ps
      → lost_all w c (xs ++ removes ps) ≡ weights w c ps
  lost_behind [] ps c quiet apart = lost_removed ps c apart
  lost_behind (x ∷ xs) ps c quiet apart =
      (λ i. lost_nothing c x quiet.0 i
      + (lost_behind xs ps (made x c) quiet.1 apart ∙ weights_stay c x quiet.0 ps) i)
      ∙ zero (weights w c ps)
    where
      zero : (n : ℕ) → 0 + n ≡ n
      zero n = omega arith

module _ (before f : List ℕ) (c : Content) (node : IsFqdn f) (names named : List (List ℕ))
    (grace now : ℕ) (seconds : ℕ → ℕ) (valid : AllByRecursion IsBackupName names)
    (order : AreInByteOrder names) where
  no_data : (e : LatestKind) → is_data_of f (kind_of before (at before (Latest f e))) ≡ false
  no_data e = ap (is_data_of f) (path_has before (Latest f e) tt node)

  counted : (w : Weight) → ((e : LatestKind) (o : Object) → w (at before (Latest f e)) o ≡ 0)
      → lost_all w c (changes_of_removal before c f names named grace now seconds)
      ≡ weights w c (paths_of_removal before c f names named grace now)
  counted w quiet =
      lost_behind w (changes_of_mend before c f names seconds)
      (paths_of_removal before c f names named grace now) c
      (mend_all (IsQuiet w) before c f names seconds (λ e b s. quiet e) quiet)
      (removal_apart before f c node names named grace now valid order)

  pub counted_files : removed_files before f c
      (changes_of_removal before c f names named grace now seconds)
      ≡ weights (as_file before f) c (paths_of_removal before c f names named grace now)
  counted_files = counted (as_file before f) (λ e o. ap (λ b. cond b 1 0) (no_data e))

  pub counted_bytes : removed_bytes before f c
      (changes_of_removal before c f names named grace now seconds)
      ≡ weights (as_bytes before f) c (paths_of_removal before c f names named grace now)
  counted_bytes =
      counted (as_bytes before f) (λ e o. ap (λ b. cond b (length o.bytes) 0) (no_data e))
