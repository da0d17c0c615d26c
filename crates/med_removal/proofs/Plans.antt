-- What goes with a removal is what its list takes.
use Rattle.std.proofs.Common.{◌≡◌, ◌∙◌, ◌++◌, ◌&&◌, ◌∷◌, [], ℕ, Bool, true, cond, not, List, Option, Some, None, IfSome, Result, Ok, Err, IfOk, IfErr, filter, bytes_eq, refl, sym, ap, subst}
use Rattle.std.specs.BTreeMap.{BTreeMap}
use Rattle.std.specs.BTreeSet.{BTreeSet, contains}
use Rattle.std.specs.Cmp.{both_ways}
use Rattle.std.specs.FinMap.{get}
use Rattle.std.specs.List.{AllByRecursion, flat_map, list_any}
use Rattle.med_base.specs.Classify.{kind_of}
use Rattle.med_base.specs.Content.{Content}
use Rattle.med_base.specs.Effects.{Effect}
use Rattle.med_base.specs.Kinds.{Kind, Shared, Own, Meta, Entry, Latest, Stray, Other}
use Rattle.med_base.specs.NameOrder.{name_cmp}
use Rattle.med_core.specs.Counts.{as_bytes, as_file}
use Rattle.med_core.specs.Removal.{is_old, is_shared_of, old_unnamed, paths_of_backup}
use Rattle.med_manifest.proofs.Members.{IsListed, all_listed, any_same, same_any}
use Rattle.med_manifest.specs.Mend.{changes_of_mend}
use Rattle.med_manifest.specs.Listed.{paths_of}
use Rattle.med_index.specs.declared.marks.Marks.{Marks}
use Rattle.med_index.specs.declared.errors.IndexError.{IndexError}
use Rattle.med_index.specs.declared.errors.ListError.{ListError}
use Rattle.med_index.specs.declared.errors.ListError.TheVariants as list
use Rattle.med_index.specs.Errors.{as_index_error}
use Rattle.med_index.specs.Planned.{ArePlanned}
use Rattle.med_index.specs.Marks.{IsSetOf}
use Rattle.med_index.specs.Visits.{AreFound}
use Rattle.med_removal.specs.declared.going.Going.{Going}
use Rattle.med_removal.specs.declared.planning.RemovalPlan.{RemovalPlan}
use Rattle.med_removal.specs.Going.{Adds, held, weights}
use Rattle.med_removal.specs.Named.{AreNamesOutside, HasShared, TellsUnreadOutside, is_shared_kind}
use Rattle.med_removal.specs.Picking.{old_outside}
use Rattle.med_removal.specs.Plan.{IsGone, IsPlanOver}
use Rattle.med_removal.proofs.Adding.{counted_none}

filter_alike : {X : Type 0} (p q : X → Bool) (xs : List X) → AllByRecursion (λ x. p x ≡ q x) xs
    → filter p xs ≡ filter q xs
filter_alike p q [] all = refl
filter_alike p q (x ∷ xs) all =
    ap (λ b. cond b (x ∷ filter p xs) (filter p xs)) all.0
    ∙ ap (λ l. cond (q x) (x ∷ l) l) (filter_alike p q xs all.1)

shared_kind : (f : List ℕ) (k : Kind) → is_shared_of f k ≡ true → is_shared_kind k ≡ true
shared_kind f (Shared g key) is = refl
shared_kind f (Own g n key) is = absurd (cc is)
shared_kind f (Meta g n kind) is = absurd (cc is)
shared_kind f (Entry g n kind) is = absurd (cc is)
shared_kind f (Latest g kind) is = absurd (cc is)
shared_kind f (Stray g n) is = absurd (cc is)
shared_kind f Other is = absurd (cc is)

-- the set stands for the list of the paths that are named
old_is : (before : List ℕ) (c : Content) (f : List ℕ) (named : List (List ℕ))
    (set : BTreeSet (List ℕ)) (grace now : ℕ) → HasShared before named set
    → old_outside before c f set grace now ≡ old_unnamed before c f named grace now
old_is before c f named set grace now has =
    filter_alike (λ path. not (contains name_cmp set path) && is_old (get c path) grace now)
    (λ path. not (list_any (bytes_eq path) named) && is_old (get c path) grace now)
    (paths_of before c (is_shared_of f))
    (alike (paths_of before c (is_shared_of f)) (all_listed before c (is_shared_of f)))
  where
    same : (p : List ℕ) → is_shared_kind (kind_of before p) ≡ true
        → contains name_cmp set p ≡ list_any (bytes_eq p) named
    same p shared =
        both_ways (contains name_cmp set p) (list_any (bytes_eq p) named)
        (λ is. any_same p named ((has p shared).0 is))
        (λ is. (has p shared).1 (same_any p named is))

    alike : (ps : List (List ℕ)) → AllByRecursion (IsListed before c (is_shared_of f)) ps
        → AllByRecursion
        (λ p. (not (contains name_cmp set p) && is_old (get c p) grace now)
        ≡ (not (list_any (bytes_eq p) named) && is_old (get c p) grace now)) ps
    alike [] all = tt
    alike (p ∷ ps) all = (
      ap (λ b. not b && is_old (get c p) grace now)
          (same p (shared_kind f (kind_of before p) all.0.0)),
      alike ps all.1,
    )

module _ (before f : List ℕ) (found : BTreeMap (List ℕ) Marks) (names : List (List ℕ))
    (cut set : BTreeSet (List ℕ)) (grace now : ℕ) (none middle last : Going) where
  gone : (c : Content) → none.paths.items ≡ [] → none.files ≡ 0 → none.bytes ≡ 0
      → AreNamesOutside before c f names set
      → Adds before f c (flat_map (paths_of_backup before c f) names) none middle
      → Adds before f c (old_outside before c f set grace now) middle last
      → IsGone before c f names grace now last
  gone c empty files bytes outside first second = record {
    read = outside.read;
    named = outside.paths;
    named_are = outside.paths_are;
    paths =
        second.paths
        ∙ ap (λ l. l ++ old_outside before c f set grace now)
        (first.paths ∙ ap (λ l. l ++ flat_map (paths_of_backup before c f) names) empty)
        ∙ ap (λ l. flat_map (paths_of_backup before c f) names ++ l)
        (old_is before c f outside.paths set grace now outside.shared);
    counted = second.counted (first.counted (counted_none before f c none empty files bytes));
  }

  -- the same over any storage, which was only read
  pub gone_told : (told once twice : Option Content) → once ≡ told → twice ≡ told
      → none.paths.items ≡ [] → none.files ≡ 0 → none.bytes ≡ 0
      → IfSome told (λ c. AreFound f found before f c [] → (ns : List (List ℕ)) → IsSetOf ns cut
      → AreNamesOutside before c f ns set)
      → IfSome once (λ c. AreFound f found before f c []
      → Adds before f c (flat_map (paths_of_backup before c f) names) none middle)
      → IfSome twice (λ c. Adds before f c (old_outside before c f set grace now) middle last)
      → IfSome told (λ c. AreFound f found before f c [] → IsSetOf names cut
      → IsGone before c f names grace now last)
  gone_told None once twice same1 same2 empty files bytes outside first second = tt
  gone_told (Some c) once twice same1 same2 empty files bytes outside first second = λ there is.
      gone c empty files bytes (outside there names is)
      (subst (λ o. IfSome o (λ d. AreFound f found before f d []
      → Adds before f d (flat_map (paths_of_backup before d f) names) none middle)) same1 first
      there)
      (subst (λ o. IfSome o
      (λ d. Adds before f d (old_outside before d f set grace now) middle last)) same2 second)

-- an error that tells of no manifest
pub no_manifest : (before f : List ℕ) (names : List (List ℕ)) (P : Content → Type 0) (Q : Type 0)
    (told : Option Content) (error : ListError) (e : IndexError) → e ≡ as_index_error error
    → IfSome told (λ c. P c → Q → TellsUnreadOutside before c f names e)
no_manifest before f names P Q None error e is = tt
no_manifest before f names P Q (Some c) error e is = λ p q.
    subst (TellsUnreadOutside before c f names) (sym is) (go error)
  where
    go : (error : ListError) → TellsUnreadOutside before c f names (as_index_error error)
    go list.Store = tt
    go list.Memory = tt

-- the plan of what goes, and of the mend
pub over_told : (before f : List ℕ) (found : BTreeMap (List ℕ) Marks) (names : List (List ℕ))
    (cut : BTreeSet (List ℕ)) (grace now : ℕ) (going : Going) (plan : RemovalPlan)
    (told later : Option Content) → later ≡ told → plan.paths.items ≡ going.paths.items
    → plan.removed.files ≡ going.files → plan.removed.bytes ≡ going.bytes
    → IfSome told (λ c. AreFound f found before f c [] → IsSetOf names cut
    → IsGone before c f names grace now going)
    → IfSome later (λ c. AreFound f found before f c [] → (ns : List (List ℕ)) → IsSetOf ns cut
    → (xs : List Effect) → ArePlanned plan.mend.items xs
    → (seconds : ℕ → ℕ) × (xs ≡ changes_of_mend before c f ns seconds))
    → IfSome told (λ c. AreFound f found before f c [] → IsSetOf names cut
    → IsPlanOver before c f names grace now plan)
over_told before f found names cut grace now going plan None later same paths files bytes gone mend =
    tt
over_told before f found names cut grace now going plan (Some c) later same paths files bytes gone
    mend =
    λ there is.
    let so = gone there is in
    record {
      read = so.read;
      mend = subst (λ o. IfSome o (λ d. AreFound f found before f d [] → (ns : List (List ℕ))
          → IsSetOf ns cut → (xs : List Effect) → ArePlanned plan.mend.items xs
          → (seconds : ℕ → ℕ) × (xs ≡ changes_of_mend before d f ns seconds))) same mend there names
          is;
      named = so.named;
      named_are = so.named_are;
      paths = paths ∙ so.paths;
      files =
          files ∙ so.counted.files
          ∙ ap (λ ps. held (weights (as_file before f) c ps)) (sym paths);
      bytes =
          bytes ∙ so.counted.bytes
          ∙ ap (λ ps. held (weights (as_bytes before f) c ps)) (sym paths);
    }

-- what was found before
found_first : (A P : Content → Type 0) (B : Type 0) (told later : Option Content) → later ≡ told
    → IfSome told A → B → IfSome later (λ c. A c → B → P c) → IfSome told P
found_first A P B None later same found set so = tt
found_first A P B (Some c) later same found set so =
    subst (λ o. IfSome o (λ d. A d → B → P d)) same so found set

pub ok_first : {X E : Type 0} (A : Content → Type 0) (P : X → Content → Type 0) (B : Type 0)
    (told later : Option Content) (r : Result X E) → later ≡ told → IfSome told A → B
    → IfOk r (λ x. IfSome later (λ c. A c → B → P x c)) → IfOk r (λ x. IfSome told (P x))
ok_first A P B told later (Ok x) same found set so = found_first A (P x) B told later same found set so
ok_first A P B told later (Err e) same found set so = tt

pub err_first : {X E : Type 0} (A : Content → Type 0) (P : E → Content → Type 0) (B : Type 0)
    (told later : Option Content) (r : Result X E) → later ≡ told → IfSome told A → B
    → IfErr r (λ e. IfSome later (λ c. A c → B → P e c)) → IfErr r (λ e. IfSome told (P e))
err_first A P B told later (Ok x) same found set so = tt
err_first A P B told later (Err e) same found set so =
    found_first A (P e) B told later same found set so
