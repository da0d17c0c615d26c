-- What a rebuild plans and makes, from one call to the next.
use Rattle.std.proofs.Common.{◌≡◌, ◌∙◌, ◌⊎◌, inl, inr, ◌+◌, ℕ, Bool, true, false, cond, List, [], ◌∷◌, ◌++◌, Vec, Option, Some, None, IfSome, Ok, Err, is_some, refl, sym, ap, subst}
use Rattle.std.proofs.lemmas.List.Elements.{recursion_from_All}
use Rattle.std.proofs.lemmas.Map.Views.{All-found}
use Rattle.std.specs.declared.alloc.Global.{Global}
use Rattle.std.specs.BTreeMap.{BTreeMap, IsOrdered, get}
use Rattle.std.specs.Cmp.Lexicographic.{nat_list_cmp_total}
use Rattle.std.specs.List.{AllByRecursion}
use Rattle.std.specs.Map.{keys_of}
use Rattle.med_base.specs.Classify.{kind_of}
use Rattle.med_base.specs.Content.{Content}
use Rattle.med_base.specs.Effects.{Effect, Stores, Removes}
use Rattle.med_base.specs.Kinds.{Kind, Shared, Own, Meta, Entry, Latest, Stray, Other}
use Rattle.med_base.specs.NameOrder.{name_cmp}
use Rattle.med_base.proofs.Bools.{same_bytes}
use Rattle.med_base.proofs.Lists.{all_append, all_with}
use Rattle.med_manifest.specs.Mend.{changes_of_mend}
use Rattle.med_manifest.specs.Rebuild.{IsRebuildOf, is_entry_of_node}
use Rattle.med_index.specs.declared.changes.Planned.{Planned}
use Rattle.med_index.specs.declared.changes.Planned.TheVariants.{Put, Delete}
use Rattle.med_index.specs.declared.errors.IndexError.{IndexError}
use Rattle.med_index.specs.declared.errors.IndexError.TheVariants.{BadManifest, Store, Memory}
use Rattle.med_index.specs.declared.errors.ListError.{ListError}
use Rattle.med_index.specs.declared.errors.ListError.TheVariants as list_error
use Rattle.med_index.specs.declared.report.IndexReport.{IndexReport}
use Rattle.med_index.specs.Errors.{as_index_error}
use Rattle.med_index.specs.Gathered.{IsGathered, TellsUnread}
use Rattle.med_index.specs.Given.{AreOfNode, Given}
use Rattle.med_index.specs.Planned.{ArePlanned, IsOfIndexPlan}
use Rattle.med_index.specs.Plans.{count_of, deletes_of, puts_of}
use Rattle.med_index.specs.Rebuilt.{AnswersRebuild, AreOfIndex, IsOfIndex, IsRebuild, Reports, removals, stores}
use Rattle.med_index.proofs.PlanLemmas.{same_path}
use Rattle.med_index.proofs.RebuildLemmas.{rebuilt}

-- ---- the plan is of the index of the node

entry_in_index : (f : List ℕ) (k : Kind) → is_entry_of_node f k ≡ true → IsOfIndex f k
entry_in_index f (Entry g n kind) e = same_bytes g f e
entry_in_index f (Shared g key) e = absurd (cc e)
entry_in_index f (Own g n key) e = absurd (cc e)
entry_in_index f (Meta g n kind) e = absurd (cc e)
entry_in_index f (Latest g kind) e = absurd (cc e)
entry_in_index f (Stray g n) e = absurd (cc e)
entry_in_index f Other e = absurd (cc e)

module _ (before f : List ℕ) where
  -- the path is that of an entry of the node
  abbrev IsEntryPath : List ℕ → Type 0
  IsEntryPath path = is_entry_of_node f (kind_of before path) ≡ true

  keys_in : {X : Type 0} (m : BTreeMap (List ℕ) X) → IsOrdered name_cmp m → AreOfNode before f m
      → AllByRecursion (λ (e : List ℕ × X). IsEntryPath e.0) m.entries
  keys_in {X} m ordered of_node =
      all_with (λ (e : List ℕ × X). get name_cmp m e.0 ≡ Some e.1)
      (λ (e : List ℕ × X). IsEntryPath e.0) (λ e got. of_node e.0 e.1 got) m.entries
      (recursion_from_All (λ (e : List ℕ × X). get name_cmp m e.0 ≡ Some e.1) m.entries
      (All-found nat_list_cmp_total m ordered))

  one_delete : (b : Bool) (path : List ℕ) (ps : List Planned) → IsEntryPath path
      → AllByRecursion (IsOfIndexPlan before f) ps
      → AllByRecursion (IsOfIndexPlan before f) (cond b [] (Delete path ∷ []) ++ ps)
  one_delete true path ps is all = all
  one_delete false path ps is all = (entry_in_index f (kind_of before path) is, all)

  deletes_in : (m : Given) (es : List (List ℕ × ℕ))
      → AllByRecursion (λ (e : List ℕ × ℕ). IsEntryPath e.0) es
      → AllByRecursion (IsOfIndexPlan before f) (deletes_of m (keys_of es))
  deletes_in m [] all = tt
  deletes_in m (e ∷ es) all =
      one_delete (is_some (get name_cmp m e.0)) e.0 (deletes_of m (keys_of es)) all.0
      (deletes_in m es all.1)

  puts_in : (es : List (List ℕ × Option (Vec ℕ Global)))
      → AllByRecursion (λ (e : List ℕ × Option (Vec ℕ Global)). IsEntryPath e.0) es
      → AllByRecursion (IsOfIndexPlan before f) (puts_of es)
  puts_in [] all = tt
  puts_in ((path, None) ∷ es) all = puts_in es all.1
  puts_in ((path, Some bytes) ∷ es) all =
      (entry_in_index f (kind_of before path) all.0, puts_in es all.1)

  pub entries_in : (given : Given) (sizes : BTreeMap (List ℕ) ℕ) (plan new : List Planned)
      → IsOrdered name_cmp given → IsOrdered name_cmp sizes → AreOfNode before f given
      → AreOfNode before f sizes
      → new ≡ plan ++ (deletes_of given (keys_of sizes.entries) ++ puts_of given.entries)
      → AllByRecursion (IsOfIndexPlan before f) plan
      → AllByRecursion (IsOfIndexPlan before f) new
  entries_in given sizes plan new ordered rising of_given of_sizes is all =
      subst (AllByRecursion (IsOfIndexPlan before f)) (sym is)
      (all_append (IsOfIndexPlan before f) plan
      (deletes_of given (keys_of sizes.entries) ++ puts_of given.entries) all
      (all_append (IsOfIndexPlan before f) (deletes_of given (keys_of sizes.entries))
      (puts_of given.entries) (deletes_in given sizes.entries (keys_in sizes rising of_sizes))
      (puts_in given.entries (keys_in given ordered of_given))))

  -- changes that were planned of the index of a node are of it
  pub index_made : (ps : List Planned) (xs : List Effect) → ArePlanned ps xs
      → AllByRecursion (IsOfIndexPlan before f) ps → AreOfIndex before f xs
  index_made [] [] a all = tt
  index_made [] (x ∷ xs) a all = absurd a
  index_made (p ∷ ps) [] a all = absurd a
  index_made (p ∷ ps) (x ∷ xs) a all = (
    subst (λ path. IsOfIndex f (kind_of before path)) (sym (same_path p x a.0)) all.0,
    index_made ps xs a.1 all.1,
  )

  -- ---- what the plan becomes

  pub plan_made : (told : Option Content) (given : Given) (sizes : BTreeMap (List ℕ) ℕ)
      (mend new : List Planned) → IsOrdered name_cmp given → IsOrdered name_cmp sizes
      → IfSome told (λ c. IsGathered before f c given sizes)
      → IfSome told (λ c. (xs : List Effect) → ArePlanned mend xs
      → (seconds : ℕ → ℕ) × (xs ≡ changes_of_mend before c f [] seconds))
      → new ≡ mend ++ (deletes_of given (keys_of sizes.entries) ++ puts_of given.entries)
      → IfSome told (λ c. (xs : List Effect) → ArePlanned new xs → IsRebuildOf before c f xs)
  plan_made None given sizes mend new ordered rising all mends is = tt
  plan_made (Some c) given sizes mend new ordered rising all mends is = λ xs planned.
      rebuilt before f c given ordered all.right all.complete sizes rising all.sized mend mends
      all.read xs (subst (λ l. ArePlanned l xs) is planned)

-- where what is found is told, what follows from it is
pub told_on : (P Q R : Content → Type 0) (told : Option Content) → ((c : Content) → P c → Q c → R c)
    → IfSome told P → IfSome told Q → IfSome told R
told_on P Q R None step p q = tt
told_on P Q R (Some c) step p q = step c p q

-- ---- counts

pub counted : (ps : List Planned) (xs : List Effect) → ArePlanned ps xs
    → (count_of true ps ≡ stores xs) × (count_of false ps ≡ removals xs)
counted [] [] a = (refl, refl)
counted [] (x ∷ xs) a = absurd a
counted (p ∷ ps) [] a = absurd a
counted (Put path bytes ∷ ps) (Stores at stored second ∷ xs) a =
    let more = counted ps xs a.1 in (ap (λ n. 1 + n) more.0, more.1)
counted (Put path bytes ∷ ps) (Removes at ∷ xs) a = absurd a.0
counted (Delete path ∷ ps) (Stores at stored second ∷ xs) a = absurd a.0
counted (Delete path ∷ ps) (Removes at ∷ xs) a =
    let more = counted ps xs a.1 in (more.0, ap (λ n. 1 + n) more.1)

-- ---- what a rebuild answers

module _ (before f : List ℕ) (told : Option Content) where
  -- nothing was made
  pub refused_rebuild : (e : IndexError) → IfSome told (λ c. TellsUnread before c f e)
      → IsRebuild before told f (Err e) []
  refused_rebuild e tells = record {
    reach = tt;
    reports = reports e;
    list = list e told tells;
  }
    where
      reports : (e : IndexError) → Reports (Err e) []
      reports (BadManifest path why) = refl
      reports Store = tt
      reports Memory = tt

      list : (e : IndexError) (t : Option Content) → IfSome t (λ c. TellsUnread before c f e)
          → IfSome t (λ c. AnswersRebuild before c f (Err e) [])
      list e None tells = tt
      list (BadManifest path why) (Some c) tells = tells
      list Store (Some c) tells = inl refl
      list Memory (Some c) tells = inl refl

  module _ (ps : List Planned) (xs : List Effect) (planned : ArePlanned ps xs)
      (all : AllByRecursion (IsOfIndexPlan before f) ps)
      (made : IfSome told (λ c. (xs : List Effect) → ArePlanned ps xs → IsRebuildOf before c f xs))
    where
      here : (t : Option Content)
          → IfSome t (λ c. (xs : List Effect) → ArePlanned ps xs → IsRebuildOf before c f xs)
          → IfSome t (λ c. IsRebuildOf before c f xs)
      here None made = tt
      here (Some c) made = made xs planned

      -- the whole list, or a part of it, was made
      pub done_rebuild : (report : IndexReport) → report.put ≡ count_of true ps
          → report.deleted ≡ count_of false ps → IsRebuild before told f (Ok report) xs
      done_rebuild report put deleted = record {
        reach = index_made before f ps xs planned all;
        reports = (put ∙ (counted ps xs planned).0, deleted ∙ (counted ps xs planned).1);
        list = here told made;
      }

      cut : (t : Option Content) → IfSome t (λ c. IsRebuildOf before c f xs)
          → IfSome t (λ c. (xs ≡ []) ⊎ IsRebuildOf before c f xs)
      cut None is = tt
      cut (Some c) is = inr is

      pub cut_by_store : IsRebuild before told f (Err Store) xs
      cut_by_store = record {
        reach = index_made before f ps xs planned all;
        reports = tt;
        list = cut told (here told made);
      }

      pub cut_by_memory : IsRebuild before told f (Err Memory) xs
      cut_by_memory = record {
        reach = index_made before f ps xs planned all;
        reports = tt;
        list = cut told (here told made);
      }

      pub cut_rebuild : (error : ListError) (e : IndexError) → e ≡ as_index_error error
          → IsRebuild before told f (Err e) xs
      cut_rebuild list_error.Store e is =
          subst (λ e. IsRebuild before told f (Err e) xs) (sym is) cut_by_store
      cut_rebuild list_error.Memory e is =
          subst (λ e. IsRebuild before told f (Err e) xs) (sym is) cut_by_memory
