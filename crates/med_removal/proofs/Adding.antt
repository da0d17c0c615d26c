-- What a walk picked is added to what goes.
use Rattle.std.proofs.Common.{◌≡◌, ◌∙◌, ◌++◌, ◌+◌, [], ℕ, true, List, Option, Some, None, IfSome, Result, Ok, Err, OnOk, refl, sym, ap, subst, append-nil}
use Rattle.std.specs.List.{AllByRecursion}
use Rattle.med_base.proofs.Lists.{all_append, all_with}
use Rattle.med_base.specs.Classify.{kind_of}
use Rattle.med_base.specs.Content.{Content}
use Rattle.med_core.specs.Counts.{Weight, as_bytes, as_file}
use Rattle.med_core.specs.Reach.{MayRemove}
use Rattle.med_core.specs.Section.{Call}
use Rattle.med_outside.specs.Storage.{listing}
use Rattle.med_removal.specs.declared.going.Going.{Going}
use Rattle.med_removal.specs.declared.picking.Which.{Which}
use Rattle.med_removal.specs.Going.{AddsAll, Adds, AreRemovable, IsCounted, held, weights}
use Rattle.med_removal.specs.Picking.{ArePicked, Covers, IsPicking, Suits, may_go, picked, picked_of}
use Rattle.med_removal.proofs.Listing.{all_picked, listed_in, may_remove}
use Rattle.med_removal.proofs.Picks.{held_both, weights_append}

module _ (before f : List ℕ) (c : Content) where
  -- nothing is counted at first
  pub counted_none : (g : Going) → g.paths.items ≡ [] → g.files ≡ 0 → g.bytes ≡ 0
      → IsCounted before f c g
  counted_none g empty files bytes = record {
    files = files ∙ zero (as_file before f);
    bytes = bytes ∙ zero (as_bytes before f);
  }
    where
      zero : (w : Weight) → 0 ≡ held (weights w c g.paths.items)
      zero w = sym (ap (λ ps. held (weights w c ps)) empty)

  -- what was counted apart is counted together
  pub counted_all : (found old new : Going) → AddsAll found old new → IsCounted before f c found
      → IsCounted before f c old → IsCounted before f c new
  counted_all found old new adds more was = record {
    files = both (as_file before f) old.files found.files new.files adds.files was.files more.files;
    bytes =
        both (as_bytes before f) old.bytes found.bytes new.bytes adds.bytes was.bytes more.bytes;
  }
    where
      both : (w : Weight) (a b d : ℕ) → d ≡ held (a + b) → a ≡ held (weights w c old.paths.items)
          → b ≡ held (weights w c found.paths.items) → d ≡ held (weights w c new.paths.items)
      both w a b d sum first second =
          sum ∙ (λ i. held (first i + second i))
          ∙ held_both (weights w c old.paths.items) (weights w c found.paths.items)
          ∙ ap held (sym (weights_append w c old.paths.items found.paths.items))
          ∙ ap (λ ps. held (weights w c ps)) (sym adds.paths)

module _ (before f : List ℕ) (which which_now : Which) (node_now under : List ℕ)
    (none found old new : Going) (same : which_now ≡ which) (empty : none.paths.items ≡ [])
    (adds : AddsAll found old new) where
  -- where the storage is told
  pub added_told : (told : Option Content) → Covers before f which under → none.files ≡ 0
      → none.bytes ≡ 0
      → IfSome told (λ c. (g : List ℕ) → ArePicked before c g which f none (listing under c)
      → ArePicked before c g which_now node_now found [])
      → IfSome told (λ c. Adds before f c (picked_of before c f which) old new)
  added_told None covers files bytes walked = tt
  added_told (Some c) covers files bytes walked =
      let last = walked f (record {
        node_is = refl;
        paths =
            ap (λ ps. ps ++ picked before f which (listing under c)) empty
            ∙ all_picked before f c which under covers;
        counted = counted_none before f c none empty files bytes;
        entries = listed_in under c;
      }) in
      record {
        paths =
            adds.paths
            ∙ ap (λ ps. old.paths.items ++ ps)
            (sym (append-nil found.paths.items) ∙ last.paths
            ∙ ap (picked_of before c f) same);
        counted = counted_all before f c found old new adds last.counted;
      }

  -- over every storage
  pub added_within : (call : Call) → Suits call which
      → (IsPicking before f which f none.paths.items
      → IsPicking before f which_now node_now found.paths.items)
      → AreRemovable before f call old.paths.items → AreRemovable before f call new.paths.items
  added_within call suits walked was =
      let last = walked
      (refl, subst (AllByRecursion (λ p. may_go f which (kind_of before p) ≡ true)) (sym empty) tt)
      in
      let kinds : AllByRecursion (λ p. may_go f which (kind_of before p) ≡ true) found.paths.items =
      subst (λ w. AllByRecursion (λ p. may_go f w (kind_of before p) ≡ true) found.paths.items) same
      last.1 in
      subst (AreRemovable before f call) (sym adds.paths)
      (all_append (λ p. MayRemove f call (kind_of before p)) old.paths.items found.paths.items was
      (all_with (λ p. may_go f which (kind_of before p) ≡ true)
      (λ p. MayRemove f call (kind_of before p))
      (λ p is. may_remove f which call (kind_of before p) suits is) found.paths.items kinds))

-- any call suits the old files
pub suited : {T E : Type 0} (before f : List ℕ) (old new : Going) (r : Result T E)
    → OnOk r ((call : Call) → Unit {0} → AreRemovable before f call old.paths.items
    → AreRemovable before f call new.paths.items)
    → OnOk r ((call : Call) → AreRemovable before f call old.paths.items
    → AreRemovable before f call new.paths.items)
suited before f old new (Ok x) so = λ call. so call tt
suited before f old new (Err e) so = tt
