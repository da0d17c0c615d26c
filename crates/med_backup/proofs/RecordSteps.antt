-- The records of files that were placed in a row are those over the content before the first place.
use Rattle.std.proofs.Common.{◌≡◌, ◌∙◌, ℕ, Bool, List, [], ◌∷◌, map, refl, sym, ap, subst, if◌then◌else◌}
use Rattle.std.specs.FinMap.{get}
use Rattle.std.specs.List.{AllByRecursion}
use Rattle.std.specs.declared.cmp.Ordering.TheVariants.{Less}
use Rattle.med_base.specs.declared.key.FileKey.{FileKey}
use Rattle.med_base.specs.Classify.{kind_of}
use Rattle.med_base.specs.Content.{Content}
use Rattle.med_base.specs.Effects.{applied}
use Rattle.med_base.specs.Key.{AreRising, IsKey, key_cmp}
use Rattle.med_base.specs.Kinds.{IsBackupName, IsFqdn}
use Rattle.med_base.specs.Layout.{shared_path}
use Rattle.med_core.specs.declared.records.Record.{Record}
use Rattle.med_core.specs.Finish.{Fresh, placed_again, rechecked}
use Rattle.med_core.specs.Place.{placed_record}
use Rattle.med_core.specs.Run.{IsRun}
use Rattle.med_core.specs.Section.{Event, Running}
use Rattle.med_manifest.proofs.ByKind.{key_by_kind}
use Rattle.med_backup.specs.Backups.{PlacedFile, places_of, records_over}
use Rattle.med_backup.specs.Sections.{AreDone, all_effects}
use Rattle.med_backup.proofs.EndFacts.{IsStored}
use Rattle.med_backup.proofs.KeyLemmas.{not_below}
use Rattle.med_backup.proofs.MadeFacts.{placed_stand}
use Rattle.med_backup.proofs.PlacedFiles.{IsOfKey, all_placed, same_record}

-- the records of files that stand are as before a look
rechecked_kept : (before f n : List ℕ) (d : Bool) (fresh : Fresh) (c : Content) (rs : List Record)
    → AllByRecursion (λ (r : Record). IsStored c r.file) rs
    → rechecked before f n d fresh c rs ≡ rs
rechecked_kept before f n d fresh c [] stored = refl
rechecked_kept before f n d fresh c (r ∷ rs) stored =
    ap (λ (kept : Bool). if kept then r ∷ rechecked before f n d fresh c rs
    else placed_record before f n d r.file.key (fresh.bytes r.file.key) c
    ∷ rechecked before f n d fresh
    (applied (placed_again before f n d fresh c r.file).changes c) rs) stored.0
    ∙ ap (λ (l : List Record). r ∷ l) (rechecked_kept before f n d fresh c rs stored.1)

-- files whose keys are below one are of other keys
below_apart : (before : List ℕ) (key : FileKey) (q : List ℕ) (files : List PlacedFile)
    → ((k : FileKey) → IsOfKey k (kind_of before q) → key ≡ k)
    → AllByRecursion (λ (k : FileKey). key_cmp k key ≡ Less)
    (map (λ (p : PlacedFile). p.0) files)
    → AllByRecursion (λ (p : PlacedFile). IsOfKey p.0 (kind_of before q) → ⊥) files
below_apart before key q [] only below = tt
below_apart before key q (p ∷ ps) only below = (
  λ is. not_below key (subst (λ (k : FileKey). key_cmp k key ≡ Less) (sym (only p.0 is)) below.0),
  below_apart before key q ps only below.1,
)

module _ (before f n : List ℕ) (d : Bool) (files : List PlacedFile) (es : List Event)
    (c : Content) (running : Running) (run : IsRun before c running es)
    (done : AreDone f (places_of n d files) es)
    (rising : AreRising (map (λ (p : PlacedFile). p.0) files)) (now : Content)
    (now_is : now ≡ applied (all_effects es) c) where
  -- the record of one more file
  pub record_on : (key : FileKey) (bytes : List ℕ) → IsFqdn f → IsBackupName n → IsKey key
      → AllByRecursion (λ (k : FileKey). key_cmp k key ≡ Less)
      (map (λ (p : PlacedFile). p.0) files)
      → placed_record before f n d key bytes now ≡ placed_record before f n d key bytes c
  record_on key bytes node name is_key below =
      let has = (key_by_kind before f n key node name is_key).shared in
      same_record before f n d key bytes c now
      (ap (λ (e : Content). get e (shared_path before f key)) now_is
      ∙ (all_placed before f n d files es c running run done rising).apart
      (shared_path before f key)
      (below_apart before key (shared_path before f key) files
      (λ k is. subst (IsOfKey k) has is) below))

  -- the records behind the look of a finish
  pub records_ended : (fresh : Fresh) (sorted rs : List Record)
      → sorted ≡ records_over before f n d c files
      → rs ≡ rechecked before f n d fresh now sorted → rs ≡ records_over before f n d c files
  records_ended fresh sorted rs sorted_is rs_are =
      rs_are
      ∙ rechecked_kept before f n d fresh now sorted
      (subst (AllByRecursion (λ (r : Record). IsStored now r.file)) (sym sorted_is)
      (subst (λ (e : Content). AllByRecursion (λ (r : Record). IsStored e r.file)
      (records_over before f n d c files)) (sym now_is)
      (placed_stand before f n d c (applied (all_effects es) c) files
      (all_placed before f n d files es c running run done rising).kept)))
      ∙ sorted_is
