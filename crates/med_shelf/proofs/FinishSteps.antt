-- A finish: records in order of their keys, and the look at them, the text and the end in a row.
use Rattle.std.proofs.Common.{◌≡◌, ◌≢◌, ◌∙◌, ◌+◌, suc, ℕ, Bool, true, false, List, [], ◌∷◌, ◌++◌, append-nil, slice_index_or, Option, Some, None, Result, Ok, Err, IsOk, IfSome, inl, inr, refl, sym, ap, subst, arith}
use Rattle.std.proofs.lemmas.List.Elements.{All-from_recursion, recursion_from_All}
use Rattle.std.proofs.lemmas.List.Sorted.{All-permutation, IsPermutation-map}
use Rattle.std.proofs.lemmas.Map.Keys.{IsDistinct-IsPermutation}
use Rattle.std.specs.Cmp.{Equal-is, eq_by_cmp_equiv}
use Rattle.std.specs.List.{AllByRecursion, IsDistinct}
use Rattle.std.specs.List.Sorted.{IsPermutation, IsSorted}
use Rattle.std.specs.Ordering.{is_lt, ordering_reverse}
use Rattle.std.specs.declared.cmp.Ordering.{Ordering}
use Rattle.std.specs.declared.cmp.Ordering.TheVariants.{Less, Equal, Greater}
use Rattle.med_base.specs.declared.key.FileKey.{FileKey}
use Rattle.med_base.specs.Effects.{Effect, after_all}
use Rattle.med_base.specs.Key.{AreRising, IsKey, key_cmp, key_eq}
use Rattle.med_base.specs.KeyOrder.{key_total}
use Rattle.med_base.proofs.Lists.{all_with}
use Rattle.med_core.specs.declared.records.Record.{Record}
use Rattle.med_manifest.specs.Manifest.{AreFilesOf, IsManifest, IsPathOf, NamesThese}
use Rattle.med_manifest.specs.Written.{manifest_text}
use Rattle.med_manifest.specs.declared.manifest.FileRecord.{FileRecord}
use Rattle.med_outside.specs.declared.copy_fault.CopyFault.{CopyFault}
use Rattle.med_outside.specs.declared.copy_fault.CopyFault.TheVariants as fault
use Rattle.med_outside.specs.declared.denied.Denied.{Denied}
use Rattle.med_outside.specs.declared.denied.Denied.TheVariants.{Failed, Memory}
use Rattle.med_outside.specs.declared.trace.Trace.{Trace}
use Rattle.med_outside.specs.Makes.{IsError, Makes}
use Rattle.med_outside.specs.Sent.{fault_of}
use Rattle.med_outside.specs.Snapshot.{Snapshot}
use Rattle.med_outside.specs.State.{State, History}
use Rattle.med_outside.proofs.Making.{in_turn, told_as}
use Rattle.med_shelf.specs.declared.finished.Finished.{Finished}
use Rattle.med_shelf.specs.Checks.{ChecksRecords}
use Rattle.med_shelf.specs.Ends.{EndsBackup, IsEnding}
use Rattle.med_shelf.specs.Finishes.{FinishesSorted, IsEnded}
use Rattle.med_shelf.specs.Records.{AreRecordsOf, AreSorted, files_of, keys_of, record_cmp}
use Rattle.med_shelf.proofs.CheckedSoFar.{made_content}

-- ---- records in order of their keys

-- a record that isn't above the next, and has another key, is below it
below_next : (r q : Record) → is_lt (record_cmp q r) ≡ false
    → key_eq r.file.key q.file.key ≡ false → key_cmp r.file.key q.file.key ≡ Less
below_next r q up apart = go (key_cmp q.file.key r.file.key) refl up
  where
    go : (o : Ordering) → key_cmp q.file.key r.file.key ≡ o → is_lt o ≡ false
        → key_cmp r.file.key q.file.key ≡ Less
    go Less e up = absurd (cc)
    go Equal e up =
        let is : key_cmp r.file.key q.file.key ≡ Equal =
        key_total.antisymm r.file.key q.file.key ∙ ap ordering_reverse e in
        let same : key_eq r.file.key q.file.key ≡ true =
        (Equal-is (key_cmp r.file.key q.file.key)).1 is in
        absurd (cc (same, apart))
    go Greater e up =
        key_total.antisymm r.file.key q.file.key ∙ ap ordering_reverse e

tail_sorted : (r : Record) (rs : List Record) → IsSorted record_cmp (r ∷ rs)
    → IsSorted record_cmp rs
tail_sorted r rs sorted k d low high =
    let next : suc k + 1 ≡ suc (k + 1) = omega arith in
    subst
    (λ (n : ℕ). is_lt (record_cmp (slice_index_or (r ∷ rs) n d) (slice_index_or rs k d)) ≡ false)
    next (sorted (suc k) d (omega arith) (omega (arith, high)))

-- records that don't fall, and have keys of their own, rise
pub rising_sorted : (rs : List Record) → IsSorted record_cmp rs → IsDistinct key_eq (keys_of rs)
    → AreRising (keys_of rs)
unfolding IsDistinct
rising_sorted [] sorted apart = tt
rising_sorted (r ∷ []) sorted apart = (tt, tt)
rising_sorted (r ∷ (q ∷ rs)) sorted apart =
    let first = below_next r q (sorted 0 r (omega arith) (omega arith)) apart.0.0 in
    let rest = rising_sorted (q ∷ rs) (tail_sorted r (q ∷ rs) sorted) apart.1 in (
      (
        first,
        all_with (λ (k : FileKey). key_cmp q.file.key k ≡ Less)
            (λ (k : FileKey). key_cmp r.file.key k ≡ Less)
            (λ k less. key_total.trans r.file.key q.file.key k first less) (keys_of rs) rest.0,
      ),
      rest,
    )

-- keys that differ stay so in any order
pub once_moved : (rs sorted : List Record) → IsPermutation rs sorted
    → IsDistinct key_eq (keys_of rs) → IsDistinct key_eq (keys_of sorted)
once_moved rs sorted moved once =
    IsDistinct-IsPermutation key_eq (eq_by_cmp_equiv key_total).symm (keys_of rs) (keys_of sorted)
    (IsPermutation-map (λ (r : Record). r.file.key) rs sorted moved) once

-- the records of a claim in order of their keys
pub sorted_of : (before f n : List ℕ) (rs sorted : List Record) → IsPermutation rs sorted
    → IsSorted record_cmp sorted → AreRecordsOf before f n rs → AreSorted rs sorted
sorted_of before f n rs sorted moved order are = record {
  same = moved;
  rising = rising_sorted sorted order (once_moved rs sorted moved are.once);
}

-- what holds of each record of a claim
pub all_moved : (P : Record → Type 0) (rs sorted : List Record) → IsPermutation rs sorted
    → AllByRecursion P rs → AllByRecursion P sorted
all_moved P rs sorted moved all =
    recursion_from_All P sorted
    (All-permutation P rs sorted moved (All-from_recursion P rs all))

-- the same, where something is told
pub told_moved : {X : Type 0} (P : X → Record → Type 0) (told : Option X) (rs sorted : List Record)
    → IsPermutation rs sorted → IfSome told (λ x. AllByRecursion (P x) rs)
    → IfSome told (λ x. AllByRecursion (P x) sorted)
told_moved P None rs sorted moved all = tt
told_moved P (Some x) rs sorted moved all = all_moved (P x) rs sorted moved all

-- ---- the look, the text and the end

-- the fault of a call of the storage isn't one of the snapshot
pub never_snap : (denied : Denied) → fault_of fault.Store denied ≢ fault.Snap
never_snap Failed is = absurd (cc is)
never_snap Memory is = absurd (cc is)

-- the files of records with these keys and paths are files of the backup
of_files : (before f n : List ℕ) (sorted rs : List Record) → keys_of rs ≡ keys_of sorted
    → AllByRecursion (λ (r : Record). IsKey r.file.key) sorted
    → AllByRecursion (λ (r : Record). IsPathOf before f n r.file.key r.file.path) rs
    → AreFilesOf before f n (files_of rs)
of_files before f n sorted rs same keys paths =
    (files_keyed rs (subst (AllByRecursion IsKey) (sym same) (keyed sorted keys)), files_there rs paths)
  where
    keyed : (rs : List Record) → AllByRecursion (λ (r : Record). IsKey r.file.key) rs
        → AllByRecursion IsKey (keys_of rs)
    keyed [] all = tt
    keyed (r ∷ rs) all = (all.0, keyed rs all.1)

    files_keyed : (rs : List Record) → AllByRecursion IsKey (keys_of rs)
        → AllByRecursion (λ (q : FileRecord). IsKey q.key) (files_of rs)
    files_keyed [] all = tt
    files_keyed (r ∷ rs) all = (all.0, files_keyed rs all.1)

    files_there : (rs : List Record)
        → AllByRecursion (λ (r : Record). IsPathOf before f n r.file.key r.file.path) rs
        → AllByRecursion (λ (q : FileRecord). IsPathOf before f n q.key q.path) (files_of rs)
    files_there [] all = tt
    files_there (r ∷ rs) all = (all.0, files_there rs all.1)

module _ (before f n : List ℕ) (d : Bool) (sorted : List Record) (held : Option Snapshot) where
  -- the look was refused, or its records have no text
  pub cut_finish : {T : Type 0} (result : Result T CopyFault) (items : T → List Record)
      (answer : CopyFault) (s0 s1 : State) (p0 p1 : History) (t0 t1 : Trace)
      → (IsError result fault.Store → answer ≡ fault.Store)
      → ChecksRecords before f n d sorted held result items s0 s1 p0 p1 t0 t1
      → FinishesSorted before f n d sorted held (Err answer) s0 s1 p0 p1 t0 t1
  cut_finish result items answer s0 s1 p0 p1 t0 t1 blames checks = record {
    fresh = checks.fresh;
    fresh_is = checks.fresh_is;
    looked = checks.xs;
    looked_are = checks.puts;
    list = checks.list;
    ended = [];
    ends = inl refl;
    makes = subst (λ xs. Makes (false ≡ true) (answer ≡ fault.Store) xs s0 s1 p0 p1 t0 t1)
        (sym (append-nil checks.xs))
        (told_as (IsOk result) (IsError result fault.Store) (false ≡ true)
        (answer ≡ fault.Store) checks.xs s0 s1 p0 p1 t0 t1 (λ ok. absurd (cc ok)) blames
        checks.makes);
  }

  module _ {T : Type 0} (v : T) (items : T → List Record) (s0 s1 s2 : State) (p0 p1 p2 : History)
      (t0 t1 t2 : Trace) (checks : ChecksRecords before f n d sorted held (Ok v) items s0 s1 p0 p1 t0 t1)
      (keys : AllByRecursion (λ (r : Record). IsKey r.file.key) sorted) (text : List ℕ)
      (text_is : text ≡ manifest_text (files_of (items v)))
      (names : NamesThese text (files_of (items v))) where
    -- what is put behind the look
    ended : (second : ℕ) (xs : List Effect) → IsEnding before f n s1.content text second xs
        → IsEnded before f n d sorted checks.fresh s0.content checks.xs (items v) second xs
    ended second xs ending = record {
      records_are = checks.answer;
      names = subst (λ l. IsManifest before f n l (files_of (items v))) text_is
          (names before f n
          (of_files before f n sorted (items v) checks.answer.keys_are keys
          checks.answer.paths_are));
      ending = subst (λ l. IsEnding before f n (after_all checks.xs s0.content) l second xs) text_is
          (subst (λ told. IsEnding before f n told text second xs)
          (made_content ⊥ checks.xs s0 s1 p0 p1 t0 t1
          (told_as (true ≡ true) ⊥ (Unit {0}) ⊥ checks.xs s0 s1 p0 p1 t0 t1 (λ ok. refl)
          (λ never. never) checks.makes)) ending);
    }

    in_a_row : (fine blamed : Type 0) (xs : List Effect) → Makes fine blamed xs s1 s2 p1 p2 t1 t2
        → Makes fine blamed (checks.xs ++ xs) s0 s2 p0 p2 t0 t2
    in_a_row fine blamed xs makes =
        in_turn (true ≡ true) ⊥ fine blamed checks.xs xs s0 s1 s2 p0 p1 p2 t0 t1 t2 refl
        checks.makes makes

    -- the end was refused
    pub refused_finish : (denied : Denied) (answer : CopyFault)
        → (denied ≡ Failed → answer ≡ fault.Store) → answer ≢ fault.Snap
        → EndsBackup before f n text (Err denied) s1 s2 p1 p2 t1 t2
        → FinishesSorted before f n d sorted held (Err answer) s0 s2 p0 p2 t0 t2
    refused_finish denied answer blames apart ends = record {
      fresh = checks.fresh;
      fresh_is = checks.fresh_is;
      looked = checks.xs;
      looked_are = checks.puts;
      list = checks.list;
      ended = ends.xs;
      ends = inr (apart, items v, ends.second, ended ends.second ends.xs ends.ending);
      makes = in_a_row (false ≡ true) (answer ≡ fault.Store) ends.xs
          (told_as (false ≡ true) (denied ≡ Failed) (false ≡ true) (answer ≡ fault.Store) ends.xs
          s1 s2 p1 p2 t1 t2 (λ never. never) blames ends.makes);
    }

    -- all was done
    pub whole_finish : (second : ℕ) (finished : Finished) → finished.name ≡ n
        → finished.second ≡ second → finished.records.items ≡ items v
        → EndsBackup before f n text (Ok second) s1 s2 p1 p2 t1 t2
        → FinishesSorted before f n d sorted held (Ok finished) s0 s2 p0 p2 t0 t2
    whole_finish second finished name_is second_is records_are ends = record {
      fresh = checks.fresh;
      fresh_is = checks.fresh_is;
      looked = checks.xs;
      looked_are = checks.puts;
      list = checks.list;
      ended = ends.xs;
      ends = (
        name_is,
        subst (λ at. IsEnded before f n d sorted checks.fresh s0.content checks.xs
            finished.records.items at ends.xs) (sym (second_is ∙ ends.answer))
            (subst (λ rs. IsEnded before f n d sorted checks.fresh s0.content checks.xs rs
            ends.second ends.xs) (sym records_are) (ended ends.second ends.xs ends.ending)),
      );
      makes = in_a_row (true ≡ true) ⊥ ends.xs ends.makes;
    }
