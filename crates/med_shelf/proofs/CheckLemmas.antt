-- A look at one record before a finish.
use Rattle.std.proofs.Common.{◌≡◌, ◌∙◌, ℕ, Bool, true, false, List, [], Option, Some, None, option_map, Result, Ok, Err, IfOk, IfSome, refl, ap, subst, if◌then◌else◌}
use Rattle.std.specs.FinMap.{get}
use Rattle.std.specs.List.{AllByRecursion}
use Rattle.med_base.specs.declared.fingerprint.Fingerprint.{Fingerprint}
use Rattle.med_base.specs.Content.{Content, Object}
use Rattle.med_base.specs.Effects.{Effect}
use Rattle.med_core.specs.declared.records.Record.{Record}
use Rattle.med_core.specs.Finish.{is_stored_as}
use Rattle.med_core.specs.Place.{placed_record, placing}
use Rattle.med_manifest.specs.Manifest.{IsPathOf}
use Rattle.med_outside.specs.declared.copy_fault.CopyFault.{CopyFault}
use Rattle.med_outside.specs.declared.copy_fault.CopyFault.TheVariants as fault
use Rattle.med_outside.specs.declared.storage.Stat.{Stat}
use Rattle.med_outside.specs.declared.trace.Trace.{Trace}
use Rattle.med_outside.specs.Makes.{IsError}
use Rattle.med_outside.specs.Snapshot.{Snapshot, HasKey}
use Rattle.med_outside.specs.State.{State, OnlyReads, History}
use Rattle.med_outside.specs.Storage.{AnswersStat}
use Rattle.med_outside.proofs.Making.{in_turn, nothing_yet}
use Rattle.med_outside.proofs.Passing.{after_all-nothing}
use Rattle.med_shelf.specs.Checks.{ChecksRecord, IsChecked, changes_of_check, checked_record, is_kept}
use Rattle.med_shelf.specs.Places.{IsFilePut, IsRecordOf, PlacesFile, stands_as}
use Rattle.med_shelf.proofs.PlaceLemmas.{puts_placing}
use Rattle.med_shelf.proofs.SendLemmas.{print_in, some_file, stat_print}

as_stored : (print : Fingerprint) (o : Option Object)
    → stands_as (print_in o) print ≡ is_stored_as print o
as_stored print None = refl
as_stored print (Some o) = refl

-- what was found says whether the record stays, where that is told
kept_told : (r : Record) (told : Option Content) (found : Option Stat) (kept : Bool)
    → AnswersStat r.file.path told found
    → kept ≡ stands_as (option_map (λ (s : Stat). s.fingerprint) found) r.file.fingerprint
    → IfSome told (λ c. kept ≡ is_kept c r)
kept_told r None found kept answer is = tt
kept_told r (Some c) found kept answer is =
    is ∙ ap (λ o. stands_as o r.file.fingerprint)
    (ap (option_map (λ (s : Stat). s.fingerprint)) answer ∙ stat_print (get c r.file.path))
    ∙ as_stored r.file.fingerprint (get c r.file.path)

module _ (before f n : List ℕ) (d : Bool) (r : Record) where
  -- ---- the changes of a look

  pub puts_check : (bytes : List ℕ) (second : ℕ) (c : Content)
      → AllByRecursion (IsFilePut before f n r.file.key bytes)
      (changes_of_check before f n d r bytes second c)
  puts_check bytes second c = go (is_kept c r)
    where
      go : (kept : Bool) → AllByRecursion (IsFilePut before f n r.file.key bytes)
          (if kept then [] else (placing before f n d r.file.key bytes second c).changes)
      go true = tt
      go false = puts_placing before f n r.file.key d bytes second c

  -- the same by what is told
  abbrev told_changes : (bytes : List ℕ) (second : ℕ) → Option Content → List Effect
  told_changes bytes second None = []
  told_changes bytes second (Some c) = changes_of_check before f n d r bytes second c

  told_puts : (bytes : List ℕ) (second : ℕ) (told : Option Content)
      → AllByRecursion (IsFilePut before f n r.file.key bytes) (told_changes bytes second told)
  told_puts bytes second None = tt
  told_puts bytes second (Some c) = puts_check bytes second c

  told_list : (bytes : List ℕ) (second : ℕ) (told : Option Content) → IfSome told
      (λ c. told_changes bytes second told ≡ changes_of_check before f n d r bytes second c)
  told_list bytes second None = tt
  told_list bytes second (Some c) = refl

  stays : (bytes : List ℕ) (second : ℕ) (told : Option Content)
      → IfSome told (λ c. true ≡ is_kept c r)
      → IfSome told (λ c. ◌≡◌ {A = List Effect} []
      (changes_of_check before f n d r bytes second c))
      × IfSome told (λ c. r ≡ checked_record before f n d r bytes c)
  stays bytes second None is = (tt, tt)
  stays bytes second (Some c) is = (
    ap (λ kept. if kept then [] else (placing before f n d r.file.key bytes second c).changes) is,
    ap (λ kept. if kept then r else placed_record before f n d r.file.key bytes c) is,
  )

  list_again : (bytes : List ℕ) (second : ℕ) (xs : List Effect) (told : Option Content)
      → IfSome told (λ c. false ≡ is_kept c r)
      → IfSome told (λ c. xs ≡ (placing before f n d r.file.key bytes second c).changes)
      → IfSome told (λ c. xs ≡ changes_of_check before f n d r bytes second c)
  list_again bytes second xs None gone is = tt
  list_again bytes second xs (Some c) gone is =
      is ∙ ap (λ kept. if kept then []
      else (placing before f n d r.file.key bytes second c).changes) gone

  record_again : (bytes : List ℕ) (now : Record) (told : Option Content)
      → IfSome told (λ c. false ≡ is_kept c r)
      → IfSome told (λ c. now ≡ placed_record before f n d r.file.key bytes c)
      → IfSome told (λ c. now ≡ checked_record before f n d r bytes c)
  record_again bytes now None gone is = tt
  record_again bytes now (Some c) gone is =
      is ∙ ap (λ kept. if kept then r else placed_record before f n d r.file.key bytes c) gone

  answer_again : (bytes : List ℕ) (told : Option Content) → IfSome told (λ c. false ≡ is_kept c r)
      → (result : Result Record CopyFault)
      → IfOk result (IsRecordOf before f n d r.file.key bytes told)
      → IfOk result (IsChecked before f n d r bytes told)
  answer_again bytes told gone (Ok now) is = record {
    key_is = is.key_is;
    path_is = is.path_is;
    record_is = record_again bytes now told gone is.record_is;
  }
  answer_again bytes told gone (Err answer) is = tt

  module _ (held : Option Snapshot) (s0 s1 : State) (p0 p1 : History) (t0 : Trace)
      (sure : t0.unsure ≡ false) (looks : OnlyReads s0 s1 p0 p1) where
    -- the look was refused
    pub none_checked : (answer : CopyFault) → IfSome held (HasKey r.file.key)
        → ChecksRecord before f n d r held (Err answer) s0 s1 p0 p1 t0 t0
    none_checked answer has =
        let (bytes, whole) = some_file held r.file.key has in
        record {
          bytes = bytes;
          file_is = whole;
          second = 0;
          xs = told_changes bytes 0 s0.content;
          puts = told_puts bytes 0 s0.content;
          list = told_list bytes 0 s0.content;
          makes = nothing_yet _ _ s0 s1 p0 p1 t0 t0 _ (λ fine. absurd (cc fine)) refl sure
              looks.moves;
          answer = tt;
        }

    module _ (found : Option Stat) (told : AnswersStat r.file.path s0.content found) where
      -- the record stays
      pub stays_checked : IfSome held (HasKey r.file.key) → IsPathOf before f n r.file.key r.file.path
          → true ≡ stands_as (option_map (λ (s : Stat). s.fingerprint) found) r.file.fingerprint
          → ChecksRecord before f n d r held (Ok r) s0 s1 p0 p1 t0 t0
      stays_checked has path kept =
          let (bytes, whole) = some_file held r.file.key has in
          let same = stays bytes 0 s0.content (kept_told r s0.content found true told kept) in
          record {
            bytes = bytes;
            file_is = whole;
            second = 0;
            xs = [];
            puts = tt;
            list = same.0;
            makes = nothing_yet _ _ s0 s1 p0 p1 t0 t0 [] (λ fine. refl) refl sure looks.moves;
            answer = record { key_is = refl; path_is = path; record_is = same.1 };
          }

      -- its file was placed again
      pub again_checked : (s2 : State) (p2 : History) (t1 : Trace)
          → false ≡ stands_as (option_map (λ (s : Stat). s.fingerprint) found) r.file.fingerprint
          → (result : Result Record CopyFault)
          → PlacesFile before f n d r.file.key held result s1 s2 p1 p2 t0 t1
          → ChecksRecord before f n d r held result s0 s2 p0 p2 t0 t1
      again_checked s2 p2 t1 not_kept result placed =
          let same : s1.content ≡ s0.content =
          looks.moves.passes.content ∙ after_all-nothing s0.content in
          let gone = kept_told r s0.content found false told not_kept in
          record {
            bytes = placed.bytes;
            file_is = placed.file_is;
            second = placed.second;
            xs = placed.xs;
            puts = placed.puts;
            list = list_again placed.bytes placed.second placed.xs s0.content gone
                (subst (λ (o : Option Content). IfSome o
                (λ c. placed.xs
                ≡ (placing before f n d r.file.key placed.bytes placed.second c).changes)) same
                placed.list);
            makes = in_turn (Unit {0}) (IsError result fault.Store) _ _ [] _ s0 s1 s2 p0 p1 p2 t0
                t0 t1 tt (nothing_yet (Unit {0}) (IsError result fault.Store) s0 s1 p0 p1 t0 t0 []
                (λ _. refl) refl sure looks.moves) placed.makes;
            answer = answer_again placed.bytes s0.content gone result
                (subst (λ (o : Option Content). IfOk result
                (IsRecordOf before f n d r.file.key placed.bytes o)) same placed.record_is);
          }
