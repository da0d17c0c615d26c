-- A look at records, one after the other: what was made so far.
use Rattle.std.proofs.Common.{◌≡◌, ◌∙◌, ℕ, Bool, true, false, List, [], ◌∷◌, ◌++◌, append_assoc, append-nil, map, Option, Some, None, Result, Ok, Err, IsOk, IfOk, IfSome, refl, sym, ap, subst, if◌then◌else◌}
use Rattle.std.specs.List.{AllByRecursion, Contains}
use Rattle.std.specs.declared.cmp.Ordering.TheVariants.{Less}
use Rattle.std.proofs.lemmas.List.{map-append}
use Rattle.med_base.specs.declared.key.FileKey.{FileKey}
use Rattle.med_base.specs.Content.{Content}
use Rattle.med_base.specs.Effects.{Effect, applied, after_all}
use Rattle.med_base.specs.Key.{AreRising, key_cmp}
use Rattle.med_base.proofs.Lists.{all_append, all_push, all_split, all_with}
use Rattle.med_core.specs.declared.records.Record.{Record}
use Rattle.med_core.specs.Finish.{Fresh, checked, placed_again, rechecked, with_placing, with_record}
use Rattle.med_manifest.specs.Manifest.{IsPathOf}
use Rattle.med_outside.specs.declared.copy_fault.CopyFault.{CopyFault}
use Rattle.med_outside.specs.declared.copy_fault.CopyFault.TheVariants as fault
use Rattle.med_outside.specs.declared.trace.Trace.{Trace}
use Rattle.med_outside.specs.Makes.{IsError, Makes, took, tried}
use Rattle.med_outside.specs.Sent.{IsWholeFile}
use Rattle.med_outside.specs.Snapshot.{HasKey, Snapshot}
use Rattle.med_outside.specs.State.{State, History}
use Rattle.med_outside.proofs.Making.{cut_short, in_turn, nothing_yet, told_as}
use Rattle.med_outside.proofs.Passing.{moves_at_rest}
use Rattle.med_shelf.specs.Checks.{AreChecked, AreFresh, ChecksRecord, ChecksRecords, IsChecked, PutsOne, changes_of_check, checked_record, is_kept}
use Rattle.med_shelf.specs.Places.{IsFilePut}
use Rattle.med_shelf.specs.Records.{files_of, keys_of}
use Rattle.med_shelf.proofs.PlaceLemmas.{puts_placing}
use Rattle.med_shelf.proofs.CheckedLists.{checked_on}
use Rattle.med_shelf.proofs.CheckSteps.{first_fresh, fresh_first, with_fresh, fresh_next, whole_in, below_key, has_at_cut, list_next, records_next}

-- the first records were looked at
pub record SoFar (before f n : List ℕ) (d : Bool) (all front kept : List Record)
    (held : Option Snapshot) (fine fault : Type 0) (s0 s1 : State) (p0 p1 : History)
    (t0 t1 : Trace) : Type 0
  where
    pub fresh : Fresh
    pub fresh_is : AreFresh held all fresh
    pub xs : List Effect
    pub puts : AllByRecursion (PutsOne before f n held all) xs
    pub list : IfSome s0.content
        (λ c. xs ≡ (checked before f n d fresh c (files_of front)).changes)
    pub makes : Makes fine fault xs s0 s1 p0 p1 t0 t1
    pub answer : fine → AreChecked before f n d front fresh s0.content kept

-- the content behind a list all of which was made
pub made_content : (fault : Type 0) (xs : List Effect) (s0 s1 : State) (p0 p1 : History) (t0 t1 : Trace)
    → Makes (Unit {0}) fault xs s0 s1 p0 p1 t0 t1 → s1.content ≡ after_all xs s0.content
made_content fault xs s0 s1 p0 p1 t0 t1 m =
    let ended = m.whole tt in
    let all : xs ≡ m.done =
    m.split ∙ ap (λ l. m.done ++ (tried l ++ m.rest)) ended.0 ∙ ap (λ l. m.done ++ l) ended.1
    ∙ append-nil m.done in
    m.moves.passes.content ∙ ap (λ l. after_all (m.done ++ took l) s0.content) ended.0
    ∙ ap (λ l. after_all l s0.content) (append-nil m.done ∙ sym all)

among : (front rest all : List Record) → all ≡ front ++ rest
    → AllByRecursion (λ (r : Record). Contains all r) rest
among front [] all is = tt
among front (r ∷ rest) all is = (
  has_at_cut all front r rest is,
  among (front ++ r ∷ []) rest all (is ∙ sym (append_assoc front (r ∷ []) rest)),
)

module _ (before f n : List ℕ) (d : Bool) (all : List Record) (held : Option Snapshot) where
  -- the list of the records that are left puts their files
  puts_rest : (x : Fresh) (rs : List Record) → AllByRecursion (λ (r : Record). Contains all r) rs
      → AllByRecursion (λ (r : Record). IsWholeFile held r.file.key (x.bytes r.file.key)) rs
      → (c : Content) → AllByRecursion (PutsOne before f n held all)
      (checked before f n d x c (files_of rs)).changes
  puts_rest x [] are whole c = tt
  puts_rest x (r ∷ rs) are whole c =
      go (is_kept c r) (puts_rest x rs are.1 whole.1 c)
      (puts_rest x rs are.1 whole.1 (applied (placed_again before f n d x c r.file).changes c))
    where
      go : (kept : Bool)
          → AllByRecursion (PutsOne before f n held all)
          (checked before f n d x c (files_of rs)).changes
          → AllByRecursion (PutsOne before f n held all)
          (checked before f n d x (applied (placed_again before f n d x c r.file).changes c)
          (files_of rs)).changes
          → AllByRecursion (PutsOne before f n held all)
          (if kept then with_record r.file (checked before f n d x c (files_of rs))
          else with_placing (placed_again before f n d x c r.file)
          (checked before f n d x (applied (placed_again before f n d x c r.file).changes c)
          (files_of rs))).changes
      go true stay again = stay
      go false stay again =
          all_append (PutsOne before f n held all) (placed_again before f n d x c r.file).changes
          (checked before f n d x (applied (placed_again before f n d x c r.file).changes c)
          (files_of rs)).changes
          (all_with (IsFilePut before f n r.file.key (x.bytes r.file.key))
          (PutsOne before f n held all)
          (λ e put. (r, x.bytes r.file.key, are.0, whole.0, put))
          (placed_again before f n d x c r.file).changes
          (puts_placing before f n r.file.key d (x.bytes r.file.key) (x.second r.file.key) c)) again

  rest_changes : Fresh → (xs : List Effect) → List Record → Option Content → List Effect
  rest_changes x xs rest None = []
  rest_changes x xs rest (Some c) =
      (checked before f n d x (applied xs c) (files_of rest)).changes

  rest_puts : (x : Fresh) (xs : List Effect) (rest : List Record)
      → AllByRecursion (λ (r : Record). Contains all r) rest
      → AllByRecursion (λ (r : Record). IsWholeFile held r.file.key (x.bytes r.file.key)) rest
      → (told : Option Content)
      → AllByRecursion (PutsOne before f n held all) (rest_changes x xs rest told)
  unfolding rest_changes
  rest_puts x xs rest are whole None = tt
  rest_puts x xs rest are whole (Some c) = puts_rest x rest are whole (applied xs c)

  rest_list : (x : Fresh) (xs : List Effect) (front rest : List Record) → all ≡ front ++ rest
      → (told : Option Content)
      → IfSome told (λ c. xs ≡ (checked before f n d x c (files_of front)).changes)
      → IfSome told (λ c. xs ++ rest_changes x xs rest told
      ≡ (checked before f n d x c (files_of all)).changes)
  unfolding rest_changes
  rest_list x xs front rest is None so = tt
  rest_list x xs front rest is (Some c) so =
      ap (λ l. l ++ (checked before f n d x (applied l c) (files_of rest)).changes) so
      ∙ sym (checked_on before f n d x (files_of front) (files_of rest) c)
      ∙ ap (λ l. (checked before f n d x c l).changes)
      (sym (ap files_of is ∙ map-append (λ (q : Record). q.file) front rest))

  -- the look ended before these records
  pub stopped : {T : Type 0} (front kept rest : List Record) (fine blamed : Type 0)
      (answer : CopyFault) (items : T → List Record) (s0 s1 : State) (p0 p1 : History)
      (t0 t1 : Trace) → all ≡ front ++ rest
      → SoFar before f n d all front kept held fine blamed s0 s1 p0 p1 t0 t1
      → (blamed → answer ≡ fault.Store)
      → ChecksRecords {T = T} before f n d all held (Err answer) items s0 s1 p0 p1 t0 t1
  stopped front kept rest fine blamed answer items s0 s1 p0 p1 t0 t1 is so blames = record {
    fresh = so.fresh;
    fresh_is = so.fresh_is;
    xs = so.xs ++ rest_changes so.fresh so.xs rest s0.content;
    puts = all_append (PutsOne before f n held all) so.xs
        (rest_changes so.fresh so.xs rest s0.content) so.puts
        (rest_puts so.fresh so.xs rest (among front rest all is)
        (all_split (λ (r : Record). IsWholeFile held r.file.key (so.fresh.bytes r.file.key)) front
        rest
        (subst (AllByRecursion
        (λ (r : Record). IsWholeFile held r.file.key (so.fresh.bytes r.file.key))) is
        (whole_in held all so.fresh so.fresh_is))).1 s0.content);
    list = rest_list so.fresh so.xs front rest is s0.content so.list;
    makes = cut_short fine blamed (false ≡ true) (answer ≡ fault.Store) so.xs
        (rest_changes so.fresh so.xs rest s0.content) s0 s1 p0 p1 t0 t1
        (λ ok. absurd (cc ok)) blames so.makes;
    answer = tt;
  }

  -- all were looked at
  pub all_looked : {T : Type 0} (front kept : List Record) (v : T) (items : T → List Record)
      (s0 s1 : State) (p0 p1 : History) (t0 t1 : Trace) → front ≡ all → items v ≡ kept
      → SoFar before f n d all front kept held (Unit {0}) ⊥ s0 s1 p0 p1 t0 t1
      → ChecksRecords {T = T} before f n d all held (Ok v) items s0 s1 p0 p1 t0 t1
  all_looked front kept v items s0 s1 p0 p1 t0 t1 is kept_is so = record {
    fresh = so.fresh;
    fresh_is = so.fresh_is;
    xs = so.xs;
    puts = so.puts;
    list = subst (λ (rs : List Record). IfSome s0.content
        (λ c. so.xs ≡ (checked before f n d so.fresh c (files_of rs)).changes)) is so.list;
    makes = told_as (Unit {0}) ⊥ (true ≡ true) ⊥ so.xs s0 s1 p0 p1 t0 t1 (λ ok. tt)
        (λ never. never) so.makes;
    answer =
        subst (λ (rs : List Record). AreChecked before f n d rs so.fresh s0.content (items v)) is
        (subst (AreChecked before f n d front so.fresh s0.content) (sym kept_is) (so.answer tt));
  }

  -- one record more
  module _ (front kept : List Record) (r : Record) (rest : List Record) (s0 s1 s2 : State)
      (p0 p1 p2 : History) (t0 t1 t2 : Trace)
      (so : SoFar before f n d all front kept held (Unit {0}) ⊥ s0 s1 p0 p1 t0 t1)
      (is : all ≡ front ++ r ∷ rest) (rising : AreRising (keys_of all))
      (result : Result Record CopyFault)
      (one : ChecksRecord before f n d r held result s1 s2 p1 p2 t1 t2) (kept_now : List Record)
      (now_is : IfOk result (λ q. kept_now ≡ kept ++ q ∷ [])) where
    below : AllByRecursion (λ (q : Record). key_cmp q.file.key r.file.key ≡ Less) front
    below = below_key front r rest (subst (λ l. AreRising (keys_of l)) is rising)

    told : s1.content ≡ after_all so.xs s0.content
    told = made_content ⊥ so.xs s0 s1 p0 p1 t0 t1 so.makes

    answer_on : (result : Result Record CopyFault) → IsOk result
        → IfOk result (IsChecked before f n d r one.bytes s1.content)
        → IfOk result (λ q. kept_now ≡ kept ++ q ∷ [])
        → AreChecked before f n d (front ++ r ∷ [])
        (with_fresh r.file.key one.bytes one.second so.fresh) s0.content kept_now
    answer_on (Err answer) fine is now_is = absurd (cc fine)
    answer_on (Ok q) fine is now_is =
        let so_far = so.answer tt in
        let P : Record → Type 0 =
        λ (q : Record). IsPathOf before f n q.file.key q.file.path in
        record {
          keys_are =
              ap keys_of now_is ∙ map-append (λ (q : Record). q.file.key) kept (q ∷ [])
              ∙ (λ i. so_far.keys_are i ++ is.key_is i ∷ [])
              ∙ sym (map-append (λ (q : Record). q.file.key) front (r ∷ []));
          paths_are = subst (AllByRecursion P) (sym now_is)
              (all_push P kept q so_far.paths_are
              (subst (λ (k : FileKey). IsPathOf before f n k q.file.path) (sym is.key_is)
              is.path_is));
          records_are = subst (λ (l : List Record). IfSome s0.content
              (λ c. l ≡ rechecked before f n d
              (with_fresh r.file.key one.bytes one.second so.fresh) c (front ++ r ∷ [])))
              (sym now_is)
              (records_next before f n d so.fresh front r one.bytes one.second below so.xs kept q
              s0.content so.list so_far.records_are
              (subst (λ (o : Option Content). IfSome o
              (λ c. q ≡ checked_record before f n d r one.bytes c)) told is.record_is));
        }

    pub one_more : SoFar before f n d all (front ++ r ∷ []) kept_now held (IsOk result)
        (IsError result fault.Store) s0 s2 p0 p2 t0 t2
    one_more = record {
      fresh = with_fresh r.file.key one.bytes one.second so.fresh;
      fresh_is = fresh_next held all so.fresh r.file.key one.bytes one.second so.fresh_is
          one.file_is;
      xs = so.xs ++ one.xs;
      puts = all_append (PutsOne before f n held all) so.xs one.xs so.puts
          (all_with (IsFilePut before f n r.file.key one.bytes) (PutsOne before f n held all)
          (λ e put. (r, one.bytes, has_at_cut all front r rest is, one.file_is, put)) one.xs
          one.puts);
      list = list_next before f n d so.fresh front r one.bytes one.second below so.xs one.xs
          s0.content so.list
          (subst (λ (o : Option Content). IfSome o
          (λ c. one.xs ≡ changes_of_check before f n d r one.bytes one.second c)) told one.list);
      makes = in_turn (Unit {0}) ⊥ (IsOk result) (IsError result fault.Store) so.xs one.xs s0 s1 s2
          p0 p1 p2 t0 t1 t2 tt so.makes one.makes;
      answer = λ fine. answer_on result fine one.answer now_is;
    }

  -- nothing was looked at yet
  pub nothing_looked : (s : State) (p : History) (t : Trace) → t.unsure ≡ false
      → IfSome held (λ s. AllByRecursion (λ (r : Record). HasKey r.file.key s) all)
      → SoFar before f n d all [] [] held (Unit {0}) ⊥ s s p p t t
  nothing_looked s p t sure has = record {
    fresh = first_fresh held;
    fresh_is = fresh_first held all has;
    xs = [];
    puts = tt;
    list = no_list s.content;
    makes = nothing_yet (Unit {0}) ⊥ s s p p t t [] (λ ok. refl) refl sure (moves_at_rest s p);
    answer = λ ok. record { keys_are = refl; paths_are = tt; records_are = no_record s.content };
  }
    where
      no_list : (told : Option Content) → IfSome told (λ c. ◌≡◌ {A = List Effect} []
          (checked before f n d (first_fresh held) c []).changes)
      no_list None = tt
      no_list (Some c) = refl

      no_record : (told : Option Content) → IfSome told
          (λ c. ◌≡◌ {A = List Record} [] (rechecked before f n d (first_fresh held) c []))
      no_record None = tt
      no_record (Some c) = refl

  -- a call that was fine, as one of calls that all were
  pub as_fine : (front kept : List Record) (s0 s1 : State) (p0 p1 : History) (t0 t1 : Trace)
      → SoFar before f n d all front kept held (true ≡ true) ⊥ s0 s1 p0 p1 t0 t1
      → SoFar before f n d all front kept held (Unit {0}) ⊥ s0 s1 p0 p1 t0 t1
  as_fine front kept s0 s1 p0 p1 t0 t1 so = record {
    fresh = so.fresh;
    fresh_is = so.fresh_is;
    xs = so.xs;
    puts = so.puts;
    list = so.list;
    makes = told_as (true ≡ true) ⊥ (Unit {0}) ⊥ so.xs s0 s1 p0 p1 t0 t1 (λ ok. refl)
        (λ never. never) so.makes;
    answer = λ ok. so.answer refl;
  }

pub map_itself : (rs : List Record) → map (λ r. r) rs ≡ rs
map_itself [] = refl
map_itself (r ∷ rs) = ap (λ l. r ∷ l) (map_itself rs)
