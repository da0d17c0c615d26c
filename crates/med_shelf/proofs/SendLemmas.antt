-- A file of a snapshot that is sent: what is uploaded, put, and told of it.
use Rattle.std.proofs.Common.{◌≡◌, ◌∙◌, ℕ, true, false, List, [], ◌∷◌, ◌++◌, Option, Some, None, option_map, Result, Ok, Err, IsOk, IfSome, refl, sym, ap, subst}
use Rattle.std.specs.Prelude.{is_some, IsTrue}
use Rattle.std.specs.FinMap.{get}
use Rattle.med_base.specs.declared.fingerprint.Fingerprint.{Fingerprint}
use Rattle.med_base.specs.declared.key.FileKey.{FileKey}
use Rattle.med_base.specs.Content.{Content, Object}
use Rattle.med_base.specs.Effects.{Effect, Stores}
use Rattle.med_base.specs.Fingerprint.{fingerprint_of}
use Rattle.med_core.specs.declared.records.How.{How}
use Rattle.med_core.specs.declared.records.How.TheVariants.{Reused}
use Rattle.med_outside.specs.declared.copy_fault.CopyFault.{CopyFault}
use Rattle.med_outside.specs.declared.copy_fault.CopyFault.TheVariants as fault
use Rattle.med_outside.specs.declared.denied.Denied.{Denied}
use Rattle.med_outside.specs.declared.denied.Denied.TheVariants as denied
use Rattle.med_outside.specs.declared.storage.Stat.{Stat}
use Rattle.med_outside.specs.declared.trace.Trace.{Trace}
use Rattle.med_outside.specs.Makes.{Makes, MakesPut, Records, IsError, took}
use Rattle.med_outside.specs.Pieces.{upload_of, with_upload}
use Rattle.med_outside.specs.Sent.{IsUploaded, IsWholeFile, fault_of}
use Rattle.med_outside.specs.Snapshot.{Snapshot, HasKey}
use Rattle.med_outside.specs.State.{State, Terms, ChangesWithin, OnlyReads, History}
use Rattle.med_outside.specs.Storage.{AnswersStat, stat_of}
use Rattle.med_outside.proofs.Making.{in_turn, nothing_yet}
use Rattle.med_outside.proofs.Sending.{given_up, upload_on}
use Rattle.med_shelf.specs.declared.sending.Placed.{Placed}
use Rattle.med_shelf.specs.Places.{SendsBeside, SendsFile, how_unless, path_beside, stands_as}

some_of : {X : Type 0} (o : Option X) → IsTrue (is_some o) → (x : X) × (o ≡ Some x)
some_of None some = absurd (cc some)
some_of (Some x) some = (x, refl)

-- the bytes of a file of the snapshot, or any
pub some_file : (held : Option Snapshot) (key : FileKey) → IfSome held (HasKey key)
    → (bytes : List ℕ) × IsWholeFile held key bytes
some_file None key has = ([], tt)
some_file (Some s) key has = some_of (get s.files key) has

module _ (standing : Option Fingerprint) (path : List ℕ) (key : FileKey) (held : Option Snapshot)
    (s0 s1 : State) (p0 p1 : History) (t : Trace) (sure : t.unsure ≡ false)
    (moves : ChangesWithin [] s0 s1 p0 p1) where
  -- nothing was sent
  pub not_sent : (answer : CopyFault) → IfSome held (HasKey key)
      → SendsFile standing path key held (Err answer) s0 s1 p0 p1 t t
  not_sent answer has =
      let (bytes, whole) = some_file held key has in
      record {
        bytes = bytes;
        file_is = whole;
        second = 0;
        makes = nothing_yet _ _ s0 s1 p0 p1 t t _ (λ fine. absurd (cc fine)) refl sure moves;
        placed_is = tt;
      }

  -- the shared file that stands has the fingerprint of the file
  pub named_only : (bytes : List ℕ) (print : Fingerprint) → IsWholeFile held key bytes
      → print ≡ fingerprint_of bytes → stands_as standing print ≡ true
      → SendsFile standing path key held (Ok (record { fingerprint = print; how = Reused })) s0 s1
      p0 p1 t t
  named_only bytes print whole print_is stand =
      let stands : stands_as standing (fingerprint_of bytes) ≡ true =
      ap (stands_as standing) (sym print_is) ∙ stand in
      record {
        bytes = bytes;
        file_is = whole;
        second = 0;
        makes = rw stands (nothing_yet _ _ s0 s1 p0 p1 t t [] (λ fine. refl) refl sure moves);
        placed_is = rw stands (λ i. record { fingerprint = print_is i; how = Reused });
      }

-- the file was uploaded between the first two states
module _ (standing : Option Fingerprint) (path : List ℕ) (key : FileKey) (held : Option Snapshot)
    (s0 s1 s2 : State) (p0 p1 p2 : History) (t0 t1 : Trace) (print : Fingerprint)
    (none : s0.upload ≡ None) (up : IsUploaded held key path s0 s1 p0 p1 print) where
  -- the upload was dropped
  pub sent_kept : t0.unsure ≡ false → stands_as standing print ≡ true
      → OnlyReads (with_upload None s1) s2 p1 p2
      → SendsFile standing path key held (Ok (record { fingerprint = print; how = Reused })) s0 s2
      p0 p2 t0 t0
  sent_kept sure stand dropped =
      named_only standing path key held s0 s2 p0 p2 t0 sure
      (given_up s0 s1 s2 p0 p1 p2 (Some (upload_of path up.bytes)) none up.looks dropped).moves
      up.bytes print up.file_is up.print_is stand

  -- what is made of the upload is made over what stood before it
  since_upload : (xs : List Effect) (r : Result ℕ Denied) (result : Result Placed CopyFault)
      → (IsOk result → IsOk r) → (IsError r denied.Failed → IsError result fault.Store)
      → Makes (IsOk r) (IsError r denied.Failed) xs (with_upload None s1) s2 p1 p2 t0 t1
      → Makes (IsOk result) (IsError result fault.Store) xs s0 s2 p0 p2 t0 t1
  since_upload xs r result back blames m = record {
    done = m.done;
    last = m.last;
    rest = m.rest;
    split = m.split;
    moves = upload_on s0 s1 s2 p0 p1 p2 (Some (upload_of path up.bytes)) (m.done ++ took m.last)
        none up.looks m.moves;
    records = subst (λ (terms : Terms). Records terms.bucket.layout m.done m.last t0 t1)
        up.looks.moves.terms m.records;
    whole = λ fine. m.whole (back fine);
    cause = λ unsure. blames (m.cause unsure);
  }

  module _ (stand : stands_as standing print ≡ false) where
    stands_not : stands_as standing (fingerprint_of up.bytes) ≡ false
    stands_not = ap (stands_as standing) (sym up.print_is) ∙ stand

    -- the upload was committed
    pub sent_put : (second : ℕ) (how : How) → how ≡ how_unless false standing
        → ((bytes : List ℕ) → s1.upload ≡ Some (upload_of path bytes)
        → MakesPut denied.Failed path bytes (Ok second) (with_upload None s1) s2 p1 p2 t0 t1)
        → SendsFile standing path key held (Ok (record { fingerprint = print; how = how })) s0 s2
        p0 p2 t0 t1
    sent_put second how how_is makes =
        let (at, fits, said, made) = makes up.bytes up.looks.moves.upload in
        record {
          bytes = up.bytes;
          file_is = up.file_is;
          second = at;
          makes = rw stands_not (since_upload (Stores path up.bytes at ∷ []) (Ok second)
              (Ok (record { fingerprint = print; how = how })) (λ fine. refl) (λ never. never) made);
          placed_is = rw stands_not (λ i. record { fingerprint = up.print_is i; how = how_is i });
        }

    -- the commit was refused
    pub put_denied : (refusal : Denied) (answer : CopyFault)
        → answer ≡ fault_of fault.Store refusal
        → ((bytes : List ℕ) → s1.upload ≡ Some (upload_of path bytes)
        → MakesPut denied.Failed path bytes (Err refusal) (with_upload None s1) s2 p1 p2 t0 t1)
        → SendsFile standing path key held (Err answer) s0 s2 p0 p2 t0 t1
    put_denied refusal answer answer_is makes =
        let (at, fits, said, made) = makes up.bytes up.looks.moves.upload in
        record {
          bytes = up.bytes;
          file_is = up.file_is;
          second = at;
          makes = rw stands_not (since_upload (Stores path up.bytes at ∷ []) (Err refusal)
              (Err answer) (λ fine. absurd (cc fine))
              (λ failed. answer_is ∙ ap (fault_of fault.Store) failed) made);
          placed_is = tt;
        }

-- ---- by what stands under the shared path

-- the fingerprint of the object that stands, if one does
abbrev pub print_in : Option Object → Option Fingerprint
print_in o = option_map (λ (x : Object). fingerprint_of x.bytes) o

-- the same by what is told
abbrev pub standing_in : (shared : List ℕ) → Option Content → Option Fingerprint
standing_in shared None = None
standing_in shared (Some c) = print_in (get c shared)

in_told : (shared : List ℕ) (told : Option Content)
    → IfSome told (λ c. standing_in shared told ≡ print_in (get c shared))
in_told shared None = tt
in_told shared (Some c) = refl

pub stat_print : (o : Option Object)
    → option_map (λ (s : Stat). s.fingerprint) (option_map stat_of o) ≡ print_in o
stat_print None = refl
stat_print (Some o) = refl

found_told : (shared : List ℕ) (told : Option Content) (found : Option Stat)
    → AnswersStat shared told found
    → IfSome told
    (λ c. option_map (λ (s : Stat). s.fingerprint) found ≡ print_in (get c shared))
found_told shared None found is = tt
found_told shared (Some c) found is =
    ap (option_map (λ (s : Stat). s.fingerprint)) is ∙ stat_print (get c shared)

module _ (shared own : List ℕ) (key : FileKey) (held : Option Snapshot) (s0 s1 : State)
    (p0 p1 : History) (t0 : Trace) (sure : t0.unsure ≡ false) where
  -- nothing was sent
  pub not_beside : (answer : CopyFault) → IfSome held (HasKey key) → ChangesWithin [] s0 s1 p0 p1
      → SendsBeside shared own key held (Err answer) s0 s1 p0 p1 t0 t0
  not_beside answer has moves = record {
    standing = standing_in shared s0.content;
    standing_is = in_told shared s0.content;
    sends = not_sent (standing_in shared s0.content)
        (path_beside (standing_in shared s0.content) shared own) key held s0 s1 p0 p1 t0 sure moves
        answer has;
  }

  -- the file was sent after a look at the shared path
  pub sent_beside : (s2 : State) (p2 : History) (t1 : Trace) → OnlyReads s0 s1 p0 p1
      → (found : Option Stat) → AnswersStat shared s0.content found
      → (result : Result Placed CopyFault)
      → SendsFile (option_map (λ (s : Stat). s.fingerprint) found)
      (path_beside (option_map (λ (s : Stat). s.fingerprint) found) shared own) key held result s1
      s2 p1 p2 t0 t1
      → SendsBeside shared own key held result s0 s2 p0 p2 t0 t1
  sent_beside s2 p2 t1 looks found answer result sends = record {
    standing = option_map (λ (s : Stat). s.fingerprint) found;
    standing_is = found_told shared s0.content found answer;
    sends = record {
      bytes = sends.bytes;
      file_is = sends.file_is;
      second = sends.second;
      makes = in_turn (Unit {0}) (IsError result fault.Store) _ _ [] _ s0 s1 s2 p0 p1 p2 t0 t0 t1
          tt (nothing_yet (Unit {0}) (IsError result fault.Store) s0 s1 p0 p1 t0 t0 [] (λ _. refl)
          refl sure looks.moves) sends.makes;
      placed_is = sends.placed_is;
    };
  }
