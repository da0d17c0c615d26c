-- Uploads that go on, and the pieces of a file.
use Rattle.std.proofs.Common.{◌≡◌, ◌∙◌, ◌≤◌, ◌+◌, ◌-◌, min, ℕ, Bool, true, false, ◌==◌, List, [], ◌++◌, length, take, drop, Option, Some, None, option_map, IfSome, refl, sym, ap, subst, arith, append_assoc, append-nil, take-add, take_all, length-append, length-take, length-drop}
use Rattle.std.specs.Prelude.{is_some, IsTrue}
use Rattle.std.proofs.lemmas.Bool.{eqb-true, eqb-false}
use Rattle.std.specs.FinMap.{get}
use Rattle.med_base.specs.declared.fingerprint.Fingerprint.{Fingerprint}
use Rattle.med_base.specs.declared.key.FileKey.{FileKey}
use Rattle.med_base.specs.Fingerprint.{fingerprint_of}
use Rattle.med_base.specs.Effects.{Effect}
use Rattle.med_outside.specs.Pieces.{piece_size, piece_at, begun, upload_of, with_piece, with_upload}
use Rattle.med_outside.specs.Sent.{IsPiece, IsSent, IsUploaded, IsWholeFile}
use Rattle.med_outside.specs.Snapshot.{Snapshot, HasKey}
use Rattle.med_outside.specs.State.{State, Upload, Changes, ChangesWithin, OnlyReads, History}
use Rattle.med_outside.proofs.Passing.{passes_on, moves_on, moves_at_rest}

-- ---- what an upload has

no_piece : (upload : Option Upload) → with_piece [] upload ≡ upload
no_piece None = refl
no_piece (Some u) = λ i. Some (record { path = u.path; bytes = append-nil u.bytes i })

both_pieces : (p q : List ℕ) (upload : Option Upload)
    → with_piece q (with_piece p upload) ≡ with_piece (p ++ q) upload
both_pieces p q None = refl
both_pieces p q (Some u) =
    λ i. Some (record { path = u.path; bytes = append_assoc u.bytes p q i })

pub still_some : (piece : List ℕ) (upload : Option Upload) → IsTrue (is_some upload)
    → IsTrue (is_some (with_piece piece upload))
still_some piece None some = some
still_some piece (Some u) some = some

-- ---- calls in a row

-- the upload says nothing of what a call changed
from_upload : (u v : Option Upload) (xs : List Effect) (s0 s1 : State) (p0 p1 : History)
    → Changes xs (with_upload u s0) s1 p0 p1 → Changes xs (with_upload v s0) s1 p0 p1
from_upload u v xs s0 s1 p0 p1 a = record {
  content = a.content;
  second = a.second;
  never_falls = a.never_falls;
  later = a.later;
  moments = a.moments;
  past = a.past;
}

module _ (s0 s1 s2 : State) (p0 p1 p2 : History) where
  -- the upload is what the last call made of it
  pub looks_on : (u v : Option Upload) → OnlyReads (with_upload u s0) s1 p0 p1
      → OnlyReads (with_upload v s1) s2 p1 p2 → OnlyReads (with_upload v s0) s2 p0 p2
  looks_on u v a b = record {
    moves = record {
      passes = passes_on [] [] (with_upload v s0) s1 s2 p0 p1 p2
          (from_upload u v [] s0 s1 p0 p1 a.moves.passes)
          (from_upload v s1.upload [] s1 s2 p1 p2 b.moves.passes);
      upload = b.moves.upload;
      terms = b.moves.terms ∙ a.moves.terms;
    };
    room = b.room ∙ a.room;
  }

  -- one piece more
  pub piece_on : (p q : List ℕ) → OnlyReads (with_upload (with_piece p s0.upload) s0) s1 p0 p1
      → OnlyReads (with_upload (with_piece q s1.upload) s1) s2 p1 p2
      → OnlyReads (with_upload (with_piece (p ++ q) s0.upload) s0) s2 p0 p2
  piece_on p q a b =
      let is : with_piece q s1.upload ≡ with_piece (p ++ q) s0.upload =
      ap (with_piece q) a.moves.upload ∙ both_pieces p q s0.upload in
      looks_on (with_piece p s0.upload) (with_piece (p ++ q) s0.upload) a
      (subst (λ (u : Option Upload). OnlyReads (with_upload u s1) s2 p1 p2) is b)

  -- an upload that ended
  pub upload_on : (u : Option Upload) (xs : List Effect) → s0.upload ≡ None
      → OnlyReads (with_upload u s0) s1 p0 p1 → ChangesWithin xs (with_upload None s1) s2 p1 p2
      → ChangesWithin xs s0 s2 p0 p2
  upload_on u xs none a b = record {
    passes = passes_on [] xs s0 s1 s2 p0 p1 p2
        (from_upload u s0.upload [] s0 s1 p0 p1 a.moves.passes)
        (from_upload None s1.upload xs s1 s2 p1 p2 b.passes);
    upload = b.upload ∙ sym none;
    terms = b.terms ∙ a.moves.terms;
  }

  -- a look behind it
  pub look_behind : (u : Option Upload) → OnlyReads (with_upload u s0) s1 p0 p1
      → OnlyReads s1 s2 p1 p2 → OnlyReads (with_upload u s0) s2 p0 p2
  look_behind u a b = record {
    moves = moves_on [] [] (with_upload u s0) s1 s2 p0 p1 p2 a.moves b.moves;
    room = b.room ∙ a.room;
  }

  -- an upload that was given up
  pub given_up : (u : Option Upload) → s0.upload ≡ None
      → OnlyReads (with_upload u s0) s1 p0 p1 → OnlyReads (with_upload None s1) s2 p1 p2
      → OnlyReads s0 s2 p0 p2
  given_up u none a b =
      record { moves = upload_on u [] none a b.moves; room = b.room ∙ a.room }

-- no call at all
pub nothing_sent : (s : State) (p : History)
    → OnlyReads (with_upload (with_piece [] s.upload) s) s p p
nothing_sent s p =
    subst (λ (u : Option Upload). OnlyReads (with_upload u s) s p p) (sym (no_piece s.upload))
    (record { moves = moves_at_rest s p; room = refl })

-- ---- the pieces of a file

-- What was read of a file from its beginning: some first bytes, where it may have more, and else
-- all.
abbrev pub IsReadTo : (more : Bool) → (sent : List ℕ) → Option (List ℕ) → Type 0
IsReadTo true sent file = Some sent ≡ option_map (take (length sent)) file
IsReadTo false sent file = file ≡ Some sent

-- the same of a file of a snapshot, where that is told
abbrev pub IsReadOf : Option Snapshot → FileKey → (more : Bool) → (sent : List ℕ) → Type 0
IsReadOf held key more sent = IfSome held (λ s. IsReadTo more sent (get s.files key))

first_nothing : (file : Option (List ℕ)) → IsTrue (is_some file) → IsReadTo true [] file
first_nothing None some = absurd (cc some)
first_nothing (Some f) some = refl

-- the first of a file, and a piece behind them
front_on : (n : ℕ) (piece file : List ℕ) → piece ≡ piece_at n file
    → take n file ++ piece ≡ take (n + piece_size) file
front_on n piece file is =
    ap (λ l. take n file ++ l) is ∙ sym (take-add n piece_size file)

-- a piece that isn't full is the last one
last_piece : (n : ℕ) (piece file : List ℕ) → piece ≡ piece_at n file
    → (length piece ≡ piece_size → ⊥) → length file ≤ n + piece_size
last_piece n piece file is short =
    let size : length piece ≡ min piece_size (length file - n) =
    ap length is ∙ length-take piece_size (drop n file)
    ∙ ap (min piece_size) (length-drop n file) in
    omega (arith, size, short)

-- what was read of a file with one piece more, which is full or not
read_more : (full : Bool) (sent piece file : List ℕ) → (length piece == piece_size) ≡ full
    → sent ≡ take (length sent) file → piece ≡ piece_at (length sent) file
    → IsReadTo full (sent ++ piece) (Some file)
read_more true sent piece file is sent_is piece_is =
    let size : length (sent ++ piece) ≡ length sent + piece_size =
    length-append sent piece ∙ ap (λ m. length sent + m) (eqb-true _ _ is) in
    ap Some (ap (λ l. l ++ piece) sent_is ∙ front_on (length sent) piece file piece_is
    ∙ ap (λ m. take m file) (sym size))
read_more false sent piece file is sent_is piece_is =
    ap Some (sym (ap (λ l. l ++ piece) sent_is ∙ front_on (length sent) piece file piece_is
    ∙ take_all (length sent + piece_size) file
    (last_piece (length sent) piece file piece_is (eqb-false _ _ is))))

read_on : (sent piece : List ℕ) (file : Option (List ℕ)) → IsReadTo true sent file
    → Some piece ≡ option_map (piece_at (length sent)) file
    → IsReadTo (length piece == piece_size) (sent ++ piece) file
read_on sent piece None first next = absurd (cc first)
read_on sent piece (Some file) first next =
    read_more (length piece == piece_size) sent piece file refl (cc first) (cc next)

-- nothing was read, and there is a file
pub nothing_read : (held : Option Snapshot) (key : FileKey) → IfSome held (HasKey key)
    → IsReadOf held key true []
nothing_read None key has = tt
nothing_read (Some s) key has = first_nothing (get s.files key) has

read_of : (held : Option Snapshot) (key : FileKey) (sent piece : List ℕ)
    → IsReadOf held key true sent
    → IfSome held (λ s. Some piece ≡ option_map (piece_at (length sent)) (get s.files key))
    → IsReadOf held key (length piece == piece_size) (sent ++ piece)
read_of None key sent piece first next = tt
read_of (Some s) key sent piece first next = read_on sent piece (get s.files key) first next

-- one piece more
pub reads_on : (held : Option Snapshot) (key : FileKey) (more full : Bool)
    (sent piece sent_now : List ℕ) → more ≡ true → IsReadOf held key more sent
    → IsPiece held key (length sent) full piece → sent_now ≡ sent ++ piece
    → IsReadOf held key full sent_now
reads_on held key more full sent piece sent_now going first is sent_is =
    rw (is.full_is, sent_is) (read_of held key sent piece
    (subst (λ (m : Bool). IsReadOf held key m sent) going first) is.piece_is)

-- all was read
pub all_read : (held : Option Snapshot) (key : FileKey) (more : Bool) (bytes : List ℕ)
    → more ≡ false → IsReadOf held key more bytes → IsWholeFile held key bytes
all_read None key more bytes end read = tt
all_read (Some s) key more bytes end read = rw end at read

-- ---- a file that was uploaded

-- an upload that began is under way
pub is_under_way : (path : List ℕ) (upload : Option Upload) → upload ≡ Some (begun path)
    → IsTrue (is_some upload)
is_under_way path upload is = rw is refl

-- an upload began, all bytes were sent, and the fingerprint was told
module _ (held : Option Snapshot) (key : FileKey) (path : List ℕ) (s0 s1 s2 s3 : State)
    (p0 p1 p2 p3 : History) (began : OnlyReads (with_upload (Some (begun path)) s0) s1 p0 p1)
    (sent : IsSent held key s1 s2 p1 p2) (looks : OnlyReads s2 s3 p2 p3) where
  all_sent : s2.upload ≡ Some (upload_of path sent.bytes)
  all_sent = sent.looks.moves.upload ∙ ap (with_piece sent.bytes) began.moves.upload

  pub uploaded_all : (print : Fingerprint)
      → Some print ≡ option_map (λ (u : Upload). fingerprint_of u.bytes) s2.upload
      → IsUploaded held key path s0 s3 p0 p3 print
  uploaded_all print is = record {
    bytes = sent.bytes;
    file_is = sent.file_is;
    print_is = cc (is ∙ ap (option_map (λ (u : Upload). fingerprint_of u.bytes)) all_sent);
    looks = look_behind s0 s2 s3 p0 p2 p3 (Some (upload_of path sent.bytes))
        (subst (λ (u : Option Upload). OnlyReads (with_upload u s0) s2 p0 p2)
        (ap (with_piece sent.bytes) began.moves.upload)
        (looks_on s0 s1 s2 p0 p1 p2 (Some (begun path)) (with_piece sent.bytes s1.upload) began
        sent.looks)) looks;
  }
