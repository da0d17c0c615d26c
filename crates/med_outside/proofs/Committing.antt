-- An upload that is committed, and recorded in a trace.
use Rattle.std.proofs.Common.{◌≡◌, ◌∙◌, ◌<◌, ◌^◌, ℕ, true, false, is_none, List, [], ◌∷◌, ◌++◌, Option, Some, None, Result, IfSome, refl, ap, subst}
use Rattle.med_base.specs.Classify.{is_data}
use Rattle.med_base.specs.Effects.{Effect, Stores}
use Rattle.med_outside.specs.declared.denied.Denied.{Denied}
use Rattle.med_outside.specs.declared.recorded.ReadyPut.{ReadyPut}
use Rattle.med_outside.specs.declared.trace.Trace.{Trace}
use Rattle.med_outside.specs.Makes.{Makes}
use Rattle.med_outside.specs.Pieces.{upload_of, with_upload}
use Rattle.med_outside.specs.Recorded.{put_of, ready_of}
use Rattle.med_outside.specs.State.{State, Upload, ChangesWithin, ChangesOnce, OnlyReads, History}
use Rattle.med_outside.specs.Storage.{Put, MayPut, AnswersPut}
use Rattle.med_outside.proofs.Making.{in_turn, nothing_yet}
use Rattle.med_outside.proofs.Passing.{moves_on}
use Rattle.med_outside.proofs.Recording.{put_made, put_failed}

-- a look, without the upload
upload_gone : (s0 s1 : State) (p0 p1 : History) → OnlyReads s0 s1 p0 p1
    → ChangesWithin [] (with_upload None s0) (with_upload None s1) p0 p1
upload_gone s0 s1 p0 p1 looks = record {
  passes = record {
    content = looks.moves.passes.content;
    second = looks.moves.passes.second;
    never_falls = looks.moves.passes.never_falls;
    later = looks.moves.passes.later;
    moments = looks.moves.passes.moments;
    past = looks.moves.passes.past;
  };
  upload = refl;
  terms = looks.moves.terms;
}

-- the fingerprint was told between the first two states, the upload committed between the last two
module _ (s0 s1 s2 : State) (p0 p1 p2 : History) (same : s1 ≡ s0) (looks : OnlyReads s0 s1 p0 p1)
    (path bytes : List ℕ) (up : s0.upload ≡ Some (upload_of path bytes)) where
  pub answered : (r : Result ℕ Denied)
      → IfSome s1.upload
      (λ u. AnswersPut u.path u.bytes r (with_upload None s1) s2 p1 p2)
      → AnswersPut path bytes r (with_upload None s1) s2 p1 p2
  answered r =
      subst (λ (o : Option Upload). IfSome o
      (λ u. AnswersPut u.path u.bytes r (with_upload None s1) s2 p1 p2))
      (ap (λ s. s.upload) same ∙ up)

  module _ (fine fault : Type 0) (t0 t1 t2 : Trace) (kept : t1.changes.items ≡ t0.changes.items)
      (sure : t1.unsure ≡ false) where
    -- the look, and then what was made
    since : (xs : List Effect) → Makes fine fault xs (with_upload None s1) s2 p1 p2 t1 t2
        → Makes fine fault xs (with_upload None s0) s2 p0 p2 t0 t2
    since xs makes =
        in_turn (Unit {0}) fault fine fault [] xs (with_upload None s0) (with_upload None s1) s2 p0
        p1 p2 t0 t1 t2 tt
        (nothing_yet (Unit {0}) fault (with_upload None s0) (with_upload None s1) p0 p1 t0 t1 []
        (λ _. refl) kept sure (upload_gone s0 s1 p0 p1 looks)) makes

    module _ (ready : ReadyPut) (ready_is : ready ≡ ready_of true path bytes)
        (data_is : is_data s1.terms.bucket.layout path ≡ true) where
      pub commit_made : (at : ℕ)
          → t2.changes.items ≡ t1.changes.items ++ put_of ready (Some at) ∷ []
          → t2.unsure ≡ is_none (Some at) → Put path bytes (with_upload None s1) s2 p1 p2 at
          → Makes fine fault (Stores path bytes at ∷ []) (with_upload None s0) s2 p0 p2 t0 t2
      commit_made at more is put =
          since (Stores path bytes at ∷ [])
          (put_made fine fault (with_upload None s1) s2 p1 p2 t1 t1 t2 refl path bytes ready true
          ready_is data_is at more is put)

      pub commit_failed : (fine → ⊥) → fault
          → t2.changes.items ≡ t1.changes.items ++ put_of ready None ∷ [] → t2.unsure ≡ true
          → MayPut path bytes (with_upload None s1) s2 p1 p2
          → (at : ℕ) × (at < 2 ^ 64)
          × Makes fine fault (Stores path bytes at ∷ []) (with_upload None s0) s2 p0 p2 t0 t2
      commit_failed not_fine blame more is may =
          let (at, fits, makes) = put_failed fine fault (with_upload None s1) s2 p1 p2 t1 t1 t2 refl
          path bytes ready true ready_is data_is not_fine blame more is may in
          (at, fits, since (Stores path bytes at ∷ []) makes)

    -- nothing was committed
    pub commit_kept : (fine → ⊥) → t2.changes.items ≡ t1.changes.items → t2.unsure ≡ t1.unsure
        → ChangesWithin [] (with_upload None s1) s2 p1 p2
        → Makes fine fault (Stores path bytes 0 ∷ []) (with_upload None s0) s2 p0 p2 t0 t2
    commit_kept not_fine still unsure moves =
        since (Stores path bytes 0 ∷ [])
        (nothing_yet fine fault (with_upload None s1) s2 p1 p2 t1 t2 (Stores path bytes 0 ∷ [])
        (λ f. absurd (not_fine f)) still (unsure ∙ sure) moves)
