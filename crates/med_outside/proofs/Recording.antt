-- One change of a storage that is recorded in a trace.
use Rattle.std.proofs.Common.{◌≡◌, ◌∙◌, ◌<◌, ◌^◌, ℕ, Bool, true, false, is_none, List, [], ◌∷◌, ◌++◌, Option, Some, None, ap, sym, refl}
use Rattle.med_base.specs.Classify.{is_data}
use Rattle.med_base.specs.Fingerprint.{fingerprint_of}
use Rattle.med_base.specs.Effects.{Stores, Removes}
use Rattle.med_outside.specs.Makes.{text_of, seen, seen_unsure, Makes}
use Rattle.med_outside.specs.Recorded.{put_of, ready_of}
use Rattle.med_outside.specs.State.{State, ChangesWithin, History}
use Rattle.med_outside.specs.Storage.{Put, MayPut, Delete, MayDelete}
use Rattle.med_outside.specs.declared.recorded.ReadyPut.{ReadyPut}
use Rattle.med_outside.specs.declared.trace.Change.{Change}
use Rattle.med_outside.specs.declared.trace.Change.TheVariants as change
use Rattle.med_outside.specs.declared.trace.Trace.{Trace}
use Rattle.med_outside.proofs.Making.{nothing_yet, one_made, one_unsure, put_unsure, delete_unsure}
use Rattle.med_outside.proofs.Passing.{moves_at_rest}

-- what was recorded is the seen form of a put
as_put : (path bytes : List ℕ) (ready : ReadyPut) (second : Option ℕ) (of_data is : Bool)
    (t0 t1 t2 : List Change) → t1 ≡ t0 → t2 ≡ t1 ++ put_of ready second ∷ []
    → ready ≡ ready_of of_data path bytes → is ≡ of_data
    → t2 ≡ t0 ++ change.Put path (fingerprint_of bytes) second (text_of is bytes) ∷ []
as_put path bytes ready second of_data is t0 t1 t2 same more ready_is data_is =
    rw (more, same, ready_is, data_is) refl

module _ (fine fault : Type 0) (s0 s1 : State) (p0 p1 : History) (t0 t1 t2 : Trace)
    (same : t1.changes.items ≡ t0.changes.items) where
  module _ (path bytes : List ℕ) (ready : ReadyPut) (of_data : Bool)
      (ready_is : ready ≡ ready_of of_data path bytes)
      (data_is : is_data s0.terms.bucket.layout path ≡ of_data) where
    pub put_made : (at : ℕ) → t2.changes.items ≡ t1.changes.items ++ put_of ready (Some at) ∷ []
        → t2.unsure ≡ is_none (Some at) → Put path bytes s0 s1 p0 p1 at
        → Makes fine fault (Stores path bytes at ∷ []) s0 s1 p0 p1 t0 t2
    put_made at more sure put =
        one_made fine fault s0 s1 p0 p1 t0 t2 (Stores path bytes at)
        (as_put path bytes ready (Some at) of_data _ _ _ _ same more ready_is data_is) sure
        put.moves

    pub put_failed : (fine → ⊥) → fault
        → t2.changes.items ≡ t1.changes.items ++ put_of ready None ∷ [] → t2.unsure ≡ true
        → MayPut path bytes s0 s1 p0 p1
        → (at : ℕ) × (at < 2 ^ 64)
        × Makes fine fault (Stores path bytes at ∷ []) s0 s1 p0 p1 t0 t2
    put_failed not_fine blame more unsure may =
        put_unsure fine fault s0 s1 p0 p1 t0 t2 path bytes not_fine blame
        (λ at. as_put path bytes ready None of_data _ _ _ _ same more ready_is data_is) unsure may

  module _ (path copy : List ℕ) (copy_is : copy ≡ path) where
    as_delete : t2.changes.items ≡ t1.changes.items ++ change.Delete copy ∷ []
        → t2.changes.items ≡ t0.changes.items ++ change.Delete path ∷ []
    as_delete more =
        more ∙ ap (λ l. l ++ change.Delete copy ∷ []) same
        ∙ ap (λ p. t0.changes.items ++ change.Delete p ∷ []) copy_is

    pub delete_made : t2.changes.items ≡ t1.changes.items ++ change.Delete copy ∷ []
        → t2.unsure ≡ false → Delete path s0 s1 p0 p1
        → Makes fine fault (Removes path ∷ []) s0 s1 p0 p1 t0 t2
    delete_made more sure gone =
        one_made fine fault s0 s1 p0 p1 t0 t2 (Removes path) (as_delete more) sure gone.moves

    pub delete_failed : (fine → ⊥) → fault
        → t2.changes.items ≡ t1.changes.items ++ change.Delete copy ∷ [] → t2.unsure ≡ true
        → MayDelete path s0 s1 p0 p1 → Makes fine fault (Removes path ∷ []) s0 s1 p0 p1 t0 t2
    delete_failed not_fine blame more unsure may =
        delete_unsure fine fault s0 s1 p0 p1 t0 t2 path not_fine blame (as_delete more) unsure may
