-- That a call was counted, by how it ended.
use Rattle.std.proofs.Common.{◌≡◌, ◌∙◌, Bool, true, false, List, Option, Some, None, Result, Ok, Err, IfErr, IsErr, IsErrAnd, refl, sym, ap, true≢false}
use Rattle.std.specs.Prelude.{is_some, is_err}
use Rattle.med_outside.specs.Causes.{one_more}
use Rattle.med_outside.specs.declared.denied.Denied.{Denied}
use Rattle.med_outside.specs.declared.denied.Denied.TheVariants.{Failed, Memory}
use Rattle.med_mem.specs.declared.faults.MemFault.{MemFault}
use Rattle.med_mem.specs.Calls.{Counts, Leaves, faults_after}
use Rattle.med_mem.specs.Told.{Told}

no_fault : (b : Bool) → None ≡ Some b → ⊥
no_fault b e = true≢false (sym (ap is_some e))

answered : {T : Type 0} (x : T) (denied : Denied) → Ok x ≡ Err denied → ⊥
answered x denied e = true≢false (sym (ap is_err e))

no_failure : {T : Type 0} (r : Result T Denied) → r ≡ Err Memory → r ≡ Err Failed → ⊥
no_failure r memory failed = absurd (let e = sym memory ∙ failed in cc)

memory_of : {T : Type 0} (r : Result T Denied)
    → IsErr r × IsErrAnd r (λ e. e ≡ Memory) → r ≡ Err Memory
memory_of (Ok x) h = absurd (let e = h.0 in cc)
memory_of (Err e) h = ap Err h.1

module _ {T : Type 0} (left : List MemFault) (old new : Told)
    (calls : new.calls ≡ one_more old.calls) (fails : new.to_fail ≡ left)
    (faults : new.faults ≡ old.faults) where
  -- it wasn't set to fail, and answered
  pub counts_ok : (set : Option Bool) (x : T) → set ≡ None → Counts set left old new (Ok x)
  counts_ok set x none = record {
    calls = calls;
    faults = faults;
    to_fail = fails;
    full = λ e. absurd (answered x Failed e);
    told = λ e. absurd (no_fault false (sym none ∙ e));
    lands = λ e. absurd (no_fault true (sym none ∙ e));
  }

  -- it wasn't set to fail at once, and there was no memory
  pub counts_memory : (set : Option Bool) (r : Result T Denied)
      → IsErr r × IsErrAnd r (λ e. e ≡ Memory) → ¬ (set ≡ Some false) → Counts set left old new r
  counts_memory set r h later =
      let memory = memory_of r h in
      record {
        calls = calls;
        faults = faults ∙ ap (λ (q : Result T Denied). faults_after q old.faults) (sym memory);
        to_fail = fails;
        full = λ e. absurd (no_failure r memory e);
        told = λ e. absurd (later e);
        lands = λ e. h.0;
      }

pub not_set : (set : Option Bool) → set ≡ None → ¬ (set ≡ Some false)
not_set set none e = no_fault false (sym none ∙ e)

-- it went on, and whether it fails later is told
pub goes_on : {E : Type 0} (set : Option Bool) (b : Bool)
    → (◌≡◌ {A = Result Bool E} (Ok b) (Ok false) → set ≡ None)
    → (◌≡◌ {A = Result Bool E} (Ok b) (Ok true) → set ≡ Some true) → ¬ (set ≡ Some false)
goes_on set true none lands e = absurd (let both = sym (lands refl) ∙ e in cc)
goes_on set false none lands e = no_fault false (sym (none refl) ∙ e)

-- ---- what is left of a put or a delete that was refused

module _ (done kept : Type 0) (set : Option Bool) where
  pub leaves_done : set ≡ Some true → done → Leaves done kept set Failed
  leaves_done is d = rw is d

  kept_always : (denied : Denied) → set ≡ Some false → kept → Leaves done kept set denied
  kept_always denied is k = rw is k

  -- it failed at once
  pub leaves_at_once : {T : Type 0} (r : Result T Denied) → set ≡ Some false → kept
      → IfErr r (Leaves done kept set)
  leaves_at_once (Ok x) is k = tt
  leaves_at_once (Err e) is k = kept_always e is k

kept_without_memory : (done kept : Type 0) (set : Option Bool) → kept
    → Leaves done kept set Memory
kept_without_memory done kept None k = k
kept_without_memory done kept (Some true) k = k
kept_without_memory done kept (Some false) k = k

-- there was no memory
pub leaves_memory : {T : Type 0} (done kept : Type 0) (set : Option Bool) (r : Result T Denied)
    → IsErr r × IsErrAnd r (λ e. e ≡ Memory) → kept → IfErr r (Leaves done kept set)
leaves_memory done kept set r h k = rw (memory_of r h) (kept_without_memory done kept set k)
