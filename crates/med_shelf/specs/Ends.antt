-- How a finish ends behind the look at the records: the manifest is put, then its entries, and the
-- latest entry of the node is mended.
use Rattle.std.specs.Prelude.{◌≡◌, ◌<◌, ◌^◌, ◌++◌, ℕ, List, Option, IfOk, Result, IsOk}
use Rattle.med_base.specs.Content.{Content}
use Rattle.med_base.specs.Effects.{Effect, after_all}
use Rattle.med_core.specs.Finish.{manifest_puts}
use Rattle.med_index.specs.Rebuilt.{IsMend}
use Rattle.med_outside.specs.declared.denied.Denied.{Denied}
use Rattle.med_outside.specs.declared.denied.Denied.TheVariants.{Failed}
use Rattle.med_outside.specs.declared.trace.Trace.{Trace}
use Rattle.med_outside.specs.Makes.{Makes, IsError}
use Rattle.med_outside.specs.State.{State, History}

-- The changes put a manifest of this text, with this second, then its entries, and then those of a mend
-- over what that leaves.
pub record IsEnding (before f n : List ℕ) (told : Option Content) (text : List ℕ) (second : ℕ)
    (xs : List Effect) : Type 0
  where
    pub seconds : ℕ → ℕ
    pub second_is : seconds 0 ≡ second
    pub fits : second < 2 ^ 64
    pub mend : List Effect
    pub mend_is : IsMend before (after_all (manifest_puts before f n text seconds) told) f mend
    pub changes_are : xs ≡ manifest_puts before f n text seconds ++ mend

-- ---- for this crate's own clauses

-- the backup was ended with a manifest of this text, whose second is the answer
pub record EndsBackup (before f n text : List ℕ) (result : Result ℕ Denied) (old new : State)
    (stood_before stood_after : History) (trace_before trace_after : Trace) : Type 0
  where
    pub second : ℕ
    pub xs : List Effect
    pub ending : IsEnding before f n old.content text second xs
    pub makes : Makes (IsOk result) (IsError result Failed) xs old new stood_before stood_after
        trace_before trace_after
    pub answer : IfOk result (λ at. at ≡ second)
