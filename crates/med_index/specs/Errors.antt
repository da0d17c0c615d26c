-- The cause of an error of a call on the index.
use Rattle.std.specs.Prelude.{◌≤◌, ℕ, Result, IsErrOf}
use Rattle.med_outside.specs.Causes.{RoseOrFull}
use Rattle.med_index.specs.declared.errors.ListError.{ListError}
use Rattle.med_index.specs.declared.errors.ListError.TheVariants.{Store, Memory}
use Rattle.med_index.specs.declared.errors.IndexError.{IndexError}
use Rattle.med_index.specs.declared.errors.IndexError.TheVariants as index_error

-- the storage's count of faults doesn't fall, and a fault of the storage comes only where it rose
pub record HasStoreCause {T : Type 0} (before now : ℕ) (result : Result T ListError) : Type 0 where
  pub later : before ≤ now
  pub failed : IsErrOf result Store → RoseOrFull before now

-- the same of a call that makes an index anew
pub record HasIndexCause {T : Type 0} (before now : ℕ) (result : Result T IndexError) : Type 0 where
  pub later : before ≤ now
  pub failed : IsErrOf result index_error.Store → RoseOrFull before now

-- ---- for this crate's own clauses

-- an error of a call on the index as one of a rebuild
abbrev pub as_index_error : ListError → IndexError
as_index_error Store = index_error.Store
as_index_error Memory = index_error.Memory
