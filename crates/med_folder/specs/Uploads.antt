-- The bytes of an upload, before and after its fingerprint was told.
use Rattle.std.specs.Prelude.{ℕ, List}
use Rattle.med_folder.specs.declared.written.Written.{Written}
use Rattle.med_folder.specs.declared.written.Written.TheVariants.{Flowing, Whole}

-- those that were added, whether more may follow or not
abbrev pub bytes_of : Written → List ℕ
bytes_of (Flowing bytes) = bytes
bytes_of (Whole bytes) = bytes
