-- When a refusal of the file system is want of memory of this process.
use Rattle.std.specs.Prelude.{◌≡◌, None}
use Rattle.std_io.specs.IoError.{error_kind, raw_os_error}
use Rattle.std_io.specs.declared.io.error.Error.{Error}
use Rattle.std_io.specs.declared.io.kind.ErrorKind.TheVariants.{OutOfMemory}

-- its kind says so, and the system gave it no number; the system's own want of memory has one
pub record IsWantOfMemory (error : Error) : Type 0 where
  pub kind : error_kind error ≡ OutOfMemory
  pub own : raw_os_error error ≡ None
