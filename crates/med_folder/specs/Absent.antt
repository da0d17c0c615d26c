-- When a refusal of the file system says that nothing has a path.
use Rattle.std.specs.Prelude.{◌≡◌, ◌⊎◌}
use Rattle.std_io.specs.IoError.{error_kind}
use Rattle.std_io.specs.declared.io.error.Error.{Error}
use Rattle.std_io.specs.declared.io.kind.ErrorKind.TheVariants.{NotFound, NotADirectory}

-- nothing has the name, or what would be a folder on the way isn't one
abbrev pub IsAbsence : Error → Type 0
IsAbsence error = (error_kind error ≡ NotFound) ⊎ (error_kind error ≡ NotADirectory)
