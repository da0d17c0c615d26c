-- The mode of a backup as the lists of changes have it.
use Rattle.std.specs.Prelude.{Bool, true, false}
use Rattle.med_outside.specs.declared.mode.Mode.{Mode}
use Rattle.med_outside.specs.declared.mode.Mode.TheVariants.{Full, Differential}

abbrev pub is_differential : Mode → Bool
is_differential Full = false
is_differential Differential = true
