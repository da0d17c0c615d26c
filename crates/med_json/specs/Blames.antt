-- When bytes are refused as a JSON text.
use Rattle.std.specs.Prelude.{ℕ, List}
use Rattle.med_json.specs.declared.read.JsonError.{JsonError}
use Rattle.med_json.specs.declared.read.JsonError.TheVariants.{NotJson, Memory}
use Rattle.med_json.specs.Tree.{IsNoText}

-- an error of the reader is right; want of memory may come over any bytes
abbrev pub BlamesText : List ℕ → JsonError → Type 0
BlamesText bytes NotJson = IsNoText bytes
BlamesText bytes Memory = Unit {0}
