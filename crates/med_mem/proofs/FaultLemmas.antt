-- Which calls are set to fail, part by part.
use Rattle.std.proofs.Common.{◌++◌, ℕ, List, take, drop}
use Rattle.med_mem.specs.declared.faults.MemFault.{MemFault}
use Rattle.med_mem.specs.Faults.{after_put}

-- what is left where the first put of the path is taken out at i or behind it
abbrev pub after_put_from : ℕ → List ℕ → List MemFault → List MemFault
after_put_from i path fs = take i fs ++ after_put path (drop i fs)
