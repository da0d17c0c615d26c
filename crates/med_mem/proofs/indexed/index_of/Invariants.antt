use Rattle.std.proofs.Common.{◌≡◌, drop}
use Rattle.std.specs.BTreeMap.{get}
use Rattle.std.specs.FinMap.{find}
use Rattle.med_base.specs.declared.key.FileKey.{FileKey}
use Rattle.med_base.specs.Key.{key_cmp}
use Rattle.med_mem.specs.FirstPlaces.{places}
use Rattle.med_mem.proofs.indexed.index_of.Given as goal

-- the index of the files from this one on
abbrev pub invariant-loop-i : goal.invariant-loop-i
invariant-loop-i l =
    (key : FileKey) → get key_cmp l.index key ≡ find key_cmp key (places l.i (drop l.i l.files))
