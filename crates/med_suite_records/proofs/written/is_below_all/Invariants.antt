use Rattle.std.proofs.Common.{◌≡◌, List, map, length}
use Rattle.std.specs.List.{AllByRecursion}
use Rattle.std.specs.declared.cmp.Ordering.TheVariants.{Less}
use Rattle.med_base.specs.declared.key.FileKey.{FileKey}
use Rattle.med_base.specs.Key.{key_cmp}
use Rattle.med_manifest.specs.declared.manifest.FileRecord.{FileRecord}
use Rattle.med_suite_records.proofs.written.is_below_all.Given as goal

-- the key is below each of these files' keys
abbrev IsBelowAll : FileKey → List FileRecord → Type 0
IsBelowAll key files =
    AllByRecursion (λ (k : FileKey). key_cmp key k ≡ Less) (map (λ (r : FileRecord). r.key) files)

-- the key is below all files if it is below those that are left
abbrev pub invariant-loop-rest : goal.invariant-loop-rest
invariant-loop-rest l = IsBelowAll l.key l.rest → IsBelowAll l.key l.files

abbrev pub decreases-loop-rest : goal.decreases-loop-rest
decreases-loop-rest l = length l.rest
