use Rattle.std.proofs.Common.{map, length}
use Rattle.med_base.specs.Key.{AreRising}
use Rattle.med_manifest.specs.declared.manifest.FileRecord.{FileRecord}
use Rattle.med_suite_records.proofs.written.is_rising.Given as goal

-- all files are in order if those that are left are
abbrev pub invariant-loop-rest : goal.invariant-loop-rest
invariant-loop-rest l =
    AreRising (map (λ (r : FileRecord). r.key) l.rest)
    → AreRising (map (λ (r : FileRecord). r.key) l.files)

abbrev pub decreases-loop-rest : goal.decreases-loop-rest
decreases-loop-rest l = length l.rest
