use Rattle.std.proofs.Common.{map, take}
use Rattle.med_base.specs.Key.{AreRising}
use Rattle.med_manifest.specs.declared.manifest.FileRecord.{FileRecord}
use Rattle.med_manifest.specs.Manifest.{AreRecords}
use Rattle.med_manifest.specs.Named.{named}
use Rattle.med_manifest.proofs.records.rising_records.Given as goal

-- the records so far are those of the files so far, and their keys rise
abbrev pub invariant-loop-at : goal.invariant-loop-at
invariant-loop-at l = record {
  are : AreRecords l.layout l.node l.name (map named (take l.at l.files)) l.records.items;
  rising : AreRising (map (λ (r : FileRecord). r.key) l.records.items);
}
