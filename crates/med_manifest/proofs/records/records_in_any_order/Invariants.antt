use Rattle.std.proofs.Common.{◌≡◌, map, take}
use Rattle.std.specs.BTreeSet.{contains}
use Rattle.std.specs.List.{list_any}
use Rattle.med_base.specs.declared.key.FileKey.{FileKey}
use Rattle.med_base.specs.Key.{key_cmp, key_eq}
use Rattle.med_manifest.specs.declared.manifest.FileRecord.{FileRecord}
use Rattle.med_manifest.specs.Manifest.{AreRecords}
use Rattle.med_manifest.specs.Named.{named}
use Rattle.med_manifest.proofs.records.records_in_any_order.Given as goal

-- the records so far are those of the files so far, and their keys were seen
abbrev pub invariant-loop-at : goal.invariant-loop-at
invariant-loop-at l = record {
  are : AreRecords l.layout l.node l.name (map named (take l.at l.files)) l.records.items;
  seen : (k : FileKey) → contains key_cmp l.seen k
      ≡ list_any (key_eq k) (map (λ (r : FileRecord). r.key) l.records.items);
}
