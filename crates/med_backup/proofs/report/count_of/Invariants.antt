use Rattle.std.proofs.Common.{◌≡◌, take}
use Rattle.med_backup.specs.Backups.{count_in}
use Rattle.med_backup.proofs.report.count_of.Given as goal

abbrev pub invariant-loop-record : goal.invariant-loop-record
invariant-loop-record l = l.count ≡ count_in l.wanted (take l.record-index l.records)
