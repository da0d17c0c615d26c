use Rattle.std.proofs.Common.{◌≡◌, take}
use Rattle.med_backup.specs.Backups.{bytes_in}
use Rattle.med_backup.proofs.report.bytes_of.Given as goal

abbrev pub invariant-loop-record : goal.invariant-loop-record
invariant-loop-record l = l.bytes ≡ bytes_in (take l.record-index l.records)
