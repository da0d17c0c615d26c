use Rattle.std.proofs.Common.{◌≡◌, map}
use Rattle.med_index.specs.Marks.{row_of}
use Rattle.med_index.proofs.backups.rows_of.Given as goal

-- the rows are those of the backups so far
abbrev pub invariant-loop-name : goal.invariant-loop-name
invariant-loop-name l = l.rows.items ≡ map (row_of l.running) l.yielded
