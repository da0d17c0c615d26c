use Rattle.std.proofs.Common.{rules}
use Rattle.std.specs.Ordering.{is_lt}
use Rattle.std.proofs.lemmas.Fn.{always_returns_same}
use Rattle.std.proofs.lemmas.List.MinMax.{ranks_by}
use Rattle.med_outside.specs.declared.backup_row.BackupRow.{BackupRow}
use Rattle.med_index.specs.Rows.{row_cmp}
use Rattle.med_index.proofs.RowOrder.{row_total}
use Rattle.med_index.proofs.backups.sort_rows.Goals as goal

pub returns-clause-order : goal.returns-clause-order
returns-clause-order c =
    c.sort_unstable_by.ensures.sorted (λ (a b : BackupRow). is_lt (row_cmp a b))
    (ranks_by row_total (λ (r : BackupRow). r))
    (always_returns_same _ _ _ (λ a r f k. (search rules, search rules)))
