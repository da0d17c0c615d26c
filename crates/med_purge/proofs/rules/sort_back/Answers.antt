use Rattle.std.proofs.Common.{Bor, rules}
use Rattle.std.proofs.lemmas.Cmp.{back_total}
use Rattle.std.proofs.lemmas.Fn.{always_returns_same}
use Rattle.std.proofs.lemmas.List.MinMax.{ranks_by}
use Rattle.std.proofs.lemmas.List.Sorted.{IsPermutation-map}
use Rattle.std.specs.Ordering.{is_lt}
use Rattle.med_index.proofs.RowOrder.{row_total}
use Rattle.med_outside.specs.declared.backup_row.BackupRow.{BackupRow}
use Rattle.med_purge.specs.Rule.{back_cmp}
use Rattle.med_purge.proofs.Counts.{sorted_rows}
use Rattle.med_purge.proofs.rules.sort_back.Goals as goal

pub returns-clause-same : goal.returns-clause-same
returns-clause-same c =
    IsPermutation-map (λ (r : Bor BackupRow). r.now) c.args.rows.now.items
    c.sort_unstable_by.new.self.items c.sort_unstable_by.ensures.permutation

pub returns-clause-order : goal.returns-clause-order
returns-clause-order c =
    sorted_rows c.sort_unstable_by.new.self.items
    (c.sort_unstable_by.ensures.sorted
    (λ (a b : Bor BackupRow). is_lt (back_cmp a.now b.now))
    (ranks_by (back_total row_total) (λ (r : Bor BackupRow). r.now))
    (always_returns_same _ _ _ (λ a r f k. (search rules, search rules))))
