use Rattle.std.proofs.Common.{rules}
use Rattle.std.specs.Ordering.{is_lt}
use Rattle.std.proofs.lemmas.Cmp.{on_total}
use Rattle.std.proofs.lemmas.Fn.{always_returns_same}
use Rattle.std.proofs.lemmas.List.MinMax.{ranks_by}
use Rattle.med_base.specs.KeyOrder.{key_total}
use Rattle.med_core.specs.declared.records.Record.{Record}
use Rattle.med_shelf.specs.Records.{record_cmp}
use Rattle.med_shelf.proofs.finishing.sort_records.Goals as goal

pub returns-clause-order : goal.returns-clause-order
returns-clause-order c =
    c.sort_unstable_by.ensures.sorted (λ (a b : Record). is_lt (record_cmp a b))
    (ranks_by (on_total (λ (r : Record). r.file.key) key_total) (λ (r : Record). r))
    (always_returns_same _ _ _ (λ a r f k. (search rules, search rules)))
