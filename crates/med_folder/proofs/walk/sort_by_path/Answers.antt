use Rattle.std.proofs.Common.{rules}
use Rattle.std.specs.Ordering.{nat_cmp, is_lt}
use Rattle.std.specs.Cmp.Lexicographic.{slice_cmp, nat_list_cmp_total}
use Rattle.std.proofs.lemmas.Fn.{always_returns_same}
use Rattle.std.proofs.lemmas.List.MinMax.{ranks_by}
use Rattle.med_outside.specs.declared.storage.Entry.{Entry}
use Rattle.med_folder.proofs.walk.sort_by_path.Goals as goal

pub returns-clause-order : goal.returns-clause-order
returns-clause-order c =
    c.sort_unstable_by.ensures.sorted
    (λ (a b : Entry). is_lt (slice_cmp nat_cmp a.path b.path))
    (ranks_by nat_list_cmp_total (λ (e : Entry). e.path))
    (always_returns_same _ _ _ (λ a r f k. (search rules, search rules)))
