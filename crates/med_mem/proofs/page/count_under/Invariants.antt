use Rattle.std.proofs.Common.{◌≡◌, ◌≤◌, take, length}
use Rattle.med_mem.specs.Objects.{pairs, listed_under}
use Rattle.med_mem.proofs.page.count_under.Given as goal

abbrev pub invariant-loop-object : goal.invariant-loop-object
invariant-loop-object l =
    (l.count ≡ length (listed_under l.under (pairs (take l.object-index l.objects))))
    × (l.count ≤ l.object-index)
