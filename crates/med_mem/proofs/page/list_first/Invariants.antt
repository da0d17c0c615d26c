use Rattle.std.proofs.Common.{◌≡◌, take}
use Rattle.med_outside.specs.Pages.{page_size}
use Rattle.med_mem.specs.Objects.{pairs, listed_under}
use Rattle.med_mem.proofs.page.list_first.Given as goal

abbrev pub invariant-loop-object : goal.invariant-loop-object
invariant-loop-object l =
    l.entries.items ≡ take page_size (listed_under l.under (pairs (take l.object-index l.objects)))
