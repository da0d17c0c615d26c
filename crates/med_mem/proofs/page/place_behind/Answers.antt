use Rattle.med_mem.proofs.PageLemmas.{behind_there, behind_gap, behind_none}
use Rattle.med_mem.proofs.page.place_behind.Goals as goal

pub returns-in-Ok-clause-behind : goal.returns-in-Ok-clause-behind
returns-in-Ok-clause-behind c =
    let there = rw (c.as_str.ensures) at c.in-Ok.ensures.found in
    rw (c.in-Some.is) (behind_there c.in-Some.end.now _ _ there)

pub returns-in-Err-clause-behind : goal.returns-in-Err-clause-behind
returns-in-Err-clause-behind c =
    let gap = rw (c.as_str.ensures) at c.in-Err.ensures.gap in
    rw (c.in-Some.is) (behind_gap c.in-Some.end.now _ _ gap)

pub returns-in-None-clause-behind : goal.returns-in-None-clause-behind
returns-in-None-clause-behind c = rw (c.in-None.is) (behind_none _)
