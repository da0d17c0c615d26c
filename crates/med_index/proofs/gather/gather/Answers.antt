use Rattle.std.proofs.Common.{◌∙◌, []}
use Rattle.med_index.specs.Gathered.{TellsUnread}
use Rattle.med_index.specs.Visits.{AreFound}
use Rattle.med_index.proofs.GatherSteps.{gathered, nothing_of, told_before}
use Rattle.med_index.proofs.Walking.{same_content}
use Rattle.med_index.proofs.gather.gather.Goals as goal

pub returns-in-Err-read_all-clause-err : goal.returns-in-Err-read_all-clause-err
returns-in-Err-read_all-clause-err g c =
    let state = g.S.Storage.state in
    told_before
    (λ d. AreFound c.args.node.now c.args.found c.args.layout.now c.args.node.now d []
    → TellsUnread c.args.layout.now d c.args.node.now c.in-Err-read_all.error)
    (state c.args.store.now).content (state c.sizes_of.new.store).content
    (same_content _ _ _ _ c.in-Ok.ensures.looks) c.in-Err-read_all.ensures.err

pub returns-in-Ok-give_rests-clause-given : goal.returns-in-Ok-give_rests-clause-given
returns-in-Ok-give_rests-clause-given g c =
    c.in-Ok-give_rests.ensures.within
    (c.in-Ok-read_all.ensures.within
    (nothing_of c.args.layout.now c.args.node.now c.new-given.result c.new-given.ensures.empty))

pub returns-in-Ok-give_rests-clause-ok : goal.returns-in-Ok-give_rests-clause-ok
returns-in-Ok-give_rests-clause-ok g c =
    let state = g.S.Storage.state in
    let first = same_content _ _ _ _ c.in-Ok.ensures.looks in
    gathered c.args.layout.now c.args.node.now c.args.found c.in-Ok.sizes c.new-given.result
    c.read_all.new.given c.give_rests.new.given (state c.args.store.now).content
    (state c.sizes_of.new.store).content (state c.read_all.new.store).content first
    (same_content _ _ _ _ c.in-Ok-read_all.ensures.looks ∙ first) c.new-given.ensures.empty
    c.in-Ok.ensures.ok c.in-Ok-read_all.ensures.ok c.in-Ok-give_rests.ensures.told
