use Rattle.std.proofs.Common.{IfSome}
use Rattle.med_index.specs.Gathered.{ReadsAll}
use Rattle.med_index.specs.Manifests.{AreReadTold}
use Rattle.med_index.proofs.GatherSteps.{named_of, on_both, reads_all, refused_tells}
use Rattle.med_index.proofs.gather.read_all.Goals as goal

pub read_manifests-requires-clause-named : goal.read_manifests-requires-clause-named
read_manifests-requires-clause-named g c =
    named_of c.args.layout.now c.args.node.now c.args.found.now c.no_names-none.result c.in-Ok.manifests
    c.in-Ok.ensures.order c.in-Ok.ensures.manifests

pub returns-clause-ok : goal.returns-clause-ok
returns-clause-ok g c =
    let told = (g.S.Storage.state c.args.store.now).content in
    let before = c.args.layout.now in
    let f = c.args.node.now in
    let old = c.args.given.now in
    let new = c.read_manifests.new.given in
    on_both c.read_manifests.result (AreReadTold told before f c.in-Ok.manifests.entries old new)
    (AreReadTold told before f c.in-Ok.manifests.entries old new)
    (IfSome told (λ d. ReadsAll before f d c.args.found.now old new))
    (λ reads same. reads_all before f c.args.found.now c.no_names-none.result c.in-Ok.manifests c.in-Ok.ensures.order
    c.read_manifests.ensures.order c.in-Ok.ensures.manifests c.no_names-none.ensures told old new reads)
    c.read_manifests.ensures.ok c.read_manifests.ensures.ok

pub returns-clause-err : goal.returns-clause-err
returns-clause-err g c =
    refused_tells c.args.layout.now c.args.node.now c.args.found.now c.no_names-none.result c.in-Ok.manifests
    c.in-Ok.ensures.order c.read_manifests.ensures.order c.in-Ok.ensures.manifests c.no_names-none.ensures
    (g.S.Storage.state c.args.store.now).content c.read_manifests.result
    c.read_manifests.ensures.err
