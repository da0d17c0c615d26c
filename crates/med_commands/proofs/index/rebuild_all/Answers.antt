use Rattle.std.proofs.Common.{string_bytes}
use Rattle.std.proofs.lemmas.Result.{IfErr-weaker, IfOk-weaker}
use Rattle.med_commands.specs.Fault.{stop_of}
use Rattle.med_commands.proofs.IndexEnds.{all_refused, all_rebuilt}
use Rattle.med_commands.proofs.index.rebuild_all.Goals as goal

pub returns-clause-ok : goal.returns-clause-ok
returns-clause-ok g c =
    IfOk-weaker c.rebuild_each.result _ _
    (λ lines h. all_rebuilt c.args.layout.now c.in-Ok.nodes.items
    (g.S.Storage.state c.args.store.now) (g.S.Storage.state c.nodes_in.new.store)
    (g.S.Storage.state c.rebuild_each.new.store) (g.S.Storage.stood c.args.store.now)
    (g.S.Storage.stood c.nodes_in.new.store) (g.S.Storage.stood c.rebuild_each.new.store)
    c.in-Ok.ensures.looks.moves (c.in-Ok.ensures.order, c.in-Ok.ensures.ok) (string_bytes lines) h)
    (rw c.as_slice.ensures.value at c.rebuild_each.ensures.ok)

pub returns-clause-err : goal.returns-clause-err
returns-clause-err g c =
    IfErr-weaker c.rebuild_each.result _ _
    (λ fault h. all_refused c.args.layout.now c.in-Ok.nodes.items
    (g.S.Storage.state c.args.store.now) (g.S.Storage.state c.nodes_in.new.store)
    (g.S.Storage.state c.rebuild_each.new.store) (g.S.Storage.stood c.args.store.now)
    (g.S.Storage.stood c.nodes_in.new.store) (g.S.Storage.stood c.rebuild_each.new.store)
    c.in-Ok.ensures.looks.moves (c.in-Ok.ensures.order, c.in-Ok.ensures.ok) (stop_of fault)
    c.in-Ok.ensures.cause.later h)
    (rw c.as_slice.ensures.value at c.rebuild_each.ensures.err)
