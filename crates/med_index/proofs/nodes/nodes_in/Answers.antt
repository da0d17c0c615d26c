use Rattle.med_index.proofs.Finding.{nodes_of}
use Rattle.med_index.proofs.NodeLemmas.{nodes_told, nodes_rise}
use Rattle.med_index.proofs.nodes.nodes_in.Goals as goal

pub returns-in-Ok-clause-ok : goal.returns-in-Ok-clause-ok
returns-in-Ok-clause-ok g c =
    nodes_told c.walk.new.visitor.found c.in-Ok.names.items c.in-Ok.ensures.keys
    (g.S.Storage.state c.args.store.now).content c.args.layout.now
    (nodes_of (g.S.Storage.state c.args.store.now).content c.new.result
    c.walk.new.visitor.found c.args.layout.now c.before-2.result.now c.before-2.ensures
    c.new.ensures.empty c.in_ok-walk.ensures.found)

pub returns-in-Ok-clause-order : goal.returns-in-Ok-clause-order
returns-in-Ok-clause-order g c =
    nodes_rise c.walk.new.visitor.found c.in-Ok.names.items c.in-Ok.ensures.keys
    c.in-Ok.ensures.order
