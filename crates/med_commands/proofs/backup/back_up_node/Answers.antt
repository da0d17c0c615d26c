use Rattle.std.proofs.Common.{inr}
use Rattle.med_commands.specs.NodeConfig.{node_config_of, opened_at}
use Rattle.med_outside.specs.State.{OnlyReads}
use Rattle.med_commands.proofs.BackupEnds.{works_later}
use Rattle.med_commands.proofs.backup.back_up_node.Goals as goal

pub returns-in-Ok-clause-works : goal.returns-in-Ok-clause-works
returns-in-Ok-clause-works g c =
    let node_config = node_config_of c.args.config in
    let opened : OnlyReads (opened_at node_config (g.S.Storage.state c.args.store.now))
    (g.S.Storage.state c.open.new.self) (g.S.Storage.stood c.args.store.now)
    (g.S.Storage.stood c.open.new.self) =
    rw (c.as_str.ensures.value, c.as_str-2.ensures.value) at c.in-Ok.ensures.ok in
    inr (works_later node_config c.args.name.now c.args.mode (g.N.Nodes.state c.args.nodes.now)
    (g.N.Nodes.state c.back_up_tagged.new.nodes) c.back_up_tagged.result
    (opened_at node_config (g.S.Storage.state c.args.store.now)) (g.S.Storage.state c.open.new.self)
    (g.S.Storage.state c.back_up_tagged.new.store) (g.S.Storage.stood c.args.store.now)
    (g.S.Storage.stood c.open.new.self) (g.S.Storage.stood c.back_up_tagged.new.store) opened.moves
    c.back_up_tagged.ensures.works)
