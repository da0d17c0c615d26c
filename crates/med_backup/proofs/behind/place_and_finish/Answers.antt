use Rattle.std.proofs.Common.{◌∙◌, subst}
use Rattle.med_base.specs.Kinds.{IsBackupName, IsFqdn}
use Rattle.med_backup.proofs.BehindSteps.{behind_cut, behind_finish, told_records}
use Rattle.med_backup.proofs.behind.place_and_finish.Goals as goal

pub returns-in-Err-clause-behind : goal.returns-in-Err-clause-behind
returns-in-Err-clause-behind g c =
    behind_cut c.args.shelf.now c.place_files.new.shelf c.abandon.new.self c.args.claim
    c.place_files.new.claim c.args.keys.items (g.P.Snap.state c.args.snap.now).held _ _ _ _ _ _
    (subst IsFqdn (c.node.ensures ∙ c.requires.of.node_is) c.names_keep_rules.ensures.node)
    (subst IsBackupName c.name.ensures c.names_keep_rules.ensures.name) c.in-Err.fault
    c.in-Err.ensures.some c.abandon.ensures.layout c.abandon.ensures.node c.abandon.ensures.running

pub finish-requires-clause-keys : goal.finish-requires-clause-keys
finish-requires-clause-keys g c =
    rw c.in-Ok.ensures.asks.same.held
    (told_records (g.P.Snap.state c.args.snap.now).held c.place_files.new.claim.records
    c.args.keys.items c.in-Ok.ensures.all.keys_are c.requires.has)

pub returns-clause-behind : goal.returns-clause-behind
returns-clause-behind g c =
    behind_finish c.args.shelf.now c.place_files.new.shelf c.finish.new.self c.args.claim
    c.place_files.new.claim c.args.keys.items (g.P.Snap.state c.args.snap.now).held _ _ _ _ _ _ _ _ _
    (subst IsFqdn (c.node.ensures ∙ c.requires.of.node_is) c.names_keep_rules.ensures.node)
    (subst IsBackupName c.name.ensures c.names_keep_rules.ensures.name) c.requires.rising
    c.requires.names c.in-Ok.ensures.all c.finish.result
    (rw c.in-Ok.ensures.asks.same.held at c.finish.ensures.finishes)
