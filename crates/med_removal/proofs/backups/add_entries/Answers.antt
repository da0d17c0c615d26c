use Rattle.std.proofs.Common.{refl}
use Rattle.med_removal.specs.declared.going.Going.{Going}
use Rattle.med_removal.proofs.Gone.{entries_removable, entries_told}
use Rattle.med_removal.proofs.backups.add_entries.Goals as goal

pub returns-in-Ok-join-clause-told : goal.returns-in-Ok-join-clause-told
returns-in-Ok-join-clause-told g c =
    let entries : Going = record { paths = c.in-Ok.paths; files = 0; bytes = 0 } in
    entries_told c.args.layout.now c.args.node.now c.args.name.now entries c.args.going.now
    c.join.new.self c.in-Ok-join.ensures c.in-Ok.ensures.within
    (g.S.Storage.state c.args.store.now).content refl refl c.in-Ok.ensures.ok

pub returns-in-Ok-join-clause-within : goal.returns-in-Ok-join-clause-within
returns-in-Ok-join-clause-within g c =
    let entries : Going = record { paths = c.in-Ok.paths; files = 0; bytes = 0 } in
    entries_removable c.args.layout.now c.args.node.now c.args.name.now entries
    c.args.going.now c.join.new.self c.in-Ok-join.ensures c.in-Ok.ensures.within
