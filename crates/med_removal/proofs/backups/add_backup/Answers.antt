use Rattle.med_index.proofs.Walking.{same_content}
use Rattle.med_removal.proofs.Gone.{backup_told}
use Rattle.med_removal.proofs.Picks.{ok_with}
use Rattle.med_removal.proofs.backups.add_backup.Goals as goal

pub returns-clause-told : goal.returns-clause-told
returns-clause-told g c =
    ok_with
    (backup_told c.args.layout.now c.args.node.now c.args.name.now c.args.marks c.args.going.now
    c.add_entries.new.going c.add_folder.new.going c.add_folder.new.going
    (g.S.Storage.state c.args.store.now).content
    (g.S.Storage.state c.add_entries.new.store).content
    (same_content _ _ _ _ c.in-Ok.ensures.looks) c.in-Ok.ensures.told) c.add_folder.result
    c.add_folder.ensures.told

pub returns-clause-within : goal.returns-clause-within
returns-clause-within g c =
    ok_with (λ within call removing was. within call removing (c.in-Ok.ensures.within call was))
    c.add_folder.result c.add_folder.ensures.within
