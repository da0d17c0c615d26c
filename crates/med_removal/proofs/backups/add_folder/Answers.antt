use Rattle.med_removal.proofs.Gone.{folder_told}
use Rattle.med_removal.proofs.backups.add_folder.Goals as goal

pub returns-in-Ok-add_signs-clause-told : goal.returns-in-Ok-add_signs-clause-told
returns-in-Ok-add_signs-clause-told g c =
    folder_told c.args.layout.now c.args.node.now c.args.name.now c.args.marks c.args.going.now
    c.add_meta.new.going c.add_content.new.going c.add_signs.new.going
    (g.S.Storage.state c.args.store.now).content c.in-Ok.ensures.told
    c.in-Ok-add_content.ensures.told c.in-Ok-add_signs.ensures.told
