use Rattle.med_removal.proofs.Gone.{signs_told}
use Rattle.med_removal.proofs.Picks.{ok_with}
use Rattle.med_removal.proofs.backups.add_signs.Goals as goal

pub returns-clause-told : goal.returns-clause-told
returns-clause-told c =
    ok_with
    (signs_told c.args.layout.now c.args.node.now c.args.name.now c.args.marks c.args.going.now
    c.add_meta.new.going c.add_meta-2.new.going c.add_meta-3.new.going c.in_ok-add_meta.ensures.told
    c.in_ok-add_meta-2.ensures.told) c.add_meta-3.result c.add_meta-3.ensures.told
