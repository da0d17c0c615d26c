use Rattle.med_commands.proofs.BackupEnds.{made_anew}
use Rattle.med_commands.proofs.backup.back_up_snapshot.Goals as goal

pub returns-clause-backup : goal.returns-clause-backup
returns-clause-backup g c =
    let made = rw c.new-shelf.ensures at c.backup_node.ensures.backs_up in
    record {
      events = made.events;
      made = made_anew c.args.layout c.args.node _ made.events _ _ _ _ _ _ _ _ made.sections;
      answer = made.answer;
      still = c.backup_node.ensures.still;
    }
