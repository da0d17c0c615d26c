use Rattle.std.proofs.Common.{◌++◌, []}
use Rattle.med_outside.specs.Makes.{took}
use Rattle.med_outside.proofs.Passing.{ready_on}
use Rattle.med_suite_backup.proofs.backups.answer_of.Goals as goal

pub returns : goal.returns
returns g c =
    let m = c.backup_node-answer.ensures.backs_up.sections.makes in
    record { ready = ready_on [] (m.done ++ took m.last) _ _ _ _ m.moves c.requires.ready }
