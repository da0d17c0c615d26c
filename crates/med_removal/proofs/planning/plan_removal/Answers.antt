use Rattle.std.proofs.Common.{[], subst}
use Rattle.med_index.proofs.Walking.{same_content}
use Rattle.med_index.specs.Marks.{IsSetOf}
use Rattle.med_index.specs.Visits.{AreFound}
use Rattle.med_removal.specs.Named.{TellsUnreadOutside}
use Rattle.med_removal.specs.Plan.{IsPlanOver}
use Rattle.med_removal.proofs.Plans.{err_first, ok_first}
use Rattle.med_removal.proofs.planning.plan_removal.Goals as goal

pub returns-clause-ok : goal.returns-clause-ok
returns-clause-ok g c =
    let state = g.S.Storage.state in
    let before = c.args.layout.now in
    let f = c.args.node.now in
    let names = c.args.names.items in
    ok_first (λ d. AreFound f c.in-Ok-find_backups.found before f d [])
    (λ plan d. IsPlanOver before d f names c.args.grace_days c.args.now plan)
    (IsSetOf names c.in-Ok.cut) (state c.args.store.now).content
    (state c.find_backups.new.store).content c.plan_found.result
    (same_content _ _ _ _ c.in-Ok-find_backups.ensures.looks) c.in-Ok-find_backups.ensures.found
    (subst (λ ns. IsSetOf ns c.in-Ok.cut) c.as_slice.ensures.value c.in-Ok.ensures)
    c.plan_found.ensures.ok

pub returns-clause-err : goal.returns-clause-err
returns-clause-err g c =
    let state = g.S.Storage.state in
    let before = c.args.layout.now in
    let f = c.args.node.now in
    let names = c.args.names.items in
    err_first (λ d. AreFound f c.in-Ok-find_backups.found before f d [])
    (λ e d. TellsUnreadOutside before d f names e) (IsSetOf names c.in-Ok.cut)
    (state c.args.store.now).content (state c.find_backups.new.store).content
    c.plan_found.result (same_content _ _ _ _ c.in-Ok-find_backups.ensures.looks)
    c.in-Ok-find_backups.ensures.found
    (subst (λ ns. IsSetOf ns c.in-Ok.cut) c.as_slice.ensures.value c.in-Ok.ensures)
    c.plan_found.ensures.err
