use Rattle.std.proofs.Common.{◌∙◌, [], sym, subst}
use Rattle.med_core.specs.Section.{Remove}
use Rattle.med_index.proofs.Walking.{same_content}
use Rattle.med_index.specs.Marks.{IsSetOf}
use Rattle.med_index.specs.Visits.{AreFound}
use Rattle.med_removal.specs.Going.{AreRemovable}
use Rattle.med_removal.proofs.Plans.{gone_told, no_manifest}
use Rattle.med_removal.proofs.planning.plan_paths.Goals as goal

pub returns-in-Ok-add_old-clause-ok : goal.returns-in-Ok-add_old-clause-ok
returns-in-Ok-add_old-clause-ok g c =
    let state = g.S.Storage.state in
    let first = same_content _ _ _ _ c.in-Ok.ensures.looks in
    gone_told c.args.layout.now c.args.node.now c.args.found.now c.args.names.now c.args.cut.now
    c.in-Ok.named c.args.grace_days c.args.now c.none-going.result c.add_backups.new.going
    c.add_old.new.going (state c.args.store.now).content (state c.read_named.new.store).content
    (state c.add_backups.new.store).content first
    (same_content _ _ _ _ c.in-Ok-add_backups.ensures.looks ∙ first) c.none-going.ensures.paths
    c.none-going.ensures.files c.none-going.ensures.bytes c.in-Ok.ensures.ok
    c.in-Ok-add_backups.ensures.told c.in-Ok-add_old.ensures.told

pub returns-in-Ok-add_old-clause-within : goal.returns-in-Ok-add_old-clause-within
returns-in-Ok-add_old-clause-within g c =
    let call = Remove c.args.names.now c.args.grace_days c.args.now in
    c.in-Ok-add_old.ensures.within call
    (c.in-Ok-add_backups.ensures.within c.args.grace_days c.args.now
    (subst (AreRemovable c.args.layout.now c.args.node.now call) (sym c.none-going.ensures.paths) tt))

pub returns-clause-err : goal.returns-clause-err
returns-clause-err g c =
    no_manifest c.args.layout.now c.args.node.now c.args.names.now
    (λ d. AreFound c.args.node.now c.args.found.now c.args.layout.now c.args.node.now d [])
    (IsSetOf c.args.names.now c.args.cut.now) (g.S.Storage.state c.args.store.now).content
    c.in-Err-add_old.error c.from-in-Err-add_old.result c.from-in-Err-add_old.ensures
