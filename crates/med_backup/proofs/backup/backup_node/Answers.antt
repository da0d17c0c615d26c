use Rattle.std.proofs.Common.{◌∙◌, [], IfSome, Err, inl, refl, sym, subst}
use Rattle.med_index.specs.Modes.{is_differential}
use Rattle.med_outside.specs.declared.copy_fault.CopyFault.TheVariants.{Memory}
use Rattle.med_outside.specs.State.{ChangesWithin}
use Rattle.med_outside.proofs.Passing.{moves_at_rest}
use Rattle.med_shelf.specs.Shelf.{ClaimState, running_of}
use Rattle.med_shelf.proofs.Callers.{new_is_of}
use Rattle.med_backup.specs.declared.backup.BackupError.{BackupError}
use Rattle.med_backup.specs.declared.backup.BackupError.TheVariants.{Fault}
use Rattle.med_backup.specs.Backups.{AreSourcesOf, BacksUp, IsReportOf, WhereRefused}
use Rattle.med_backup.specs.Sources.{BlamesSources, sources_of}
use Rattle.med_backup.proofs.ClaimedSteps.{claim_refused, claim_still, where_refused, claimed_cut, claimed_made, keys_there, none_backed, sources_refused}
use Rattle.med_backup.proofs.backup.backup_node.Goals as goal

pub returns-in-Err-clause-backs_up : goal.returns-in-Err-clause-backs_up
returns-in-Err-clause-backs_up g c =
    none_backed c.args.shelf.now c.args.name.now c.args.mode (g.P.Snap.state c.args.snap.now).held
    (Fault Memory) (g.S.Storage.state c.args.store.now) (g.S.Storage.stood c.args.store.now)
    c.args.trace.now c.requires.sure (inl (refl, λ e. cc e))

pub returns-in-Err-prepare-clause-backs_up : goal.returns-in-Err-prepare-clause-backs_up
returns-in-Err-prepare-clause-backs_up g c =
    let shelf = c.args.shelf.now in
    let held = (g.P.Snap.state c.args.snap.now).held in
    let told = (g.S.Storage.state c.args.store.now).content in
    let first = (g.P.Snap.state c.args.snap.now).faults in
    let later = (g.P.Snap.state c.prepare.new.snap).faults in
    none_backed shelf c.args.name.now c.args.mode held c.in-Err-prepare.error
    (g.S.Storage.state c.args.store.now) (g.S.Storage.stood c.args.store.now)
    c.args.trace.now c.requires.sure
    (sources_refused shelf.layout shelf.node c.args.name.now (running_of shelf) (is_differential c.args.mode) held told
    told first later c.in-Err-prepare.error
    (subst (λ f. BlamesSources f held first later c.in-Err-prepare.error)
    (c.in-Ok.ensures ∙ c.node.ensures) c.in-Err-prepare.ensures.err))

pub returns-in-Err-prepare-clause-still : goal.returns-in-Err-prepare-clause-still
returns-in-Err-prepare-clause-still g c =
    where_refused (Err c.in-Err-prepare.error) _
    (moves_at_rest (g.S.Storage.state c.args.store.now) (g.S.Storage.stood c.args.store.now))

pub returns-in-Err-claim-clause-still : goal.returns-in-Err-claim-clause-still
returns-in-Err-claim-clause-still g c =
    let still = ChangesWithin [] (g.S.Storage.state c.args.store.now)
    (g.S.Storage.state c.claim.new.store) (g.S.Storage.stood c.args.store.now)
    (g.S.Storage.stood c.claim.new.store) in
    subst (λ (e : BackupError). WhereRefused (Err e) still) (sym c.of_claim.ensures)
    (claim_still c.in-Err-claim.error still c.in-Err-claim.ensures.still)

pub returns-in-Err-claim-clause-backs_up : goal.returns-in-Err-claim-clause-backs_up
returns-in-Err-claim-clause-backs_up g c =
    let held = (g.P.Snap.state c.args.snap.now).held in
    let x = sources_of c.in-Ok-prepare.ready in
    subst
    (λ (e : BackupError). BacksUp c.args.shelf.now c.claim.new.self c.args.name.now c.args.mode held
    (Err e) (g.S.Storage.state c.args.store.now) (g.S.Storage.state c.claim.new.store)
    (g.S.Storage.stood c.args.store.now) (g.S.Storage.stood c.claim.new.store) c.args.trace.now
    c.claim.new.trace) (sym c.of_claim.ensures)
    (claim_refused c.args.shelf.now c.claim.new.self c.args.name.now c.args.mode held x
    (subst (λ f. IfSome held (λ s. AreSourcesOf f s x)) (c.in-Ok.ensures ∙ c.node.ensures)
    c.in-Ok-prepare.ensures.sources) _ _ _ _ _ _ c.requires.sure ClaimState c.in-Err-claim.error
    (rw c.as_slice-schema.ensures.value at c.in-Err-claim.ensures.acts)
    c.in-Err-claim.ensures.answer)

pub place_and_finish-requires-clause-of : goal.place_and_finish-requires-clause-of
place_and_finish-requires-clause-of g c =
    let acts = c.in-Ok-claim.ensures.acts in
    new_is_of c.args.shelf.now c.claim.new.self c.args.name.now c.args.mode acts.layout_is
    acts.node_is acts.running_is c.in-Ok-claim.claim c.in-Ok-claim.ensures.answer

pub place_and_finish-requires-clause-has : goal.place_and_finish-requires-clause-has
place_and_finish-requires-clause-has g c =
    rw c.prepare.ensures.same.held
    (keys_there c.in-Ok.node (g.P.Snap.state c.args.snap.now).held
    (sources_of c.in-Ok-prepare.ready) c.in-Ok-prepare.ensures.sources)

pub returns-in-Ok-place_and_finish-clause-backs_up : goal.returns-in-Ok-place_and_finish-clause-backs_up
returns-in-Ok-place_and_finish-clause-backs_up g c =
    let held = (g.P.Snap.state c.args.snap.now).held in
    let x = sources_of c.in-Ok-prepare.ready in
    let node = c.in-Ok.ensures ∙ c.node.ensures in
    claimed_made c.args.shelf.now c.claim.new.self c.args.name.now c.args.mode held x
    (subst (λ f. IfSome held (λ s. AreSourcesOf f s x)) node c.in-Ok-prepare.ensures.sources)
    _ _ _ _ _ _ c.requires.sure c.in-Ok-claim.claim c.in-Ok-claim.ensures.answer
    (rw c.as_slice-schema.ensures.value at c.in-Ok-claim.ensures.acts)
    c.place_and_finish.new.shelf _ _ _ c.in-Ok-prepare.ensures.rising
    c.in-Ok-place_and_finish.finished c.report_of.result
    (subst (λ f. IsReportOf f c.in-Ok-place_and_finish.finished.name
    c.in-Ok-place_and_finish.finished.records.items c.report_of.result) node c.report_of.ensures)
    (rw c.prepare.ensures.same.held at c.in-Ok-place_and_finish.ensures.behind)

pub returns-in-Err-place_and_finish-clause-backs_up : goal.returns-in-Err-place_and_finish-clause-backs_up
returns-in-Err-place_and_finish-clause-backs_up g c =
    let held = (g.P.Snap.state c.args.snap.now).held in
    let x = sources_of c.in-Ok-prepare.ready in
    claimed_cut c.args.shelf.now c.claim.new.self c.args.name.now c.args.mode held x
    (subst (λ f. IfSome held (λ s. AreSourcesOf f s x)) (c.in-Ok.ensures ∙ c.node.ensures)
    c.in-Ok-prepare.ensures.sources) _ _ _ _ _ _ c.requires.sure c.in-Ok-claim.claim
    c.in-Ok-claim.ensures.answer (rw c.as_slice-schema.ensures.value at c.in-Ok-claim.ensures.acts)
    c.place_and_finish.new.shelf _ _ _ c.in-Err-place_and_finish.fault
    (rw c.prepare.ensures.same.held at c.in-Err-place_and_finish.ensures.behind)
