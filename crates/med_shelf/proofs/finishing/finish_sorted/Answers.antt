use Rattle.std.proofs.Common.{◌∙◌, refl, sym, ap, subst}
use Rattle.med_base.specs.Key.{IsKey}
use Rattle.med_base.proofs.Lists.{all_with}
use Rattle.med_core.specs.declared.records.Record.{Record}
use Rattle.med_index.specs.Modes.{is_differential}
use Rattle.med_manifest.specs.Manifest.{IsPathOf, NamesThese}
use Rattle.med_outside.specs.declared.copy_fault.CopyFault.TheVariants as fault
use Rattle.med_outside.specs.Sent.{fault_of}
use Rattle.med_shelf.specs.Records.{files_of}
use Rattle.med_shelf.proofs.FinishSteps.{cut_finish, never_snap, refused_finish, whole_finish}
use Rattle.med_shelf.proofs.finishing.finish_sorted.Goals as goal

pub returns-in-Err-clause-finishes : goal.returns-in-Err-clause-finishes
returns-in-Err-clause-finishes g c =
    cut_finish c.args.layout.now c.args.node.now c.args.name (is_differential c.args.mode)
    c.args.records.items (g.P.Snap.state c.args.snap.now).held _ _ c.in-Err.fault _ _ _ _ _ _
    (λ is. is) c.in-Err.ensures.checks

pub returns-in-Ok-end_backup-clause-finishes : goal.returns-in-Ok-end_backup-clause-finishes
returns-in-Ok-end_backup-clause-finishes g c =
    let value = c.as_slice.ensures.value in
    whole_finish c.args.layout.now c.args.node.now c.args.name (is_differential c.args.mode)
    c.args.records.items (g.P.Snap.state c.args.snap.now).held c.in-Ok.looked _ _ _ _ _ _ _ _ _ _
    c.in-Ok.ensures.checks
    (all_with
    (λ (r : Record). IsKey r.file.key
    × IsPathOf c.args.layout.now c.args.node.now c.args.name r.file.key r.file.path)
    (λ (r : Record). IsKey r.file.key) (λ r both. both.0) c.args.records.items c.requires.files)
    c.as_slice.result.now (value ∙ c.in-Ok-write_records.ensures.text)
    (subst (λ text. NamesThese text (files_of c.in-Ok.looked.items)) (sym value)
    c.in-Ok-write_records.ensures.names)
    c.in-Ok-end_backup.second _ refl refl c.in-Ok-write_records.ensures.records
    c.in-Ok-end_backup.ensures.ends

pub returns-in-Err-end_backup-clause-finishes : goal.returns-in-Err-end_backup-clause-finishes
returns-in-Err-end_backup-clause-finishes g c =
    let value = c.as_slice.ensures.value in
    refused_finish c.args.layout.now c.args.node.now c.args.name (is_differential c.args.mode)
    c.args.records.items (g.P.Snap.state c.args.snap.now).held c.in-Ok.looked _ _ _ _ _ _ _ _ _ _
    c.in-Ok.ensures.checks
    (all_with
    (λ (r : Record). IsKey r.file.key
    × IsPathOf c.args.layout.now c.args.node.now c.args.name r.file.key r.file.path)
    (λ (r : Record). IsKey r.file.key) (λ r both. both.0) c.args.records.items c.requires.files)
    c.as_slice.result.now (value ∙ c.in-Ok-write_records.ensures.text)
    (subst (λ text. NamesThese text (files_of c.in-Ok.looked.items)) (sym value)
    c.in-Ok-write_records.ensures.names)
    c.in-Err-end_backup.denied c.of_store.result
    (λ is. c.of_store.ensures ∙ ap (fault_of fault.Store) is)
    (λ is. never_snap c.in-Err-end_backup.denied (sym c.of_store.ensures ∙ is))
    c.in-Err-end_backup.ensures.ends
