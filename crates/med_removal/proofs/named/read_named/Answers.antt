use Rattle.med_removal.proofs.Outsides.{named_of, named_told, unread_told}
use Rattle.med_removal.proofs.named.read_named.Goals as goal

pub note_manifests-requires-clause-named : goal.note_manifests-requires-clause-named
note_manifests-requires-clause-named g c =
    named_of c.args.layout.now c.args.node.now c.args.found.now c.args.but.now c.in-Ok.manifests
    c.in-Ok.ensures.order c.in-Ok.ensures.manifests

pub returns-in-Ok-note_manifests-clause-ok : goal.returns-in-Ok-note_manifests-clause-ok
returns-in-Ok-note_manifests-clause-ok g c =
    named_told c.args.layout.now c.args.node.now c.args.found.now c.args.but.now c.in-Ok.manifests
    c.in-Ok.ensures.order c.in-Ok.ensures.manifests c.as_str.ensures.fits
    c.note_manifests.ensures.order (g.S.Storage.state c.args.store.now).content
    c.no_paths-named.result c.note_manifests.new.named c.no_paths-named.ensures
    c.in-Ok-note_manifests.ensures.ok

pub returns-in-Err-note_manifests-clause-err : goal.returns-in-Err-note_manifests-clause-err
returns-in-Err-note_manifests-clause-err g c =
    unread_told c.args.layout.now c.args.node.now c.args.found.now c.args.but.now c.in-Ok.manifests
    c.in-Ok.ensures.order c.in-Ok.ensures.manifests c.as_str.ensures.fits
    c.note_manifests.ensures.order (g.S.Storage.state c.args.store.now).content
    c.in-Err-note_manifests.error c.in-Err-note_manifests.ensures.err
