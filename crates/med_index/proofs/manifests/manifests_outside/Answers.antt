use Rattle.std.proofs.Common.{[], ◌∷◌, map, sym, subst}
use Rattle.std.proofs.lemmas.List.{map-append}
use Rattle.std.proofs.lemmas.Map.Iter.{iter_end}
use Rattle.std.specs.Map.Iter.{deref_pair}
use Rattle.med_index.specs.Manifests.{AreManifests, IsManifestNoted}
use Rattle.med_index.proofs.ManifestLemmas.{manifest_step, manifests_none}
use Rattle.med_index.proofs.manifests.manifests_outside.Goals as goal

pub loop-name-init : goal.loop-name-init
loop-name-init c =
    manifests_none c.args.layout.now c.args.node.now c.args.found.now c.args.but.now c.new-manifests.result
    c.new-manifests.ensures.empty

pub loop-name-preserved : goal.loop-name-preserved
loop-name-preserved c =
    let before = c.args.layout.now in
    let f = c.args.node.now in
    let found = c.args.found.now in
    let es = map deref_pair c.loop-name.yielded in
    subst (λ ds. AreManifests before f found c.args.but.now ds c.note_manifest.new.manifests)
    (sym
    (map-append deref_pair c.loop-name.yielded ((c.in-Some.name, c.in-Some.marks) ∷ [])))
    (manifest_step before f found c.args.but.now es c.in-Some.name.now c.in-Some.marks.now
    c.loop-name.manifests c.note_manifest.new.manifests
    (subst
    (λ o. IsManifestNoted before f c.in-Some.name.now o c.loop-name.manifests
    c.note_manifest.new.manifests) c.second_outside-second.ensures
    c.in_ok-note_manifest.ensures) c.loop-name.invariant)

pub returns-clause-manifests : goal.returns-clause-manifests
returns-clause-manifests c =
    let given = c.into_iter-name-iterator.ensures.into_iter_gives in
    let ended = iter_end deref_pair c.args.found.now.entries c.loop-name.yielded
    c.into_iter-name-iterator.result c.loop-name.name-iterator c.next.new.self c.next.result
    given.0 c.loop-name.yielded_by c.in-None.is c.next.ensures.steps in
    subst
    (λ es. AreManifests c.args.layout.now c.args.node.now c.args.found.now c.args.but.now es
    c.loop-name.manifests) ended.0 c.loop-name.invariant
