use Rattle.std.proofs.Common.{arith, rules}
use Rattle.std.proofs.lemmas.Map.Iter.{btree_map_turn}
use Rattle.std.specs.Cmp.Lexicographic.{nat_list_cmp_total}
use Rattle.med_index.proofs.GivenLemmas.{looks_on}
use Rattle.med_index.proofs.ManifestLemmas.{parts_of}
use Rattle.med_removal.proofs.Noting.{names_first, names_step, names_stopped}
use Rattle.med_index.proofs.Walking.{same_content}
use Rattle.med_removal.proofs.named.note_manifests.Goals as goal

pub note_manifest-requires-clause-path : goal.note_manifest-requires-clause-path
note_manifest-requires-clause-path g c =
    let given = c.into_iter-path-iterator.ensures.into_iter_gives in
    let turn = btree_map_turn (λ p. p) c.loop-path.yielded c.into_iter-path-iterator.result
    c.loop-path.path-iterator c.next.new.self c.next.result (c.in-Some.path, c.in-Some.name)
    c.loop-path.yielded_by c.in-Some.is c.next.ensures.steps nat_list_cmp_total c.args.manifests
    given.0 given.5 in
    c.requires.named c.in-Some.path c.in-Some.name turn.1

pub loop-path-init : goal.loop-path-init
loop-path-init g c = record {
  told = names_first (g.S.Storage.state c.args.store.now).content c.args.layout.now c.args.node.now
      c.args.named.now;
  ready = c.requires.ready;
  looks = search rules;
  later = omega arith;
}

pub returns-in-Err-clause-err : goal.returns-in-Err-clause-err
returns-in-Err-clause-err g c =
    let state = g.S.Storage.state in
    let stood = g.S.Storage.stood in
    let start = c.args.store.now in
    let here = c.loop-path.store in
    let so = c.loop-path.invariant in
    let given = c.into_iter-path-iterator.ensures.into_iter_gives in
    names_stopped (state start).content (state here).content c.args.layout.now c.args.node.now
    c.in-Some.name c.in-Some.path c.loop-path.yielded c.next.new.self c.args.manifests.entries
    c.args.named.now c.loop-path.named c.in-Err.error
    (same_content (state start) (state here) (stood start) (stood here) so.looks)
    (parts_of c.args.manifests.entries c.loop-path.yielded c.into_iter-path-iterator.result
    c.loop-path.path-iterator c.next.new.self c.next.result (c.in-Some.path, c.in-Some.name)
    given.0 c.loop-path.yielded_by c.in-Some.is c.next.ensures.steps) so.told
    c.in-Err.ensures.err

pub returns-in-Err-clause-order : goal.returns-in-Err-clause-order
returns-in-Err-clause-order g c = c.into_iter-path-iterator.ensures.into_iter_gives.5

pub returns-in-Err-clause-looks : goal.returns-in-Err-clause-looks
returns-in-Err-clause-looks g c =
    let state = g.S.Storage.state in
    let stood = g.S.Storage.stood in
    let start = c.args.store.now in
    let here = c.loop-path.store in
    let next = c.note_manifest.new.store in
    looks_on (state start) (state here) (state next) (stood start) (stood here) (stood next)
    c.loop-path.invariant.looks c.in-Err.ensures.looks

pub loop-path-preserved : goal.loop-path-preserved
loop-path-preserved g c =
    let state = g.S.Storage.state in
    let stood = g.S.Storage.stood in
    let start = c.args.store.now in
    let here = c.loop-path.store in
    let next = c.note_manifest.new.store in
    let so = c.loop-path.invariant in
    let read = c.in-Ok.ensures.ok in
    let past = so.later in
    let more = c.in-Ok.ensures.cause.later in
    let given = c.into_iter-path-iterator.ensures.into_iter_gives in
    let turn = btree_map_turn (λ p. p) c.loop-path.yielded c.into_iter-path-iterator.result
    c.loop-path.path-iterator c.next.new.self c.next.result (c.in-Some.path, c.in-Some.name)
    c.loop-path.yielded_by c.in-Some.is c.next.ensures.steps nat_list_cmp_total c.args.manifests
    given.0 given.5 in
    record {
      told =
          names_step (state start).content (state here).content c.args.layout.now c.args.node.now
          c.in-Some.name c.in-Some.path c.loop-path.yielded c.args.named.now c.loop-path.named
          c.note_manifest.new.named
          (same_content (state start) (state here) (stood start) (stood here) so.looks)
          (c.requires.named c.in-Some.path c.in-Some.name turn.1) so.told read;
      ready = c.in-Ok.ensures.ready;
      looks =
          looks_on (state start) (state here) (state next) (stood start) (stood here) (stood next)
          so.looks c.in-Ok.ensures.looks;
      later = omega (arith, past, more);
    }
