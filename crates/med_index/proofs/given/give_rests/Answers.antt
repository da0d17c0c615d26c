use Rattle.std.proofs.Common.{arith}
use Rattle.med_index.proofs.GivenLemmas.{looks_on, rest_within, rests_step}
use Rattle.med_index.proofs.Walking.{same_content}
use Rattle.med_index.proofs.given.give_rests.Goals as goal

pub loop-name-preserved : goal.loop-name-preserved
loop-name-preserved g c =
    let state = g.S.Storage.state in
    let stood = g.S.Storage.stood in
    let start = c.args.store.now in
    let here = c.loop-name.store in
    let next = c.give_rest.new.store in
    let so = c.loop-name.invariant in
    let noted = c.in_ok-give_rest.ensures.noted in
    let past = so.later in
    let more = c.in_ok-give_rest.ensures.cause.later in
    record {
      within = λ within.
          rest_within (state here).content c.args.layout.now c.args.node.now c.in-Some.name
          c.in-Some.marks c.args.sizes.now c.loop-name.given c.give_rest.new.given noted
          (so.within within);
      told =
          rests_step (state start).content (state here).content c.args.layout.now c.args.node.now
          c.in-Some.name c.args.found c.loop-name.yielded c.in-Some.marks c.args.sizes.now
          c.args.given.now c.loop-name.given c.give_rest.new.given
          (same_content (state start) (state here) (stood start) (stood here) so.looks) so.told
          noted;
      ready = c.in_ok-give_rest.ensures.ready;
      looks =
          looks_on (state start) (state here) (state next) (stood start) (stood here) (stood next)
          so.looks c.in_ok-give_rest.ensures.looks;
      later = omega (arith, past, more);
    }
