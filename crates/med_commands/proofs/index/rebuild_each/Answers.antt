use Rattle.std.proofs.Common.{◌+◌, ℕ, List, [], Err, take, drop, sym, subst, string_bytes, arith}
use Rattle.med_base.proofs.Lists.{take_next, split_at}
use Rattle.med_commands.specs.Changes.{IsMadeBy}
use Rattle.med_plan.specs.Ends.{Ends}
use Rattle.med_outside.proofs.Passing.{moves_at_rest}
use Rattle.med_commands.specs.Fault.{stop_of}
use Rattle.med_commands.specs.Indexed.{HasRebuilt, rebuilds_plan, rose_of_store}
use Rattle.med_commands.proofs.IndexSteps.{next_rebuilt, next_refused, none_rebuilt}
use Rattle.med_commands.proofs.index.rebuild_each.Goals as goal

pub loop-node-init : goal.loop-node-init
loop-node-init g c =
    let state = g.S.Storage.state c.args.store.now in
    let stood = g.S.Storage.stood c.args.store.now in
    record {
      work = none_rebuilt c.args.layout.now state stood (string_bytes c.new-lines.result)
          c.new-lines.ensures.bytes (moves_at_rest state stood);
      ready = c.requires.ready;
      sure = c.new-trace.ensures.unsure;
      later = omega arith;
    }

pub returns-in-Err-clause-err : goal.returns-in-Err-clause-err
returns-in-Err-clause-err g c =
    let s0 = g.S.Storage.state c.args.store.now in
    let s1 = g.S.Storage.state c.loop-node.store in
    let s2 = g.S.Storage.state c.rebuild_one.new.store in
    let p0 = g.S.Storage.stood c.args.store.now in
    let p1 = g.S.Storage.stood c.loop-node.store in
    let p2 = g.S.Storage.stood c.rebuild_one.new.store in
    let nodes = c.args.nodes.now in
    let i = c.loop-node.node-index in
    let f = c.node-item.result in
    subst (λ (fs : List (List ℕ)). Ends (rose_of_store s0.faults s2.faults) (IsMadeBy s0 s2 p0 p2)
    (rebuilds_plan c.args.layout.now s0.content [] fs) (Err (stop_of c.in-Err.fault)))
    (sym (split_at nodes i f c.loop-node-test.true c.node-item.is))
    (next_refused c.args.layout.now s0 s1 s2 p0 p1 p2 (take i nodes)
    (string_bytes c.loop-node.lines) c.loop-node.invariant.work f (drop (i + 1) nodes)
    (stop_of c.in-Err.fault) c.loop-node.invariant.later c.in-Err.ensures.err)

pub loop-node-preserved : goal.loop-node-preserved
loop-node-preserved g c =
    let s0 = g.S.Storage.state c.args.store.now in
    let s1 = g.S.Storage.state c.loop-node.store in
    let s2 = g.S.Storage.state c.rebuild_one.new.store in
    let p0 = g.S.Storage.stood c.args.store.now in
    let p1 = g.S.Storage.stood c.loop-node.store in
    let p2 = g.S.Storage.stood c.rebuild_one.new.store in
    let nodes = c.args.nodes.now in
    let i = c.loop-node.node-index in
    let f = c.node-item.result in
    record {
      work = subst (λ (fs : List (List ℕ)). HasRebuilt c.args.layout.now s0 s2 p0 p2 fs
          (string_bytes c.rebuild_one.new.lines))
          (sym (take_next nodes i f c.loop-node-test.true c.node-item.is))
          (next_rebuilt c.args.layout.now s0 s1 s2 p0 p1 p2 (take i nodes)
          (string_bytes c.loop-node.lines) c.loop-node.invariant.work f
          (string_bytes c.rebuild_one.new.lines) c.in-Ok.ensures.ok);
      ready = c.rebuild_one.ensures.ready;
      sure = c.in-Ok.ensures.sure;
      later = omega (arith, c.loop-node.invariant.later, c.rebuild_one.ensures.later);
    }
