use Rattle.std.proofs.Common.{◌≡◌, ◌∙◌, ◌++◌, [], ◌∷◌, append_assoc, true, false, Ok, Err, refl, sym, ap, arith}
use Rattle.std.specs.Vec.Iter.{into_iter_items}
use Rattle.std.proofs.lemmas.Iterator.Adapters.{YieldsList-from_vec}
use Rattle.std.proofs.lemmas.Iterator.Consumers.{YieldsList-end}
use Rattle.med_core.specs.declared.records.Record.{Record}
use Rattle.med_index.specs.Modes.{is_differential}
use Rattle.med_manifest.specs.Manifest.{IsPathOf}
use Rattle.med_outside.specs.declared.copy_fault.CopyFault.TheVariants.{Memory, Store}
use Rattle.med_outside.specs.Makes.{is_unsure, took}
use Rattle.med_outside.proofs.Passing.{ready_on}
use Rattle.med_shelf.proofs.CheckSteps.{at_cut, key_at_cut}
use Rattle.med_shelf.proofs.CheckedSoFar.{all_looked, as_fine, map_itself, nothing_looked, one_more, stopped}
use Rattle.med_shelf.proofs.checking.check_records.Goals as goal

pub loop-recorded-init : goal.loop-recorded-init
loop-recorded-init g c = record {
  left = sym c.into_iter-recorded-iterator.ensures.into_iter_gives.0;
  so = rw c.new-kept.ensures.items (nothing_looked c.args.layout.now c.args.node.now
      c.args.name.now (is_differential c.args.mode) c.args.records.items
      (g.P.Snap.state c.args.snap.now).held (g.S.Storage.state c.args.store.now)
      (g.S.Storage.stood c.args.store.now) c.args.trace.now c.requires.sure c.requires.keys);
  same = record { held = refl; of = refl };
  snap_later = omega arith;
  store_later = omega arith;
}

pub check_record-requires-clause-ready : goal.check_record-requires-clause-ready
check_record-requires-clause-ready g c =
    let m = c.loop-recorded.invariant.so.makes in
    ready_on c.args.layout.now (m.done ++ took m.last) (g.S.Storage.state c.args.store.now)
    (g.S.Storage.state c.loop-recorded.store) (g.S.Storage.stood c.args.store.now)
    (g.S.Storage.stood c.loop-recorded.store) m.moves c.requires.ready

pub check_record-requires-clause-sure : goal.check_record-requires-clause-sure
check_record-requires-clause-sure g c =
    let m = c.loop-recorded.invariant.so.makes in
    m.records.unsure ∙ ap is_unsure (m.whole tt).0

pub check_record-requires-clause-key : goal.check_record-requires-clause-key
check_record-requires-clause-key g c =
    let inv = c.loop-recorded.invariant in
    rw inv.same.held
    (key_at_cut (g.P.Snap.state c.args.snap.now).held c.args.records.items c.loop-recorded.yielded
    c.in-Some.recorded (into_iter_items c.next.new.self)
    (inv.left ∙ ap (λ l. c.loop-recorded.yielded ++ l) c.in-Some.ensures.steps.0) c.requires.keys)

pub check_record-requires-clause-path : goal.check_record-requires-clause-path
check_record-requires-clause-path g c =
    at_cut
    (λ (r : Record). IsPathOf c.args.layout.now c.args.node.now c.args.name.now r.file.key
    r.file.path) c.args.records.items c.loop-recorded.yielded c.in-Some.recorded
    (into_iter_items c.next.new.self)
    (c.loop-recorded.invariant.left
    ∙ ap (λ l. c.loop-recorded.yielded ++ l) c.in-Some.ensures.steps.0) c.requires.paths

pub loop-recorded-preserved : goal.loop-recorded-preserved
loop-recorded-preserved g c =
    let state = g.S.Storage.state in
    let stood = g.S.Storage.stood in
    let inv = c.loop-recorded.invariant in
    let all = c.args.records.items in
    let front = c.loop-recorded.yielded in
    let rest = into_iter_items c.next.new.self in
    let held = (g.P.Snap.state c.args.snap.now).held in
    let cut : all ≡ front ++ c.in-Some.recorded ∷ rest =
    inv.left ∙ ap (λ l. front ++ l) c.in-Some.ensures.steps.0 in
    record {
      left = cut ∙ sym (append_assoc front (c.in-Some.recorded ∷ []) rest);
      so = as_fine c.args.layout.now c.args.node.now c.args.name.now (is_differential c.args.mode)
          all held (front ++ c.in-Some.recorded ∷ []) c.push.new.self.items
          (state c.args.store.now) (state c.check_record.new.store) (stood c.args.store.now)
          (stood c.check_record.new.store) c.args.trace.now c.check_record.new.trace
          (one_more c.args.layout.now c.args.node.now c.args.name.now
          (is_differential c.args.mode) all held front c.loop-recorded.kept.items
          c.in-Some.recorded rest (state c.args.store.now) (state c.loop-recorded.store)
          (state c.check_record.new.store) (stood c.args.store.now)
          (stood c.loop-recorded.store) (stood c.check_record.new.store) c.args.trace.now
          c.loop-recorded.trace c.check_record.new.trace inv.so cut c.requires.rising
          (Ok c.in-Ok.one) (rw inv.same.held at c.in-Ok.ensures.checks) c.push.new.self.items
          c.in-Ok-push.ensures.items);
      same = record {
        held = c.check_record.ensures.asks.same.held ∙ inv.same.held;
        of = c.check_record.ensures.asks.same.of ∙ inv.same.of;
      };
      snap_later = omega (arith, inv.snap_later, c.check_record.ensures.asks.snap_later);
      store_later = omega (arith, inv.store_later, c.check_record.ensures.asks.store_later);
    }

pub returns-in-Err-clause-checks : goal.returns-in-Err-clause-checks
returns-in-Err-clause-checks g c =
    let state = g.S.Storage.state in
    let stood = g.S.Storage.stood in
    let inv = c.loop-recorded.invariant in
    let all = c.args.records.items in
    let front = c.loop-recorded.yielded in
    let rest = into_iter_items c.next.new.self in
    let held = (g.P.Snap.state c.args.snap.now).held in
    let cut : all ≡ front ++ c.in-Some.recorded ∷ rest =
    inv.left ∙ ap (λ l. front ++ l) c.in-Some.ensures.steps.0 in
    let more = one_more c.args.layout.now c.args.node.now c.args.name.now
    (is_differential c.args.mode) all held front c.loop-recorded.kept.items
    c.in-Some.recorded rest (state c.args.store.now) (state c.loop-recorded.store)
    (state c.check_record.new.store) (stood c.args.store.now)
    (stood c.loop-recorded.store) (stood c.check_record.new.store) c.args.trace.now
    c.loop-recorded.trace c.check_record.new.trace inv.so cut c.requires.rising
    (Err c.in-Err.fault) (rw inv.same.held at c.in-Err.ensures.checks)
    c.loop-recorded.kept.items tt in
    stopped c.args.layout.now c.args.node.now c.args.name.now (is_differential c.args.mode) all
    held (front ++ c.in-Some.recorded ∷ []) c.loop-recorded.kept.items rest (false ≡ true)
    (c.in-Err.fault ≡ Store) c.in-Err.fault _ (state c.args.store.now)
    (state c.check_record.new.store) (stood c.args.store.now) (stood c.check_record.new.store)
    c.args.trace.now c.check_record.new.trace
    (cut ∙ sym (append_assoc front (c.in-Some.recorded ∷ []) rest)) more (λ is. is)

pub returns-in-Err-push-clause-checks : goal.returns-in-Err-push-clause-checks
returns-in-Err-push-clause-checks g c =
    let state = g.S.Storage.state in
    let stood = g.S.Storage.stood in
    let inv = c.loop-recorded.invariant in
    let all = c.args.records.items in
    let front = c.loop-recorded.yielded in
    let rest = into_iter_items c.next.new.self in
    let held = (g.P.Snap.state c.args.snap.now).held in
    let cut : all ≡ front ++ c.in-Some.recorded ∷ rest =
    inv.left ∙ ap (λ l. front ++ l) c.in-Some.ensures.steps.0 in
    let kept = c.loop-recorded.kept.items ++ c.in-Ok.one ∷ [] in
    let more = one_more c.args.layout.now c.args.node.now c.args.name.now
    (is_differential c.args.mode) all held front c.loop-recorded.kept.items
    c.in-Some.recorded rest (state c.args.store.now) (state c.loop-recorded.store)
    (state c.check_record.new.store) (stood c.args.store.now)
    (stood c.loop-recorded.store) (stood c.check_record.new.store) c.args.trace.now
    c.loop-recorded.trace c.check_record.new.trace inv.so cut c.requires.rising
    (Ok c.in-Ok.one) (rw inv.same.held at c.in-Ok.ensures.checks) kept refl in
    stopped c.args.layout.now c.args.node.now c.args.name.now (is_differential c.args.mode) all
    held (front ++ c.in-Some.recorded ∷ []) kept rest (true ≡ true) ⊥ Memory _
    (state c.args.store.now) (state c.check_record.new.store) (stood c.args.store.now)
    (stood c.check_record.new.store) c.args.trace.now c.check_record.new.trace
    (cut ∙ sym (append_assoc front (c.in-Some.recorded ∷ []) rest)) more
    (λ never. absurd never)

pub returns-clause-checks : goal.returns-clause-checks
returns-clause-checks g c =
    let state = g.S.Storage.state in
    let stood = g.S.Storage.stood in
    let gives = c.into_iter-recorded-iterator.ensures.into_iter_gives in
    let ended = YieldsList-end
    (YieldsList-from_vec {s = c.into_iter-recorded-iterator.result} c.args.records.items gives.0
    (gives.1 ∙ c.args.records.ok.0)) c.loop-recorded.yielded c.loop-recorded.recorded-iterator
    c.loop-recorded.yielded_by c.next.result c.next.new.self c.in-None.is c.next.ensures.steps in
    all_looked c.args.layout.now c.args.node.now c.args.name.now (is_differential c.args.mode)
    c.args.records.items (g.P.Snap.state c.args.snap.now).held c.loop-recorded.yielded
    c.loop-recorded.kept.items c.loop-recorded.kept _ (state c.args.store.now)
    (state c.loop-recorded.store) (stood c.args.store.now) (stood c.loop-recorded.store)
    c.args.trace.now c.loop-recorded.trace
    (sym (map_itself c.loop-recorded.yielded) ∙ ended.0) refl c.loop-recorded.invariant.so
