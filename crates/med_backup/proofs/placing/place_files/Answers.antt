use Rattle.std.proofs.Common.{◌∙◌, ◌++◌, [], ◌∷◌, append_assoc, refl, sym, ap, arith}
use Rattle.std.specs.Vec.Iter.{into_iter_items}
use Rattle.med_backup.proofs.PlaceSteps.{may_place, none_placed, place_cut, place_on}
use Rattle.med_backup.proofs.placing.place_files.Goals as goal

pub loop-key-init : goal.loop-key-init
loop-key-init g c = record {
  left = sym c.into_iter-key-iterator.ensures.into_iter_gives.0;
  so = none_placed c.args.shelf.now c.args.claim.now (g.P.Snap.state c.args.snap.now).held
      (g.S.Storage.state c.args.store.now) (g.S.Storage.stood c.args.store.now) c.args.trace.now
      c.requires.may.sure c.requires.of c.requires.records;
  same = record { held = refl; of = refl };
  snap_later = omega arith;
  store_later = omega arith;
}

pub place-requires-clause-key : goal.place-requires-clause-key
place-requires-clause-key g c =
    let inv = c.loop-key.invariant in
    rw inv.same.held
    (may_place c.args.shelf.now c.args.claim.now (g.P.Snap.state c.args.snap.now).held
    c.loop-key.shelf c.loop-key.claim c.loop-key.yielded _ _ _ _ _ _ inv.so c.args.keys.items
    c.in-Some.key (into_iter_items c.next.new.self)
    (inv.left ∙ ap (λ l. c.loop-key.yielded ++ l) c.in-Some.ensures.steps.0) c.requires.rising
    c.requires.has)

pub returns-in-Err-clause-some : goal.returns-in-Err-clause-some
returns-in-Err-clause-some g c =
    let inv = c.loop-key.invariant in
    place_cut c.args.shelf.now c.args.claim.now (g.P.Snap.state c.args.snap.now).held
    c.loop-key.shelf c.loop-key.claim c.loop-key.yielded _ _ _ _ _ _ inv.so c.place.new.self
    c.place.new.claim c.in-Some.key _ _ c.place.new.trace c.in-Err.fault c.args.keys.items
    (into_iter_items c.next.new.self)
    (inv.left ∙ ap (λ l. c.loop-key.yielded ++ l) c.in-Some.ensures.steps.0)
    (rw inv.same.held at c.in-Err.ensures.places)

pub loop-key-preserved : goal.loop-key-preserved
loop-key-preserved g c =
    let inv = c.loop-key.invariant in
    let rest = into_iter_items c.next.new.self in
    record {
      left = inv.left ∙ ap (λ l. c.loop-key.yielded ++ l) c.in-Some.ensures.steps.0
          ∙ sym (append_assoc c.loop-key.yielded (c.in-Some.key ∷ []) rest);
      so = place_on c.args.shelf.now c.args.claim.now (g.P.Snap.state c.args.snap.now).held
          c.loop-key.shelf c.loop-key.claim c.loop-key.yielded _ _ _ _ _ _ inv.so
          c.place.new.self c.place.new.claim c.in-Some.key _ _ c.place.new.trace _ c.args.keys.items
          rest (inv.left ∙ ap (λ l. c.loop-key.yielded ++ l) c.in-Some.ensures.steps.0)
          c.requires.rising (rw inv.same.held at c.in-Ok.ensures.places);
      same = record {
        held = c.place.ensures.asks.same.held ∙ inv.same.held;
        of = c.place.ensures.asks.same.of ∙ inv.same.of;
      };
      snap_later = omega (arith, inv.snap_later, c.place.ensures.asks.snap_later);
      store_later = omega (arith, inv.store_later, c.place.ensures.asks.store_later);
    }
