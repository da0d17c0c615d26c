use Rattle.std.proofs.Common.{IsErrOf, ◌∙◌, ◌++◌, ◌≤◌, [], ◌∷◌, length, append_assoc, refl, sym, ap, subst, arith}
use Rattle.std.specs.Vec.Iter.{into_iter_items}
use Rattle.med_outside.specs.declared.denied.Denied.TheVariants.{Memory}
use Rattle.med_outside.specs.Makes.{spare}
use Rattle.med_outside.proofs.Making.{nothing_yet}
use Rattle.med_outside.proofs.Passing.{moves_at_rest}
use Rattle.med_removal.proofs.Deletes.{no_room, removed_cut, removed_more, room_falls}
use Rattle.med_removal.proofs.removing.remove_paths.Goals as goal

pub loop-path-init : goal.loop-path-init
loop-path-init g c =
    let state = g.S.Storage.state c.args.store.now in
    let stood = g.S.Storage.stood c.args.store.now in
    let all = c.into_iter-path-iterator.ensures.into_iter_gives.0 in
    record {
      left = sym all;
      made = nothing_yet (Unit {0}) ⊥ state state stood stood c.args.trace.now c.args.trace.now []
          (λ e. refl) refl c.requires.sure (moves_at_rest state stood);
      ready = c.requires.ready;
      sure = c.requires.sure;
      room = subst (λ l. length l ≤ spare c.args.trace.now) (sym all) c.requires.spare;
      told = λ size is fits. (size, is, subst (λ l. length l ≤ size) (sym all) fits);
      later = omega arith;
    }

pub loop-path-preserved : goal.loop-path-preserved
loop-path-preserved g c =
    let inv = c.loop-path.invariant in
    let done = c.in-Ok.ensures in
    let rest = into_iter_items c.next.new.self in
    let step = c.in-Some.ensures.steps.0 in
    let room = inv.room in
    let size = ap length step in
    let falls = done.spare in
    let state = g.S.Storage.state in
    let here = c.loop-path.store in
    let next = c.delete_path.new.store in
    let past = inv.later in
    let more = done.cause.later in
    record {
      left = inv.left ∙ ap (λ l. c.loop-path.yielded ++ l) step
          ∙ sym (append_assoc c.loop-path.yielded (c.in-Some.path ∷ []) rest);
      made = removed_more _ _ c.loop-path.yielded c.in-Some.path _ _ _ _ _ _ _ _ _ inv.made done.makes
          refl (λ f. f);
      ready = done.ready;
      sure = done.sure;
      room = omega (arith, room, size, falls);
      told = λ size is fits.
          room_falls (state here).room (state next).room (into_iter_items c.loop-path.path-iterator)
          c.in-Some.path rest step done.falls (inv.told size is fits);
      later = omega (arith, past, more);
    }

pub returns-in-Err-clause-makes : goal.returns-in-Err-clause-makes
returns-in-Err-clause-makes g c =
    let inv = c.loop-path.invariant in
    let rest = into_iter_items c.next.new.self in
    removed_cut _ _ c.loop-path.yielded c.in-Some.path _ _ _ _ _ _ _ _ _ inv.made
    c.in-Err.ensures.makes _ _ c.args.paths.items rest
    (inv.left ∙ ap (λ l. c.loop-path.yielded ++ l) c.in-Some.ensures.steps.0)
    (λ fine. absurd (cc fine)) (λ fault. fault)

pub returns-in-Err-clause-room : goal.returns-in-Err-clause-room
returns-in-Err-clause-room g c = λ size is fits memory.
    no_room (g.S.Storage.state c.loop-path.store).room (into_iter_items c.loop-path.path-iterator)
    c.in-Some.path (into_iter_items c.next.new.self) c.in-Some.ensures.steps.0
    (c.delete_path.ensures.room (subst (λ r. IsErrOf r Memory) (sym c.in-Err.is) memory))
    (c.loop-path.invariant.told size is fits)
