use Rattle.std.proofs.Common.{◌+◌, arith}
use Rattle.med_base.specs.Effects.{Stores}
use Rattle.med_mem.proofs.Notes.{tells_stored, room_falls}
use Rattle.med_mem.proofs.Moments.{gains}
use Rattle.med_mem.proofs.store.MemStore.add.Goals as goal

pub invariant_of-self-2 : goal.invariant_of-self-2
invariant_of-self-2 c =
    let room = c.in_ok-reserve.ensures in
    let done = rw (c.as_slice.ensures.value, room.items) at c.in_ok-put_object.ensures in (
      tells_stored _ _ _ _ _ _ _ _ _ (omega arith) done.noted done.stored c.self.invariant.0,
      room_falls c.reserve.new.self c.put_object.new.changes (c.self.inside.room + 1) _
          c.in_ok-put_object.ensures.capacity (omega (arith, room.ok)) _
          c.in_ok-put_object.ensures.noted (omega arith),
    )

pub returns-clause-content : goal.returns-clause-content
returns-clause-content c =
    let room = c.in_ok-reserve.ensures in
    let done = rw (c.as_slice.ensures.value, room.items) at c.in_ok-put_object.ensures in
    rw (← c.self.view_is)
    (gains _ _ _ (Stores c.args.path c.args.bytes.items c.args.second)
    c.self.invariant.0.made_by done.noted)
