use Rattle.std.proofs.Common.{Ok, refl, ap, arith}
use Rattle.med_base.specs.Effects.{Stores}
use Rattle.med_mem.proofs.Notes.{tells_later, tells_same, tells_stored, room_stays, room_falls}
use Rattle.med_mem.proofs.Moments.{only_reads, only_reads_again, makes_one}
use Rattle.med_mem.proofs.CallLemmas.{leaves_done, leaves_at_once, leaves_memory}
use Rattle.med_mem.proofs.store.MemStoreStorage.put.Goals as goal

pub invariant_of-self : goal.invariant_of-self
invariant_of-self c =
    let (told, room) = c.self.invariant in
    (tells_later _ _ _ _ c.begin_put.ensures.bound told, room)

pub returns-in_err-fails-clause-err : goal.returns-in_err-fails-clause-err
returns-in_err-fails-clause-err c =
    let set = rw (c.as_str.ensures) at c.in_err-fails.ensures.failed in
    rw (← c.self.view_is)
    (leaves_at_once _ _ _ _ set
    (only_reads _ _ _ _ _ _ _ _ c.self.invariant.0.made_by c.begin_put.ensures.bound))

pub invariant_of-self-in_err-put_object : goal.invariant_of-self-in_err-put_object
invariant_of-self-in_err-put_object c =
    let same = c.in_err-put_object.ensures in
    let (told, room) = c.self.invariant in (
      tells_same _ _ _ _ _ _ c.begin_put.ensures.bound same.same_notes same.same_objects told,
      room_stays c.self.inside.changes c.put_object.new.changes _ 0 same.capacity room
          same.same_notes,
    )

pub returns-in_err-put_object-clause-err : goal.returns-in_err-put_object-clause-err
returns-in_err-put_object-clause-err c =
    rw (← c.self.view_is)
    (leaves_memory _ _ _ _ c.from_residual-in_err-put_object.ensures
    (only_reads_again _ _ _ _ _ _ _ _ _ c.self.invariant.0.made_by
    c.in_err-put_object.ensures.same_notes c.begin_put.ensures.bound))

pub invariant_of-self-then-fails : goal.invariant_of-self-then-fails
invariant_of-self-then-fails c =
    let done = c.in_ok-put_object.ensures in
    let (told, room) = c.self.invariant in (
      tells_stored _ _ _ _ _ _ _ _ _ c.begin_put.ensures.bound done.noted done.stored told,
      room_falls c.self.inside.changes c.put_object.new.changes _ _ done.capacity room _
          done.noted c.saturating_sub-self-inside.ensures,
    )

pub invariant_of-self-else-fails : goal.invariant_of-self-else-fails
invariant_of-self-else-fails c =
    let done = c.in_ok-put_object.ensures in
    let (told, room) = c.self.invariant in (
      tells_stored _ _ _ _ _ _ _ _ _ c.begin_put.ensures.bound done.noted done.stored told,
      room_falls c.self.inside.changes c.put_object.new.changes _ _ done.capacity room _
          done.noted c.saturating_sub-self-inside.ensures,
    )

pub returns-then-fails-clause-err : goal.returns-then-fails-clause-err
returns-then-fails-clause-err c =
    let a = c.args in
    let s = c.self.inside in
    let left = c.saturating_sub-self-inside.ensures in
    let moved = c.saturating_add-self-inside.ensures in
    let set = rw (c.as_str.ensures) at c.in_ok-fails.ensures.lands (ap Ok c.if-fails.true) in
    rw (← c.self.view_is)
    (leaves_done _ _ _ set (
      omega (arith, c.self.ranges.1),
      makes_one _ _ _ _ _ _ _ _ _ _ _ (Stores a.path.now a.bytes.now s.clock)
          c.self.invariant.0.made_by c.in_ok-put_object.ensures.noted c.in_ok-fails.ensures.ok
          (refl, (_, λ _. omega (arith, moved, c.self.ranges.1), refl)) (omega (arith, left))
          (omega (arith, left)),
    ))

pub returns-clause-ok : goal.returns-clause-ok
returns-clause-ok c =
    let a = c.args in
    let s = c.self.inside in
    let left = c.saturating_sub-self-inside.ensures in
    let moved = c.saturating_add-self-inside.ensures in
    rw (← c.self.view_is)
    (makes_one _ _ _ _ _ _ _ _ _ _ _ (Stores a.path.now a.bytes.now s.clock)
    c.self.invariant.0.made_by c.in_ok-put_object.ensures.noted c.in_ok-fails.ensures.ok
    (refl, (_, λ _. omega (arith, moved, c.self.ranges.1), refl)) (omega (arith, left))
    (omega (arith, left)))
