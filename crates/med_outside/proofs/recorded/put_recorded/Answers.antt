use Rattle.std.proofs.Common.{rules, ◌≡◌, [], ◌∷◌, false, true, refl, ◌∙◌, arith, inl, inr, ap, length}
use Rattle.med_base.specs.Effects.{Stores}
use Rattle.med_outside.specs.declared.denied.Denied.TheVariants.{Failed}
use Rattle.med_outside.proofs.Making.{nothing_yet}
use Rattle.med_outside.proofs.Passing.{moves_at_rest}
use Rattle.med_outside.proofs.Recording.{put_made, put_failed}
use Rattle.med_outside.proofs.recorded.put_recorded.Goals as goal

-- src/recorded.rt:98:26
pub returns-in-Err-clause-makes : goal.returns-in-Err-clause-makes
returns-in-Err-clause-makes g c =
    let state = g.S.Storage.state c.args.store.now in
    let stood = g.S.Storage.stood c.args.store.now in (
      0,
      omega arith,
      tt,
      nothing_yet _ _ state state stood stood c.args.trace.now c.ready_put.new.trace
          (Stores c.args.path.now c.args.bytes.now 0 ∷ []) (λ e. absurd (cc e))
          c.ready_put.ensures.changes (c.ready_put.ensures.unsure ∙ c.requires.sure)
          (moves_at_rest state stood),
    )

-- src/recorded.rt:81:1
pub returns-in-Ok-put-clause-makes : goal.returns-in-Ok-put-clause-makes
returns-in-Ok-put-clause-makes g c = (
  c.in-Ok-put.second,
  c.told.ensures.fits,
  refl,
  put_made _ _ (g.S.Storage.state c.args.store.now)
      (g.S.Storage.state c.put.new.self) (g.S.Storage.stood c.args.store.now)
      (g.S.Storage.stood c.put.new.self) c.args.trace.now c.ready_put.new.trace
      c.record_put.new.trace c.ready_put.ensures.changes c.args.path.now c.args.bytes.now
      c.in-Ok.ready false c.in-Ok.ensures.ready c.requires.no_data c.in-Ok-put.second
      (rw c.told.ensures.value at c.record_put.ensures.changes)
      (rw c.told.ensures.value at c.record_put.ensures.unsure) c.in-Ok-put.ensures.answer,
)

-- src/recorded.rt:81:1
pub returns-in-Err-Failed-clause-makes : goal.returns-in-Err-Failed-clause-makes
returns-in-Err-Failed-clause-makes g c =
    let (at, fits, makes) = put_failed (false ≡ true) (Failed ≡ Failed) (g.S.Storage.state c.args.store.now)
    (g.S.Storage.state c.put.new.self) (g.S.Storage.stood c.args.store.now)
    (g.S.Storage.stood c.put.new.self) c.args.trace.now c.ready_put.new.trace
    c.record_put-in-Err-Failed.new.trace c.ready_put.ensures.changes c.args.path.now
    c.args.bytes.now c.in-Ok.ready false c.in-Ok.ensures.ready
    c.requires.no_data (λ e. absurd (cc e)) refl c.record_put-in-Err-Failed.ensures.changes
    c.record_put-in-Err-Failed.ensures.unsure
    (rw c.in-Err-Failed.field-0-is at c.in-Err-Failed.ensures.answer) in
    (at, fits, tt, makes)

-- src/recorded.rt:81:1
pub returns-in-Err-Memory-clause-makes : goal.returns-in-Err-Memory-clause-makes
returns-in-Err-Memory-clause-makes g c = (
  0,
  omega arith,
  tt,
  nothing_yet _ _ (g.S.Storage.state c.args.store.now)
      (g.S.Storage.state c.put.new.self) (g.S.Storage.stood c.args.store.now)
      (g.S.Storage.stood c.put.new.self) c.args.trace.now c.ready_put.new.trace
      (Stores c.args.path.now c.args.bytes.now 0 ∷ []) (λ e. absurd (cc e))
      c.ready_put.ensures.changes (c.ready_put.ensures.unsure ∙ c.requires.sure)
      (rw c.in-Err-Memory.field-0-is at c.in-Err-Memory.ensures.answer).moves,
)

-- src/recorded.rt:81:1
pub returns-in-Err-clause-err : goal.returns-in-Err-clause-err
returns-in-Err-clause-err g c = inr (omega (arith, ap length c.ready_put.ensures.changes))

-- src/recorded.rt:81:1
pub returns-in-Err-Failed-clause-err : goal.returns-in-Err-Failed-clause-err
returns-in-Err-Failed-clause-err g c = inl c.record_put-in-Err-Failed.ensures.unsure

-- src/recorded.rt:81:1
pub returns-in-Err-Memory-clause-err : goal.returns-in-Err-Memory-clause-err
returns-in-Err-Memory-clause-err g c = inr (omega (arith, ap length c.ready_put.ensures.changes))
