use Rattle.std.proofs.Common.{rules, ◌≡◌, [], ◌∷◌, Err, refl, ap, ◌∙◌}
use Rattle.med_base.specs.Effects.{Removes}
use Rattle.med_outside.proofs.Making.{nothing_yet}
use Rattle.med_outside.proofs.Passing.{moves_at_rest}
use Rattle.med_outside.proofs.Recording.{delete_made, delete_failed}
use Rattle.med_outside.proofs.recorded.delete_recorded.Goals as goal

-- src/recorded.rt:141:26
pub returns-in-Err-clause-makes : goal.returns-in-Err-clause-makes
returns-in-Err-clause-makes g c =
    let state = g.S.Storage.state c.args.store.now in
    let stood = g.S.Storage.stood c.args.store.now in
    nothing_yet _ _ state state stood stood c.args.trace.now c.ready_delete.new.trace
    (Removes c.args.path.now ∷ []) (λ e. absurd (cc e)) c.ready_delete.ensures.changes
    (c.ready_delete.ensures.unsure ∙ c.requires.sure) (moves_at_rest state stood)

-- src/recorded.rt:124:1
pub returns-in-Ok-delete-clause-makes : goal.returns-in-Ok-delete-clause-makes
returns-in-Ok-delete-clause-makes g c =
    delete_made _ _ (g.S.Storage.state c.args.store.now) (g.S.Storage.state c.delete.new.self)
    (g.S.Storage.stood c.args.store.now) (g.S.Storage.stood c.delete.new.self)
    c.args.trace.now c.ready_delete.new.trace c.record_delete.new.trace
    c.ready_delete.ensures.changes c.args.path.now c.in-Ok.copy c.in-Ok.ensures.ready
    c.record_delete.ensures.changes c.record_delete.ensures.unsure c.in-Ok-delete.ensures.answer

-- src/recorded.rt:124:1
pub returns-in-Err-Failed-clause-makes : goal.returns-in-Err-Failed-clause-makes
returns-in-Err-Failed-clause-makes g c =
    delete_failed _ _ (g.S.Storage.state c.args.store.now) (g.S.Storage.state c.delete.new.self)
    (g.S.Storage.stood c.args.store.now) (g.S.Storage.stood c.delete.new.self)
    c.args.trace.now c.ready_delete.new.trace c.record_delete-in-Err-Failed.new.trace
    c.ready_delete.ensures.changes c.args.path.now c.in-Ok.copy c.in-Ok.ensures.ready
    (λ e. absurd (cc e)) refl c.record_delete-in-Err-Failed.ensures.changes
    c.record_delete-in-Err-Failed.ensures.unsure
    (rw c.in-Err-Failed.field-0-is at c.in-Err-Failed.ensures.answer)

-- src/recorded.rt:124:1
pub returns-in-Err-Memory-clause-makes : goal.returns-in-Err-Memory-clause-makes
returns-in-Err-Memory-clause-makes g c =
    nothing_yet _ _ (g.S.Storage.state c.args.store.now) (g.S.Storage.state c.delete.new.self)
    (g.S.Storage.stood c.args.store.now) (g.S.Storage.stood c.delete.new.self)
    c.args.trace.now c.ready_delete.new.trace (Removes c.args.path.now ∷ [])
    (λ e. absurd (cc e)) c.ready_delete.ensures.changes
    (c.ready_delete.ensures.unsure ∙ c.requires.sure)
    (rw c.in-Err-Memory.field-0-is at c.in-Err-Memory.ensures.answer).0.moves
