use Rattle.std.proofs.Common.{[], ◌∷◌, refl}
use Rattle.med_base.specs.Effects.{Removes}
use Rattle.med_outside.proofs.Making.{nothing_yet}
use Rattle.med_outside.proofs.Recording.{delete_failed, delete_made}
use Rattle.med_removal.proofs.removing.delete_path.Goals as goal

pub returns-in-Ok-clause-makes : goal.returns-in-Ok-clause-makes
returns-in-Ok-clause-makes g c =
    delete_made _ _ (g.S.Storage.state c.args.store.now) (g.S.Storage.state c.delete.new.self)
    (g.S.Storage.stood c.args.store.now) (g.S.Storage.stood c.delete.new.self) c.args.trace.now
    c.args.trace.now c.record.new.trace refl c.args.path c.args.path refl
    c.record.ensures.changes c.record.ensures.unsure c.in-Ok.ensures.answer

pub returns-in-Err-Failed-clause-makes : goal.returns-in-Err-Failed-clause-makes
returns-in-Err-Failed-clause-makes g c =
    delete_failed _ _ (g.S.Storage.state c.args.store.now) (g.S.Storage.state c.delete.new.self)
    (g.S.Storage.stood c.args.store.now) (g.S.Storage.stood c.delete.new.self) c.args.trace.now
    c.args.trace.now c.record-in-Err-Failed.new.trace refl c.args.path c.args.path refl
    (λ e. absurd (cc e)) refl c.record-in-Err-Failed.ensures.changes
    c.record-in-Err-Failed.ensures.unsure
    (rw c.in-Err-Failed.field-0-is at c.in-Err-Failed.ensures.answer)

pub returns-in-Err-Memory-clause-makes : goal.returns-in-Err-Memory-clause-makes
returns-in-Err-Memory-clause-makes g c =
    nothing_yet _ _ (g.S.Storage.state c.args.store.now) (g.S.Storage.state c.delete.new.self)
    (g.S.Storage.stood c.args.store.now) (g.S.Storage.stood c.delete.new.self) c.args.trace.now
    c.args.trace.now (Removes c.args.path ∷ []) (λ e. absurd (cc e)) refl c.requires.sure
    (rw c.in-Err-Memory.field-0-is at c.in-Err-Memory.ensures.answer).0.moves
