use Rattle.std.proofs.Common.{rules, ◌≡◌, ◌∙◌, true, false, Ok, Err, refl, ap, arith}
use Rattle.med_base.specs.Classify.{is_data}
use Rattle.med_outside.specs.declared.denied.Denied.TheVariants.{Failed}
use Rattle.med_outside.proofs.Committing.{answered, commit_made, commit_failed, commit_kept}
use Rattle.med_outside.proofs.recorded.commit_recorded.Goals as goal

pub returns-in-Err-clause-makes : goal.returns-in-Err-clause-makes
returns-in-Err-clause-makes g c = λ bytes up. (
  0,
  omega arith,
  tt,
  commit_kept (g.S.Storage.state c.args.store.now) (g.S.Storage.state c.ready_commit.new.store)
      (g.S.Storage.state c.drop_upload.new.self) (g.S.Storage.stood c.args.store.now)
      (g.S.Storage.stood c.ready_commit.new.store) (g.S.Storage.stood c.drop_upload.new.self)
      c.ready_commit.ensures.same c.ready_commit.ensures.looks c.args.path.now bytes up _ _
      c.args.trace.now c.ready_commit.new.trace c.ready_commit.new.trace
      c.ready_commit.ensures.changes (c.ready_commit.ensures.unsure ∙ c.requires.sure)
      (λ e. absurd (cc e)) refl refl c.drop_upload.ensures.looks.moves,
)

pub returns-in-Ok-commit-clause-makes : goal.returns-in-Ok-commit-clause-makes
returns-in-Ok-commit-clause-makes g c = λ bytes up. (
  c.in-Ok-commit.second,
  c.told.ensures.fits,
  refl,
  commit_made (g.S.Storage.state c.args.store.now) (g.S.Storage.state c.ready_commit.new.store)
      (g.S.Storage.state c.commit.new.self) (g.S.Storage.stood c.args.store.now)
      (g.S.Storage.stood c.ready_commit.new.store) (g.S.Storage.stood c.commit.new.self)
      c.ready_commit.ensures.same c.ready_commit.ensures.looks c.args.path.now bytes up _ _
      c.args.trace.now c.ready_commit.new.trace c.record_put.new.trace
      c.ready_commit.ensures.changes (c.ready_commit.ensures.unsure ∙ c.requires.sure)
      c.in-Ok.ready (c.in-Ok.ensures.ready bytes up)
      (ap (λ s. is_data s.terms.bucket.layout c.args.path.now) c.ready_commit.ensures.same
      ∙ c.requires.data) c.in-Ok-commit.second
      (rw c.told.ensures.value at c.record_put.ensures.changes)
      (rw c.told.ensures.value at c.record_put.ensures.unsure)
      (answered (g.S.Storage.state c.args.store.now) (g.S.Storage.state c.ready_commit.new.store)
      (g.S.Storage.state c.commit.new.self) (g.S.Storage.stood c.args.store.now)
      (g.S.Storage.stood c.ready_commit.new.store) (g.S.Storage.stood c.commit.new.self)
      c.ready_commit.ensures.same c.ready_commit.ensures.looks c.args.path.now bytes up
      (Ok c.in-Ok-commit.second) c.in-Ok-commit.ensures.answer),
)

pub returns-in-Err-Failed-clause-makes : goal.returns-in-Err-Failed-clause-makes
returns-in-Err-Failed-clause-makes g c = λ bytes up.
    let (at, fits, makes) = commit_failed (g.S.Storage.state c.args.store.now)
    (g.S.Storage.state c.ready_commit.new.store) (g.S.Storage.state c.commit.new.self)
    (g.S.Storage.stood c.args.store.now) (g.S.Storage.stood c.ready_commit.new.store)
    (g.S.Storage.stood c.commit.new.self) c.ready_commit.ensures.same
    c.ready_commit.ensures.looks c.args.path.now bytes up (false ≡ true)
    (Failed ≡ Failed) c.args.trace.now
    c.ready_commit.new.trace c.record_put-in-Err-Failed.new.trace c.ready_commit.ensures.changes
    (c.ready_commit.ensures.unsure ∙ c.requires.sure) c.in-Ok.ready
    (c.in-Ok.ensures.ready bytes up)
    (ap (λ s. is_data s.terms.bucket.layout c.args.path.now) c.ready_commit.ensures.same
    ∙ c.requires.data) (λ e. absurd (cc e)) refl c.record_put-in-Err-Failed.ensures.changes
    c.record_put-in-Err-Failed.ensures.unsure
    (rw c.in-Err-Failed.field-0-is at (answered (g.S.Storage.state c.args.store.now)
    (g.S.Storage.state c.ready_commit.new.store) (g.S.Storage.state c.commit.new.self)
    (g.S.Storage.stood c.args.store.now) (g.S.Storage.stood c.ready_commit.new.store)
    (g.S.Storage.stood c.commit.new.self) c.ready_commit.ensures.same
    c.ready_commit.ensures.looks c.args.path.now bytes up (Err c.in-Err-Failed.field-0)
    c.in-Err-Failed.ensures.answer)) in
    (at, fits, tt, makes)

pub returns-in-Err-Memory-clause-makes : goal.returns-in-Err-Memory-clause-makes
returns-in-Err-Memory-clause-makes g c = λ bytes up. (
  0,
  omega arith,
  tt,
  commit_kept (g.S.Storage.state c.args.store.now) (g.S.Storage.state c.ready_commit.new.store)
      (g.S.Storage.state c.commit.new.self) (g.S.Storage.stood c.args.store.now)
      (g.S.Storage.stood c.ready_commit.new.store) (g.S.Storage.stood c.commit.new.self)
      c.ready_commit.ensures.same c.ready_commit.ensures.looks c.args.path.now bytes up _ _
      c.args.trace.now c.ready_commit.new.trace c.ready_commit.new.trace
      c.ready_commit.ensures.changes (c.ready_commit.ensures.unsure ∙ c.requires.sure)
      (λ e. absurd (cc e)) refl refl
      (rw c.in-Err-Memory.field-0-is at (answered (g.S.Storage.state c.args.store.now)
      (g.S.Storage.state c.ready_commit.new.store) (g.S.Storage.state c.commit.new.self)
      (g.S.Storage.stood c.args.store.now) (g.S.Storage.stood c.ready_commit.new.store)
      (g.S.Storage.stood c.commit.new.self) c.ready_commit.ensures.same
      c.ready_commit.ensures.looks c.args.path.now bytes up (Err c.in-Err-Memory.field-0)
      c.in-Err-Memory.ensures.answer)).moves,
)
