use Rattle.std.proofs.Common.{refl}
use Rattle.med_outside.proofs.Making.{nothing_yet}
use Rattle.med_outside.proofs.Passing.{moves_at_rest}
use Rattle.med_index.proofs.entries.put_mark.Goals as goal

pub returns-in-Full-clause-makes : goal.returns-in-Full-clause-makes
returns-in-Full-clause-makes g c =
    let state = g.S.Storage.state c.args.store.now in
    let stood = g.S.Storage.stood c.args.store.now in (
      0,
      nothing_yet _ _ state state stood stood c.args.trace.now c.args.trace.now _
          (λ e. rw c.in-Full.is refl) refl c.requires.sure (moves_at_rest state stood),
    )

pub returns-in-Err-clause-err : goal.returns-in-Err-clause-err
returns-in-Err-clause-err g c = rw c.in-Differential.is c.in-Err.ensures.err
