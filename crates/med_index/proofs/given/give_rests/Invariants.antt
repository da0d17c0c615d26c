use Rattle.std.proofs.Common.{◌≤◌}
use Rattle.med_outside.specs.State.{IsReady, OnlyReads}
use Rattle.med_index.specs.Given.{AreOfNode, AreRestsTold}
use Rattle.med_index.proofs.given.give_rests.Given as goal

-- of the backups so far the entries are given
abbrev pub invariant-loop-name : goal.invariant-loop-name
invariant-loop-name g l = record {
  within : AreOfNode l.layout l.node l.fn.given → AreOfNode l.layout l.node l.given;
  told : AreRestsTold (g.S.Storage.state l.fn.store).content l.layout l.node l.fn.found l.sizes
      l.yielded l.fn.given l.given;
  ready : IsReady l.layout (g.S.Storage.state l.store);
  looks : OnlyReads (g.S.Storage.state l.fn.store) (g.S.Storage.state l.store)
      (g.S.Storage.stood l.fn.store) (g.S.Storage.stood l.store);
  later : (g.S.Storage.state l.fn.store).faults ≤ (g.S.Storage.state l.store).faults;
}
