use Rattle.std.proofs.Common.{◌≤◌}
use Rattle.med_outside.specs.State.{IsReady, OnlyReads}
use Rattle.med_removal.specs.Named.{AreNamesNoted}
use Rattle.med_removal.proofs.named.note_manifests.Given as goal

-- the manifests so far were read
abbrev pub invariant-loop-path : goal.invariant-loop-path
invariant-loop-path g l = record {
  told : AreNamesNoted (g.S.Storage.state l.fn.store).content l.layout l.node l.yielded l.fn.named
      l.named;
  ready : IsReady l.layout (g.S.Storage.state l.store);
  looks : OnlyReads (g.S.Storage.state l.fn.store) (g.S.Storage.state l.store)
      (g.S.Storage.stood l.fn.store) (g.S.Storage.stood l.store);
  later : (g.S.Storage.state l.fn.store).faults ≤ (g.S.Storage.state l.store).faults;
}
