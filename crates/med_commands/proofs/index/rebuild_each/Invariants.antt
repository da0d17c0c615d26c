use Rattle.std.proofs.Common.{◌≡◌, ◌≤◌, false, take, string_bytes}
use Rattle.med_outside.specs.State.{IsReady}
use Rattle.med_commands.specs.Indexed.{HasRebuilt}
use Rattle.med_commands.proofs.index.rebuild_each.Given as goal

-- the nodes before this one were rebuilt
abbrev pub invariant-loop-node : goal.invariant-loop-node
invariant-loop-node g l = record {
  work : HasRebuilt l.layout (g.S.Storage.state l.fn.store) (g.S.Storage.state l.store)
      (g.S.Storage.stood l.fn.store) (g.S.Storage.stood l.store) (take l.node-index l.nodes)
      (string_bytes l.lines);
  ready : IsReady l.layout (g.S.Storage.state l.store);
  sure : l.trace.unsure ≡ false;
  later : (g.S.Storage.state l.fn.store).faults ≤ (g.S.Storage.state l.store).faults;
}
