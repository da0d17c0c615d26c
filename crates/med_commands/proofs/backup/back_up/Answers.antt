use Rattle.std.proofs.Common.{◌≡◌, Err, inl, inr, refl, ap}
use Rattle.std.proofs.lemmas.Result.{err_from_is_err_and}
use Rattle.med_outside.specs.Sent.{device_of}
use Rattle.med_outside.specs.World.{world, rose_of}
use Rattle.med_outside.specs.declared.copy_fault.CopyFault.{CopyFault}
use Rattle.med_outside.proofs.Passing.{moves_at_rest}
use Rattle.med_plan.specs.Ends.{seen}
use Rattle.med_words.specs.Views.{asked_of}
use Rattle.med_commands.specs.NodeConfig.{node_config_of}
use Rattle.med_backup.specs.declared.backup.BackupError.TheVariants.{Fault}
use Rattle.med_commands.specs.Fault.{stop_of, stop_of_load, fault_for}
use Rattle.med_commands.specs.Report.{report_line}
use Rattle.med_commands.proofs.BackupEnds.{made_ends, unmade}
use Rattle.med_commands.proofs.BackupSteps.{asked_plan, load_stop, printed, up_node}
use Rattle.med_commands.proofs.backup.back_up.Goals as goal

pub returns-in_err-config-clause-ends : goal.returns-in_err-config-clause-ends
returns-in_err-config-clause-ends g c =
    let a = (world (g.F.Files.state c.args.files.now) (g.N.Nodes.state c.args.nodes.now)
    (g.S.Storage.state c.args.store.now) (g.S.Storage.stood c.args.store.now)
    (g.O.Sink.state c.args.out.now)) in
    let b = (world (g.F.Files.state c.load.new.files) (g.N.Nodes.state c.args.nodes.now)
    (g.S.Storage.state c.args.store.now) (g.S.Storage.stood c.args.store.now)
    (g.O.Sink.state c.args.out.now)) in
    let p = err_from_is_err_and c.from_residual.result c.from_residual.ensures.1 in
    rw (p.1, p.2)
    (asked_plan (asked_of c.args.request.now) c.args.name.now c.args.mode a b
    (Err (stop_of_load c.in_err-config.field-0.0)) c.requires.asks
    (inl (
      load_stop a.files.contents (asked_of c.args.request.now) (rose_of a b) a.files.faults
          b.files.faults (λ h. h) tt c.in_err-config.field-0.0 c.in_err-config.ensures.err,
      (refl, moves_at_rest a.store a.stood, refl, refl),
    )))

pub returns-in-Err-back_up_node-clause-ends : goal.returns-in-Err-back_up_node-clause-ends
returns-in-Err-back_up_node-clause-ends g c =
    let a = (world (g.F.Files.state c.args.files.now) (g.N.Nodes.state c.args.nodes.now)
    (g.S.Storage.state c.args.store.now) (g.S.Storage.stood c.args.store.now)
    (g.O.Sink.state c.args.out.now)) in
    let b = (world (g.F.Files.state c.load.new.files) (g.N.Nodes.state c.back_up_node.new.nodes)
    (g.S.Storage.state c.back_up_node.new.store) (g.S.Storage.stood c.back_up_node.new.store)
    (g.O.Sink.state c.args.out.now)) in
    let node_config = node_config_of c.in_ok-config.config in
    let e = c.in-Err-back_up_node.error in
    rw (c.fault_of.ensures, c.in-Ok.ensures)
    (asked_plan (asked_of c.args.request.now) c.args.name.now c.args.mode a b
    (Err (stop_of (fault_for c.args.name.now e))) c.requires.asks
    (inr (
      node_config,
      (c.in_ok-config.config, c.in_ok-config.ensures.ok, refl),
      unmade node_config c.args.name.now c.args.mode a b refl e
          (λ (why : CopyFault) (is : e ≡ Fault why). up_node a b (device_of why)
          (c.in-Err-back_up_node.ensures.asks.cause why (ap (λ x. Err x) is)))
          c.in-Err-back_up_node.ensures.works,
    )))

pub returns-in-Ok-back_up_node-clause-ends : goal.returns-in-Ok-back_up_node-clause-ends
returns-in-Ok-back_up_node-clause-ends g c =
    let a = (world (g.F.Files.state c.args.files.now) (g.N.Nodes.state c.args.nodes.now)
    (g.S.Storage.state c.args.store.now) (g.S.Storage.stood c.args.store.now)
    (g.O.Sink.state c.args.out.now)) in
    let b = (world (g.F.Files.state c.load.new.files) (g.N.Nodes.state c.back_up_node.new.nodes)
    (g.S.Storage.state c.back_up_node.new.store) (g.S.Storage.stood c.back_up_node.new.store)
    (g.O.Sink.state c.print_line.new.out)) in
    let node_config = node_config_of c.in_ok-config.config in
    let report = c.in-Ok-back_up_node.report in
    let end = seen (λ (x : Unit {0}). x) stop_of c.print_line.result in
    asked_plan (asked_of c.args.request.now) c.args.name.now c.args.mode a b end c.requires.asks
    (inr (
      node_config,
      (c.in_ok-config.config, c.in_ok-config.ensures.ok, refl),
      made_ends node_config c.args.name.now c.args.mode a b report end
          c.in-Ok-back_up_node.ensures.works
          (λ (done : Type 0) (is : done). printed a b (report_line report) done
          c.print_line.result c.print_line.ensures.step is c.print_line.ensures.ok
          c.print_line.ensures.err),
    ))
