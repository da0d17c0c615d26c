use Rattle.std.proofs.Common.{Err, inl, inr, refl, string_bytes}
use Rattle.std.proofs.lemmas.Result.{err_from_is_err_and}
use Rattle.med_outside.specs.Device.{Memory, Storage}
use Rattle.med_plan.specs.Ends.{seen}
use Rattle.med_outside.specs.State.{OnlyReads}
use Rattle.med_outside.specs.World.{world, rose_of}
use Rattle.med_outside.proofs.Passing.{moves_at_rest}
use Rattle.med_words.specs.Views.{asked_of}
use Rattle.med_commands.specs.NodeConfig.{node_config_of, opened_at}
use Rattle.med_commands.specs.Fault.{stop_of, stop_of_load}
use Rattle.med_commands.proofs.BackupSteps.{load_stop}
use Rattle.med_commands.proofs.IndexEnds.{asked_index, open_goes_on, open_stops, work_ends, work_stops}
use Rattle.med_commands.proofs.index.build_index.Goals as goal

pub returns-in_err-config-clause-ends : goal.returns-in_err-config-clause-ends
returns-in_err-config-clause-ends g c =
    λ nodes.
    let a = (world (g.F.Files.state c.args.files.now) nodes (g.S.Storage.state c.args.store.now)
    (g.S.Storage.stood c.args.store.now) (g.O.Sink.state c.args.out.now)) in
    let b = (world (g.F.Files.state c.load.new.files) nodes (g.S.Storage.state c.args.store.now)
    (g.S.Storage.stood c.args.store.now) (g.O.Sink.state c.args.out.now)) in
    let p = err_from_is_err_and c.from_residual.result c.from_residual.ensures.1 in
    rw (p.1, p.2)
    (asked_index (asked_of c.args.request.now) a b
    (Err (stop_of_load c.in_err-config.field-0.0)) c.requires.asks
    (inl (
      load_stop a.files.contents (asked_of c.args.request.now) (rose_of a b) a.files.faults
          b.files.faults (λ h. h) tt c.in_err-config.field-0.0 c.in_err-config.ensures.err,
      (refl, moves_at_rest a.store a.stood, refl, refl),
    )))

pub returns-in-Err-Failed-clause-ends : goal.returns-in-Err-Failed-clause-ends
returns-in-Err-Failed-clause-ends g c =
    λ nodes.
    let a = (world (g.F.Files.state c.args.files.now) nodes (g.S.Storage.state c.args.store.now)
    (g.S.Storage.stood c.args.store.now) (g.O.Sink.state c.args.out.now)) in
    let b = (world (g.F.Files.state c.load.new.files) nodes (g.S.Storage.state c.open.new.self)
    (g.S.Storage.stood c.open.new.self) (g.O.Sink.state c.args.out.now)) in
    open_stops (asked_of c.args.request.now) c.in_ok-config.config a b Storage c.requires.asks
    c.in_ok-config.ensures.ok (inl refl) (c.in-Err-Failed.ensures.called.cause.failed
    (rw c.in-Err-Failed.field-0-is refl))
    c.in-Err-Failed.ensures.err.moves refl refl

pub returns-in-Err-Memory-clause-ends : goal.returns-in-Err-Memory-clause-ends
returns-in-Err-Memory-clause-ends g c =
    λ nodes.
    let a = (world (g.F.Files.state c.args.files.now) nodes (g.S.Storage.state c.args.store.now)
    (g.S.Storage.stood c.args.store.now) (g.O.Sink.state c.args.out.now)) in
    let b = (world (g.F.Files.state c.load.new.files) nodes (g.S.Storage.state c.open.new.self)
    (g.S.Storage.stood c.open.new.self) (g.O.Sink.state c.args.out.now)) in
    open_stops (asked_of c.args.request.now) c.in_ok-config.config a b Memory c.requires.asks
    c.in_ok-config.ensures.ok (inr (inl refl)) tt c.in-Err-Memory.ensures.err.moves refl refl

pub returns-clause-ends : goal.returns-clause-ends
returns-clause-ends g c =
    λ nodes.
    let a = (world (g.F.Files.state c.args.files.now) nodes (g.S.Storage.state c.args.store.now)
    (g.S.Storage.stood c.args.store.now) (g.O.Sink.state c.args.out.now)) in
    let b = (world (g.F.Files.state c.load.new.files) nodes
    (g.S.Storage.state c.rebuild_all.new.store) (g.S.Storage.stood c.rebuild_all.new.store)
    (g.O.Sink.state c.args.out.now)) in
    let config = c.in_ok-config.config in
    let s1 = g.S.Storage.state c.open.new.self in
    let p1 = g.S.Storage.stood c.open.new.self in
    let opened : OnlyReads (opened_at (node_config_of config) a.store) s1 a.stood p1 =
    rw (c.as_str-base.ensures.value, c.as_str-bucket.ensures.value) at c.in-Ok.ensures.ok in
    open_goes_on (asked_of c.args.request.now) config a b s1 p1 opened.moves refl
    (Err (stop_of c.in-Err.fault)) c.requires.asks c.in_ok-config.ensures.ok
    (work_stops (node_config_of config) a b s1 p1 opened.moves refl
    (stop_of c.in-Err.fault) c.open.ensures.called.cause.later refl
    c.in-Err.ensures.err)

pub returns-in-Ok-rebuild_all-clause-ends : goal.returns-in-Ok-rebuild_all-clause-ends
returns-in-Ok-rebuild_all-clause-ends g c =
    λ nodes.
    let a = (world (g.F.Files.state c.args.files.now) nodes (g.S.Storage.state c.args.store.now)
    (g.S.Storage.stood c.args.store.now) (g.O.Sink.state c.args.out.now)) in
    let b = (world (g.F.Files.state c.load.new.files) nodes
    (g.S.Storage.state c.rebuild_all.new.store) (g.S.Storage.stood c.rebuild_all.new.store)
    (g.O.Sink.state c.print_lines.new.out)) in
    let config = c.in_ok-config.config in
    let s1 = g.S.Storage.state c.open.new.self in
    let p1 = g.S.Storage.stood c.open.new.self in
    let opened : OnlyReads (opened_at (node_config_of config) a.store) s1 a.stood p1 =
    rw (c.as_str-base.ensures.value, c.as_str-bucket.ensures.value) at c.in-Ok.ensures.ok in
    open_goes_on (asked_of c.args.request.now) config a b s1 p1 opened.moves refl
    (seen (λ (x : Unit {0}). x) stop_of c.print_lines.result) c.requires.asks
    c.in_ok-config.ensures.ok
    (work_ends (node_config_of config) a b s1 p1 opened.moves refl
    (string_bytes c.in-Ok-rebuild_all.lines) c.in-Ok-rebuild_all.ensures.ok c.print_lines.result
    c.print_lines.ensures.step (rw c.as_str.ensures.value at c.print_lines.ensures.ok)
    (rw c.as_str.ensures.value at c.print_lines.ensures.err))
