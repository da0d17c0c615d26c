use Rattle.std.proofs.Common.{Ok, Err, refl, ap, ◌∙◌, arith}
use Rattle.med_outside.specs.World.{world, rose_of}
use Rattle.med_plan.proofs.EndsLemmas.{plan_exact}
use Rattle.med_words.specs.Views.{asked_of}
use Rattle.med_commands.specs.Fault.{stop_of}
use Rattle.med_commands.specs.Headline.{says}
use Rattle.med_commands.specs.Plans.{plan_of}
use Rattle.med_commands.specs.Status.{code}
use Rattle.med_commands.proofs.main_call.run_command.Goals as goal

pub returns-in-Ok : goal.returns-in-Ok
returns-in-Ok g c =
    let a = (world (g.F.Files.state c.args.files.now) (g.N.Nodes.state c.args.nodes.now)
    (g.S.Storage.state c.args.store.now) (g.S.Storage.stood c.args.store.now)
    (g.O.Sink.state c.args.out.now)) in
    let b = (world (g.F.Files.state c.run.new.files) (g.N.Nodes.state c.run.new.nodes)
    (g.S.Storage.state c.run.new.store) (g.S.Storage.stood c.run.new.store)
    (g.O.Sink.state c.run.new.out)) in
    record {
      answer = record {
        end = Ok tt;
        ends = c.in-Ok.ensures.ends;
        exact = λ told leads. plan_exact (rose_of a b) told says
            (plan_of (asked_of c.args.request.now) a b) leads (Ok tt) c.in-Ok.ensures.ends;
        status = c.code.ensures;
        tells = refl;
        later = c.run.ensures.later;
        err_later = omega arith;
      };
    }

pub returns-in-Err : goal.returns-in-Err
returns-in-Err g c =
    let a = (world (g.F.Files.state c.args.files.now) (g.N.Nodes.state c.args.nodes.now)
    (g.S.Storage.state c.args.store.now) (g.S.Storage.stood c.args.store.now)
    (g.O.Sink.state c.args.out.now)) in
    let b = (world (g.F.Files.state c.run.new.files) (g.N.Nodes.state c.run.new.nodes)
    (g.S.Storage.state c.run.new.store) (g.S.Storage.stood c.run.new.store)
    (g.O.Sink.state c.run.new.out)) in
    record {
      answer = record {
        end = Err (stop_of c.in-Err.fault);
        ends = c.in-Err.ensures.ends;
        exact = λ told leads. plan_exact (rose_of a b) told says
            (plan_of (asked_of c.args.request.now) a b) leads (Err (stop_of c.in-Err.fault))
            c.in-Err.ensures.ends;
        status = c.code-in-Err.ensures ∙ ap code c.tell.ensures.status;
        tells = c.tell.ensures.text;
        later = c.run.ensures.later;
        err_later = c.tell.ensures.later;
      };
    }
