use Rattle.std.proofs.Common.{Err, inl, inr, refl, ap, ◌∙◌, map, string_bytes}
use Rattle.med_outside.specs.Device.{Memory}
use Rattle.med_plan.specs.Ends.{BadWords, Refused, Failed, Ends}
use Rattle.med_outside.specs.World.{world, rose_of}
use Rattle.med_plan.proofs.EndsLemmas.{plan_exact}
use Rattle.med_outside.proofs.Passing.{moves_at_rest}
use Rattle.med_words.specs.Views.{asked_of}
use Rattle.med_commands.specs.Headline.{End, says}
use Rattle.med_commands.specs.Plans.{words_plan}
use Rattle.med_commands.specs.Status.{code}
use Rattle.med_commands.specs.Texts.{usage_text}
use Rattle.med_commands.proofs.BackupSteps.{later_itself}
use Rattle.med_commands.proofs.main_call.medusa_main.Goals as goal

pub returns-in-Ok : goal.returns-in-Ok
returns-in-Ok g c =
    let a = (world (g.F.Files.state c.args.files.now) (g.N.Nodes.state c.args.nodes.now)
    (g.S.Storage.state c.args.store.now) (g.S.Storage.stood c.args.store.now)
    (g.O.Sink.state c.args.out.now)) in
    let b = (world (g.F.Files.state c.run_command.new.files)
    (g.N.Nodes.state c.run_command.new.nodes)
    (g.S.Storage.state c.run_command.new.store) (g.S.Storage.stood c.run_command.new.store)
    (g.O.Sink.state c.run_command.new.out)) in
    let words = map string_bytes c.args.words.now in
    let answer = c.run_command.ensures.answer in
    let ends : Ends (rose_of a b) says (words_plan words a b) answer.end =
    inr (asked_of c.in-Ok.request, c.in-Ok.ensures.ok, answer.ends) in
    record {
      answer = record {
        end = answer.end;
        ends = ends;
        exact = λ told leads.
            plan_exact (rose_of a b) told says (words_plan words a b) leads answer.end
            ends;
        status = answer.status;
        tells = answer.tells;
        later = answer.later;
        err_later = answer.err_later;
      };
    }

pub returns-in-Err-Usage : goal.returns-in-Err-Usage
returns-in-Err-Usage g c =
    let a = (world (g.F.Files.state c.args.files.now) (g.N.Nodes.state c.args.nodes.now)
    (g.S.Storage.state c.args.store.now) (g.S.Storage.stood c.args.store.now)
    (g.O.Sink.state c.args.out.now)) in
    let words = map string_bytes c.args.words.now in
    let end : End = Err (Refused (BadWords (usage_text c.in-Err-Usage.usage))) in
    let ends : Ends (rose_of a a) says (words_plan words a a) end =
    inl (
      (
        c.in-Err-Usage.usage,
        rw c.in-Err-Usage.field-0-is at c.in-Err-Usage.ensures.err,
        rw c.in-Err-Usage.field-0-is at c.in-Err-Usage.ensures.refused,
        refl,
      ),
      ((refl, moves_at_rest a.store a.stood, refl, refl), refl),
    ) in
    record {
      answer = record {
        end = end;
        ends = ends;
        exact = λ told leads.
            plan_exact (rose_of a a) told says (words_plan words a a) leads end ends;
        status = c.code.ensures ∙ ap code c.tell.ensures.status;
        tells = rw (← c.in-Err-Usage.usage-is) c.tell.ensures.text;
        later = later_itself a;
        err_later = c.tell.ensures.later;
      };
    }

pub returns-in-Err-Memory : goal.returns-in-Err-Memory
returns-in-Err-Memory g c =
    let a = (world (g.F.Files.state c.args.files.now) (g.N.Nodes.state c.args.nodes.now)
    (g.S.Storage.state c.args.store.now) (g.S.Storage.stood c.args.store.now)
    (g.O.Sink.state c.args.out.now)) in
    let words = map string_bytes c.args.words.now in
    let end : End = Err (Failed Memory) in
    let ends : Ends (rose_of a a) says (words_plan words a a) end =
    inl ((inl refl, tt), ((refl, moves_at_rest a.store a.stood, refl, refl), refl)) in
    record {
      answer = record {
        end = end;
        ends = ends;
        exact = λ told leads.
            plan_exact (rose_of a a) told says (words_plan words a a) leads end ends;
        status = c.code-in-Err-Memory.ensures ∙ ap code c.tell-in-Err-Memory.ensures.status;
        tells = c.tell-in-Err-Memory.ensures.text;
        later = later_itself a;
        err_later = c.tell-in-Err-Memory.ensures.later;
      };
    }
