use Rattle.std.proofs.Common.{◌∙◌, refl, arith}
use Rattle.med_outside.proofs.Sending.{all_read, nothing_read, reads_on}
use Rattle.med_outside.proofs.send.print_file.Goals as goal

pub loop-more-init : goal.loop-more-init
loop-more-init g c = rw c.new-flow.ensures (record {
  read = nothing_read (g.P.Snap.state c.args.snap.now).held c.args.key.now c.requires;
  same = record { held = refl; of = refl };
  later = omega arith;
})

pub loop-more-preserved : goal.loop-more-preserved
loop-more-preserved g c =
    let inv = c.loop-more.invariant in
    let added = rw inv.same.held at c.in-Ok.ensures.ok in
    record {
      read = reads_on (g.P.Snap.state c.args.snap.now).held c.args.key.now c.loop-more.more
          c.in-Ok.full c.loop-more.flow added.piece c.read_piece_of.new.flow
          c.loop-more-test.true inv.read added.is added.read_is;
      same = record {
        held = c.read_piece_of.ensures.same.held ∙ inv.same.held;
        of = c.read_piece_of.ensures.same.of ∙ inv.same.of;
      };
      later = omega (arith, inv.later, c.read_piece_of.ensures.cause.later);
    }

pub returns-clause-ok : goal.returns-clause-ok
returns-clause-ok g c = record {
  bytes = c.loop-more.flow;
  file_is = all_read (g.P.Snap.state c.args.snap.now).held c.args.key.now c.loop-more.more
      c.loop-more.flow c.loop-more-test.false c.loop-more.invariant.read;
  print_is = c.end.ensures;
}
