use Rattle.std.proofs.Common.{ℕ, List, subst}
use Rattle.std.specs.Prelude.{decimal}
use Rattle.med_commands.specs.Printed.{Prints}
use Rattle.med_ini.specs.Texts.{kind_text}
use Rattle.med_commands.proofs.Printing.{line_said}
use Rattle.med_commands.proofs.print_config.say_line.Goals as goal

pub returns-clause-text : goal.returns-clause-text
returns-clause-text g c =
    let said = rw (
      c.as_slice.ensures,
      c.as_bytes.ensures.value,
      c.format-number.ensures.text,
      c.as_slice-2.ensures,
      c.as_bytes-2.ensures.value,
      c.text.ensures,
      c.as_slice-3.ensures,
    ) at c.write_pieces.ensures.text in
    subst (λ (t : List ℕ). Prints t (g.E.Sink.state c.args.err.now).taken
    (g.E.Sink.state c.write_pieces.new.out).taken c.write_pieces.result)
    (line_said (decimal c.args.line) (kind_text c.args.kind)) said
