use Rattle.std.proofs.Common.{ℕ, List, ap, subst}
use Rattle.std.specs.Fmt.{signed_decimal}
use Rattle.std.proofs.Math.Facts.{to_z-of_z}
use Rattle.med_commands.specs.Printed.{Prints}
use Rattle.med_commands.proofs.Printing.{twice_said}
use Rattle.med_commands.proofs.fault.say_token_twice.Goals as goal

pub returns-clause-text : goal.returns-clause-text
returns-clause-text g c =
    let said = rw (
      c.as_slice.ensures,
      c.as_bytes.ensures.value,
      c.format-number.ensures.text,
      ap signed_decimal (to_z-of_z c.ranges.token),
      c.as_slice-2.ensures,
      c.as_slice-3.ensures,
    ) at c.write_pieces.ensures.text in
    subst (λ (t : List ℕ). Prints t (g.E.Sink.state c.args.err.now).taken
    (g.E.Sink.state c.write_pieces.new.out).taken c.write_pieces.result)
    (twice_said (signed_decimal c.args.token)) said
