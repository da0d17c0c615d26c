use Rattle.std.proofs.Common.{◌++◌, take, rules}
use Rattle.std.proofs.KnownBytes.{Consumes-trans}
use Rattle.med_folder.proofs.measure.fingerprint_by.Goals as goal

pub pieces-preserved : goal.pieces-preserved
pieces-preserved g c =
    let before = c.pieces.invariant.1 in
    let piece = take c.in_ok-count.count c.read_some.new.piece in
    let first = g.F.Read.remaining c.args.file.now in
    let then = g.F.Read.remaining c.pieces.file in
    let now = g.F.Read.remaining c.read_some.new.file in (
      search rules,
      (
        before.0 ++ piece,
        c.in_ok-take.ensures before.0 before.1,
        Consumes-trans first then now before.0 piece before.2 c.in_ok-count.ensures.bytes.0,
      ),
    )
