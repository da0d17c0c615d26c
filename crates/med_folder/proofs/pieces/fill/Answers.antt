use Rattle.std.proofs.Common.{◌≤◌, ◌-◌, length, take, rules, sym, subst}
use Rattle.std.proofs.KnownBytes.{Consumes-trans}
use Rattle.std.specs.Io.KnownBytes.{Consumes}
use borrow.Rule.Slice.PartMut.{same_len_mid}
use Rattle.med_folder.proofs.RoomLemmas.{take_written}
use Rattle.med_folder.proofs.pieces.fill.Goals as goal

pub reads-preserved : goal.reads-preserved
reads-preserved g c =
    let start = c.reads.filled in
    let count = c.in_ok-count.count in
    let room = c.reads.room in
    let piece = c.read_some.new.piece in
    let k = length room - start in
    let first = g.F.Read.remaining c.args.file.now in
    let then = g.F.Read.remaining c.reads.file in
    let now = g.F.Read.remaining c.read_some.new.file in
    let within : start ≤ length room = c.reads.invariant.1 in
    let same = same_len_mid start k room piece c.read_some.ensures.len in
    let few : count ≤ length piece = c.in_ok-count.ensures.bound.0 in
    let taken = take_written start k count room piece within few in (
      search (rules, same),
      search (rules, same, few),
      subst (λ bytes. Consumes first now bytes) (sym taken)
          (Consumes-trans first then now (take start room) (take count piece)
          c.reads.invariant.2 c.in_ok-count.ensures.bytes.0),
    )
