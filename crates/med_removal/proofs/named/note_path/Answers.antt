use Rattle.std.proofs.Common.{◌∙◌, sym}
use Rattle.med_removal.proofs.Noting.{noted_over, noted_put}
use Rattle.med_removal.proofs.named.note_path.Goals as goal

pub returns-then-not-is_shared_file : goal.returns-then-not-is_shared_file
returns-then-not-is_shared_file c =
    noted_over c.args.layout.now c.args.path c.args.named.now c.args.named.now
    (sym c.is_shared_file.ensures ∙ c.if-not-is_shared_file.true)

pub returns : goal.returns
returns c =
    noted_put c.args.layout.now c.args.path c.args.named.now c.insert.new.self
    c.in_ok-insert.ensures.updates
