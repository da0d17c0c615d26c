use Rattle.std.proofs.Common.{◌∙◌}
use Rattle.med_index.proofs.Finding.{found_of}
use Rattle.med_index.proofs.backups.find_backups.Goals as goal

pub returns-clause-found : goal.returns-clause-found
returns-clause-found g c =
    found_of (g.S.Storage.state c.args.store.now).content c.args.node.now
    c.walk.new.visitor.node.now c.new.result c.walk.new.visitor.found c.args.layout.now
    c.as_str.result.now (c.as_str.ensures.value ∙ c.in-Ok.ensures) c.new.ensures.empty
    c.in_ok-walk.ensures.found
