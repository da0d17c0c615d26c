use Rattle.std.proofs.Common.{◌∙◌}
use Rattle.med_index.proofs.EntryListing.{kept_all, keeping_none}
use Rattle.med_index.proofs.listed.clean_entries.Goals as goal

pub returns-clause-ok : goal.returns-clause-ok
returns-clause-ok g c =
    let before = c.args.layout.now in
    let f = c.args.node.now in
    let n = c.args.name.now in
    let visitor = c.walk.new.visitor in
    kept_all (g.S.Storage.state c.args.store.now).content before f n c.as_str.result.now
    visitor.node.now visitor.name.now c.new.result.items visitor.paths.items
    (c.as_str.ensures.value ∙ c.in-Ok.ensures.text) c.new.ensures.items
    (c.in_ok-walk.ensures.held f n
    (keeping_none before f n c.new.result.items c.new.ensures.items)) c.in_ok-walk.ensures.found
