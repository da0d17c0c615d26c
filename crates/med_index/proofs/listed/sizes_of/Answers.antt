use Rattle.std.proofs.Common.{◌∙◌}
use Rattle.med_index.proofs.SizeLemmas.{sizes_all, sizing_none}
use Rattle.med_index.proofs.listed.sizes_of.Goals as goal

pub returns-clause-ok : goal.returns-clause-ok
returns-clause-ok g c =
    let before = c.args.layout.now in
    let f = c.args.node.now in
    let visitor = c.walk.new.visitor in
    sizes_all (g.S.Storage.state c.args.store.now).content before f c.as_str.result.now
    visitor.node.now c.new.result visitor.sizes (c.as_str.ensures.value ∙ c.in-Ok.ensures)
    c.new.ensures.empty
    (c.in_ok-walk.ensures.held f f (sizing_none before f c.new.result c.new.ensures.empty))
    c.in_ok-walk.ensures.found

pub returns-clause-within : goal.returns-clause-within
returns-clause-within g c =
    (c.in_ok-walk.ensures.held c.args.node.now c.args.node.now
    (sizing_none c.args.layout.now c.args.node.now c.new.result c.new.ensures.empty)).of_node
