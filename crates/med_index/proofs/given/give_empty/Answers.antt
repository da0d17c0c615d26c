use Rattle.med_index.proofs.GivenLemmas.{empty_noted}
use Rattle.med_index.proofs.given.give_empty.Goals as goal

pub returns : goal.returns
returns c =
    empty_noted c.args.layout.now c.args.node.now c.args.name.now c.args.kind c.args.sizes.now
    c.args.given.now c.insert.new.self c.in_ok-path.path c.empty_unless-bytes.result
    c.stands_empty.result c.in_ok-path.ensures.path c.in_ok-path.ensures.kind
    c.stands_empty.ensures c.empty_unless-bytes.ensures c.in_ok-insert.ensures.updates
