use Rattle.med_removal.proofs.Adding.{added_told, added_within}
use Rattle.med_removal.proofs.picking.pick.Goals as goal

pub returns-in-Ok-join-clause-told : goal.returns-in-Ok-join-clause-told
returns-in-Ok-join-clause-told g c =
    let p = c.walk.new.visitor in
    added_told c.args.layout.now c.args.node.now c.args.which p.which p.node.now c.args.under.now
    c.none.result p.going c.args.going.now c.join.new.self c.in-Ok.ensures.same
    c.none.ensures.paths c.in-Ok-join.ensures (g.S.Storage.state c.args.store.now).content
    c.requires c.none.ensures.files c.none.ensures.bytes c.in-Ok.ensures.found

pub returns-in-Ok-join-clause-within : goal.returns-in-Ok-join-clause-within
returns-in-Ok-join-clause-within g c =
    let p = c.walk.new.visitor in
    λ call suits was.
    added_within c.args.layout.now c.args.node.now c.args.which p.which p.node.now c.args.under.now
    c.none.result p.going c.args.going.now c.join.new.self c.in-Ok.ensures.same
    c.none.ensures.paths c.in-Ok-join.ensures call suits
    (c.in-Ok.ensures.held c.args.node.now c.args.under.now) was
