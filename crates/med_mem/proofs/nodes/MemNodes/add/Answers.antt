use Rattle.std.proofs.Common.{refl}
use Rattle.std.proofs.lemmas.List.{map-append}
use Rattle.med_mem.specs.Snaps.{given, given_for}
use Rattle.med_mem.proofs.Given.{added_here, added_before, added_elsewhere}
use Rattle.med_mem.proofs.nodes.MemNodes.add.Goals as goal

pub returns-clause-here : goal.returns-clause-here
returns-clause-here c =
    let a = c.args in
    let one = given_for a.root.now a.node.now a.tag.now a.snap in
    let before = given c.self.inside.snaps.items in
    rw (← c.self.view_is, c.in_ok-push.ensures.items, map-append, c.in_ok-added.ensures)
    (added_here a.root.now a.node.now a.tag.now before one (refl, refl, refl))

pub returns-clause-before : goal.returns-clause-before
returns-clause-before c =
    rw (← c.self.view_is, c.in_ok-push.ensures.items, map-append)
    (λ r n t. added_before r n t _ _)

pub returns-clause-elsewhere : goal.returns-clause-elsewhere
returns-clause-elsewhere c =
    rw (← c.self.view_is, c.in_ok-push.ensures.items, map-append, c.in_ok-added.ensures)
    (λ r n t other. added_elsewhere r n t _ _ other)
