use Rattle.std.proofs.Common.{◌∙◌, map, ap, arith}
use Rattle.std.proofs.lemmas.List.{map-append}
use Rattle.med_manifest.specs.Named.{named}
use Rattle.med_manifest.proofs.TreeLemmas.{tables_next, first_unshaped}
use Rattle.med_manifest.proofs.shape.files_of.Goals as goal

pub returns-in_default-clause-err : goal.returns-in_default-clause-err
returns-in_default-clause-err c =
    let none = c.in_ok-more.ensures.none c.in_default.is in
    first_unshaped c.args.list.now (map named c.loop-at.files.items) c.loop-at.at
    c.index-list-at.result (omega arith) c.index-list-at.is c.loop-at.invariant none

pub loop-at-preserved : goal.loop-at-preserved
loop-at-preserved c =
    let found = rw c.in-Some.is at c.in_ok-more.ensures.found in
    tables_next c.args.list.now (map named c.loop-at.files.items) (map named c.in-Some.more.items)
    (map named c.append.new.self.items) c.loop-at.at c.index-list-at.result (omega arith)
    c.index-list-at.is c.loop-at.invariant found
    (ap (map named) c.in_ok-append.ensures.items
    ∙ map-append named c.loop-at.files.items c.in-Some.more.items)
