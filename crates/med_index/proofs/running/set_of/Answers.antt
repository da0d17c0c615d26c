use Rattle.std.proofs.Common.{ℕ, List, true, take, sym, subst}
use Rattle.std.specs.BTreeSet.{Updates}
use Rattle.med_base.proofs.Lists.{take_next}
use Rattle.med_base.specs.NameOrder.{name_cmp}
use Rattle.med_index.specs.Marks.{IsSetOf}
use Rattle.med_index.proofs.Sets.{set_more}
use Rattle.med_index.proofs.running.set_of.Goals as goal

pub loop-name-preserved : goal.loop-name-preserved
loop-name-preserved c =
    let i = c.loop-name.name-index in
    let names = c.args.names.now in
    let put = subst
    (λ (n : List ℕ). Updates name_cmp c.loop-name.set c.insert.new.self n true)
    c.in_ok-copy.ensures c.in_ok-insert.ensures.updates in
    subst (λ (l : List (List ℕ)). IsSetOf l c.insert.new.self)
    (sym (take_next names i c.name-item.result c.loop-name-test.true c.name-item.is))
    (set_more (take i names) c.name-item.result c.loop-name.set c.insert.new.self
    c.loop-name.invariant put)
