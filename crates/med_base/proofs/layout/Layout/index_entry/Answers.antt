use Rattle.std.proofs.Common.{rules, ◌≡◌, sym, subst}
use Rattle.med_base.specs.Classify.{kind_of}
use Rattle.med_base.specs.Kinds.{Entry}
use Rattle.med_base.proofs.KindsMade.{entry_told}
use Rattle.med_base.proofs.layout.Layout.index_entry.Goals as goal

pub returns-clause-path : goal.returns-clause-path
returns-clause-path c = search rules

pub returns-clause-kind : goal.returns-clause-kind
returns-clause-kind c =
    subst (λ path. kind_of c.args.self.now path ≡ Entry c.args.f.now c.args.n.now c.args.kind)
    (sym (returns-clause-path c))
    (entry_told c.args.self.now c.args.f.now c.args.n.now c.args.kind c.in_ok-file.ensures.node
    c.in_ok-folder.ensures.name c.in_ok-file.ensures.second)
