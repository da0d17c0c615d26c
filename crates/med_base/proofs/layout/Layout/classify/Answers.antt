use Rattle.std.proofs.Common.{◌≡◌, ◌∙◌, List, ℕ, Option, None, refl, sym, ap, ap₂, subst, option_map, unwrap_or}
use Rattle.med_base.specs.Classify.{kind_below}
use Rattle.med_base.specs.Entries.{behind}
use Rattle.med_base.specs.KindRelation.{IsOfKind}
use Rattle.med_base.specs.Kinds.{Kind, Other}
use Rattle.med_base.specs.Prefix.{parts}
use Rattle.med_base.proofs.KindsLaw.{kind_told}
use Rattle.med_base.proofs.layout.Layout.classify.Goals as goal

-- the kind of what stands behind, if anything does
abbrev kind_behind : Option (List ℕ) → Kind
kind_behind o = unwrap_or (option_map (λ text. kind_below (parts text)) o) Other

told_of : (before path : List ℕ) (k : Kind) (o : Option (List ℕ)) → k ≡ kind_behind o
    → o ≡ behind before path → IsOfKind before path k
told_of before path k o e is = subst (IsOfKind before path) (sym (e ∙ ap kind_behind is))
    (kind_told before path)

pub returns-in-Some-clause-told : goal.returns-in-Some-clause-told
returns-in-Some-clause-told c =
    told_of c.args.self.now c.args.path.now _ _ c.below.ensures
    (c.in-Some.ensures ∙ ap₂ behind c.before-2.ensures c.as_str.ensures)

pub returns-in-None-clause-told : goal.returns-in-None-clause-told
returns-in-None-clause-told c =
    told_of c.args.self.now c.args.path.now Other None refl
    (c.in-None.ensures ∙ ap₂ behind c.before-2.ensures c.as_str.ensures)
