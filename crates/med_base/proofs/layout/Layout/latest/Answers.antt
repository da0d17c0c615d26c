use Rattle.std.proofs.Common.{◌∙◌, ◌≡◌, ◌++◌, ap, ap₂, codes, List, ℕ, append_assoc, sym, subst}
use Rattle.med_base.specs.Classify.{kind_of}
use Rattle.med_base.specs.Kinds.{Latest}
use Rattle.med_base.proofs.KindsMade.{latest_told}
use Rattle.med_base.proofs.layout.Layout.latest.Goals as goal

abbrev path_with : List ℕ → List ℕ → List ℕ → List ℕ
path_with before f file = before ++ codes "index/latest_backup/" ++ f ++ codes "/" ++ file

path_with_flat : (before f file : List ℕ)
    → before ++ (codes "index/latest_backup/" ++ (f ++ (codes "/" ++ file))) ≡ path_with before f
    file
path_with_flat before f file = simp append_assoc

pub returns-clause-path : goal.returns-clause-path
returns-clause-path c =
    c.from_string.ensures
    ∙ c.in_ok-text.ensures.ok
    ∙ path_with_flat _ _ _
    ∙ ap₂ (λ before f. path_with before f c.latest_name-file.result.now) c.before-before.ensures
    c.as_str-f.ensures.value
    ∙ ap (path_with c.args.self.now c.args.f.now) c.latest_name-file.ensures

pub returns-clause-kind : goal.returns-clause-kind
returns-clause-kind c =
    subst (λ path. kind_of c.args.self.now path ≡ Latest c.args.f.now c.args.kind)
    (sym (returns-clause-path c))
    (latest_told c.args.self.now c.args.f.now c.args.kind c.as_str-f.ensures.fits)
