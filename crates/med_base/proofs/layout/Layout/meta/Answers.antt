use Rattle.std.proofs.Common.{◌≡◌, ◌∙◌, ◌++◌, ap, ap₂, codes, List, ℕ, append_assoc, sym, subst}
use Rattle.med_base.specs.Classify.{kind_of}
use Rattle.med_base.specs.Kinds.{Meta}
use Rattle.med_base.specs.Layout.{backup_folder}
use Rattle.med_base.proofs.KindsMade.{meta_told}
use Rattle.med_base.proofs.layout.Layout.meta.Goals as goal

abbrev path_with : List ℕ → List ℕ → List ℕ → List ℕ → List ℕ
path_with before f n file = backup_folder before f n ++ codes "meta/" ++ file

path_with_flat : (before f n file : List ℕ)
    → before ++ (f ++ (codes "/" ++ (n ++ (codes "/meta/" ++ file)))) ≡ path_with before f n file
path_with_flat before f n file = simp append_assoc

pub returns-clause-path : goal.returns-clause-path
returns-clause-path c =
    c.from_string.ensures ∙ c.in_ok-text.ensures.ok ∙ path_with_flat _ _ _ _
    ∙ ap (λ before. path_with before c.as_str-f.result.now c.as_str-n.result.now
    c.meta_name-file.result.now) (c.as_str-before.ensures.value ∙ c.self.view_is)
    ∙ ap₂ (λ f n. path_with c.args.self.now f n c.meta_name-file.result.now)
    c.as_str-f.ensures.value c.as_str-n.ensures.value
    ∙ ap (path_with c.args.self.now c.args.f.now c.args.n.now) c.meta_name-file.ensures

pub returns-clause-kind : goal.returns-clause-kind
returns-clause-kind c =
    subst (λ path. kind_of c.args.self.now path ≡ Meta c.args.f.now c.args.n.now c.args.kind)
    (sym (returns-clause-path c))
    (meta_told c.args.self.now c.args.f.now c.args.n.now c.args.kind c.as_str-f.ensures.fits
    c.as_str-n.ensures.fits)
