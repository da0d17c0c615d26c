use Rattle.std.proofs.Common.{◌∙◌, ◌∷◌, ap, ap₂, sym, position, ℕ, List}
use Rattle.med_base.proofs.Cuts.{cut_some, cut_none}
use Rattle.med_ini.specs.Lines.{is_feed, lines_of}
use Rattle.med_ini.proofs.lines.cut_line.Goals as goal

pub returns-in-Some-clause-lines : goal.returns-in-Some-clause-lines
returns-in-Some-clause-lines c =
    cut_some is_feed c.args.text.now c.in-Some.at
    (ap (λ (t : List ℕ). position is_feed t) (sym c.as_bytes.ensures.value)
    ∙ sym c.in-Some.ensures.value)
    ∙ ap₂ (λ (line left : List ℕ). line ∷ lines_of left) (sym c.around.ensures.before)
    (sym c.around.ensures.behind)

pub returns-in-None-clause-lines : goal.returns-in-None-clause-lines
returns-in-None-clause-lines c =
    cut_none is_feed c.args.text.now
    (ap (λ (t : List ℕ). position is_feed t) (sym c.as_bytes.ensures.value)
    ∙ sym c.in-None.ensures.value)
