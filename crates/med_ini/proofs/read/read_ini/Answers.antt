use Rattle.std.proofs.Common.{◌∙◌, ap, map, rules, List}
use Rattle.med_ini.specs.Document.{document}
use Rattle.med_ini.specs.Entries.{stands_twice}
use Rattle.med_ini.specs.LabelViews.{label_view}
use Rattle.med_ini.specs.Labels.{start}
use Rattle.med_ini.specs.Lines.{lines_of}
use Rattle.med_ini.specs.declared.labels.Label.{Label}
use Rattle.med_ini.proofs.Distinct.{distinct}
use Rattle.med_ini.proofs.OneReading.{none_of}
use Rattle.med_ini.proofs.read.read_ini.Goals as goal

pub of-requires : goal.of-requires
of-requires c =
    let labels = c.in_ok-labels.ensures.ok in
    ap stands_twice (c.in_ok-entries.ensures
    ∙ ap (λ (ls : List Label). document (map label_view ls)) c.as_slice.ensures.value)
    ∙ distinct start labels.0 (lines_of c.in_ok-text.text.now)
    (map label_view c.in_ok-labels.labels.items) labels.1

pub returns-in_err-labels-clause-refused : goal.returns-in_err-labels-clause-refused
returns-in_err-labels-clause-refused c =
    let none = none_of c.args.bytes.now c.in_ok-text.text.now c.in_err-labels.field-0.0
    c.in_ok-text.ensures.ok.0 c.in_err-labels.ensures.err in
    search (rules, none)
