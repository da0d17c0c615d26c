use Rattle.std.proofs.Common.{◌∙◌, ℕ, List, Some, ap, subst}
use Rattle.std.specs.BTreeMap.{Updates, get}
use Rattle.med_base.specs.NameOrder.{name_cmp}
use Rattle.med_index.specs.declared.marks.Marks.{Marks}
use Rattle.med_index.specs.Marks.{or_none, with_mark}
use Rattle.med_index.proofs.backups.note.Goals as goal

pub returns : goal.returns
returns c =
    let found = c.args.found.now in
    let marks = c.with-marks.ensures
    ∙ ap (λ (m : Marks). with_mark c.args.kind c.args.second m)
    (c.marks_at.ensures ∙ ap (λ (n : List ℕ). or_none (get name_cmp found n)) c.in-Ok.ensures.ok) in
    subst
    (λ (n : List ℕ). Updates name_cmp found c.insert.new.self n
    (Some (with_mark c.args.kind c.args.second (or_none (get name_cmp found c.args.backup.now)))))
    c.in-Ok.ensures.ok
    (subst (λ (m : Marks). Updates name_cmp found c.insert.new.self c.in-Ok.name (Some m)) marks
    c.in_ok-insert.ensures.updates)
