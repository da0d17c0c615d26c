use Rattle.std.proofs.Common.{◌≡◌, refl, sym, map, rules}
use Rattle.med_ini.specs.Labels.{section_name}
use Rattle.med_ini.specs.LabelViews.{place_view, named_view}
use Rattle.med_ini.proofs.LabelLemmas.{option_fault_as}
use Rattle.med_ini.proofs.labels.label_at.Goals as goal

pub returns-in-Err-clause-err : goal.returns-in-Err-clause-err
returns-in-Err-clause-err c =
    let p = place_view c.args.place.now in
    let in_section : section_name p ≡ c.in-Some-section.section.now = search rules in
    option_fault_as p c.args.line.now c.in-Err.kind c.in-Some-section.section.now
    (map named_view c.args.place.now.options.keys) c.strip-text.result.now in_section
    refl (sym c.strip-text.ensures)
    (record {
      begins = record { not_quiet = search rules; not_more = search rules };
      no_header = search rules;
      in_section = search rules;
    })
    c.in-Err.ensures.err
