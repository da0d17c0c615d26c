use Rattle.std.proofs.Common.{rules, ◌≡◌, ◌∙◌, ap}
use Rattle.med_outside.specs.Pages.{last_path}
use Rattle.med_folder.proofs.PageLemmas.{path_of, last_at}
use Rattle.med_folder.proofs.pages.end_of.Goals as goal

pub returns-in_ok-from_str-in-Some-clause-path : goal.returns-in_ok-from_str-in-Some-clause-path
returns-in_ok-from_str-in-Some-clause-path c =
    let last : c.in-Some.entry.now.path ≡ last_path c.args.entries.now =
    ap path_of c.in-Some.ensures.value ∙ last_at c.args.entries.now in
    rw (← last) (search rules)
