use Rattle.std.proofs.Common.{arith}
use Rattle.std.specs.Prelude.{IsTrue}
use Rattle.std.proofs.lemmas.List.Sorted.{All-permutation, length_permutation}
use Rattle.med_outside.specs.declared.storage.Entry.{Entry}
use Rattle.med_outside.specs.Pages.{shown}
use Rattle.med_folder.specs.Listing.{is_shown}
use Rattle.med_folder.proofs.walk.next_entries.Goals as goal

pub returns-clause-bound : goal.returns-clause-bound
returns-clause-bound g c =
    omega (arith, length_permutation _ _ c.sort_by_path.ensures.same, c.files.invariant.0)

pub returns-clause-shown : goal.returns-clause-shown
returns-clause-shown g c =
    let under = c.args.listed.now.under.now in
    let after = shown c.args.listed.now.after in
    All-permutation (λ (e : Entry). IsTrue (is_shown under after e.path)) _ _
    c.sort_by_path.ensures.same c.files.invariant.1
