use Rattle.std.proofs.Common.{◌≡◌, ◌∙◌, ℕ, List, IfOk, ap, subst}
use Rattle.med_mem.proofs.PageLemmas.{path_of, last_at}
use Rattle.med_mem.proofs.page.copy_last_path.Goals as goal

pub returns-in-Some : goal.returns-in-Some
returns-in-Some c =
    let last = ap path_of c.in-Some.ensures.value ∙ last_at c.args.entries.now in
    subst (λ (l : List ℕ). IfOk c.copy.result (λ path. path ≡ l)) last c.copy.ensures
