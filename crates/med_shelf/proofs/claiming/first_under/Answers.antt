use Rattle.med_shelf.proofs.LookSteps.{first_of_page}
use Rattle.med_shelf.proofs.claiming.first_under.Goals as goal

pub returns-in-Ok-list_page-clause-first : goal.returns-in-Ok-list_page-clause-first
returns-in-Ok-list_page-clause-first g c =
    let page = rw (c.as_str.ensures.value, c.in-Ok.ensures) at c.in-Ok-list_page.ensures.page in
    first_of_page _ (g.S.Storage.state c.args.store.now).content c.in-Ok-list_page.page _ page
    c.first_path_of.ensures
