use Rattle.std.proofs.Common.{rules, tests, ◌≡◌, true, false}
use Rattle.std.proofs.lemmas.Iterator.{cases_from_any, YieldsList-from_slice}
use Rattle.med_base.specs.Key.{key_eq}
use Rattle.med_core.specs.declared.records.Record.{Record}
use Rattle.med_shelf.proofs.Names.{has_iff}
use Rattle.med_shelf.proofs.claims.Claim.has.Goals as goal

pub returns : goal.returns
returns c =
    let key = c.args.key.now in
    let records = c.args.self.now.records in
    has_iff key records c.any.result
    (cases_from_any _ _ _ (λ (r : Record). key_eq r.file.key key ≡ true)
    (λ (r : Record). key_eq r.file.key key ≡ false) c.any.ensures.ran
    (YieldsList-from_slice records cc) (λ x q k. search (rules, tests))
    (λ x q k. search (rules, tests)))
