use Rattle.std.proofs.Common.{refl, sym, subst}
use Rattle.med_base.specs.Effects.{Stores, Removes}
use Rattle.med_outside.proofs.Making.{told_as}
use Rattle.med_index.specs.Planned.{IsPlannedAs}
use Rattle.med_index.proofs.changes.apply.Goals as goal

pub returns-in-Err-Failed-clause-makes : goal.returns-in-Err-Failed-clause-makes
returns-in-Err-Failed-clause-makes g c =
    let (at, fits, said, makes) = c.in-Err-Failed.ensures.makes in
    let change = Stores c.in-Put.path c.deref.result.now at in (
      change,
      subst (λ p. IsPlannedAs p change) (sym c.in-Put.is) (refl, c.deref.ensures.value),
      told_as _ _ _ _ _ _ _ _ _ _ _ (λ fine. absurd (cc fine)) (λ fault. refl) makes,
    )

pub returns-in-Err-Memory-clause-makes : goal.returns-in-Err-Memory-clause-makes
returns-in-Err-Memory-clause-makes g c =
    let (at, fits, said, makes) = c.in-Err-Memory.ensures.makes in
    let change = Stores c.in-Put.path c.deref.result.now at in (
      change,
      subst (λ p. IsPlannedAs p change) (sym c.in-Put.is) (refl, c.deref.ensures.value),
      told_as _ _ _ _ _ _ _ _ _ _ _ (λ fine. absurd (cc fine))
          (λ fault. let is = c.in-Err-Memory.field-0-is in absurd (cc (fault, is))) makes,
    )

pub returns-in-Err-Failed-delete_recorded-clause-makes :
    goal.returns-in-Err-Failed-delete_recorded-clause-makes
returns-in-Err-Failed-delete_recorded-clause-makes g c =
    let change = Removes c.in-Delete.path in (
      change,
      subst (λ p. IsPlannedAs p change) (sym c.in-Delete.is) refl,
      told_as _ _ _ _ _ _ _ _ _ _ _ (λ fine. absurd (cc fine)) (λ fault. refl)
          c.in-Err-Failed-delete_recorded.ensures.makes,
    )

pub returns-in-Err-Memory-delete_recorded-clause-makes :
    goal.returns-in-Err-Memory-delete_recorded-clause-makes
returns-in-Err-Memory-delete_recorded-clause-makes g c =
    let change = Removes c.in-Delete.path in (
      change,
      subst (λ p. IsPlannedAs p change) (sym c.in-Delete.is) refl,
      told_as _ _ _ _ _ _ _ _ _ _ _ (λ fine. absurd (cc fine))
          (λ fault. let is = c.in-Err-Memory-delete_recorded.field-0-is in absurd (cc (fault, is)))
          c.in-Err-Memory-delete_recorded.ensures.makes,
    )
