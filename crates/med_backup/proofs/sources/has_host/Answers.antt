use Rattle.med_backup.proofs.sources.has_host.Goals as goal

pub returns-in-None : goal.returns-in-None
returns-in-None c =
    (λ no. absurd (cc no), λ (h, among, is). absurd (c.in-None.ensures.value h among is))
