use Rattle.med_manifest.proofs.Rising.{above_all, less_from}
use Rattle.med_manifest.proofs.records.is_above.Goals as goal

pub returns-in-len1-up : goal.returns-in-len1-up
returns-in-len1-up c is_less rising =
    above_all c.args.records.now c.last-item.result c.args.key.now c.in-len1-up.len_at_least
    c.last-item.is (less_from _ c.lt.result c.lt.ensures is_less) rising
