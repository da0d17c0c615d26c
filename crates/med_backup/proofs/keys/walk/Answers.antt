use Rattle.std.proofs.Common.{◌∙◌, ap, sym, subst, map}
use Rattle.std.specs.List.{AllByRecursion}
use Rattle.std.specs.FinMap.{empty}
use Rattle.med_base.specs.Key.{IsKey, AreRising}
use Rattle.med_outside.specs.Snapshot.{key_of_raw}
use Rattle.med_backup.specs.Walked.{added}
use Rattle.med_backup.proofs.KeyLists.{rising_keys, all_gathered, told_keys, told_walk}
use Rattle.med_backup.proofs.keys.walk.Goals as goal

pub returns-in-Ok-key_list-clause-rising : goal.returns-in-Ok-key_list-clause-rising
returns-in-Ok-key_list-clause-rising g c =
    subst AreRising (sym
    (c.in-Ok-key_list.ensures ∙ ap (map (λ e. e.0)) c.in_ok-keys.ensures.keys))
    (rising_keys (added empty (map key_of_raw c.as_slice-2.result.now)))

pub returns-in-Ok-key_list-clause-names : goal.returns-in-Ok-key_list-clause-names
returns-in-Ok-key_list-clause-names g c =
    subst (AllByRecursion IsKey)
    (sym (c.in-Ok-key_list.ensures ∙ ap (map (λ e. e.0)) c.in_ok-keys.ensures.keys))
    (all_gathered IsKey (map key_of_raw c.as_slice-2.result.now) c.in_ok-keys.ensures.names)

pub returns-in-Ok-key_list-clause-keys : goal.returns-in-Ok-key_list-clause-keys
returns-in-Ok-key_list-clause-keys g c =
    told_keys (g.P.Snap.state c.args.snap.now).held (map key_of_raw c.as_slice-2.result.now)
    c.in_ok-keys.keys.entries c.in-Ok-key_list.keys.items
    (g.met.P.Snap.listed_once c.args.snap.now) (rw c.as_slice-2.ensures.value c.in-Ok.ensures.keys)
    c.in_ok-keys.ensures.keys c.in-Ok-key_list.ensures

pub returns-in-Ok-key_list-clause-walked : goal.returns-in-Ok-key_list-clause-walked
returns-in-Ok-key_list-clause-walked g c =
    told_walk key_of_raw c.as_slice-2.result.now (g.P.Snap.state c.args.snap.now).held
    (rw c.as_slice-2.ensures.value c.in-Ok.ensures.keys)
    (rw c.as_slice-2.ensures.value
    (rw c.as_slice.ensures.value at (sym c.is_empty.ensures ∙ c.if-is_empty.false)))
    c.in_ok-keys.ensures.names
