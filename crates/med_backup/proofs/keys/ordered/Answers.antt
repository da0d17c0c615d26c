use Rattle.std.proofs.Common.{◌≡◌, ◌∙◌, ap, sym, map, take}
use Rattle.med_base.specs.declared.key.FileKey.{FileKey}
use Rattle.std.specs.BTreeMap.{insert_entry}
use Rattle.med_base.specs.Key.{IsKey, key_cmp}
use Rattle.med_outside.specs.Snapshot.{key_of_raw}
use Rattle.med_backup.proofs.KeyLists.{nothing_yet, next_key}
use Rattle.med_base.proofs.Lists.{get_map, all_push, take_map}
use Rattle.med_backup.proofs.keys.ordered.Goals as goal

pub loop-at-init : goal.loop-at-init
loop-at-init c = record { entries_are = c.new-keys.ensures.empty ∙ sym nothing_yet; names = tt }

pub returns-in-Ok-None-clause-err : goal.returns-in-Ok-None-clause-err
returns-in-Ok-None-clause-err c = record {
  key = key_of_raw c.index-raws-at.result;
  stands = get_map key_of_raw c.args.raws.now c.loop-at.at c.index-raws-at.result
      c.loop-at-test.true
      c.index-raws-at.is;
  bad = rw c.in-Ok-None.field-0-is at c.in-Ok-None.ensures;
  before = c.loop-at.invariant.names;
}

pub loop-at-preserved : goal.loop-at-preserved
loop-at-preserved c =
    let cut = take_map key_of_raw c.args.raws.now c.loop-at.at c.index-raws-at.result
    c.loop-at-test.true c.index-raws-at.is in
    let told = rw c.in-Ok-Some.field-0-is at c.in-Ok-Some.ensures in
    let put : c.insert.new.self.entries ≡ insert_entry key_cmp c.loop-at.keys.entries
    (key_of_raw c.index-raws-at.result) tt =
    c.in-Ok.ensures.entries ∙ ap (λ (k : FileKey). insert_entry key_cmp c.loop-at.keys.entries k tt)
    told.0 in
    record {
      entries_are = rw cut
          (next_key _ _ (take c.loop-at.at (map key_of_raw c.args.raws.now))
          (key_of_raw c.index-raws-at.result) c.loop-at.invariant.entries_are put);
      names = rw cut (all_push IsKey _ (key_of_raw c.index-raws-at.result) c.loop-at.invariant.names
          told.1);
    }
