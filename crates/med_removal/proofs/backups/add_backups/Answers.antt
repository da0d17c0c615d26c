use Rattle.std.proofs.Common.{arith, [], rules, IfSome, sym, subst}
use Rattle.std.specs.List.{flat_map}
use Rattle.med_base.proofs.Lists.{take_next}
use Rattle.med_core.specs.Removal.{paths_of_backup}
use Rattle.med_core.specs.Section.{Remove}
use Rattle.med_index.proofs.GivenLemmas.{looks_on}
use Rattle.med_index.proofs.Walking.{same_content}
use Rattle.med_index.specs.Visits.{AreFound}
use Rattle.med_removal.specs.Going.{Adds}
use Rattle.med_removal.proofs.Gone.{backups_first, backups_more}
use Rattle.med_removal.proofs.backups.add_backups.Goals as goal

pub loop-name-init : goal.loop-name-init
loop-name-init g c = record {
  told = backups_first c.args.layout.now c.args.node.now c.args.found.now
      (g.S.Storage.state c.args.store.now).content c.args.going.now;
  within = λ grace now was. was;
  ready = c.requires;
  looks = search rules;
  later = omega arith;
}

pub loop-name-preserved : goal.loop-name-preserved
loop-name-preserved g c =
    let state = g.S.Storage.state in
    let stood = g.S.Storage.stood in
    let start = c.args.store.now in
    let here = c.loop-name.store in
    let next = c.add_backup.new.store in
    let so = c.loop-name.invariant in
    let done = c.in-Ok.ensures in
    let i = c.loop-name.name-index in
    let names = c.args.names.now in
    let n = c.name-item.result in
    let past = so.later in
    let more = done.cause.later in
    record {
      told =
          subst
          (λ ns. IfSome (state start).content
          (λ d. AreFound c.args.node.now c.args.found.now c.args.layout.now c.args.node.now d []
          → Adds c.args.layout.now c.args.node.now d
          (flat_map (paths_of_backup c.args.layout.now d c.args.node.now) ns) c.args.going.now
          c.add_backup.new.going))
          (sym (take_next names i n c.loop-name-test.true c.name-item.is))
          (backups_more c.args.layout.now c.args.node.now c.args.found.now (state start).content
          (state here).content _ n c.marks_at-marks.result c.args.going.now c.loop-name.going
          c.add_backup.new.going
          (same_content (state start) (state here) (stood start) (stood here) so.looks)
          c.as_str.ensures.fits c.marks_at-marks.ensures so.told done.told);
      within = λ grace now was.
          done.within (Remove names grace now) (i, c.loop-name-test.true, sym c.name-item.is)
          (so.within grace now was);
      ready = done.ready;
      looks =
          looks_on (state start) (state here) (state next) (stood start) (stood here) (stood next)
          so.looks done.looks;
      later = omega (arith, past, more);
    }
