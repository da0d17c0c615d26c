use Rattle.std.proofs.Common.{rules, ◌≡◌, ◌∙◌, false, List, map, sym, get_or, refl, arith}
use Rattle.std.specs.List.{list_any}
use Rattle.std.proofs.lemmas.List.{get_or_default}
use Rattle.med_base.specs.Key.{key_eq}
use Rattle.med_base.specs.Memory.{WhyIs}
use Rattle.med_manifest.specs.declared.shape.NamedFile.{NamedFile}
use Rattle.med_manifest.specs.Named.{named}
use Rattle.med_manifest.specs.Refusals.{IsFirstFault}
use Rattle.med_manifest.proofs.RecordLemmas.{none_distinct, nothing, keys_of, first_fault, seen_fault, records_next, seen_next}
use Rattle.med_manifest.proofs.records.records_in_any_order.Goals as goal

pub loop-at-init : goal.loop-at-init
loop-at-init c = record {
  are = rw c.new-records.ensures.items (record { each = tt; once = none_distinct });
  seen = λ k. rw (c.new-seen.ensures.empty, c.new-records.ensures.items) refl;
}

pub returns-in_err-record-clause-err : goal.returns-in_err-record-clause-err
returns-in_err-record-clause-err c =
    let files : List NamedFile = c.args.files.now in
    let i = c.loop-at.at in
    let faulty : WhyIs (IsFirstFault c.args.layout.now c.args.node.now c.args.name.now
    (map named c.args.files.now)) c.in_err-record.field-0.0 =
    first_fault c.args.layout.now c.args.node.now c.args.name.now files i (get_or files i nothing)
    c.loop-at.records.items (omega arith) (get_or_default files i nothing _ (omega arith))
    c.loop-at.invariant.are c.in_err-record.field-0.0 c.in_err-record.ensures.err in
    search rules

pub returns-in_err-add-clause-err : goal.returns-in_err-add-clause-err
returns-in_err-add-clause-err c =
    let files : List NamedFile = c.args.files.now in
    let i = c.loop-at.at in
    let faulty : WhyIs (IsFirstFault c.args.layout.now c.args.node.now c.args.name.now
    (map named c.args.files.now)) c.in_err-add.field-0.0 =
    seen_fault c.args.layout.now c.args.node.now c.args.name.now files i (get_or files i nothing)
    c.loop-at.records.items (omega arith) (get_or_default files i nothing _ (omega arith))
    c.loop-at.invariant.are c.loop-at.seen c.in_ok-record.record c.in_err-add.field-0.0
    c.loop-at.invariant.seen c.in_ok-record.ensures.ok c.in_err-add.ensures.err in
    search rules

pub loop-at-preserved : goal.loop-at-preserved
loop-at-preserved c =
    let files : List NamedFile = c.args.files.now in
    let i = c.loop-at.at in
    let key = c.in_ok-record.record.key in
    let fresh : list_any (key_eq key) (keys_of c.loop-at.records.items) ≡ false =
    sym (c.loop-at.invariant.seen key) ∙ c.in_ok-add.ensures.fresh in
    record {
      are =
          records_next c.args.layout.now c.args.node.now c.args.name.now files i
          (get_or files i nothing) c.loop-at.records.items (omega arith)
          (get_or_default files i nothing _ (omega arith)) c.loop-at.invariant.are
          c.in_ok-record.record
          c.add.new.records.items c.in_ok-record.ensures.ok fresh c.in_ok-add.ensures.records;
      seen =
          seen_next c.loop-at.seen c.add.new.seen c.in_ok-record.record c.loop-at.records.items
          c.add.new.records.items c.in_ok-add.ensures.seen c.loop-at.invariant.seen
          c.in_ok-add.ensures.records;
    }
