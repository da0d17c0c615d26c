use Rattle.std.proofs.Common.{rules, List, map, sym, get_or, subst, arith}
use Rattle.std.specs.Bool.{IsTrue}
use Rattle.std.proofs.lemmas.List.{get_or_default}
use Rattle.med_base.specs.Key.{AreRising}
use Rattle.med_base.specs.Memory.{WhyIs}
use Rattle.med_manifest.specs.declared.shape.NamedFile.{NamedFile}
use Rattle.med_manifest.specs.Named.{named}
use Rattle.med_manifest.specs.Refusals.{IsFirstFault}
use Rattle.med_manifest.proofs.RecordLemmas.{none_distinct, nothing, keys_of, first_fault, records_next}
use Rattle.med_manifest.proofs.Rising.{AreBelow, none_same, rising_next}
use Rattle.med_manifest.proofs.records.rising_records.Goals as goal

pub loop-at-init : goal.loop-at-init
loop-at-init c = record {
  are = rw c.new-records.ensures.items (record { each = tt; once = none_distinct });
  rising = rw c.new-records.ensures.items tt;
}

pub returns-in_err-file-clause-err : goal.returns-in_err-file-clause-err
returns-in_err-file-clause-err c =
    let files : List NamedFile = c.args.files.now in
    let i = c.loop-at.at in
    let faulty : WhyIs (IsFirstFault c.args.layout.now c.args.node.now c.args.name.now
    (map named c.args.files.now)) c.in_err-file.field-0.0 =
    first_fault c.args.layout.now c.args.node.now c.args.name.now files i (get_or files i nothing)
    c.loop-at.records.items (omega arith) (get_or_default files i nothing _ (omega arith))
    c.loop-at.invariant.are c.in_err-file.field-0.0 c.in_err-file.ensures.err in
    search rules

pub loop-at-preserved : goal.loop-at-preserved
loop-at-preserved c =
    let files : List NamedFile = c.args.files.now in
    let i = c.loop-at.at in
    let file = c.in_ok-file.file in
    let earlier = c.loop-at.records.items in
    let above : IsTrue c.is_above.result = search rules in
    let rising : AreRising (keys_of c.as_slice-earlier.result.now) =
    subst (λ rs. AreRising (keys_of rs)) (sym c.as_slice-earlier.ensures.value)
    c.loop-at.invariant.rising in
    let below : AreBelow (keys_of earlier) file.key =
    subst (λ rs. AreBelow (keys_of rs) file.key) c.as_slice-earlier.ensures.value
    (c.is_above.ensures above rising) in
    record {
      are =
          records_next c.args.layout.now c.args.node.now c.args.name.now files i
          (get_or files i nothing) earlier (omega arith)
          (get_or_default files i nothing _ (omega arith)) c.loop-at.invariant.are
          file c.push.new.self.items c.in_ok-file.ensures.ok
          (none_same (keys_of earlier) file.key below) c.in_ok-push.ensures.items;
      rising =
          rising_next earlier c.push.new.self.items file c.loop-at.invariant.rising below
          c.in_ok-push.ensures.items;
    }
