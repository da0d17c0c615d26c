use Rattle.std.proofs.Common.{◌≡◌, ◌∙◌, ◌+◌, ◌-◌, ◌<◌, ℕ, Some, ap, arith, cond, drop, length, subst, sym}
use Rattle.std.specs.BTreeMap.{get}
use Rattle.std.specs.FinMap.{find}
use Rattle.med_base.specs.declared.key.FileKey.{FileKey}
use Rattle.med_base.specs.Key.{key_cmp, key_eq}
use Rattle.med_outside.specs.Snapshot.{key_of_raw}
use Rattle.med_mem.specs.declared.snapshot.MemFile.{MemFile}
use Rattle.med_mem.specs.FirstPlaces.{places}
use Rattle.med_mem.proofs.FirstPlaceLemmas.{one_more_place}
use Rattle.med_mem.proofs.indexed.index_of.Goals as goal

pub loop-i-preserved : goal.loop-i-preserved
loop-i-preserved c =
    let files = c.args.files.now in
    let old = get key_cmp c.loop-i.index in
    let at = c.loop-i.i - 1 in
    let back : ◌≡◌ {A = ℕ} c.loop-i.i (at + 1) = omega (arith, c.loop-i-test.true) in
    let is_key = c.in_ok-key.ensures
    ∙ ap (λ (f : MemFile). key_of_raw f.key) (sym c.index-files-i.is) in
    let within : at < length files = omega (arith, c.loop-i.auto.i, c.loop-i-test.true) in
    one_more_place old (get key_cmp c.insert.new.self) files at c.index-files-i.result within
    c.index-files-i.is
    (λ key. subst (λ (n : ℕ). old key ≡ find key_cmp key (places n (drop n files))) back
    (c.loop-i.invariant key))
    (λ key. c.in_ok-insert.ensures.updates.0 key
    ∙ ap (λ (k : FileKey). cond (key_eq k key) (Some at) (old key)) is_key)
