use Rattle.std.proofs.Common.{◌≡◌, ◌∙◌, append-nil, refl, subst, take}
use Rattle.std.proofs.lemmas.List.{map-append}
use Rattle.std.specs.List.{list_any}
use Rattle.std.specs.Map.{keys_of}
use Rattle.med_base.specs.declared.key.FileKey.{FileKey}
use Rattle.med_base.specs.Key.{key_eq}
use Rattle.med_mem.specs.Snaps.{files_of}
use Rattle.med_mem.proofs.FirstPlaceLemmas.{earlier_index}
use Rattle.med_mem.proofs.Keys.{keys_more}
use Rattle.med_mem.proofs.indexed.list_keys.Goals as goal
use Rattle.med_mem.proofs.indexed.list_keys.Goals.{then-not-is_first_before+in_ok-push, else-not-is_first_before}

pub loop-i-preserved : goal.loop-i-preserved
loop-i-preserved c =
    let files = c.args.files.now in
    let file = c.index-files-i in
    let i = c.loop-i.i in
    let has = c.is_first_before in
    let is_key = c.in_ok-key.ensures in
    let test = subst
    (λ (k : FileKey). has.result ≡ list_any (key_eq k) (keys_of (files_of (take i files)))) is_key
    (has.ensures ∙ earlier_index c.args.index.now files c.requires c.in_ok-key.key i) in
    let more = keys_more files i file.result has.result c.loop-i-test.true file.is test in
    let old = c.loop-i.invariant in
    elim c.if-not-is_first_before.branch [
      | then-not-is_first_before+in_ok-push w ↦
          let pushed = w.in_ok-push.ensures.items in
          let raw = w.into_raw.ensures ∙ is_key in
          rw (w.keys-is, pushed, more, w.if-not-is_first_before.true, map-append, old, raw) refl
      | else-not-is_first_before w ↦
          rw (w.keys-is, more, w.if-not-is_first_before.false, append-nil) old
    ]
