use Rattle.std.proofs.Common.{◌∙◌, ◌++◌, [], ◌∷◌, append_assoc, sym, ap, subst}
use Rattle.std.proofs.lemmas.Iterator.Adapters.{YieldsList-from_vec}
use Rattle.std.proofs.lemmas.Iterator.Consumers.{YieldsList-end}
use Rattle.med_removal.specs.Named.{AreNoted, paths_in}
use Rattle.std.specs.Vec.Iter.{into_iter_items}
use Rattle.med_removal.proofs.Noting.{map_itself, noted_file, noted_none}
use Rattle.med_removal.proofs.named.note_files.Goals as goal

pub loop-file-init : goal.loop-file-init
loop-file-init c = record {
  left = sym c.into_iter-file-iterator.ensures.into_iter_gives.0;
  noted = noted_none c.args.layout.now c.args.named.now;
}

pub loop-file-preserved : goal.loop-file-preserved
loop-file-preserved c =
    let inv = c.loop-file.invariant in
    let rest = into_iter_items c.next.new.self in
    record {
      left = inv.left ∙ ap (λ l. c.loop-file.yielded ++ l) c.in-Some.ensures.steps.0
          ∙ sym (append_assoc c.loop-file.yielded (c.in-Some.file ∷ []) rest);
      noted = noted_file c.args.layout.now c.loop-file.yielded c.in-Some.file c.args.named.now
          c.loop-file.named c.note_path.new.named inv.noted c.in_ok-note_path.ensures;
    }

pub returns : goal.returns
returns c =
    let gives = c.into_iter-file-iterator.ensures.into_iter_gives in
    let ended = YieldsList-end
    (YieldsList-from_vec {s = c.into_iter-file-iterator.result} c.args.files.items gives.0
    (gives.1 ∙ c.args.files.ok.0)) c.loop-file.yielded c.loop-file.file-iterator
    c.loop-file.yielded_by c.next.result c.next.new.self c.in-None.is c.next.ensures.steps in
    subst (λ files. AreNoted c.args.layout.now (paths_in files) c.args.named.now c.loop-file.named)
    (sym (map_itself c.loop-file.yielded) ∙ ended.0) c.loop-file.invariant.noted
