use Rattle.std.proofs.lemmas.Result.{IfOk-weaker, IfErr-weaker}
use Rattle.med_json.specs.Borrowed.{tree_of}
use Rattle.med_manifest.proofs.shape.files_named.Goals as goal

pub returns-clause-ok : goal.returns-clause-ok
returns-clause-ok c =
    IfOk-weaker c.named_files.result _ _
    (λ files has. record {
      tree = tree_of c.in_ok-value.value;
      text = c.in_ok-value.ensures.ok;
      has = has;
    }) c.named_files.ensures.ok

pub returns-clause-err : goal.returns-clause-err
returns-clause-err c =
    IfErr-weaker c.named_files.result _ _
    (λ e refused before f n. refused before f n _ c.in_ok-value.ensures.ok)
    c.named_files.ensures.err
