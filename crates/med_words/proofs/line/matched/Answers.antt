use Rattle.std.proofs.Common.{◌≡◌, ◌∙◌, ap, sym, subst, [], true, true≢false, map, string_bytes, List, inl, inr, ◌∷◌}
use denote.Enum.Bare.{sameb}
use Rattle.clap.specs.contracts.error.kind.ErrorKind.{the_type}
use Rattle.clap.specs.Simple.{App, is_simple, matches_of}
use Rattle.clap.specs.Faults.{fault_of, is_simple_and_free}
use Rattle.clap.specs.Kinds.{HasKind}
use Rattle.clap.specs.Words.{kind_of}
use Rattle.clap.specs.declared.error.kind.ErrorKind.{ErrorKind}
use Rattle.clap.specs.declared.error.kind.ErrorKind.TheVariants as kind
use Rattle.med_words.specs.Grammar.{Text, Opt}
use Rattle.med_words.specs.Matched.{HasRows}
use Rattle.med_words.specs.Views.{opt_view}
use Rattle.med_words.proofs.Exact.{level_read, level_all, app_fault, app_rows}
use Rattle.med_words.proofs.RowsHeld.{has_rows}
use Rattle.med_words.proofs.TheTables.{table_of, table_is_simple}
use Rattle.med_words.proofs.line.matched.Goals as goal
use Rattle.med_words.proofs.line.matched.Goals.{then-eq, else-eq}

pub returns-in-Ok-try_get_matches_from-clause-ok : goal.returns-in-Ok-try_get_matches_from-clause-ok
returns-in-Ok-try_get_matches_from-clause-ok c =
    let words : List Text = map string_bytes c.args.words.now in
    let table : List Opt = map opt_view c.args.table.now in
    let good = table_of table c.requires.table in
    let simple = table_is_simple table c.requires.table in
    let app_is = c.in-Ok.ensures in
    let ens = c.in-Ok-try_get_matches_from.ensures in
    let r = level_read _ table good words c.requires.words
    (sym (app_fault table good words) ∙ ap (λ (a : App). fault_of a words) (sym app_is)
    ∙ ens.kinds (ap is_simple_and_free app_is ∙ simple.1)) in
    let found = ens.matches (ap is_simple app_is ∙ simple.0) in
    record {
      uses = r.uses;
      spell = r.spell;
      held = subst (HasRows table r.uses)
          (sym (found.0 ∙ ap (λ (a : App). matches_of a words) app_is
          ∙ app_rows table good words ∙ r.rows_are))
          (has_rows table r.uses r.spell.fit);
    }

by_memory : (kinds : List ErrorKind) (e : _) → kinds ≡ [] → HasKind kinds e
    → kind_of e ≡ kind.OutOfMemory
by_memory [] e is (inl h) = h
by_memory [] e is (inr h) = absurd h
by_memory (k ∷ ks) e is h = cc is

pub returns-after-eq-clause-line : goal.returns-after-eq-clause-line
returns-after-eq-clause-line c line uses s =
    let words : List Text = map string_bytes c.args.words.now in
    let table : List Opt = map opt_view c.args.table.now in
    let good = table_of table c.requires.table in
    let app_is = c.in-Ok.ensures in
    let none = ap (λ (a : App). fault_of a words) app_is ∙ app_fault table good words
    ∙ level_all _ table good uses words s in
    let memory = by_memory _ c.in-Err.error none
    (c.in-Err.ensures.kinds (ap is_simple_and_free app_is
    ∙ (table_is_simple table c.requires.table).1)) in
    elim c.if-eq.branch [
      | then-eq w ↦ cc (w.result-is, line)
      | else-eq w ↦
          let same : c.eq.result ≡ true = c.eq.ensures
          ∙ ap (λ (k : ErrorKind). sameb the_type k kind.OutOfMemory)
          (c.kind.ensures ∙ memory) in absurd (true≢false (sym same ∙ w.if-eq.false))
    ]
