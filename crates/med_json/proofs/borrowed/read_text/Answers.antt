use Rattle.std.proofs.Common.{rules, ◌≡◌, ◌∙◌, [], Some, sym, ap}
use Rattle.json.specs.Json.{value}
use Rattle.json.specs.Lex.{tokens}
use Rattle.json.specs.Value.{value_view}
use Rattle.med_json.proofs.BorrowedLemmas.{read_whole}
use Rattle.med_json.proofs.borrowed.read_text.Goals as goal

pub returns-then-has_tree-clause-ok : goal.returns-then-has_tree-clause-ok
returns-then-has_tree-clause-ok c =
    let v = c.in_ok-value.value in
    let reads : value 127 (tokens c.args.text.now) ≡ Some (value_view v, c.read.new.reader) =
    ap (value 127) (sym c.in_ok-reader.ensures.ok) ∙ c.in_ok-value.ensures.ok in
    let over : c.read.new.reader ≡ [] = search rules in
    read_whole c.args.text.now v c.read.new.reader reads over
    (sym c.has_tree.ensures ∙ c.if-has_tree.true)
