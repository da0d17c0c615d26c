use Rattle.std.proofs.Common.{arith, ap, map, refl, ◌∙◌, ◌++◌, ◌∷◌, [], List, append_assoc}
use Rattle.json.specs.Token.{Token}
use Rattle.serde_json.specs.Data.{Data}
use Rattle.med_manifest.specs.Tokens.{tokens_of, tokens_of_all}
use Rattle.med_manifest.specs.Written.{Table, table_data, tables}
use Rattle.med_manifest.proofs.Tables.{next_table, whole_tail, digests_rest}
use Rattle.med_manifest.proofs.written.put_tables.Goals as goal

pub loop-rest-preserved : goal.loop-rest-preserved
loop-rest-preserved c =
    let rest = c.loop-rest.rest.now in
    let others = c.split_at.result.0.now in
    let left = c.split_at.result.1.now in
    let first = c.first-item.result in
    let table : Table = record { first = first; files = first ∷ others } in
    let more = map table_data (tables left) in
    let cut = next_table [] (table_data table ∷ []) (table_data table) rest _ others left first
    c.run_of-count.result (omega arith) c.first-item.is (whole_tail rest)
    c.run_of-count.ensures.len c.split_at.ensures.front c.split_at.ensures.back refl refl in
    let adds = c.in_ok-put_table.ensures.adds in
    record {
      tokens =
          ap (λ (ts : List Token). ts ++ tokens_of_all more) adds.tokens
          ∙ append_assoc c.loop-rest.out.tokens (tokens_of (table_data table)) (tokens_of_all more)
          ∙ ap (λ (ds : List Data). c.loop-rest.out.tokens ++ tokens_of_all ds) cut
          ∙ c.loop-rest.invariant.tokens;
      before = adds.before ∙ c.loop-rest.invariant.before;
      prints = λ have. c.loop-rest.invariant.prints
          (digests_rest rest _ others left first c.run_of-count.result (omega arith)
          c.first-item.is (whole_tail rest) c.split_at.ensures.front c.split_at.ensures.back
          c.in_ok-put_table.ensures.prints have);
    }
