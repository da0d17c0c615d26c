use Rattle.std.proofs.Common.{◌≡◌, ◌∙◌, ◌+◌, ap, sym, arith, rules, ℕ, ℤ, pos, true, List, take, drop, ◌++◌, ◌∷◌, append_assoc, to_z, of_z, w64, int_eq, slice_index_or}
use Rattle.std.specs.HashSet.{contains}
use Rattle.std.proofs.lemmas.Bool.Decides.{Decides-int_eq}
use Rattle.std.proofs.lemmas.Bool.{not-false}
use Rattle.std.proofs.lemmas.List.{get_or_default}
use Rattle.indexmap.proofs.CallerLemmas.{Contains-list_any}
use Rattle.med_base.proofs.Lists.{split_at}
use Rattle.med_ring.proofs.repeats.add_tokens.Goals as goal

pub returns-then-not-is_new-clause-err : goal.returns-then-not-is_new-clause-err
returns-then-not-is_new-clause-err c =
    let i : ℕ = c.loop-token.token-index in
    let tokens : List ℤ = c.args.tokens.now in
    let x : ℤ = slice_index_or tokens i (pos 0) in
    let v : ℤ = to_z w64 (of_z w64 x) in
    let same : v ≡ x = search rules in
    let keys : List ℤ = c.loop-token.seen.keys in
    let old : List ℤ = c.args.seen.now.keys in
    let rest : List ℤ = drop (i + 1) tokens in
    let has : contains int_eq c.loop-token.seen v ≡ true =
    not-false _ (sym c.in_ok-is_new.ensures.added ∙ c.if-not-is_new.true) in
    let whole : take i tokens ++ v ∷ rest ≡ tokens =
    sym (split_at tokens i v (omega arith)
    (same ∙ get_or_default tokens i (pos 0) v (omega arith))) in
    record {
      before = keys;
      rest = rest;
      cut =
          ap (λ (ts : List ℤ). old ++ ts) (sym whole)
          ∙ sym (append_assoc old (take i tokens) (v ∷ rest))
          ∙ ap (λ (ks : List ℤ). ks ++ v ∷ rest) (sym c.loop-token.invariant.same);
      stood = Contains-list_any int_eq (λ a b. (Decides-int_eq a b).0) keys v has;
      distinct = c.loop-token.invariant.distinct;
    }
