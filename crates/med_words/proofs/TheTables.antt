-- The tables of the command line are read well. What has to hold of them is a test that computes.
use Rattle.std.proofs.Common.{◌≡◌, ◌∙◌, ◌==◌, Bool, true, true≢false, refl, sym, [], ◌∷◌, Some, List, eq-eqb}
use Rattle.std.specs.List.{list_all, AllByRecursion}
use Rattle.std.proofs.lemmas.Bool.{and_parts, not-true}
use Rattle.clap.specs.Lexer.{has_byte}
use Rattle.clap.specs.Simple.{is_simple}
use Rattle.clap.specs.Faults.{is_simple_and_free}
use Rattle.med_words.specs.Built.{flat_app}
use Rattle.med_words.specs.Grammar.{Text, Opt, valued, flag, opt_name, Row, IsPlain, options_of}
use Rattle.med_words.specs.WellFormed.{IsWellFormed}
use Rattle.med_words.specs.Tables.{main_options, commands}
use Rattle.med_words.proofs.Rows.{IsGoodName}
use Rattle.med_words.proofs.Exact.{IsTable, HasGoodName, names_good}
use Rattle.med_words.specs.Matched.{has_flag, is_table, is_clear, is_good_name}
use Rattle.med_words.proofs.After.{IsClear}
use Rattle.med_words.proofs.OwnLemmas.{of_row}
use Rattle.med_words.specs.Cut.{is_plain}

each_holds : {A : Type 0} (P : A → Type 0) (p : A → Bool) → ((x : A) → p x ≡ true → P x)
    → (xs : List A) → list_all p xs ≡ true → AllByRecursion P xs
each_holds P p by [] e = tt
each_holds P p by (x ∷ xs) e =
    let h = and_parts (p x) (list_all p xs) e in (by x h.0, each_holds P p by xs h.1)

-- ---- one table

abbrev has_good_name : Opt → Bool
has_good_name o = is_good_name (opt_name o)

good_name : (n : Text) → is_good_name n ≡ true → IsGoodName n
good_name [] e = absurd (true≢false (sym e))
good_name (z ∷ zs) e = not-true (has_byte 61 (z ∷ zs)) e

clear : (table : List Opt) (o : Opt) → is_clear table o ≡ true → IsClear table [] o
clear table (valued n q) e = not-true (has_flag n table) e
clear table (flag n) e = tt

pub table_is_simple : (table : List Opt) → is_table table ≡ true
    → (is_simple (flat_app table) ≡ true) × (is_simple_and_free (flat_app table) ≡ true)
table_is_simple table e =
    let h = and_parts (is_simple (flat_app table)) _ e in
    (h.0, (and_parts (is_simple_and_free (flat_app table)) _ h.1).0)

pub table_of : (table : List Opt) → is_table table ≡ true → IsTable table
table_of table e =
    let g = and_parts (is_simple_and_free (flat_app table)) _
    (and_parts (is_simple (flat_app table)) _ e).1 in
    let h = and_parts (list_all (is_clear table) table) (list_all has_good_name table) g.1 in
    record {
      clear = each_holds (IsClear table []) (is_clear table) (clear table) table h.0;
      names = names_good table
          (each_holds HasGoodName has_good_name (λ o. good_name (opt_name o)) table h.1);
    }

-- ---- the command words

pub well_formed_word : (w : Text) → is_plain w ≡ true → IsWellFormed w
well_formed_word [] e = absurd (true≢false (sym e))
well_formed_word (x ∷ xs) e =
    λ same. absurd (true≢false (sym (eq-eqb x 45 same) ∙ not-true (x == 45) e))

pub plain_word : (w : Text) → is_plain w ≡ true → IsPlain w
plain_word [] e = absurd (true≢false (sym e))
plain_word (x ∷ xs) e =
    λ same. absurd (true≢false (sym (eq-eqb x 45 same) ∙ not-true (x == 45) e))

-- ---- the tables

pub main_table : is_table main_options ≡ true
main_table = refl

pub own_table : (w : Text) (t : List Opt) → options_of commands w ≡ Some t → is_table t ≡ true
own_table = of_row (λ (c : Row). is_table c.1) commands refl

pub plain_name : (w : Text) (t : List Opt) → options_of commands w ≡ Some t → is_plain w ≡ true
plain_name = of_row (λ (c : Row). is_plain c.0) commands refl
