-- What the walk keeps of the uses so far, and how it finds an option of the table.
use Rattle.std.proofs.Common.{◌≡◌, ◌∙◌, ◌||◌, ℕ, Bool, cond, true, false, refl, ap, List, [], ◌∷◌, ◌++◌, map, Option, Some, None, codes, true≢false, append-nil}
use Rattle.std.specs.Option.{option_map}
use Rattle.std.specs.Str.{bytes_eq}
use Rattle.std.proofs.Math.Bool.{or-false}
use Rattle.clap.specs.Lexer.{has_byte}
use Rattle.clap.specs.Walk.{Row, Rule, arg_by_id, arg_by_long, at_row, has_row, used, more_values}
use Rattle.clap.specs.Values.{reading_of}
use Rattle.clap.specs.Simple.{Shape, filled_from}
use Rattle.clap.specs.declared.builder.action.ArgAction.TheVariants.{Set, SetTrue}
use Rattle.clap.specs.declared.builder.value_parser.ValueParser.TheVariants as vp
use Rattle.clap.specs.declared.parser.matches.ValueSource.TheVariants.{CommandLine}
use Rattle.clap.specs.declared.builder.action.ArgAction.{ArgAction}
use Rattle.med_words.specs.Grammar.{Text, Opt, valued, flag, Use, alone, joined, apart, opt_of, is_used}
use Rattle.med_words.specs.Built.{raw_rule, raw_shape}

-- the rule of an option: what it does, how many values it takes, its default and what it holds
-- where no value stands, how a value is read, and whether it has to stand
abbrev option_rule : Text → ArgAction → ℕ → List Text → List Text → vp.the_data → Bool → Rule
option_rule n action count defaults missing parser q = record {
  id = n;
  long = Some n;
  aliases = [];
  short = None;
  short_aliases = [];
  index = None;
  action = Some action;
  range = Some (record { start_inclusive = count; end_inclusive = count });
  value_names = 0;
  defaults = defaults;
  missing = missing;
  trailing_var_arg = false;
  parser = Some parser;
  ignore_case = false;
  required = q;
  is_simple = true;
  is_free = true;
}

abbrev pub value_rule : Text → Bool → Rule
value_rule n q = option_rule n Set 1 [] [] vp.String q

abbrev pub flag_rule : Text → Rule
flag_rule n =
    option_rule n SetTrue 0 (codes "false" ∷ []) (codes "true" ∷ []) vp.Bool false

abbrev pub rule_for : Opt → Rule
rule_for (valued n q) = value_rule n q
rule_for (flag n) = flag_rule n

abbrev pub rules : List Opt → List Rule
rules table = map rule_for table

-- what building makes of the table
pub rules_filled : (i : ℕ) (table : List Opt) → filled_from i (map raw_rule table) ≡ rules table
rules_filled i [] = refl
rules_filled i (valued n q ∷ rest) = ap (λ rs. value_rule n q ∷ rs) (rules_filled i rest)
rules_filled i (flag n ∷ rest) = ap (λ rs. flag_rule n ∷ rs) (rules_filled i rest)

-- a level of that name with these rules, as it is built
abbrev pub leaf : Text → List Rule → Shape
leaf name rs = record (raw_shape name []) { rules = rs; is_built = true }

-- ---- look-ups

abbrev pub named : List Opt → Text → Option Opt
named = opt_of

-- a rule is found where its option is, if the test of the rule answers as that of the option
rule_found : (o : Opt) (b c : Bool) → c ≡ b → (r : Option Rule) (x : Option Opt)
    → r ≡ option_map rule_for x
    → cond c (Some (rule_for o)) r ≡ option_map rule_for (cond b (Some o) x)
rule_found o true c same r x e = ap (λ d. cond d (Some (rule_for o)) r) same
rule_found o false c same r x e = ap (λ d. cond d (Some (rule_for o)) r) same ∙ e

pub by_long : (table : List Opt) (n : Text)
    → arg_by_long (rules table) n ≡ option_map rule_for (named table n)
by_long [] n = refl
by_long (valued m q ∷ rest) n =
    rule_found (valued m q) (bytes_eq m n) _ (or-false (bytes_eq m n)) _ _ (by_long rest n)
by_long (flag m ∷ rest) n =
    rule_found (flag m) (bytes_eq m n) _ (or-false (bytes_eq m n)) _ _ (by_long rest n)

pub by_id : (table : List Opt) (n : Text)
    → arg_by_id (rules table) n ≡ option_map rule_for (named table n)
by_id [] n = refl
by_id (valued m q ∷ rest) n =
    rule_found (valued m q) (bytes_eq m n) _ (refl) _ _ (by_id rest n)
by_id (flag m ∷ rest) n = rule_found (flag m) (bytes_eq m n) _ (refl) _ _ (by_id rest n)

-- ---- rows

abbrev pub row_with : Text → vp.the_data → List Text → Row
row_with n p values =
    record {
      id = n;
      values = values;
      count = None;
      source = Some CommandLine;
      reading = reading_of
          p;
    }

abbrev pub row_for : Use → Row
row_for (alone n) = row_with n vp.Bool (codes "true" ∷ [])
row_for (joined n v) = row_with n vp.String (v ∷ [])
row_for (apart n v) = row_with n vp.String (v ∷ [])

abbrev pub rows : List Use → List Row
rows us = map row_for us

pub has_row_is : (n : Text) (us : List Use) → has_row n (rows us) ≡ is_used n us
has_row_is n [] = refl
has_row_is n (alone m ∷ us) = ap (λ b. bytes_eq m n || b) (has_row_is n us)
has_row_is n (joined m v ∷ us) = ap (λ b. bytes_eq m n || b) (has_row_is n us)
has_row_is n (apart m v ∷ us) = ap (λ b. bytes_eq m n || b) (has_row_is n us)

pub at_absent : (id : Text) (change : Row → List Row) (missing rs : List Row)
    → has_row id rs ≡ false → at_row id change missing rs ≡ rs ++ missing
at_absent id change missing [] e = refl
at_absent id change missing (r ∷ rs) e = go (bytes_eq r.id id) (at_absent id change missing rs) e
  where
    go : (b : Bool) → (has_row id rs ≡ false → at_row id change missing rs ≡ rs ++ missing)
        → (b || has_row id rs) ≡ false → cond b (change r ++ rs) (r ∷ at_row id change missing rs)
        ≡ r ∷ (rs ++ missing)
    go true more h = absurd (true≢false h)
    go false more h = ap (λ xs. r ∷ xs) (more h)

with_new : (id : Text) (change again : Row → List Row) (new : Row) (rs : List Row)
    → has_row id rs ≡ false → at_row id change (new ∷ []) (at_row id again [] rs) ≡ rs ++ new ∷ []
with_new id change again new rs e =
    let gone : at_row id again [] rs ≡ rs = at_absent id again [] rs e ∙ append-nil rs in
    ap (at_row id change (new ∷ [])) gone ∙ at_absent id change (new ∷ []) rs e

pub used_value : (n v : Text) (q : Bool) (rs : List Row) → has_row n rs ≡ false
    → used (value_rule n q) (v ∷ []) rs ≡ rs ++ row_with n vp.String (v ∷ []) ∷ []
used_value n v q rs e = with_new n (more_values CommandLine (v ∷ [])) (λ _. [])
    (row_with n vp.String (v ∷ [])) rs e

pub used_flag : (n : Text) (rs : List Row) → has_row n rs ≡ false
    → used (flag_rule n) [] rs ≡ rs ++ row_with n vp.Bool (codes "true" ∷ []) ∷ []
used_flag n rs e = with_new n (more_values CommandLine (codes "true" ∷ [])) (λ _. [])
    (row_with n vp.Bool (codes "true" ∷ [])) rs e

abbrev pub IsGoodName : Text → Type 0
IsGoodName [] = ⊥
IsGoodName (z ∷ zs) = has_byte 61 (z ∷ zs) ≡ false
