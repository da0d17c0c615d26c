-- What a level gives once its words are walked: the defaults of flags, and the required options.
use Rattle.std.proofs.Common.{◌≡◌, ◌∙◌, ◌&&◌, ◌||◌, Bool, cond, true, false, not, refl, sym, ap, List, [], ◌∷◌, ◌++◌, Option, Some, None, codes, true≢false}
use Rattle.std.specs.List.{find, fold, list_any, AllByRecursion}
use Rattle.std.specs.Option.{option_map_or, is_some}
use Rattle.std.specs.Str.{bytes_eq}
use Rattle.std.proofs.lemmas.Bool.{or_parts, not-false}
use Rattle.clap.specs.Kinds.{Kinds}
use Rattle.clap.specs.Walk.{Row, Rule, has_row, with_default, more_values}
use Rattle.clap.specs.Takes.{is_given}
use Rattle.clap.specs.Faults.{default_fault, defaults_fault}
use Rattle.clap.specs.Facts.{explicit_source}
use Rattle.clap.specs.Values.{reading_of}
use Rattle.clap.specs.declared.builder.value_parser.ValueParser.TheVariants as vp
use Rattle.clap.specs.declared.parser.matches.ValueSource.TheVariants.{DefaultValue}
use Rattle.med_words.specs.Grammar.{Text, Opt, valued, flag, Use, alone, joined, apart, is_used, IsMet}
use Rattle.med_words.specs.Matched.{is_flag, has_flag}
use Rattle.med_words.proofs.Rows.{rules, rule_for, value_rule, flag_rule, rows, row_for, at_absent}
use Rattle.med_words.proofs.Steps.{or_else_join}
use Rattle.med_base.proofs.Bools.{same_bytes}

-- ---- defaults pass

default_none : (rs : List Row) (o : Opt) → default_fault rs (rule_for o) ≡ []
default_none rs (valued n q) = go (has_row n rs)
  where
    go : (b : Bool) → ◌≡◌ {A = Kinds} (cond (b || true) [] []) []
    go true = refl
    go false = refl
default_none rs (flag n) = go (has_row n rs)
  where
    go : (b : Bool) → ◌≡◌ {A = Kinds} (cond (b || false) [] []) []
    go true = refl
    go false = refl

pub defaults_none : (table : List Opt) (rs : List Row) → defaults_fault rs (rules table) ≡ []
unfolding defaults_fault
defaults_none [] rs = refl
defaults_none (o ∷ rest) rs = or_else_join _ _ (default_none rs o)
    (defaults_none rest (with_default rs (rule_for o)))

-- ---- rows and look-ups

abbrev pub row_at : Text → List Row → Option Row
row_at n rs = find (λ r. bytes_eq r.id n) rs

abbrev default_row : Text → Row
default_row n =
    record {
      id = n;
      values = codes "false" ∷ [];
      count = None;
      source = Some DefaultValue;
      reading = reading_of vp.Bool;
    }

row_at_append : (n : Text) (rs more : List Row) → has_row n rs ≡ true
    → row_at n (rs ++ more) ≡ row_at n rs
row_at_append n [] more e = absurd (true≢false (sym e))
row_at_append n (r ∷ rs) more e = go (bytes_eq r.id n) e (row_at_append n rs more)
  where
    go : (b : Bool) → (b || has_row n rs) ≡ true
        → (has_row n rs ≡ true → row_at n (rs ++ more) ≡ row_at n rs)
        → cond b (Some r) (row_at n (rs ++ more)) ≡ cond b (Some r) (row_at n rs)
    go true h more_ = refl
    go false h more_ = more_ h

row_at_new : (n : Text) (rs : List Row) (new : Row) → has_row n rs ≡ false
    → row_at n (rs ++ new ∷ []) ≡ row_at n (new ∷ [])
row_at_new n [] new e = refl
row_at_new n (r ∷ rs) new e = go (bytes_eq r.id n) e (row_at_new n rs new)
  where
    go : (b : Bool) → (b || has_row n rs) ≡ false
        → (has_row n rs ≡ false → row_at n (rs ++ new ∷ []) ≡ row_at n (new ∷ []))
        → cond b (Some r) (row_at n (rs ++ new ∷ [])) ≡ row_at n (new ∷ [])
    go true h more = absurd (true≢false h)
    go false h more = more h

-- what a default adds
adds_flag : (m : Text) (rs : List Row) → has_row m rs ≡ false
    → with_default rs (flag_rule m) ≡ rs ++ default_row m ∷ []
adds_flag m rs e =
    rw e (at_absent m (more_values DefaultValue (codes "false" ∷ [])) (default_row m ∷ []) rs e)

keeps_flag : (m : Text) (rs : List Row) → has_row m rs ≡ true → with_default rs (flag_rule m) ≡ rs
keeps_flag m rs e = rw e refl

keeps_value : (m : Text) (q : Bool) (rs : List Row) → with_default rs (value_rule m q) ≡ rs
keeps_value m q rs = go (has_row m rs)
  where
    go : (b : Bool) → cond b rs rs ≡ rs
    go true = refl
    go false = refl

row_at_skip : (n : Text) (rs : List Row) (new : Row) → bytes_eq new.id n ≡ false
    → row_at n (rs ++ new ∷ []) ≡ row_at n rs
row_at_skip n [] new e = rw e refl
row_at_skip n (r ∷ rs) new e = ap (λ (o : Option Row). cond (bytes_eq r.id n) (Some r) o)
    (row_at_skip n rs new e)

pub has_row_some : (n : Text) (rs : List Row) → has_row n rs ≡ is_some (row_at n rs)
has_row_some n [] = refl
has_row_some n (r ∷ rs) = go (bytes_eq r.id n) (has_row_some n rs)
  where
    go : (b : Bool) → has_row n rs ≡ is_some (row_at n rs)
        → (b || has_row n rs) ≡ is_some (cond b (Some r) (row_at n rs))
    go true e = refl
    go false e = e

-- a flag changes no row that its default row doesn't change
flag_passes : (n m : Text) (rs : List Row) → row_at n (rs ++ default_row m ∷ []) ≡ row_at n rs
    → row_at n (with_default rs (flag_rule m)) ≡ row_at n rs
flag_passes n m rs same = go (has_row m rs) refl
  where
    go : (b : Bool) → has_row m rs ≡ b → row_at n (with_default rs (flag_rule m)) ≡ row_at n rs
    go true h = ap (row_at n) (keeps_flag m rs h)
    go false h = ap (row_at n) (adds_flag m rs h) ∙ same

step_other : (n : Text) (o : Opt) (rs : List Row) → is_flag n o ≡ false
    → row_at n (with_default rs (rule_for o)) ≡ row_at n rs
step_other n (valued m q) rs e = ap (row_at n) (keeps_value m q rs)
step_other n (flag m) rs e = flag_passes n m rs (row_at_skip n rs (default_row m) e)

pub row_other : (n : Text) (table : List Opt) (rs : List Row) → has_flag n table ≡ false
    → row_at n (fold with_default rs (rules table)) ≡ row_at n rs
row_other n [] rs e = refl
row_other n (o ∷ rest) rs e = row_other n rest (with_default rs (rule_for o)) (or_parts _ _ e).1
    ∙ step_other n o rs (or_parts _ _ e).0

-- a row that is there stays
step_kept : (n : Text) (o : Opt) (rs : List Row) → has_row n rs ≡ true
    → row_at n (with_default rs (rule_for o)) ≡ row_at n rs
step_kept n (valued m q) rs e = ap (row_at n) (keeps_value m q rs)
step_kept n (flag m) rs e = flag_passes n m rs (row_at_append n rs (default_row m ∷ []) e)

same_has : (n : Text) (a b : List Row) → row_at n a ≡ row_at n b → has_row n a ≡ has_row n b
same_has n a b e = has_row_some n a ∙ ap is_some e ∙ sym (has_row_some n b)

pub row_kept : (n : Text) (table : List Opt) (rs : List Row) → has_row n rs ≡ true
    → row_at n (fold with_default rs (rules table)) ≡ row_at n rs
row_kept n [] rs e = refl
row_kept n (o ∷ rest) rs e =
    let k = step_kept n o rs e in
    row_kept n rest (with_default rs (rule_for o))
    (same_has n (with_default rs (rule_for o)) rs k ∙ e) ∙ k

pub row_default : (n : Text) (table : List Opt) (rs : List Row) → has_row n rs ≡ false
    → has_flag n table ≡ true → row_at n (fold with_default rs (rules table)) ≡ Some (default_row n)
row_default n [] rs e f = absurd (true≢false (sym f))
row_default n (o ∷ rest) rs e f = go (is_flag n o) refl f
    (row_default n rest (with_default rs (rule_for o)))
  where
    made : (p : Opt) → is_flag n p ≡ true
        → (row_at n (with_default rs (rule_for p)) ≡ Some (default_row n))
        × (has_row n (with_default rs (rule_for p)) ≡ true)
    made (valued m q) h = absurd (true≢false (sym h))
    made (flag m) h =
        let is : m ≡ n = same_bytes m n h in
        let added = adds_flag m rs (ap (λ t. has_row t rs) is ∙ e) in
        let row : row_at n (with_default rs (flag_rule m)) ≡ Some (default_row n) =
        ap (row_at n) added ∙ row_at_new n rs (default_row m) e
        ∙ ap (λ (b : Bool). cond b (Some (default_row m)) None) h
        ∙ ap (λ t. Some (default_row t)) is in
        (row, has_row_some n (with_default rs (flag_rule m)) ∙ ap is_some row)

    go : (b : Bool) → is_flag n o ≡ b → (b || has_flag n rest) ≡ true
        → (has_row n (with_default rs (rule_for o)) ≡ false → has_flag n rest ≡ true
        → row_at n (fold with_default (with_default rs (rule_for o)) (rules rest))
        ≡ Some (default_row n))
        → row_at n (fold with_default (with_default rs (rule_for o)) (rules rest))
        ≡ Some (default_row n)
    go true h g more = let m = made o h in row_kept n rest (with_default rs (rule_for o)) m.1 ∙ m.0
    go false h g more =
        more (same_has n (with_default rs (rule_for o)) rs (step_other n o rs h) ∙ e) g

-- ---- the required options

abbrev is_explicit : Option Row → Bool
is_explicit o = option_map_or (λ (r : Row). explicit_source r.source) o false

given_step : (n : Text) (us : List Use) (r : Row) → explicit_source r.source ≡ true → (b : Bool)
    → is_explicit (row_at n (rows us)) ≡ is_used n us
    → is_explicit (cond b (Some r) (row_at n (rows us))) ≡ (b || is_used n us)
given_step n us r told true e = told
given_step n us r told false e = e

given_rows : (n : Text) (us : List Use) → is_explicit (row_at n (rows us)) ≡ is_used n us
given_rows n [] = refl
given_rows n (alone m ∷ us) =
    given_step n us (row_for (alone m)) refl (bytes_eq m n) (given_rows n us)
given_rows n (joined m v ∷ us) =
    given_step n us (row_for (joined m v)) refl (bytes_eq m n) (given_rows n us)
given_rows n (apart m v ∷ us) =
    given_step n us (row_for (apart m v)) refl (bytes_eq m n) (given_rows n us)

module _ (table : List Opt) (uses : List Use) where
  abbrev pub end_rows : List Row
  end_rows = fold with_default (rows uses) (rules table)

  -- no flag has the name of an option with a value
  abbrev pub IsClear : Opt → Type 0
  IsClear (valued n q) = has_flag n table ≡ false
  IsClear (flag n) = Unit {0}

  given_is : (n : Text) → has_flag n table ≡ false → is_given n end_rows ≡ is_used n uses
  given_is n e =
      ap is_explicit (row_other n table (rows uses) e) ∙ given_rows n uses

  abbrev lacking : List Opt → Bool
  lacking t = list_any (λ (a : Rule). a.required && not (is_given a.id end_rows)) (rules t)

  pub met_from : (t : List Opt) → AllByRecursion IsClear t → lacking t ≡ false
      → AllByRecursion (IsMet uses) t
  met_from [] c e = tt
  met_from (valued n true ∷ rest) c e = (
    sym (given_is n c.0) ∙ not-false (is_given n end_rows) (or_parts _ _ e).0,
    met_from rest c.1 (or_parts _ _ e).1,
  )
  met_from (valued n false ∷ rest) c e = (tt, met_from rest c.1 e)
  met_from (flag n ∷ rest) c e = (tt, met_from rest c.1 e)

  pub met_to : (t : List Opt) → AllByRecursion IsClear t → AllByRecursion (IsMet uses) t
      → lacking t ≡ false
  met_to [] c e = refl
  met_to (valued n true ∷ rest) c e = rw (given_is n c.0 ∙ e.0) (met_to rest c.1 e.1)
  met_to (valued n false ∷ rest) c e = met_to rest c.1 e.1
  met_to (flag n ∷ rest) c e = met_to rest c.1 e.1
