-- What the rows of a level hold of its uses.
use Rattle.std.proofs.Common.{is_some, inl, inr, ◌≡◌, ◌∙◌, ◌||◌, Bool, cond, true, false, refl, sym, ap, subst, List, [], ◌∷◌, Option, Some, None, codes, true≢false}
use Rattle.std.specs.List.{AllByRecursion, find, list_any}
use Rattle.std.specs.Prelude.{option_and_then, slice_get}
use Rattle.std.specs.Str.{bytes_eq}
use Rattle.std.proofs.lemmas.Bool.{or_left, or_right}
use Rattle.clap.specs.Walk.{Row, one_of, row_text}
use Rattle.med_words.specs.Grammar.{Text, Opt, valued, flag, Use, alone, joined, apart, opt_of, Fits, is_used, value_in, opt_name}
use Rattle.med_words.specs.Matched.{HasRows, FlagRow, has_flag, has_valued, is_flag, is_valued}
use Rattle.med_base.proofs.Bools.{same_bytes, bytes_same}
use Rattle.med_words.proofs.Rows.{rows, row_for, has_row_is}
use Rattle.med_words.proofs.After.{end_rows, row_at, row_other, row_kept, row_default, has_row_some}

-- ---- the values

-- a test that a found option passes, one of the table passes
found_passes : (p q : Opt → Bool) (table : List Opt) (o : Opt) → find p table ≡ Some o
    → q o ≡ true → list_any q table ≡ true
found_passes p q [] o e passes = cc e
found_passes p q (x ∷ rest) o e passes = go (p x) e (λ h. found_passes p q rest o h passes)
  where
    go : (b : Bool) → cond b (Some x) (find p rest) ≡ Some o
        → (find p rest ≡ Some o → list_any q rest ≡ true) → (q x || list_any q rest) ≡ true
    go true h more = let is : x ≡ o = cc h in or_left (q x) (list_any q rest) (ap q is ∙ passes)
    go false h more = or_right (q x) (list_any q rest) (more h)

-- an option that the table gives under a name is in it
pub flag_there : (table : List Opt) (n : Text) → opt_of table n ≡ Some (flag n)
    → has_flag n table ≡ true
flag_there table n e =
    found_passes (λ o. bytes_eq (opt_name o) n) (is_flag n) table (flag n) e (bytes_same n)

pub valued_there : (table : List Opt) (n : Text) (q : Bool) → opt_of table n ≡ Some (valued n q)
    → has_valued n table ≡ true
valued_there table n q e =
    found_passes (λ o. bytes_eq (opt_name o) n) (is_valued n) table (valued n q) e (bytes_same n)

pub no_flag : (table : List Opt) (m n : Text) → bytes_eq m n ≡ true → opt_of table m ≡ Some (flag m)
    → has_flag n table ≡ false → ⊥
no_flag table m n e f none =
    let there : has_flag n table ≡ true =
    ap (λ t. has_flag t table) (sym (same_bytes m n e)) ∙ flag_there table m f in
    true≢false (sym there ∙ none)

pub no_valued : (table : List Opt) (m n : Text) (q : Bool) → bytes_eq m n ≡ true
    → opt_of table m ≡ Some (valued m q) → has_valued n table ≡ false → ⊥
no_valued table m n q e f none =
    let there : has_valued n table ≡ true =
    ap (λ t. has_valued t table) (sym (same_bytes m n e)) ∙ valued_there table m q f in
    true≢false (sym there ∙ none)

abbrev first_at : Option Row → Option Text
first_at = option_and_then (λ (r : Row). slice_get r.values 0)

value_step : (us : List Use) (n v : Text) (r : Row) → slice_get r.values 0 ≡ Some v → (b : Bool)
    → first_at (row_at n (rows us)) ≡ value_in n us
    → first_at (cond b (Some r) (row_at n (rows us))) ≡ cond b (Some v) (value_in n us)
value_step us n v r has true rest = has
value_step us n v r has false rest = rest

value_rows : (table : List Opt) (us : List Use) (n : Text) → AllByRecursion (Fits table) us
    → has_flag n table ≡ false → first_at (row_at n (rows us)) ≡ value_in n us
value_rows table [] n fit none = refl
value_rows table (alone m ∷ us) n fit none =
    go (bytes_eq m n) refl (value_rows table us n fit.1 none)
  where
    go : (b : Bool) → bytes_eq m n ≡ b → first_at (row_at n (rows us)) ≡ value_in n us
        → first_at (cond b (Some (row_for (alone m))) (row_at n (rows us)))
        ≡ cond b None (value_in n us)
    go true e rest = absurd (no_flag table m n e fit.0 none)
    go false e rest = rest
value_rows table (joined m v ∷ us) n fit none =
    value_step us n v (row_for (joined m v)) refl (bytes_eq m n) (value_rows table us n fit.1 none)
value_rows table (apart m v ∷ us) n fit none =
    value_step us n v (row_for (apart m v)) refl (bytes_eq m n) (value_rows table us n fit.1 none)

abbrev text_at : Option Row → Option Text
text_at = option_and_then row_text

-- a use with a value is that of no flag
flag_step : (table : List Opt) (us : List Use) (m n : Text) (q : Bool) (r : Row)
    → opt_of table m ≡ Some (valued m q) → has_valued n table ≡ false → (b : Bool)
    → bytes_eq m n ≡ b → (b || is_used n us) ≡ true
    → (is_used n us ≡ true → text_at (row_at n (rows us)) ≡ Some (codes "true"))
    → text_at (cond b (Some r) (row_at n (rows us))) ≡ Some (codes "true")
flag_step table us m n q r found none true is h rest =
    absurd (no_valued table m n q is found none)
flag_step table us m n q r found none false is h rest = rest h

-- a flag that stands has `true`
flag_rows : (table : List Opt) (us : List Use) (n : Text) → AllByRecursion (Fits table) us
    → has_valued n table ≡ false → is_used n us ≡ true
    → text_at (row_at n (rows us)) ≡ Some (codes "true")
flag_rows table [] n fit none e = absurd (true≢false (sym e))
flag_rows table (alone m ∷ us) n fit none e =
    go (bytes_eq m n) e (flag_rows table us n fit.1 none)
  where
    go : (b : Bool) → (b || is_used n us) ≡ true
        → (is_used n us ≡ true → text_at (row_at n (rows us)) ≡ Some (codes "true"))
        → text_at (cond b (Some (row_for (alone m))) (row_at n (rows us))) ≡ Some (codes "true")
    go true h rest = refl
    go false h rest = rest h
flag_rows table (joined m v ∷ us) n fit none e =
    flag_step table us m n fit.0.0 (row_for (joined m v)) fit.0.1 none (bytes_eq m n) refl e
    (flag_rows table us n fit.1 none)
flag_rows table (apart m v ∷ us) n fit none e =
    flag_step table us m n fit.0.0 (row_for (apart m v)) fit.0.1 none (bytes_eq m n) refl e
    (flag_rows table us n fit.1 none)

-- ---- what the rows hold

no_row : (o : Option Row) → is_some o ≡ false → o ≡ None
no_row None e = refl
no_row (Some r) e = absurd (true≢false e)

pub has_rows : (table : List Opt) (uses : List Use) → AllByRecursion (Fits table) uses
    → HasRows table uses (end_rows table uses)
has_rows table uses fit = record {
  values = λ n none. ap first_at (row_other n table (rows uses) none)
      ∙ value_rows table uses n fit none;
  flags = λ n none. by_use n none (is_used n uses) refl;
}
  where
    by_table : (n : Text) → is_used n uses ≡ false → (b : Bool) → has_flag n table ≡ b
        → FlagRow false (one_of n (end_rows table uses))
    by_table n e true there =
        inl (ap text_at (row_default n table (rows uses) (has_row_is n uses ∙ e) there))
    by_table n e false there =
        let none = no_row (row_at n (rows uses))
        (sym (has_row_some n (rows uses)) ∙ has_row_is n uses ∙ e) in
        inr (ap text_at (row_other n table (rows uses) there ∙ none))

    by_use : (n : Text) → has_valued n table ≡ false → (b : Bool) → is_used n uses ≡ b
        → FlagRow (is_used n uses) (one_of n (end_rows table uses))
    by_use n none true e =
        subst (λ (b : Bool). FlagRow b (one_of n (end_rows table uses))) (sym e)
        (ap text_at (row_kept n table (rows uses) (has_row_is n uses ∙ e))
        ∙ flag_rows table uses n fit none e)
    by_use n none false e =
        subst (λ (b : Bool). FlagRow b (one_of n (end_rows table uses))) (sym e)
        (by_table n e (has_flag n table) refl)
