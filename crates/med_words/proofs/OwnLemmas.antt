-- Which values the options of a command word have.
use Rattle.std.proofs.Common.{◌≡◌, ◌∙◌, ◌&&◌, ◌||◌, Bool, cond, true, false, true≢false, refl, sym, ap, List, [], ◌∷◌, Option, Some, None, is_some}
use Rattle.std.specs.List.{find, list_all, list_any, AllByRecursion}
use Rattle.std.specs.Option.{option_map, is_none}
use Rattle.std.specs.Str.{bytes_eq}
use Rattle.std.proofs.lemmas.Bool.{and_parts}
use Rattle.med_words.specs.Grammar.{Text, Opt, valued, flag, Use, alone, joined, apart, Row, Commands, options_of, Fits, IsMet, is_used, value_in, opt_of}
use Rattle.med_words.specs.Matched.{has_flag, has_valued}
use Rattle.med_words.specs.Values.{given_or, fails}
use Rattle.med_words.proofs.RowsHeld.{no_flag, no_valued}
use Rattle.med_base.proofs.Bools.{same_bytes}

-- what holds of each row holds of that of a command word
pub of_row : (p : Row → Bool) (cs : Commands) → list_all p cs ≡ true → (w : Text) (t : List Opt)
    → options_of cs w ≡ Some t → p (w, t) ≡ true
of_row p [] all w t e = cc e
of_row p (c ∷ cs) all w t e =
    let h = and_parts (p c) (list_all p cs) all in
    go (bytes_eq c.0 w) refl h.0 e (of_row p cs h.1 w t)
  where
    go : (b : Bool) → bytes_eq c.0 w ≡ b → p c ≡ true
        → option_map (λ (d : Row). d.1)
        (cond b (Some c) (find (λ (d : Row). bytes_eq d.0 w) cs)) ≡ Some t
        → (options_of cs w ≡ Some t → p (w, t) ≡ true) → p (w, t) ≡ true
    go true at h found more =
        let word : c.0 ≡ w = same_bytes c.0 w at in
        let table : c.1 ≡ t = cc found in
        rw (sym word, sym table) h
    go false at h found more = more found

-- whether the table has a required option of that name
abbrev pub is_needed : Text → Opt → Bool
is_needed n (valued m q) = q && bytes_eq m n
is_needed n (flag m) = false

abbrev pub needs : Text → List Opt → Bool
needs n t = list_any (is_needed n) t

used_step : (us : List Use) (n v : Text) (b : Bool) → (b || is_used n us) ≡ true
    → (is_used n us ≡ true → is_some (value_in n us) ≡ true)
    → is_some (cond b (Some v) (value_in n us)) ≡ true
used_step us n v true h more = refl
used_step us n v false h more = more h

pub used_value : (t : List Opt) (us : List Use) (n : Text) → AllByRecursion (Fits t) us
    → has_flag n t ≡ false → is_used n us ≡ true → is_some (value_in n us) ≡ true
used_value t [] n fit none e = absurd (true≢false (sym e))
used_value t (alone m ∷ us) n fit none e =
    go (bytes_eq m n) refl e (used_value t us n fit.1 none)
  where
    go : (b : Bool) → bytes_eq m n ≡ b → (b || is_used n us) ≡ true
        → (is_used n us ≡ true → is_some (value_in n us) ≡ true)
        → is_some (cond b None (value_in n us)) ≡ true
    go true at h more = absurd (no_flag t m n at fit.0 none)
    go false at h more = more h
used_value t (joined m v ∷ us) n fit none e =
    used_step us n v (bytes_eq m n) e (used_value t us n fit.1 none)
used_value t (apart m v ∷ us) n fit none e =
    used_step us n v (bytes_eq m n) e (used_value t us n fit.1 none)

needed_is_used : (us : List Use) (t : List Opt) (n : Text) → AllByRecursion (IsMet us) t
    → needs n t ≡ true → is_used n us ≡ true
needed_is_used us [] n all e = absurd (true≢false (sym e))
needed_is_used us (valued m true ∷ t) n all e =
    go (bytes_eq m n) refl e (needed_is_used us t n all.1)
  where
    go : (b : Bool) → bytes_eq m n ≡ b → (b || needs n t) ≡ true
        → (needs n t ≡ true → is_used n us ≡ true) → is_used n us ≡ true
    go true at h more = ap (λ x. is_used x us) (sym (same_bytes m n at)) ∙ all.0
    go false at h more = more h
needed_is_used us (valued m false ∷ t) n all e = needed_is_used us t n all.1 e
needed_is_used us (flag m ∷ t) n all e = needed_is_used us t n all.1 e

-- a required option has a value
pub needed_value : (t : List Opt) (us : List Use) (n : Text) → AllByRecursion (Fits t) us
    → AllByRecursion (IsMet us) t → has_flag n t ≡ false → needs n t ≡ true
    → is_some (value_in n us) ≡ true
needed_value t us n fit all none e = used_value t us n fit none (needed_is_used us t n all e)

no_value_step : (t : List Opt) (us : List Use) (m n v : Text) (q : Bool)
    → opt_of t m ≡ Some (valued m q) → has_valued n t ≡ false → (b : Bool) → bytes_eq m n ≡ b
    → value_in n us ≡ None → cond b (Some v) (value_in n us) ≡ None
no_value_step t us m n v q found none true at more = absurd (no_valued t m n q at found none)
no_value_step t us m n v q found none false at more = more

-- an option that isn't in the table has no value
pub no_value : (t : List Opt) (us : List Use) (n : Text) → AllByRecursion (Fits t) us
    → has_valued n t ≡ false → value_in n us ≡ None
no_value t [] n fit none = refl
no_value t (alone m ∷ us) n fit none = go (bytes_eq m n) (no_value t us n fit.1 none)
  where
    go : (b : Bool) → value_in n us ≡ None → cond b None (value_in n us) ≡ None
    go true more = refl
    go false more = more
no_value t (joined m v ∷ us) n fit none =
    no_value_step t us m n v fit.0.0 fit.0.1 none (bytes_eq m n) refl (no_value t us n fit.1 none)
no_value t (apart m v ∷ us) n fit none =
    no_value_step t us m n v fit.0.0 fit.0.1 none (bytes_eq m n) refl (no_value t us n fit.1 none)

-- ---- values that are read

taken_none : {A : Type 0} (read : Text → Option A) (o : Option Text) → fails read o ≡ false
    → given_or None read o ≡ None → o ≡ None
taken_none read None f e = refl
taken_none read (Some t) f e = absurd (true≢false (sym (ap is_none e) ∙ f))

pub none_read : {A : Type 0} (read : Text → Option A) (o : Option Text) (v : Option A)
    → fails read o ≡ false → given_or None read o ≡ v → v ≡ None → o ≡ None
none_read read o v f e is = taken_none read o f (e ∙ is)

pub some_read : {A : Type 0} (read : Text → Option A) (o : Option Text) (v : Option A)
    → fails read o ≡ false → given_or None read o ≡ v → is_some o ≡ true → is_some v ≡ true
some_read read None v f e is = absurd (true≢false (sym is))
some_read read (Some t) None f e is = absurd (true≢false (sym (ap is_none e) ∙ f))
some_read read (Some t) (Some x) f e is = refl
