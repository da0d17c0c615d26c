-- One word more, at a place between two uses.
use Rattle.std.proofs.Common.{◌≡◌, ◌≢◌, ◌∙◌, ◌==◌, ℕ, Bool, cond, true, false, refl, sym, ap, ap₂, subst, List, [], ◌∷◌, ◌++◌, Option, Some, None, codes, ne_eqb}
use Rattle.std.specs.List.{before_first, after_first}
use Rattle.std.specs.Option.{option_map}
use Rattle.std.specs.Str.{bytes_eq}
use Rattle.std.proofs.lemmas.List.{map-append}
use Rattle.clap.specs.Lexer.{name_and_value, has_byte}
use Rattle.clap.specs.Kinds.{Kinds}
use Rattle.clap.specs.Walk.{Held, Row, Rule, arg_by_long, has_row, walk_from, walked, used}
use Rattle.clap.specs.Faults.{turn_fault}
use Rattle.clap.specs.declared.builder.value_parser.ValueParser.TheVariants as vp
use Rattle.med_words.specs.Grammar.{Text, Opt, valued, flag, Use, alone, joined, apart, opt_name, opt_of, is_used}
use Rattle.med_base.proofs.Bools.{same_bytes}
use Rattle.med_words.proofs.Rows.{rules, rule_for, value_rule, flag_rule, by_long, rows, row_for, row_with, has_row_is, used_value, used_flag}
use Rattle.med_words.proofs.Steps.{or_else_nil, long_turn, long_walk, turn_long, walk_long, here}
use Rattle.med_words.proofs.Names.{alone_text, cut_at_byte}
use Rattle.clap.specs.Walk.{arg_by_index}
use Rattle.clap.specs.Faults.{long_fault}
use Rattle.med_words.proofs.Level as level

-- the option that is found has the name
pub opt_is : (table : List Opt) (n : Text) (o : Opt) → opt_of table n ≡ Some o → opt_name o ≡ n
opt_is [] n o e = cc e
opt_is (p ∷ rest) n o e = go (bytes_eq (opt_name p) n) refl e (opt_is rest n o)
  where
    go : (b : Bool) → bytes_eq (opt_name p) n ≡ b → cond b (Some p) (opt_of rest n) ≡ Some o
        → (opt_of rest n ≡ Some o → opt_name o ≡ n) → opt_name o ≡ n
    go true same h more = let is : p ≡ o = cc h in
        subst (λ (x : Opt). opt_name x ≡ n) is (same_bytes (opt_name p) n same)
    go false same h more = more h

-- what follows the hyphens is a name, or a name, `=` and a value
pub data Parts (rest : Text) : Type 0 where
  a_name : (e : name_and_value rest ≡ (rest, None)) → Parts rest
  a_value : (n v : Text) (is : rest ≡ n ++ 61 ∷ v) (e : name_and_value rest ≡ (n, Some v)) (at : v
      ≡ after_first (λ x. x == 61) rest) (has : has_byte 61 rest ≡ true) → Parts rest

pub name_or_value : (rest : Text) → Parts rest
name_or_value rest = go (has_byte 61 rest) refl
  where
    go : (b : Bool) → has_byte 61 rest ≡ b → Parts rest
    go true e = a_value (before_first (λ x. x == 61) rest) (after_first (λ x. x == 61) rest)
        (cut_at_byte 61 rest e)
        (ap (λ (b : Bool). (
          before_first (λ x. x == 61) rest,
          cond b (Some (after_first (λ x. x == 61) rest)) None,
        )) e) refl e
    go false e = a_name (alone_text rest e)

-- no positional
no_index : (table : List Opt) → arg_by_index (rules table) 1 ≡ None
no_index [] = refl
no_index (valued n q ∷ rest) = no_index rest
no_index (flag n ∷ rest) = no_index rest

-- ---- one word more, at a place between two uses

module _ (name : Text) (table : List Opt) where
  abbrev rs : List Rule
  rs = rules table

  abbrev settled : Held → List Row
  settled = level.settled_at name table

  abbrev fault : Held → Kinds
  fault = level.fault_at name table

  -- the rows are those of the uses so far, where no fault waits
  abbrev pub Stands : Held → List Use → Type 0
  Stands h done = fault h ≡ [] → settled h ≡ rows done

  pub fresh : (n : Text) (done : List Use) (h : Held) → settled h ≡ rows done
      → has_row n (settled h) ≡ false → is_used n done ≡ false
  fresh n done h is e = sym (has_row_is n done) ∙ ap (has_row n) (sym is) ∙ e

  pub unfresh : (n : Text) (done : List Use) (h : Held) → settled h ≡ rows done
      → is_used n done ≡ false → has_row n (settled h) ≡ false
  unfresh n done h is e = ap (has_row n) is ∙ has_row_is n done ∙ e

  pub more_rows : (done : List Use) (u : Use) → rows done ++ row_for u ∷ [] ≡ rows (done ++ u ∷ [])
  more_rows done u = sym (map-append row_for done (u ∷ []))

  pub after_joined : (n v : Text) (q : Bool) (h : Held) (done : List Use) → settled h ≡ rows done
      → has_row n (settled h) ≡ false
      → used (value_rule n q) (v ∷ []) (settled h) ≡ rows (done ++ joined n v ∷ [])
  after_joined n v q h done is e = used_value n v q (settled h) e
      ∙ ap (λ xs. xs ++ row_with n vp.String (v ∷ []) ∷ []) is ∙ more_rows done (joined n v)

  pub after_apart : (n v : Text) (q : Bool) (h : Held) (done : List Use) → settled h ≡ rows done
      → has_row n (settled h) ≡ false
      → used (value_rule n q) (v ∷ []) (settled h) ≡ rows (done ++ apart n v ∷ [])
  after_apart n v q h done is e = used_value n v q (settled h) e
      ∙ ap (λ xs. xs ++ row_with n vp.String (v ∷ []) ∷ []) is ∙ more_rows done (apart n v)

  pub after_alone : (n : Text) (h : Held) (done : List Use) → settled h ≡ rows done
      → has_row n (settled h) ≡ false
      → used (flag_rule n) [] (settled h) ≡ rows (done ++ alone n ∷ [])
  after_alone n h done is e = used_flag n (settled h) e
      ∙ ap (λ xs. xs ++ row_with n vp.Bool (codes "true" ∷ []) ∷ []) is ∙ more_rows done (alone n)

  -- a word of two hyphens and more does what its option says
  pub turn_at : (h : Held) (z : ℕ) (zs n : Text) (v : Option Text) (o : Option Opt)
      → name_and_value (z ∷ zs) ≡ (n, v) → opt_of table n ≡ o
      → turn_fault (here name rs) [] (walk_from h) (45 ∷ 45 ∷ z ∷ zs)
      ≡ long_turn name rs (option_map rule_for o) v (45 ∷ 45 ∷ z ∷ zs) h
  turn_at h z zs n v o e f = turn_long name rs h z zs
      ∙ ap₂ (λ found w. long_turn name rs found w (45 ∷ 45 ∷ z ∷ zs) h)
      (ap (λ p. arg_by_long rs p.0) e ∙ by_long table n ∙ ap (option_map rule_for) f)
      (ap (λ p. p.1) e)

  pub walk_at : (h : Held) (z : ℕ) (zs n : Text) (v : Option Text) (o : Option Opt)
      → name_and_value (z ∷ zs) ≡ (n, v) → opt_of table n ≡ o
      → walked rs [] (walk_from h) (45 ∷ 45 ∷ z ∷ zs)
      ≡ long_walk name rs (option_map rule_for o) v (45 ∷ 45 ∷ z ∷ zs) h
  walk_at h z zs n v o e f = walk_long name rs h z zs
      ∙ ap₂ (λ found w. long_walk name rs found w (45 ∷ 45 ∷ z ∷ zs) h)
      (ap (λ p. arg_by_long rs p.0) e ∙ by_long table n ∙ ap (option_map rule_for) f)
      (ap (λ p. p.1) e)

  -- a word without a hyphen is refused
  pub plain_turn : (h : Held) (x : ℕ) (xs : Text) → x ≢ 45
      → turn_fault (here name rs) [] (walk_from h) (x ∷ xs) ≡ [] → ⊥
  plain_turn h x xs ne e =
      let s : Rattle.clap.specs.Lexer.short_of (x ∷ xs) ≡ None = rw (ne_eqb x 45 ne) refl in
      cc (rw (ne_eqb x 45 ne, s, no_index table) at e)

  -- what waits for a value takes no word with hyphens
  pub waiting_long : (n : Text) (q : Bool) (h : Held) (z : ℕ) (zs : Text)
      → opt_of table n ≡ Some (valued n q)
      → turn_fault (here name rs) [] (level.waits name table n h) (45 ∷ 45 ∷ z ∷ zs) ≡ []
      → ⊥
  waiting_long n q h z zs e none = go (opt_of table (name_and_value (z ∷ zs)).0)
      (name_and_value (z ∷ zs)).1
      (ap (λ found. long_fault rs false found (name_and_value (z ∷ zs)).1
      (level.waits name table n h).held) (sym (by_long table (name_and_value (z ∷ zs)).0))
      ∙ (or_else_nil _ _ none).0)
    where
      full : fault (level.waits name table n h).held ≡ [] → ⊥
      full f = cc (sym (level.waiting_fault name table n q h e) ∙ f)

      go : (o : Option Opt) (v : Option Text) → long_fault rs false (option_map rule_for o) v
          (level.waits name table n h).held ≡ [] → ⊥
      go None v f = cc f
      go (Some (valued m r)) None f = full f
      go (Some (valued m r)) (Some v) f = full (or_else_nil _ _ f).0
      go (Some (flag m)) None f = full (or_else_nil _ _ f).0
      go (Some (flag m)) (Some v) f = cc f
