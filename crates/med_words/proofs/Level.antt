-- The walk over the words of a level, against the uses that they spell.
use Rattle.std.proofs.Common.{◌≡◌, ◌≢◌, ◌∙◌, ◌&&◌, ℕ, Bool, cond, true, false, not, refl, ap, List, [], ◌∷◌, Some, None, ne_eqb}
use Rattle.std.specs.Option.{option_map}
use Rattle.clap.specs.Lexer.{short_of}
use Rattle.clap.specs.Kinds.{Kinds, or_else}
use Rattle.clap.specs.Walk.{Held, Walk, Row, Rule, arg_by_id, arg_by_long, has_row, option, settled, walk_from, walked, used}
use Rattle.clap.specs.Faults.{settle_fault, turn_fault}
use Rattle.clap.specs.declared.error.kind.ErrorKind.{ErrorKind}
use Rattle.clap.specs.declared.error.kind.ErrorKind.TheVariants as kind
use Rattle.med_words.specs.Grammar.{Text, Opt, valued, opt_of}
use Rattle.med_base.proofs.Bools.{bytes_same}
use Rattle.med_words.proofs.Rows.{rules, rule_for, value_rule, flag_rule, by_long, by_id}
use Rattle.med_words.proofs.Steps.{or_else_nil, or_else_join, long_turn, long_walk, here}

no_repeat : (b : Bool) (k : ErrorKind) → or_else (cond (b && not false) (k ∷ []) []) [] ≡ []
    → b ≡ false
no_repeat true k e = cc e
no_repeat false k e = refl

once_ok : (b : Bool) (k : ErrorKind) → b ≡ false
    → or_else (cond (b && not false) (k ∷ []) []) [] ≡ []
once_ok b k e = rw e refl

module _ (name : Text) (table : List Opt) where
  abbrev pub rs : List Rule
  rs = rules table

  -- the rows, once what waits is used, and the fault of using it
  abbrev pub settled_at : Held → List Row
  settled_at h = (settled rs h).rows

  abbrev pub fault_at : Held → Kinds
  fault_at h = settle_fault rs false h

  pub found_long : (n m : Text) (o : Opt) → n ≡ m → opt_of table m ≡ Some o
      → arg_by_long rs n ≡ Some (rule_for o)
  found_long n m o same e = ap (arg_by_long rs) same ∙ by_long table m ∙ ap (option_map rule_for) e

  pub found_id : (n : Text) (o : Opt) → opt_of table n ≡ Some o → arg_by_id rs n ≡ Some (rule_for o)
  found_id n o e = by_id table n ∙ ap (option_map rule_for) e

  -- `--name=value`
  pub value_turn : (n v word : Text) (q : Bool) (h : Held)
      → long_turn name rs (Some (value_rule n q)) (Some v) word h ≡ []
      → (fault_at h ≡ []) × (has_row n (settled_at h) ≡ false)
  value_turn n v word q h e =
      let a = or_else_nil _ _ (or_else_nil _ _ e).0 in
      (a.0, no_repeat (has_row n (settled_at h)) kind.ArgumentConflict a.1)

  pub value_turn_ok : (n v word : Text) (q : Bool) (h : Held) → fault_at h ≡ []
      → has_row n (settled_at h) ≡ false → long_turn name rs (Some (value_rule n q)) (Some v) word h
      ≡ []
  value_turn_ok n v word q h f b = or_else_join _ _
      (or_else_join _ _ f (once_ok (has_row n (settled_at h)) kind.ArgumentConflict b)) refl

  -- `--name` of a flag
  pub flag_turn : (n word : Text) (h : Held)
      → long_turn name rs (Some (flag_rule n)) None word h ≡ []
      → (fault_at h ≡ []) × (has_row n (settled_at h) ≡ false)
  flag_turn n word h e =
      let a = or_else_nil _ _ (or_else_nil _ _ e).0 in
      (a.0, no_repeat (has_row n (settled_at h)) kind.ArgumentConflict a.1)

  pub flag_turn_ok : (n word : Text) (h : Held) → fault_at h ≡ [] → has_row n (settled_at h) ≡ false
      → long_turn name rs (Some (flag_rule n)) None word h ≡ []
  flag_turn_ok n word h f b = or_else_join _ _
      (or_else_join _ _ f (once_ok (has_row n (settled_at h)) kind.ArgumentConflict b)) refl

  -- `--name` of an option that waits for its value
  pub open_turn : (n word : Text) (q : Bool) (h : Held)
      → long_turn name rs (Some (value_rule n q)) None word h ≡ [] → fault_at h ≡ []
  open_turn n word q h e = (or_else_nil _ _ e).0

  pub open_turn_ok : (n word : Text) (q : Bool) (h : Held) → fault_at h ≡ []
      → long_turn name rs (Some (value_rule n q)) None word h ≡ []
  open_turn_ok n word q h f = or_else_join _ _ f refl

  abbrev pub waits : Text → Held → Walk
  waits n h = record {
    held = record { rows = settled_at h; pending = Some (n, []); skip = h.skip };
    waiting = option n;
    position = 1;
    is_trailing = false;
    stopped = None;
  }

  abbrev pub given : Text → Text → Held → Held
  given n v h = record { rows = settled_at h; pending = Some (n, v ∷ []); skip = h.skip }

  pub open_walk : (n word : Text) (q : Bool) (h : Held)
      → long_walk name rs (Some (value_rule n q)) None word h ≡ waits n h
  open_walk n word q h = refl

  -- what waits with no value is refused
  pub waiting_fault : (n : Text) (q : Bool) (h : Held) → opt_of table n ≡ Some (valued n q)
      → fault_at (waits n h).held ≡ kind.InvalidValue ∷ []
  waiting_fault n q h e = rw (found_id n (valued n q) e) refl

  -- with its value it is used
  pub given_fault : (n v : Text) (q : Bool) (h : Held) → opt_of table n ≡ Some (valued n q)
      → fault_at (given n v h) ≡ [] → has_row n (settled_at h) ≡ false
  given_fault n v q h e f = no_repeat (has_row n (settled_at h)) kind.ArgumentConflict
      (rw (found_id n (valued n q) e) at f)

  pub given_ok : (n v : Text) (q : Bool) (h : Held) → opt_of table n ≡ Some (valued n q)
      → has_row n (settled_at h) ≡ false → fault_at (given n v h) ≡ []
  given_ok n v q h e b = rw (found_id n (valued n q) e)
      (once_ok (has_row n (settled_at h)) kind.ArgumentConflict b)

  pub given_rows : (n v : Text) (q : Bool) (h : Held) → opt_of table n ≡ Some (valued n q)
      → settled_at (given n v h) ≡ used (value_rule n q) (v ∷ []) (settled_at h)
  given_rows n v q h e = rw (found_id n (valued n q) e) refl

  -- the value itself
  pub value_word : (n : Text) (h : Held) (x : ℕ) (xs : Text) → x ≢ 45
      → turn_fault (here name rs) [] (waits n h) (x ∷ xs) ≡ []
  value_word n h x xs ne = let s : short_of (x ∷ xs) ≡ None =
      rw (ne_eqb x 45 ne) refl in rw (ne_eqb x 45 ne, s) refl

  pub value_walk : (n : Text) (q : Bool) (h : Held) (x : ℕ) (xs : Text)
      → opt_of table n ≡ Some (valued n q) → x ≢ 45
      → walked rs [] (waits n h) (x ∷ xs) ≡ walk_from (given n (x ∷ xs) h)
  unfolding walked
  value_walk n q h x xs e ne = let s : short_of (x ∷ xs) ≡ None =
      rw (ne_eqb x 45 ne) refl in
      rw (ne_eqb x 45 ne, s, found_id n (valued n q) e, bytes_same n) refl
