-- What one word does at a level with no subcommand.
use Rattle.std.proofs.Common.{◌≡◌, ℕ, false, refl, List, [], ◌∷◌, Option}
use Rattle.std.specs.List.{fold}
use Rattle.clap.specs.Lexer.{name_and_value}
use Rattle.clap.specs.Kinds.{Kinds, or_else}
use Rattle.clap.specs.Walk.{Held, Walk, Rule, after_flag, after_step, arg_by_long, idle, long_met, walk_from, walked}
use Rattle.clap.specs.Faults.{long_fault, settle_fault, step_fault, turn_fault, walk_fault}
use Rattle.clap.specs.Simple.{Shape}
use Rattle.med_words.specs.Grammar.{Text}
use Rattle.med_words.proofs.Rows.{leaf}

pub or_else_nil : (a b : Kinds) → or_else a b ≡ [] → (a ≡ []) × (b ≡ [])
or_else_nil [] b e = (refl, e)
or_else_nil (k ∷ ks) b e = absurd (nonempty k ks e)
  where
    nonempty : (x : _) (xs : Kinds) → x ∷ xs ≡ [] → ⊥
    nonempty x xs h = cc h

pub or_else_join : (a b : Kinds) → a ≡ [] → b ≡ [] → or_else a b ≡ []
or_else_join a b x y = rw x y

module _ (name : Text) (rs : List Rule) where
  abbrev pub here : Shape
  here = leaf name rs

  -- the faults of the words from a place on, and of what waits at their end
  abbrev pub faults : Walk → List Text → Kinds
  faults w words = or_else (walk_fault here [] w words)
      (settle_fault rs false (fold (walked rs []) w words).held)

  pub faults_end : (w : Walk) → faults w [] ≡ settle_fault rs false w.held
  unfolding walk_fault
  faults_end w = refl

  pub faults_step : (w : Walk) (word : Text) (rest : List Text) → faults w (word ∷ rest) ≡ []
      → (turn_fault here [] w word ≡ []) × (faults (walked rs [] w word) rest ≡ [])
  unfolding walk_fault
  faults_step w word rest e =
      let a = or_else_nil (or_else (turn_fault here [] w word)
      (walk_fault here [] (walked rs [] w word) rest))
      (settle_fault rs false (fold (walked rs [])
      (walked rs [] w word) rest).held) e in
      let b = or_else_nil (turn_fault here [] w word)
      (walk_fault here [] (walked rs [] w word) rest) a.0 in
      (b.0, or_else_join _ _ b.1 a.1)

  pub faults_join : (w : Walk) (word : Text) (rest : List Text)
      → turn_fault here [] w word ≡ [] → faults (walked rs [] w word) rest ≡ []
      → faults w (word ∷ rest) ≡ []
  unfolding walk_fault
  faults_join w word rest a b =
      let c = or_else_nil (walk_fault here [] (walked rs [] w word) rest)
      (settle_fault rs false (fold (walked rs [])
      (walked rs [] w word) rest).held) b in
      or_else_join _ _ (or_else_join _ _ a c.0) c.1

  -- a word with two hyphens and more
  abbrev pub long_turn : Option Rule → Option Text → Text → Held → Kinds
  long_turn found v word h = or_else (long_fault rs false found v h)
      (step_fault here 1 (after_flag rs idle word (long_met rs found v h).0
      (long_met rs found v h).1).0 (after_flag rs idle word (long_met rs found v h).0
      (long_met rs found v h).1).1)

  abbrev pub long_walk : Option Rule → Option Text → Text → Held → Walk
  long_walk found v word h = after_step rs word (walk_from h)
      (after_flag rs idle word (long_met rs found v h).0 (long_met rs found v h).1).0
      (after_flag rs idle word (long_met rs found v h).0 (long_met rs found v h).1).1

  pub turn_long : (h : Held) (x : ℕ) (xs : Text)
      → turn_fault here [] (walk_from h) (45 ∷ 45 ∷ x ∷ xs)
      ≡ long_turn (arg_by_long rs (name_and_value (x ∷ xs)).0) (name_and_value (x ∷ xs)).1
      (45 ∷ 45 ∷ x ∷ xs) h
  turn_long h x xs = refl

  pub walk_long : (h : Held) (x : ℕ) (xs : Text)
      → walked rs [] (walk_from h) (45 ∷ 45 ∷ x ∷ xs)
      ≡ long_walk (arg_by_long rs (name_and_value (x ∷ xs)).0) (name_and_value (x ∷ xs)).1
      (45 ∷ 45 ∷ x ∷ xs) h
  unfolding walked
  walk_long h x xs = refl
