-- Which values stand on a line, by its command word.
use Rattle.std.proofs.Common.{◌≡◌, ◌∙◌, ◌&&◌, ◌||◌, Bool, true, false, not, true≢false, refl, sym, ap, List, [], ◌∷◌, Option, Some, None, codes, filter, is_some, map}
use Rattle.std.specs.List.{list_any, AllByRecursion}
use Rattle.std.specs.Str.{bytes_eq}
use Rattle.std.proofs.lemmas.Bool.{and_parts, not-true}
use Rattle.med_words.specs.Grammar.{Text, Row, value_in}
use Rattle.med_words.specs.Matched.{has_flag, has_valued}
use Rattle.med_words.specs.Tables.{commands}
use Rattle.med_words.specs.Values.{given_or}
use Rattle.med_words.specs.Views.{HasLine}
use Rattle.med_words.specs.declared.line.Line.{Line}
use Rattle.med_words.proofs.OwnLemmas.{of_row, needs, needed_value, no_value}
use Rattle.med_base.proofs.Bools.{or_left, same_bytes}

-- the commands that take the name of a backup, and the others
abbrev takes_name : Row → Bool
takes_name c = has_valued (codes "backup-name") c.1

abbrev pub with_names : List Text
with_names = map (λ (c : Row). c.0) (filter takes_name commands)

abbrev pub without_names : List Text
without_names = map (λ (c : Row). c.0) (filter (λ c. not (takes_name c)) commands)

-- whether a command with the option is among these
abbrev takes_among : Text → List Text → Row → Bool
takes_among n ws c = not (has_valued n c.1) || list_any (bytes_eq c.0) ws

-- whether a command that doesn't need the option is among these
abbrev needs_or_among : Text → List Text → Row → Bool
needs_or_among n ws c = (needs n c.1 && not (has_flag n c.1)) || list_any (bytes_eq c.0) ws

none_among : (w : Text) (ws : List Text) → AllByRecursion (λ v. w ≡ v → ⊥) ws
    → list_any (bytes_eq w) ws ≡ false
none_among w [] h = refl
none_among w (v ∷ ws) h = go (bytes_eq w v) refl (none_among w ws h.1)
  where
    go : (b : Bool) → bytes_eq w v ≡ b → list_any (bytes_eq w) ws ≡ false
        → (b || list_any (bytes_eq w) ws) ≡ false
    go true e more = absurd (h.0 (same_bytes w v e))
    go false e more = more

read_some : {A : Type 0} (read : Text → Option A) (o : Option Text) (x : A)
    → given_or None read o ≡ Some x → is_some o ≡ true
read_some read None x e = cc e
read_some read (Some t) x e = refl

module _ (words : List Text) (l : Line) (h : HasLine words l) where
  value_of_needed : (n : Text)
      → (needs n h.line.options && not (has_flag n h.line.options)) ≡ true
      → is_some (value_in n h.own) ≡ true
  value_of_needed n e =
      let parts = and_parts (needs n h.line.options) (not (has_flag n h.line.options)) e in
      needed_value h.line.options h.own n h.line.own_fit h.line.own_required
      (not-true (has_flag n h.line.options) parts.1) parts.0

  -- a command to which a name of a backup is given is one of those that take it
  pub named : (name : Text) (read : Text → Option Text)
      → given_or None read (value_in (codes "backup-name") h.own) ≡ Some name
      → AllByRecursion (λ v. l.word.now ≡ v → ⊥) with_names → ⊥
  named name read e none =
      let n = codes "backup-name" in
      let row = of_row (takes_among n with_names) commands refl l.word.now h.line.options
      h.line.command_is in
      let lacks = not-true (has_valued n h.line.options)
      (or_left (not (has_valued n h.line.options)) _ row (none_among l.word.now with_names none)) in
      true≢false (sym (read_some read (value_in n h.own) name e)
      ∙ ap is_some (no_value h.line.options h.own n h.line.own_fit lacks))

  -- a command to which none is given is one of the others
  pub unnamed : value_in (codes "backup-name") h.own ≡ None
      → AllByRecursion (λ v. l.word.now ≡ v → ⊥) without_names → ⊥
  unnamed e none =
      let n = codes "backup-name" in
      let row = of_row (needs_or_among n without_names) commands refl l.word.now h.line.options
      h.line.command_is in
      let some = value_of_needed n
      (or_left _ _ row (none_among l.word.now without_names none)) in
      true≢false (sym some ∙ ap is_some e)
