-- What the rows of a line say is what its uses say.
use Rattle.std.proofs.Common.{◌≡◌, Bool, cond, true, false, not, refl, subst, List, [], ◌∷◌, Some, codes}
use Rattle.std.specs.List.{find, list_all}
use Rattle.std.specs.Option.{option_map}
use Rattle.std.specs.Str.{bytes_eq}
use Rattle.std.proofs.lemmas.Bool.{and_parts, not-true}
use Rattle.clap.specs.Walk.{Row, first_of, one_of}
use Rattle.med_words.specs.Grammar.{Text, Opt, Use, Row as Command, Commands, options_of, is_used, value_in}
use Rattle.med_words.specs.Matched.{HasRows, FlagRow, has_flag, has_valued, main_rows, own_rows}
use Rattle.med_words.specs.Fields.{fields_of, main_fields}
use Rattle.med_words.specs.Said.{said_by}
use Rattle.med_words.specs.Tables.{main_options, commands}

-- what holds of each table holds of that of a command word
pub of_each : (p : List Opt → Bool) (cs : Commands) → list_all (λ (c : Command). p c.1) cs ≡ true
    → (w : Text) (t : List Opt) → options_of cs w ≡ Some t → p t ≡ true
of_each p [] all w t e = cc e
of_each p (c ∷ cs) all w t e =
    let h = and_parts (p c.1) (list_all (λ (d : Command). p d.1) cs) all in
    go (bytes_eq c.0 w) h.0 e (of_each p cs h.1 w t)
  where
    go : (b : Bool) → p c.1 ≡ true
        → option_map (λ (d : Command). d.1)
        (cond b (Some c) (find (λ (d : Command). bytes_eq d.0 w) cs)) ≡ Some t
        → (options_of cs w ≡ Some t → p t ≡ true) → p t ≡ true
    go true h found more = let same : c.1 ≡ t =
        cc found in subst (λ (u : List Opt). p u ≡ true) same h
    go false h found more = more found

-- no command has a flag of that name
abbrev is_never_flag : Text → Bool
is_never_flag n = list_all (λ (c : Command). not (has_flag n c.1)) commands

-- no command has an option with a value of that name
abbrev is_never_valued : Text → Bool
is_never_valued n = list_all (λ (c : Command). not (has_valued n c.1)) commands

pub main_said : (uses : List Use) (rows : List Row) → HasRows main_options uses rows
    → main_rows rows ≡ main_fields uses
main_said uses rows h =
    rw (
      h.values (codes "config-file") refl,
      h.values (codes "bucket-name") refl,
      h.values (codes "prefix") refl,
      h.values (codes "fqdn") refl,
    ) refl

module _ (w : Text) (t : List Opt) (is : options_of commands w ≡ Some t) (uses : List Use)
    (rows : List Row) (h : HasRows t uses rows) where
  value : (n : Text) → is_never_flag n ≡ true → first_of n rows ≡ value_in n uses
  value n e = h.values n
      (not-true (has_flag n t) (of_each (λ u. not (has_flag n u)) commands e w t is))

  pub flag_row : (n : Text) → is_never_valued n ≡ true
      → FlagRow (is_used n uses) (one_of n rows)
  flag_row n e = h.flags n
      (not-true (has_valued n t) (of_each (λ u. not (has_valued n u)) commands e w t is))

  pub own_said : own_rows rows (is_used (codes "all-nodes") uses) (is_used (codes "show-all") uses)
      ≡ fields_of (said_by uses)
  own_said =
      rw (
        value (codes "backup-name") refl,
        value (codes "mode") refl,
        value (codes "workers") refl,
        value (codes "rounds") refl,
        value (codes "download-destination") refl,
        value (codes "host-list") refl,
        value (codes "jobs-file") refl,
      ) refl
