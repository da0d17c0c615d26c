-- clap's matches of a table of options, and when it refuses.
use Rattle.std.proofs.Common.{◌≡◌, ◌∙◌, Bool, cond, true, false, refl, sym, ap, subst, arith, List, [], ◌∷◌, length, Option, Some, None, codes}
use Rattle.std.specs.List.{fold, AllByRecursion}
use Rattle.std.specs.Option.{is_some}
use Rattle.std.specs.Str.{bytes_eq}
use Rattle.clap.specs.Kinds.{Kinds, or_else}
use Rattle.clap.specs.Walk.{Held, Row, Rule, finished, with_default, settled, walk, walk_from, nothing_held}
use Rattle.clap.specs.Faults.{fault_of, built_fault, entered_fault, defaults_fault, check_fault, level_fault, walk_fault, settle_fault}
use Rattle.clap.specs.Simple.{App, built, entered, matches_of, names_of}
use Rattle.clap.specs.declared.error.kind.ErrorKind.TheVariants as kind
use Rattle.med_words.specs.Built.{flat_app}
use Rattle.med_words.specs.Matched.{IsUses}
use Rattle.clap.specs.declared.error.kind.ErrorKind.{ErrorKind}
use Rattle.med_words.specs.Grammar.{Text, Opt, Use, opt_name, opt_of}
use Rattle.med_words.specs.WellFormed.{IsWellFormed}
use Rattle.med_base.proofs.Bools.{same_bytes}
use Rattle.med_words.proofs.Rows.{IsGoodName, leaf, rules, rules_filled}
use Rattle.med_words.proofs.Steps.{or_else_nil, or_else_join, faults}
use Rattle.med_words.proofs.After.{defaults_none, end_rows, IsClear, met_from, met_to}
use Rattle.med_words.proofs.Sound.{sound}
use Rattle.med_words.proofs.Complete.{complete}

no_kind : (b : Bool) (k : ErrorKind) → cond b (k ∷ []) [] ≡ [] → b ≡ false
no_kind true k e = cc e
no_kind false k e = refl

-- a table that is read well: no flag has the name of an option with a value, and each name is one
pub record IsTable (table : List Opt) : Type 0 where
  pub clear : AllByRecursion (IsClear table []) table
  pub names : (n : Text) (o : Opt) → opt_of table n ≡ Some o → IsGoodName n

-- ---- one level

module _ (name : Text) (table : List Opt) (good : IsTable table) where
  abbrev rs : List Rule
  rs = rules table

  abbrev pub held_at : List Text → Held
  held_at words = (walk rs [] nothing_held words).held

  abbrev pub faults_of : List Text → Kinds
  faults_of words = level_fault (leaf name rs) [] nothing_held words false []

  pub record LevelRead (words : List Text) : Type 0 where
    pub uses : List Use
    pub spell : IsUses table words uses
    pub rows_are : finished rs (held_at words) ≡ end_rows table uses

  pub level_read : (words : List Text) → AllByRecursion IsWellFormed words → faults_of words ≡ []
      → LevelRead words
  level_read words passes l =
      let h : Held = held_at words in
      let a = or_else_nil (walk_fault (leaf name rs) [] (walk_from nothing_held) words)
      (or_else (settle_fault rs false h)
      (or_else (defaults_fault (settled rs h).rows rs)
      (check_fault (leaf name rs) (finished rs h) false))) l in
      let b = or_else_nil (settle_fault rs false h)
      (or_else (defaults_fault (settled rs h).rows rs)
      (check_fault (leaf name rs) (finished rs h) false)) a.1 in
      let c = or_else_nil (defaults_fault (settled rs h).rows rs)
      (check_fault (leaf name rs) (finished rs h) false) b.1 in
      let r = sound name table (length words) words (omega arith) nothing_held [] passes (λ _. refl)
      (or_else_join _ _ a.0 b.0) in
      let rows_end : finished rs h ≡ end_rows table r.uses =
      ap (λ (xs : List Row). fold with_default xs rs) r.end in
      let k = no_kind _ _ (ap (λ xs. check_fault (leaf name rs) xs false) (sym rows_end) ∙ c.1) in
      record {
        uses = r.uses;
        spell = record {
          words_are = r.words_are;
          fit = r.fit;
          once = r.once;
          required = met_from table r.uses table good.clear k;
        };
        rows_are = rows_end;
      }

  pub level_all : (uses : List Use) (words : List Text) → IsUses table words uses
      → faults_of words ≡ []
  level_all uses words s =
      let f = complete name table uses good.names nothing_held [] refl refl s.fit s.once in
      let g : faults name rs (walk_from nothing_held) words ≡ [] =
      ap (faults name rs (walk_from nothing_held)) s.words_are ∙ f.none in
      let a = or_else_nil (walk_fault (leaf name rs) [] (walk_from nothing_held) words)
      (settle_fault rs false (held_at words)) g in
      let rows_end : finished rs (held_at words) ≡ end_rows table uses =
      ap (λ (ws : List Text). finished rs (held_at ws)) s.words_are
      ∙ ap (λ (xs : List Row). fold with_default xs rs) f.end in
      let met : check_fault (leaf name rs) (finished rs (held_at words)) false ≡ [] =
      ap (λ xs. check_fault (leaf name rs) xs false) rows_end
      ∙ ap (λ (b : Bool). cond b (kind.MissingRequiredArgument ∷ []) [])
      (met_to table uses table good.clear s.required) in
      or_else_join _ _ a.0 (or_else_join _ _ a.1
      (or_else_join _ _ (defaults_none table (settled rs (held_at words)).rows) met))

  -- ---- clap's command of a table

  by_stop : (words : List Text) (o : Option (Text × List Text))
      → level_fault (leaf name rs) [] nothing_held words
      (is_some (entered (record { top = leaf name rs; subs = [] }) o))
      (entered_fault (record { top = leaf name rs; subs = [] }) o) ≡ faults_of words
  by_stop words None = refl
  by_stop words (Some p) = refl

abbrev pub built_app : List Opt → App
built_app table = record { top = leaf (codes "medusa") (rules table); subs = [] }

pub app_built : (table : List Opt) → built (flat_app table) ≡ built_app table
app_built table = ap (λ (rs : List Rule). record { top = leaf (codes "medusa") rs; subs = [] })
    (rules_filled 1 table)

pub app_fault : (table : List Opt) (good : IsTable table) (words : List Text)
    → fault_of (flat_app table) words ≡ faults_of (codes "medusa") table good words
app_fault table good words = ap (λ (a : App). built_fault a nothing_held words) (app_built table)
    ∙ by_stop (codes "medusa") table good words
    (walk (rules table) [] nothing_held words).stopped

pub app_rows : (table : List Opt) (good : IsTable table) (words : List Text)
    → matches_of (flat_app table) words
    ≡ finished (rules table) (held_at (codes "medusa") table good words)
app_rows table good words =
    ap (λ (a : App). finished a.top.rules (walk a.top.rules (names_of a) nothing_held words).held)
    (app_built table)

abbrev pub HasGoodName : Opt → Type 0
HasGoodName o = IsGoodName (opt_name o)

pub names_good : (t : List Opt) → AllByRecursion HasGoodName t → (n : Text) (o : Opt)
    → opt_of t n ≡ Some o → IsGoodName n
names_good [] g n o e = cc e
names_good (p ∷ rest) g n o e = go (bytes_eq (opt_name p) n) refl e (names_good rest g.1 n o)
  where
    go : (b : Bool) → bytes_eq (opt_name p) n ≡ b → cond b (Some p) (opt_of rest n) ≡ Some o
        → (opt_of rest n ≡ Some o → IsGoodName n) → IsGoodName n
    go true is h more = subst IsGoodName (same_bytes (opt_name p) n is) g.0
    go false is h more = more h
