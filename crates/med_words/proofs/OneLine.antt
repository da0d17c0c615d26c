-- Words are one line at most.
use Rattle.std.proofs.Common.{◌≡◌, ◌∙◌, ◌++◌, true, true≢false, refl, sym, ap, ap₂, subst, List, [], ◌∷◌, Option, Some}
use Rattle.std.specs.List.{flat_map, AllByRecursion}
use Rattle.clap.specs.Lexer.{name_and_value, has_byte}
use Rattle.clap.proofs.CutLemmas.{list_any-at}
use Rattle.med_words.specs.Grammar.{Text, Opt, Use, alone, joined, apart, spelled, opt_of, Fits, IsLine, options_of}
use Rattle.med_words.specs.Tables.{main_options, commands}
use Rattle.med_words.proofs.Rows.{IsGoodName}
use Rattle.med_words.proofs.Names.{joined_text}
use Rattle.med_words.proofs.AtWord.{no_equals, line_cut}
use Rattle.med_words.proofs.Exact.{IsTable}
use Rattle.med_words.proofs.TheTables.{main_table, own_table, table_of}

-- a name and a value joined to it have a `=`, and a name alone has none
has_equals : (n v : Text) → has_byte 61 (n ++ 61 ∷ v) ≡ true
has_equals n v = list_any-at 61 n v

not_joined : (n m v : Text) → IsGoodName n → n ≡ m ++ 61 ∷ v → ⊥
not_joined n m v g e =
    true≢false (sym (has_equals m v) ∙ ap (has_byte 61) (sym e) ∙ no_equals n g)

module _ (table : List Opt) (good : IsTable table) where
  -- the first words tell the use, and what is left
  one_use : (u w : Use) → Fits table u → Fits table w → (a b : List Text)
      → spelled u ++ a ≡ spelled w ++ b → (u ≡ w) × (a ≡ b)
  one_use (alone n) (alone m) f g a b e =
      let name : n ≡ m = cc e in (ap alone name, cc e)
  one_use (alone n) (joined m v) f g a b e =
      let same : n ≡ m ++ 61 ∷ v = cc e in absurd (not_joined n m v (good.names n _ f) same)
  one_use (alone n) (apart m v) f g a b e =
      let name : n ≡ m = cc e in absurd (cc (sym f ∙ ap (opt_of table) name ∙ g.1))
  one_use (joined n v) (alone m) f g a b e =
      let same : m ≡ n ++ 61 ∷ v = cc e in absurd (not_joined m n v (good.names m _ g) same)
  one_use (joined n v) (joined m w) f g a b e =
      let same : n ++ 61 ∷ v ≡ m ++ 61 ∷ w = cc e in
      let cut : ◌≡◌ {A = Text × Option Text} (n, Some v) (m, Some w) =
      sym (joined_text n v (no_equals n (good.names n _ f.1))) ∙ ap name_and_value same
      ∙ joined_text m w (no_equals m (good.names m _ g.1)) in
      let name : n ≡ m = ap (λ (x : Text × Option Text). x.0) cut in
      let some : ◌≡◌ {A = Option Text} (Some v) (Some w) =
      ap (λ (x : Text × Option Text). x.1) cut in
      let value : v ≡ w = cc some in
      (ap₂ joined name value, cc e)
  one_use (joined n v) (apart m w) f g a b e =
      let same : m ≡ n ++ 61 ∷ v = cc e in absurd (not_joined m n v (good.names m _ g.1) same)
  one_use (apart n v) (alone m) f g a b e =
      let name : n ≡ m = cc e in absurd (cc (sym f.1 ∙ ap (opt_of table) name ∙ g))
  one_use (apart n v) (joined m w) f g a b e =
      let same : n ≡ m ++ 61 ∷ w = cc e in absurd (not_joined n m w (good.names n _ f.1) same)
  one_use (apart n v) (apart m w) f g a b e =
      let name : n ≡ m = cc e in let value : v ≡ w = cc e in (ap₂ apart name value, cc e)

  no_end : (u : Use) (b : List Text) → [] ≡ spelled u ++ b → ⊥
  no_end (alone n) b e = cc e
  no_end (joined n v) b e = cc e
  no_end (apart n v) b e = cc e

  pub one_level : (us vs : List Use) → AllByRecursion (Fits table) us
      → AllByRecursion (Fits table) vs → flat_map spelled us ≡ flat_map spelled vs → us ≡ vs
  one_level [] [] f g e = refl
  one_level [] (v ∷ vs) f g e = absurd (no_end v (flat_map spelled vs) e)
  one_level (u ∷ us) [] f g e = absurd (no_end u (flat_map spelled us) (sym e))
  one_level (u ∷ us) (v ∷ vs) f g e =
      let first = one_use u v f.0 g.0 (flat_map spelled us) (flat_map spelled vs) e in
      ap₂ (λ (x : Use) (xs : List Use). x ∷ xs) first.0 (one_level us vs f.1 g.1 first.1)

pub one_line : (words : List Text) (m n : List Use) (v w : Text) (o p : List Use)
    → IsLine main_options commands words m v o → IsLine main_options commands words n w p
    → (m ≡ n) × (v ≡ w) × (o ≡ p)
one_line words m n v w o p k l =
    let a = line_cut words m o v k in
    let b = line_cut words n p w l in
    let ends : v ∷ flat_map spelled o ≡ w ∷ flat_map spelled p = sym a.1 ∙ b.1 in
    let word : v ≡ w = cc ends in
    let rest : flat_map spelled o ≡ flat_map spelled p = cc ends in
    let table : k.options ≡ l.options =
    cc (sym k.command_is ∙ ap (options_of commands) word ∙ l.command_is) in
    let fits = subst (λ (t : List Opt). AllByRecursion (Fits t) p) (sym table) l.own_fit in (
      one_level main_options (table_of main_options main_table) m n k.main_fit l.main_fit
          (sym a.0 ∙ b.0),
      word,
      one_level k.options (table_of k.options (own_table v k.options k.command_is)) o p k.own_fit
          fits rest,
    )
