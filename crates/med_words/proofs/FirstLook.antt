-- The words of a line pass the first look.
use Rattle.std.proofs.Common.{◌≡◌, ◌∙◌, ◌<◌, true≢false, refl, sym, subst, List, [], ◌∷◌, ◌++◌, length, Some}
use Rattle.std.specs.List.{flat_map, AllByRecursion}
use Rattle.clap.proofs.CutLemmas.{after_first-at}
use Rattle.med_words.specs.Grammar.{Text, Opt, Use, alone, joined, apart, spelled, Fits, Commands, options_of, IsLine}
use Rattle.med_words.specs.WellFormed.{IsWellFormed}
use Rattle.med_base.proofs.Lists.{all_append}
use Rattle.med_words.proofs.Rows.{IsGoodName}
use Rattle.med_words.proofs.Names.{lacks_byte}
use Rattle.med_words.proofs.Exact.{IsTable}

well_formed_name : (n : Text) → IsGoodName n → IsWellFormed (45 ∷ 45 ∷ n)
well_formed_name [] g e = absurd g
well_formed_name (z ∷ zs) g e = (refl, λ h. absurd (true≢false (sym h ∙ g)))

well_formed_value : (n v : Text) → IsGoodName n → 0 < length v
    → IsWellFormed (45 ∷ 45 ∷ (n ++ 61 ∷ v))
well_formed_value [] v g long e = absurd g
well_formed_value (z ∷ zs) v g long e = (
  refl,
  λ h. subst (λ (t : Text). 0 < length t)
      (sym (after_first-at 61 (z ∷ zs) v (lacks_byte 61 (z ∷ zs) g))) long,
)

well_formed_use : (table : List Opt) → IsTable table → (u : Use) → Fits table u
    → AllByRecursion IsWellFormed (spelled u)
well_formed_use table good (alone n) fit = (well_formed_name n (good.names n _ fit), tt)
well_formed_use table good (joined n v) fit = (
  well_formed_value n v (good.names n _ fit.1) fit.2,
  tt,
)
well_formed_use table good (apart n []) fit = absurd fit.2
well_formed_use table good (apart n (x ∷ xs)) fit =
    (well_formed_name n (good.names n _ fit.1), (λ e. absurd (fit.2 e), tt))

well_formed_uses : (table : List Opt) → IsTable table → (us : List Use)
    → AllByRecursion (Fits table) us
    → AllByRecursion IsWellFormed (flat_map spelled us)
well_formed_uses table good [] fit = tt
well_formed_uses table good (u ∷ us) fit = all_append IsWellFormed (spelled u) (flat_map spelled us)
    (well_formed_use table good u fit.0) (well_formed_uses table good us fit.1)

pub well_formed_line : (top : List Opt) (commands : Commands) → IsTable top
    → ((w : Text) (t : List Opt) → options_of commands w ≡ Some t → IsTable t)
    → ((w : Text) (t : List Opt) → options_of commands w ≡ Some t → IsWellFormed w)
    → (words : List Text) (main : List Use) (word : Text) (own : List Use)
    → IsLine top commands words main word own → AllByRecursion IsWellFormed words
well_formed_line top commands good each plain words main word own s =
    subst (AllByRecursion IsWellFormed) (sym s.words_are)
    (all_append IsWellFormed (flat_map spelled main) (word ∷ flat_map spelled own)
    (well_formed_uses top good main s.main_fit) (
      plain word s.options s.command_is,
      well_formed_uses s.options
          (each word s.options s.command_is) own s.own_fit,
    ))
