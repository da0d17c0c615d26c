-- Options that are added to a command, one after the other.
use Rattle.std.proofs.Common.{◌≡◌, ◌∙◌, ◌<◌, ◌+◌, ℕ, List, [], ◌∷◌, map, take, length, get_or, sym, ap}
use Rattle.std.proofs.lemmas.List.{map_more, map-append}
use Rattle.clap.specs.Words.{with_rule}
use Rattle.med_words.specs.Built.{raw_rule, flat_app}
use Rattle.med_words.specs.Views.{opt_view}
use Rattle.med_words.specs.declared.table.Opt.{Opt as Entry}

pub more_options : (xs : List Entry) (i : ℕ) (d : Entry) → i < length xs
    → with_rule (flat_app (map opt_view (take i xs))) (raw_rule (opt_view (get_or xs i d)))
    ≡ flat_app (map opt_view (take (i + 1) xs))
more_options xs i d lt =
    sym (ap flat_app (map_more opt_view xs i d lt)
    ∙ ap (λ rs. record (flat_app []) { top = record ((flat_app []).top) { rules = rs } })
    (map-append raw_rule (map opt_view (take i xs)) (opt_view (get_or xs i d) ∷ [])))
