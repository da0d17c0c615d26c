use Rattle.std.proofs.Common.{◌∙◌, ◌&&◌, ◌≡◌, ap, sym, rules, Bool, not, true, ℕ, List, map, codes}
use Rattle.std.specs.Borrow.{Bor}
use Rattle.std.specs.List.{list_any}
use Rattle.std.specs.Str.{bytes_eq}
use Rattle.med_ini.proofs.NameLemmas.{header_held}
use Rattle.med_ini.proofs.labels.is_seen.Goals as goal

pub returns-then-ne : goal.returns-then-ne
returns-then-ne c =
    let name = c.args.name.now in
    let names = map (λ (s : Bor (List ℕ)). s.now) c.args.place.now.headers.keys in
    let other : not (bytes_eq name (codes "DEFAULT")) ≡ true = search rules in
    c.contains.ensures ∙ header_held c.args.place.now.headers.keys name
    ∙ ap (λ (b : Bool). b && list_any (λ seen. bytes_eq seen name) names) (sym other)
