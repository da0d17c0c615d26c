-- Labels and places of the code, seen as those of the grammar.
use Rattle.std.specs.Prelude.{ℕ, List, map, option_map}
use Rattle.std.specs.Borrow.{Bor}
use Rattle.std.specs.Str.{str_to_ascii_lowercase}
use Rattle.med_ini.specs.Labels as grammar
use Rattle.med_ini.specs.declared.labels.Label.{Label}
use Rattle.med_ini.specs.declared.labels.Label.TheVariants.{Quiet, More, Header, Setting}
use Rattle.med_ini.specs.declared.names.Name.{Name}
use Rattle.med_ini.specs.declared.labels.Place.{Place}

-- keys are borrowed as they are spelt, and seen in lower case
abbrev pub label_view : Label → grammar.Label
label_view Quiet = grammar.quiet
label_view (More text) = grammar.more text.now
label_view (Header name) = grammar.header name.now
label_view (Setting key value) =
    grammar.option (str_to_ascii_lowercase key.now) value.now

abbrev pub named_view : Name → grammar.Named
named_view n = record { section = n.section.now; key = str_to_ascii_lowercase n.key.now }

-- the sets have the headers and the options in order
abbrev pub place_view : Place → grammar.Place
place_view p = record {
  section = option_map (λ (s : Bor (List ℕ)). s.now) p.section;
  in_option = p.in_option;
  level = p.level;
  headers = map (λ (s : Bor (List ℕ)). s.now) p.headers.keys;
  options = map named_view p.options.keys;
}
