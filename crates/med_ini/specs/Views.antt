-- Values of the code, seen as those of the definitions.
use Rattle.std.specs.Prelude.{ℕ, List, Option, option_map, string_bytes}
use Rattle.std.specs.Borrow.{Bor}
use Rattle.med_ini.specs.Entries.{Entry}
use Rattle.med_ini.specs.declared.ini.Setting.{Setting}

-- a setting as an entry
abbrev pub entry_view : Setting → Entry
entry_view s = record {
  section = string_bytes s.section;
  key = string_bytes s.key;
  value = string_bytes s.value;
}

-- the text that is borrowed, if one is
abbrev pub text_in : Option (Bor (List ℕ)) → Option (List ℕ)
text_in o = option_map (λ (t : Bor (List ℕ)). t.now) o
