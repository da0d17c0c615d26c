-- The entries of a labelled text.
use Rattle.std.specs.Prelude.{ℕ, List, [], ◌∷◌}
use Rattle.std.specs.List.{join_with_byte}
use Rattle.med_ini.specs.Entries.{Entry}
use Rattle.med_ini.specs.Labels.{Label, quiet, more, header, option}
use Rattle.med_ini.specs.Lines.{Line, without_end}

-- the further lines of a value, up to the next header or option
abbrev pub further : List Label → List Line
further [] = []
further (quiet ∷ labels) = further labels
further (more text ∷ labels) = text ∷ further labels
further (header name ∷ labels) = []
further (option key value ∷ labels) = []

-- a value: its first line and the further ones, joined by line feeds, without the white space and
-- the line feeds at its end
abbrev pub whole_value : Line → List Label → List ℕ
whole_value value labels = without_end (join_with_byte 10 (value ∷ further labels))

-- the options of a section and of those behind it, each with its value
abbrev pub entries_in : Line → List Label → List Entry
entries_in section [] = []
entries_in section (quiet ∷ labels) = entries_in section labels
entries_in section (more text ∷ labels) = entries_in section labels
entries_in section (header name ∷ labels) = entries_in name labels
entries_in section (option key value ∷ labels) =
    record { section = section; key = key; value = whole_value value labels }
    ∷ entries_in section labels

-- the entries of a text with these labels; no option stands before the first header
abbrev pub document : List Label → List Entry
document labels = entries_in [] labels
