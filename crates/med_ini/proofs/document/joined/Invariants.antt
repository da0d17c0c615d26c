use Rattle.std.proofs.Common.{◌≡◌, ◌∷◌, map, length, string_bytes}
use Rattle.std.specs.List.{join_with_byte}
use Rattle.med_ini.specs.Document.{further}
use Rattle.med_ini.specs.LabelViews.{label_view}
use Rattle.med_ini.proofs.document.joined.Given as goal

-- the text so far and the lines that are left are the whole
abbrev pub invariant-further : goal.invariant-further
invariant-further l = join_with_byte 10 (string_bytes l.text ∷ further (map label_view l.left))
    ≡ join_with_byte 10 (l.first ∷ further (map label_view l.labels))

abbrev pub decreases-further : goal.decreases-further
decreases-further l = length l.left
