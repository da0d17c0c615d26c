use Rattle.std.proofs.Common.{◌≡◌, ◌++◌, List, suc, length, map, option_map}
use Rattle.std.specs.Option.{option_map_or}
use Rattle.med_base.specs.Cut.{pieces_left}
use Rattle.med_ini.specs.Alike.{IsLike}
use Rattle.med_ini.specs.LabelViews.{label_view, place_view}
use Rattle.med_ini.specs.Labels.{Place, Reads, start}
use Rattle.med_ini.specs.Lines.{Line, lines_of}
use Rattle.med_ini.proofs.reading.labels_of.Given as goal

-- the labels fit the lines before those that are left, and lead to a place like this one
abbrev pub invariant-lines : goal.invariant-lines
invariant-lines l = (done : List Line)
    × (lines_of l.text ≡ done ++ pieces_left 10 (option_map (λ s. s.now) l.rest))
    × (at : Place) × Reads start done (map label_view l.labels.items) at
    × IsLike at (place_view l.place)

abbrev pub decreases-lines : goal.decreases-lines
decreases-lines l = option_map_or (λ s. suc (length s.now)) l.rest 0
