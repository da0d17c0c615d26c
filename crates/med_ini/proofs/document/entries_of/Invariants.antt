use Rattle.std.proofs.Common.{◌≡◌, ◌++◌, map, length}
use Rattle.std.specs.Str.{IsUtf8}
use Rattle.med_ini.specs.Document.{document, entries_in}
use Rattle.med_ini.specs.LabelViews.{label_view}
use Rattle.med_ini.specs.Views.{entry_view}
use Rattle.med_ini.proofs.document.entries_of.Given as goal

-- the entries so far and those of the labels that are left are all
abbrev pub invariant-labels : goal.invariant-labels
invariant-labels l = record {
  same : map entry_view l.entries.items ++ entries_in l.section (map label_view l.left)
      ≡ document (map label_view l.labels);
  text : IsUtf8 l.section;
}

abbrev pub decreases-labels : goal.decreases-labels
decreases-labels l = length l.left
