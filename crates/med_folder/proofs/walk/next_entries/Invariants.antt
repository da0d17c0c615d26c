use Rattle.std.proofs.Common.{◌≤◌, length}
use Rattle.med_outside.specs.Pages.{shown}
use Rattle.med_folder.specs.Listing.{AreShown}
use Rattle.med_folder.proofs.walk.next_entries.Given as goal

-- what was found so far is shown, at most one entry a turn
abbrev pub invariant-files : goal.invariant-files
invariant-files g l =
    (length l.entries.items ≤ l.count)
    × AreShown l.listed.under.now (shown l.listed.after) l.entries.items
