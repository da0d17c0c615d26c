-- Which snapshots are open after one was closed.
use Rattle.std.proofs.Common.{◌≡◌, ◌++◌, ℕ, true, List, ◌∷◌, take, drop, refl, ap, cond}
use Rattle.med_base.proofs.Bools.{bytes_same}
use Rattle.med_outside.specs.Counts.{Tagged, SnapshotCounts, is_same, without_first, with_opened, with_closed, opened_once}

-- what is left where the first is taken out at i or behind it
abbrev pub without_from : ℕ → Tagged → List Tagged → List Tagged
without_from i of ts = take i ts ++ without_first of (drop i ts)

same_as_itself : (of : Tagged) → is_same of of ≡ true
same_as_itself of =
    rw (bytes_same of.root, bytes_same of.node, bytes_same of.tag) refl

-- one that was opened and closed again
pub closed_again : (of : Tagged) (counts : SnapshotCounts)
    → with_closed of (with_opened of counts) ≡ opened_once of counts
closed_again of counts =
    ap (λ b. record {
      opened = (with_opened of counts).opened;
      still_open = cond b counts.still_open (of ∷ without_first of counts.still_open);
      last = of;
    }) (same_as_itself of)
