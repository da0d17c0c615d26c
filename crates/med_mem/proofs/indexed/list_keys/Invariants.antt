use Rattle.std.proofs.Common.{◌≡◌, take, map}
use Rattle.med_outside.specs.Snapshot.{key_of_raw}
use Rattle.med_mem.specs.Snaps.{files_of, order_of}
use Rattle.med_mem.proofs.indexed.list_keys.Given as goal

abbrev pub invariant-loop-i : goal.invariant-loop-i
invariant-loop-i l = map key_of_raw l.keys.items ≡ order_of (files_of (take l.i l.files))
