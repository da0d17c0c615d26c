use Rattle.std.proofs.Common.{◌≡◌, take}
use Rattle.med_mem.specs.Objects.{pairs}
use Rattle.med_mem.proofs.object.copy_objects.Given as goal

abbrev pub invariant-loop-object : goal.invariant-loop-object
invariant-loop-object l = pairs l.copy.items ≡ pairs (take l.object-index l.objects)
