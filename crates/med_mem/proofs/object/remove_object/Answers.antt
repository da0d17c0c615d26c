use Rattle.std.proofs.Common.{◌∙◌, refl, ℕ, List, [], ◌∷◌, ◌++◌, ap}
use Rattle.std.proofs.lemmas.List.{map-append}
use Rattle.std.proofs.lemmas.Map.Lookups.{exact_bytes}
use Rattle.med_base.specs.Effects.{Removes}
use Rattle.med_mem.specs.Calls.{note_of}
use Rattle.med_mem.specs.Objects.{pairs, noted, compared}
use Rattle.med_mem.proofs.Places.{removed, absent}
use Rattle.med_mem.proofs.object.remove_object.Goals as goal

pub returns-in_ok-push-in-Ok-clause-removed : goal.returns-in_ok-push-in-Ok-clause-removed
returns-in_ok-push-in-Ok-clause-removed c =
    let there = rw (c.as_slice.ensures.value) at c.in-Ok.ensures.found in
    let out = c.remove-object.result in
    let path = c.args.path.now in
    let at_path = ap (compared path) c.remove-object.ensures.value ∙ there.here out in
    let path_is = exact_bytes out.path path at_path in
    let old = noted c.args.changes.now.items in (
      rw (c.in_ok-push-in-Ok.ensures.items, c.in_ok-reserve-in-Ok.ensures.items, map-append)
          (ap (λ (p : List ℕ). old ++ note_of c.args.call (Removes p) ∷ []) path_is),
      ap pairs c.remove-object.ensures.items ∙ removed _ _ _ there,
    )

pub returns-in-Err-clause-removed : goal.returns-in-Err-clause-removed
returns-in-Err-clause-removed c =
    let gap = rw (c.as_slice.ensures.value) at c.in-Err.ensures.gap in
    (refl, refl, absent _ _ _ gap)
