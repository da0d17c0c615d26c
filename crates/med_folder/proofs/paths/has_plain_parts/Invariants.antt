use Rattle.std.proofs.Common.{◌≡◌, suc, length, option_map}
use Rattle.std.specs.Option.{option_map_or}
use Rattle.std.specs.List.{list_all}
use Rattle.med_base.specs.Cut.{pieces_left}
use Rattle.med_base.specs.Prefix.{parts}
use Rattle.med_folder.specs.Place.{is_name}
use Rattle.med_folder.proofs.paths.has_plain_parts.Given as goal

-- the parts so far are names, and those that are left are looked at from here on
abbrev pub invariant-parts : goal.invariant-parts
invariant-parts l =
    list_all is_name (pieces_left 47 (option_map (λ s. s.now) l.rest))
    ≡ list_all is_name (parts l.path)

abbrev pub decreases-parts : goal.decreases-parts
decreases-parts l = option_map_or (λ s. suc (length s.now)) l.rest 0
