use Rattle.std.proofs.Common.{◌≡◌, ◌+◌, suc, length, option_map}
use Rattle.std.specs.Option.{option_map_or, IfSome}
use Rattle.med_base.specs.Cut.{pieces_left}
use Rattle.med_base.specs.Prefix.{parts, bad_part_at}
use Rattle.med_base.proofs.prefix.bad_part.Given as goal

-- the parts so far are good, and those that are left are looked at from here on
abbrev pub invariant-parts : goal.invariant-parts
invariant-parts l = record {
  same : bad_part_at l.start (pieces_left 47 (option_map (λ s. s.now) l.rest)) ≡ bad_part_at 0
      (parts l.prefix);
  reached : IfSome l.rest (λ s. l.start + length s.now ≡ length l.prefix);
}

abbrev pub decreases-parts : goal.decreases-parts
decreases-parts l = option_map_or (λ s. suc (length s.now)) l.rest 0
