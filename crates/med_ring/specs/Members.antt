-- Causes over the members of one object, and over one member, for this crate's own clauses.
use Rattle.std.specs.Prelude.{◌≡◌, ℕ, Bool, List, string_bytes}
use Rattle.serde_json.specs.Data.{Data}
use Rattle.med_base.specs.Kinds.{IsFqdn}
use Rattle.med_ring.specs.declared.error.RingWhy.{RingWhy}
use Rattle.med_ring.specs.declared.error.RingWhy.TheVariants.{NotRing, TokenRange}
use Rattle.med_ring.specs.Blames.{IsMisshapen, IsOutOfRange, IsFirstAtFault}
use Rattle.med_ring.specs.Ring.{IsShape}

-- the value has no form of a host, whatever its parts would be
abbrev pub HasNoShape : Data → Type 0
HasNoShape d =
    (numbers : List Data) (is_up : Bool) (rack dc : List ℕ) → IsShape d numbers is_up rack dc → ⊥

-- the cause names a misshapen host of this name
abbrev pub IsNotRingOf : List ℕ → RingWhy → Type 0
IsNotRingOf name (NotRing host) = string_bytes host ≡ name
IsNotRingOf name _ = ⊥

-- the cause names a host of this name with a token out of range
abbrev pub IsRangeOf : List ℕ → RingWhy → Type 0
IsRangeOf name (TokenRange host) = string_bytes host ≡ name
IsRangeOf name _ = ⊥

-- why a member is no host
abbrev pub IsHostRefused : List ℕ × Data → RingWhy → Type 0
IsHostRefused m (NotRing host) = (string_bytes host ≡ m.0) × IsMisshapen m
IsHostRefused m (TokenRange host) = (string_bytes host ≡ m.0) × IsOutOfRange m
IsHostRefused m _ = ⊥

-- why the members of an object are no hosts
abbrev pub AreMembersRefused : List (List ℕ × Data) → RingWhy → Type 0
AreMembersRefused ms (NotRing host) = IsFirstAtFault IsMisshapen ms (string_bytes host)
AreMembersRefused ms (TokenRange host) = IsFirstAtFault IsOutOfRange ms (string_bytes host)
AreMembersRefused ms _ = ⊥

-- why the name of a member is none of a node
abbrev pub IsNameRefused : List ℕ → RingWhy → Type 0
IsNameRefused name (NotRing host) = (string_bytes host ≡ name) × (IsFqdn name → ⊥)
IsNameRefused name _ = ⊥
