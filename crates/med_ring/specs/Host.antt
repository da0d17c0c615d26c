-- The hosts of a ring, as contracts see them.
-- This project's own form of the token map that Cassandra Medusa keeps beside a backup.
use Rattle.std.specs.Prelude.{◌≡◌, ℕ, ℤ, Bool, List, map, flat_map, Option, Some, None, string_bytes, Contains, pos, negsuc, ◌<◌, ◌^◌}
use Rattle.std.specs.List.{AllByRecursion, IsDistinct}
use Rattle.std.specs.List.Sorted.{IsStrictlySortedBy}
use Rattle.std.specs.Ordering.{nat_cmp, int_eq}
use Rattle.std.specs.Cmp.Lexicographic.{slice_cmp}
use Rattle.med_base.specs.Kinds.{IsFqdn}
use Rattle.med_ring.specs.declared.ring.Host.{Host}

-- a host with its tokens, whether it is up, and its place; texts are their bytes
pub record RingHost : Type 0 where
  pub name : List ℕ
  pub tokens : List ℤ
  pub is_up : Bool
  pub rack : List ℕ
  pub dc : List ℕ

abbrev pub host_view : Host → RingHost
host_view h = record {
  name = h.name;
  tokens = h.tokens.items;
  is_up = h.is_up;
  rack = string_bytes h.rack;
  dc = string_bytes h.dc;
}

abbrev pub names_in : List RingHost → List (List ℕ)
names_in hosts = map (λ (h : RingHost). h.name) hosts

-- the tokens of all hosts, in their order
abbrev pub tokens_in : List RingHost → List ℤ
tokens_in hosts = flat_map (λ (h : RingHost). h.tokens) hosts

abbrev pub HasRisingNames : List RingHost → Type 0
HasRisingNames hosts = IsStrictlySortedBy (slice_cmp nat_cmp) (names_in hosts)

-- a whole number from -2^63 to 2^63-1; `negsuc n` is -(n + 1)
abbrev pub IsInRange : ℤ → Type 0
IsInRange (pos n) = n < 2 ^ 63
IsInRange (negsuc n) = n < 2 ^ 63

abbrev pub AreInRange : List ℤ → Type 0
AreInRange tokens = AllByRecursion IsInRange tokens

-- the rules of a ring: its hosts stand in byte order of their names, without repeats, each name is
-- that of a node, each token fits 64 bits with its sign, and none stands twice
pub record KeepsRules (hosts : List RingHost) : Type 0 where
  pub rising : HasRisingNames hosts
  pub names_fit : AllByRecursion IsFqdn (names_in hosts)
  pub in_range : AreInRange (tokens_in hosts)
  pub once : IsDistinct int_eq (tokens_in hosts)

-- what a ring has for a name: a host of that name, or the fact that there is none
abbrev pub TellsHost : List RingHost → List ℕ → Option RingHost → Type 0
TellsHost hosts name (Some h) = Contains hosts h × (h.name ≡ name)
TellsHost hosts name None = (h : RingHost) → Contains hosts h → h.name ≡ name → ⊥

-- the tokens of the host of that name, or the fact that there is none
abbrev pub TellsTokens : List RingHost → List ℕ → Option (List ℤ) → Type 0
TellsTokens hosts name (Some tokens) =
    (h : RingHost) × Contains hosts h × (h.name ≡ name) × (h.tokens ≡ tokens)
TellsTokens hosts name None = (h : RingHost) → Contains hosts h → h.name ≡ name → ⊥
