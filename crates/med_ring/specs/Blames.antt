-- When bytes are refused as a token map, and for which cause.
-- This project's own order: no JSON, no object, then host by host, and tokens that stand twice.
use Rattle.std.specs.Prelude.{◌≡◌, ◌⊎◌, ℕ, ℤ, Bool, List, [], ◌∷◌, ◌++◌, Some, None, slice_get, string_bytes}
use Rattle.std.specs.List.{AllZip}
use Rattle.serde_json.specs.Data.{Data, Members}
use Rattle.serde_json.specs.Find.{as_object}
use Rattle.med_base.specs.Kinds.{IsFqdn}
use Rattle.med_json.specs.Tree.{IsText, IsNoText, members_in}
use Rattle.med_ring.specs.declared.error.RingWhy.{RingWhy}
use Rattle.med_ring.specs.declared.error.RingWhy.TheVariants.{NotJson, NotRing, TokenRange, TokenTwice}
use Rattle.med_ring.specs.Host.{RingHost, tokens_in}
use Rattle.med_ring.specs.Ring.{IsShape, IsHost, IsRing}
use Rattle.med_ring.specs.Token.{token_of}
use Rattle.med_ring.specs.Twice.{IsFirstTwice}

-- a member has the name of a node and the form of a host, its tokens numbers of whatever spelling
pub record IsShaped (m : List ℕ × Data) : Type 0 where
  pub name_fits : IsFqdn m.0
  pub numbers : List Data
  pub is_up : Bool
  pub rack : List ℕ
  pub dc : List ℕ
  pub shape : IsShape m.1 numbers is_up rack dc

-- a member is no host by its name or its form
abbrev pub IsMisshapen : List ℕ × Data → Type 0
IsMisshapen m = IsShaped m → ⊥

-- one of the numbers is no token
pub record HasNoToken (numbers : List Data) : Type 0 where
  pub at : ℕ
  pub number : Data
  pub stands : slice_get numbers at ≡ Some number
  pub no_token : token_of number ≡ None

-- a member has the form of a host, and one of its numbers is no token
pub record IsOutOfRange (m : List ℕ × Data) : Type 0 where
  pub shaped : IsShaped m
  pub no_token : HasNoToken shaped.numbers

-- the member of this name is the first that is no host, and it has the fault
pub record IsFirstAtFault (fault : List ℕ × Data → Type 0) (members : List (List ℕ × Data))
    (name : List ℕ) : Type 0 where
  pub before : List (List ℕ × Data)
  pub bad : List ℕ × Data
  pub rest : List (List ℕ × Data)
  pub cut : members ≡ before ++ bad ∷ rest
  pub hosts : List RingHost
  pub hosts_before : AllZip IsHost before hosts
  pub name_is : name ≡ bad.0
  pub at_fault : fault bad

-- the bytes are an object whose first member that is no host has this name and the fault
pub record IsFaultOf (fault : List ℕ × Data → Type 0) (bytes name : List ℕ) : Type 0 where
  pub tree : Data
  pub text : IsText bytes tree
  pub members : Members
  pub members_are : as_object tree ≡ Some members
  pub first : IsFirstAtFault fault (members_in members) name

-- the bytes are JSON but no object, which no host is blamed for
pub record IsNoObject (bytes name : List ℕ) : Type 0 where
  pub tree : Data
  pub text : IsText bytes tree
  pub no_object : as_object tree ≡ None
  pub no_name : name ≡ []

-- the members are hosts one by one, and this token is the first that stood before
pub record HasTwice (bytes : List ℕ) (token : ℤ) : Type 0 where
  pub tree : Data
  pub text : IsText bytes tree
  pub members : Members
  pub members_are : as_object tree ≡ Some members
  pub hosts : List RingHost
  pub hosts_are : AllZip IsHost (members_in members) hosts
  pub twice : IsFirstTwice (tokens_in hosts) token

-- why the bytes are no token map
abbrev pub IsRefused : List ℕ → RingWhy → Type 0
IsRefused bytes NotJson = IsNoText bytes
IsRefused bytes (NotRing host) =
    IsNoObject bytes (string_bytes host) ⊎ IsFaultOf IsMisshapen bytes (string_bytes host)
IsRefused bytes (TokenRange host) = IsFaultOf IsOutOfRange bytes (string_bytes host)
IsRefused bytes (TokenTwice token) = HasTwice bytes token

-- the bytes are no token map, of whatever hosts
abbrev pub HasNoRing : List ℕ → Type 0
HasNoRing bytes = (hosts : List RingHost) → IsRing bytes hosts → ⊥

-- two causes are one: of one kind, and over one host or one token
abbrev pub IsSameWhy : RingWhy → RingWhy → Type 0
IsSameWhy NotJson NotJson = Unit {0}
IsSameWhy (NotRing a) (NotRing b) = string_bytes a ≡ string_bytes b
IsSameWhy (TokenRange a) (TokenRange b) = string_bytes a ≡ string_bytes b
IsSameWhy (TokenTwice s) (TokenTwice t) = s ≡ t
IsSameWhy _ _ = ⊥

-- bytes that have a cause to be refused are no token map, of whatever hosts
abbrev pub RefusedAreNone : Type 0
RefusedAreNone = (bytes : List ℕ) (why : RingWhy) → IsRefused bytes why → HasNoRing bytes

-- bytes are refused for one cause at most
abbrev pub CauseIsOne : Type 0
CauseIsOne = (bytes : List ℕ) (a b : RingWhy) → IsRefused bytes a → IsRefused bytes b
    → IsSameWhy a b
