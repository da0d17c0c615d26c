-- Which bytes are a token map, and of which hosts.
-- After Cassandra Medusa's tokenmap.json; its exact form is this project's own. It is a relation
-- on the JSON tree: other keys may stand beside those named, in any order.
use Rattle.std.specs.Prelude.{◌≡◌, ℕ, Bool, List, Some, codes}
use Rattle.std.specs.List.{AllByRecursion, AllZip, IsDistinct}
use Rattle.std.specs.Ordering.{int_eq}
use Rattle.serde_json.specs.Data.{Data, Members}
use Rattle.serde_json.specs.Find.{as_object}
use Rattle.med_base.specs.Kinds.{IsFqdn}
use Rattle.med_json.specs.Tree.{IsText, members_in, list_at, truth_at, text_or_empty_at}
use Rattle.med_ring.specs.Host.{RingHost, tokens_in}
use Rattle.med_ring.specs.Token.{IsNumber, IsToken}

-- a value has the form of a host: a list of numbers, a truth value and two texts
pub record IsShape (d : Data) (numbers : List Data) (is_up : Bool) (rack dc : List ℕ)
    : Type 0 where
  pub tokens_are : list_at (codes "tokens") d ≡ Some numbers
  pub are_numbers : AllByRecursion IsNumber numbers
  pub is_up_is : truth_at (codes "is_up") d ≡ Some is_up
  pub rack_is : text_or_empty_at (codes "rack") d ≡ Some rack
  pub dc_is : text_or_empty_at (codes "dc") d ≡ Some dc

-- a member, key and value, is this host
pub record IsHost (m : List ℕ × Data) (h : RingHost) : Type 0 where
  pub name_fits : IsFqdn m.0
  pub name_is : h.name ≡ m.0
  pub numbers : List Data
  pub shape : IsShape m.1 numbers h.is_up h.rack h.dc
  pub tokens_are : AllZip IsToken numbers h.tokens

-- the bytes are a token map, and these are its hosts
pub record IsRing (bytes : List ℕ) (hosts : List RingHost) : Type 0 where
  pub tree : Data
  pub text : IsText bytes tree
  pub members : Members
  pub members_are : as_object tree ≡ Some members
  pub hosts_are : AllZip IsHost (members_in members) hosts
  pub once : IsDistinct int_eq (tokens_in hosts)

-- bytes are the token map of one list of hosts at most
abbrev pub RingIsOne : Type 0
RingIsOne = (bytes : List ℕ) (a b : List RingHost) → IsRing bytes a → IsRing bytes b → a ≡ b
