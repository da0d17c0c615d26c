-- The canonical text of a token map, byte for byte, with no space.
-- This project's own form: hosts and keys in byte order, tokens in their order.
use Rattle.std.specs.Prelude.{ℕ, ℤ, Bool, true, false, List, [], ◌∷◌, ◌++◌, map, codes}
use Rattle.std.specs.Fmt.{signed_decimal}
use Rattle.json.specs.Print.{quoted}
use Rattle.serde_json.specs.Data.{Data, Members, string, boolean, number, array, object, member, no_members}
use Rattle.serde_json.specs.Find.{of_integer}
use Rattle.serde_json.specs.View.{items_of}
use Rattle.med_ring.specs.Host.{RingHost}

-- the texts, with a comma between two
abbrev pub by_commas : List (List ℕ) → List ℕ
by_commas [] = []
by_commas (t ∷ []) = t
by_commas (t ∷ u ∷ ts) = t ++ 44 ∷ by_commas (u ∷ ts)

abbrev pub truth_text : Bool → List ℕ
truth_text true = codes "true"
truth_text false = codes "false"

-- `{"dc":C,"is_up":B,"rack":R,"tokens":[..]}`
abbrev pub value_text : RingHost → List ℕ
value_text h =
    codes "{\"dc\":" ++ (quoted h.dc
    ++ (codes ",\"is_up\":" ++ (truth_text h.is_up
    ++ (codes ",\"rack\":" ++ (quoted h.rack
    ++ (codes ",\"tokens\":[" ++ (by_commas (map signed_decimal h.tokens)
    ++ codes "]}")))))))

-- the name, a colon and the value
abbrev pub host_text : RingHost → List ℕ
host_text h = quoted h.name ++ 58 ∷ value_text h

-- the hosts between braces
abbrev pub ring_text : List RingHost → List ℕ
ring_text hosts = codes "{" ++ (by_commas (map host_text hosts) ++ codes "}")

-- ---- the tree of that text

abbrev pub token_data : ℤ → Data
token_data token = number (of_integer token)

abbrev pub host_data : RingHost → Data
host_data h =
    object (member (codes "dc") (string h.dc)
    (member (codes "is_up") (boolean h.is_up)
    (member (codes "rack") (string h.rack)
    (member (codes "tokens") (array (items_of (map token_data h.tokens))) no_members))))

abbrev pub members_data : List RingHost → Members
members_data [] = no_members
members_data (h ∷ hosts) = member h.name (host_data h) (members_data hosts)

abbrev pub ring_data : List RingHost → Data
ring_data hosts = object (members_data hosts)
