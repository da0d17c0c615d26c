-- Hosts in order of their names.
use Rattle.std.proofs.Common.{◌≡◌, ◌∙◌, ◌<◌, ◌+◌, ℕ, List, [], ◌∷◌, ◌++◌, map, length, take, drop, get_or, String, Global, Less, Greater, string_bytes, string_cmp, nat_cmp, int_eq, refl, sym, ap, subst}
use Rattle.std.proofs.lemmas.Cmp.{nat_list_cmp_total}
use Rattle.std.proofs.lemmas.List.{map-append, take_more}
use Rattle.std.specs.Cmp.Lexicographic.{slice_cmp}
use Rattle.std.specs.List.{AllByRecursion, AllZip, IsDistinct}
use Rattle.std.specs.List.Sorted.{IsStrictlySortedBy}
use Rattle.std.specs.Map.{keys_of}
use Rattle.std.specs.Ordering.{ordering_reverse}
use Rattle.serde_json.specs.Data.{Data, member, put}
use Rattle.serde_json.specs.View.{members_view}
use Rattle.serde_json.specs.declared.value.Value.{Value}
use Rattle.med_base.specs.Kinds.{IsFqdn}
use Rattle.med_base.proofs.Lists.{split_at}
use Rattle.med_ring.specs.declared.ring.Host.{Host}
use Rattle.med_ring.specs.Host.{RingHost, host_view, names_in, tokens_in, HasRisingNames, AreInRange, KeepsRules}
use Rattle.med_ring.specs.Ring.{IsHost}
use Rattle.med_json.specs.Tree.{members_in}
use Rattle.med_ring.specs.Written.{host_data, members_data}

-- the name is below each of these
abbrev IsBelow : List ℕ → List (List ℕ) → Type 0
IsBelow name names = AllByRecursion (λ (k : List ℕ). slice_cmp nat_cmp name k ≡ Less) names

below_middle : (name : List ℕ) (hs : List RingHost) (h : RingHost) (more : List RingHost)
    → IsBelow name (names_in (hs ++ h ∷ more)) → slice_cmp nat_cmp name h.name ≡ Less
below_middle name [] h more all = all.0
below_middle name (g ∷ hs) h more all = below_middle name hs h more all.1

-- a host whose name is above those before it goes last
put_last : (hs : List RingHost) (h : RingHost) (more : List RingHost)
    → HasRisingNames (hs ++ h ∷ more)
    → put h.name (host_data h) (members_data hs) ≡ members_data (hs ++ h ∷ [])
unfolding IsStrictlySortedBy
put_last [] h more rise = refl
put_last (g ∷ hs) h more rise =
    let above : slice_cmp nat_cmp h.name g.name ≡ Greater =
    nat_list_cmp_total.antisymm h.name g.name
    ∙ ap ordering_reverse (below_middle g.name hs h more rise.0) in
    rw above (ap (member g.name (host_data g)) (put_last hs h more rise.1))

-- one more host of the object
pub next_host : (hosts : List Host) (i : ℕ) (x : Host) → i < length hosts → x ≡ get_or hosts i x
    → HasRisingNames (map host_view hosts)
    → put (host_view x).name (host_data (host_view x)) (members_data (map host_view (take i hosts)))
    ≡ members_data (map host_view (take (i + 1) hosts))
next_host hosts i x lt at rise =
    let whole : map host_view (take i hosts) ++ host_view x ∷ map host_view (drop (i + 1) hosts)
    ≡ map host_view hosts =
    sym (map-append host_view (take i hosts) (x ∷ drop (i + 1) hosts))
    ∙ ap (map host_view) (sym (split_at hosts i x lt at)) in
    let before = map host_view (take i hosts) in
    let more : map host_view (take (i + 1) hosts) ≡ before ++ host_view x ∷ [] =
    ap (map host_view) (take_more hosts i x lt ∙ ap (λ (v : Host). take i hosts ++ v ∷ [])
    (sym at))
    ∙ map-append host_view (take i hosts) (x ∷ []) in
    put_last before (host_view x) (map host_view (drop (i + 1) hosts))
    (subst HasRisingNames (sym whole) rise)
    ∙ ap members_data (sym more)

abbrev Entry : Type 0
Entry = String Global × Value

below_read : (k : String Global) (name : List ℕ) → name ≡ string_bytes k → (es : List Entry)
    (hs : List RingHost)
    → AllByRecursion (λ (y : String Global). string_cmp k y ≡ Less) (keys_of es)
    → AllZip IsHost (members_in (members_view es)) hs → IsBelow name (names_in hs)
below_read k name e [] [] all zip = tt
below_read k name e [] (h ∷ hs) all zip = absurd zip
below_read k name e (m ∷ es) [] all zip = absurd zip
below_read k name e (m ∷ es) (h ∷ hs) all zip =
    (rw (e, zip.0.name_is) all.0, below_read k name e es hs all.1 zip.1)

-- hosts that were read of a map's entries stand in order
pub read_rising : (es : List Entry) (hs : List RingHost)
    → IsStrictlySortedBy string_cmp (keys_of es) → AllZip IsHost (members_in (members_view es)) hs
    → HasRisingNames hs
unfolding IsStrictlySortedBy
read_rising [] [] rise zip = tt
read_rising [] (h ∷ hs) rise zip = absurd zip
read_rising (m ∷ es) [] rise zip = absurd zip
read_rising (m ∷ es) (h ∷ hs) rise zip =
    (below_read m.0 h.name zip.0.name_is es hs rise.0 zip.1, read_rising es hs rise.1 zip.1)

-- and have names of nodes
read_names : (ms : List (List ℕ × Data)) (hs : List RingHost) → AllZip IsHost ms hs
    → AllByRecursion IsFqdn (names_in hs)
read_names [] [] zip = tt
read_names [] (h ∷ hs) zip = absurd zip
read_names (m ∷ ms) [] zip = absurd zip
read_names (m ∷ ms) (h ∷ hs) zip =
    (subst IsFqdn (sym zip.0.name_is) zip.0.name_fits, read_names ms hs zip.1)

-- hosts that were read, in order and with distinct tokens, keep the rules
pub keeps_rules : (ms : List (List ℕ × Data)) (hs : List RingHost) → AllZip IsHost ms hs
    → HasRisingNames hs → AreInRange (tokens_in hs) → IsDistinct int_eq (tokens_in hs)
    → KeepsRules hs
keeps_rules ms hs zip rise range once = record {
  rising = rise;
  names_fit = read_names ms hs zip;
  in_range = range;
  once = once;
}
