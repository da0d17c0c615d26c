-- The members of an object, one after another.
use Rattle.std.proofs.Common.{◌≡◌, ◌∙◌, inr, ℕ, List, [], ◌∷◌, ◌++◌, map, Some, String, Global, string_bytes, refl, ap}
use Rattle.std.proofs.lemmas.List.{map-append}
use Rattle.std.specs.List.{AllZip}
use Rattle.serde_json.specs.Data.{Data, Members}
use Rattle.serde_json.specs.Find.{as_object}
use Rattle.serde_json.specs.View.{view, members_view}
use Rattle.serde_json.specs.declared.value.Value.{Value}
use Rattle.med_base.specs.declared.memory.OrMemory.{OrMemory}
use Rattle.med_base.specs.Memory.{WhyIs}
use Rattle.med_ring.specs.declared.error.RingWhy.{RingWhy}
use Rattle.med_ring.specs.declared.error.RingWhy.TheVariants.{NotJson, NotRing, TokenRange, TokenTwice}
use Rattle.med_ring.specs.declared.ring.Host.{Host}
use Rattle.med_ring.specs.Blames.{IsShaped, IsMisshapen, IsOutOfRange, IsFirstAtFault, IsFaultOf, IsRefused}
use Rattle.med_ring.specs.Host.{RingHost, host_view, tokens_in}
use Rattle.med_ring.specs.Members.{IsNotRingOf, IsRangeOf, IsHostRefused, AreMembersRefused}
use Rattle.med_ring.specs.Ring.{IsHost}
use Rattle.med_json.specs.Tree.{IsText, members_in}
use Rattle.med_ring.specs.Twice.{AreTokensRefused}
use Rattle.med_base.proofs.Lists.{zip_push}
use Rattle.med_base.proofs.WhyLemmas.{why_weaker}

abbrev Entry : Type 0
Entry = String Global × Value

-- an entry as a member
abbrev as_member : Entry → List ℕ × Data
as_member e = (string_bytes e.0, view e.1)

members_cut : (done : List Entry) (e : Entry) (more : List Entry)
    → members_in (members_view (done ++ e ∷ more))
    ≡ members_in (members_view done) ++ as_member e ∷ members_in (members_view more)
members_cut [] e more = refl
members_cut (d ∷ done) e more =
    ap (λ (ms : List (List ℕ × Data)). as_member d ∷ ms) (members_cut done e more)

-- one more entry that is a host
pub one_more : (done : List Entry) (e : Entry) (hosts : List Host) (h : Host) (now : List Host)
    → AllZip IsHost (members_in (members_view done)) (map host_view hosts)
    → IsHost (string_bytes e.0, view e.1) (host_view h) → now ≡ hosts ++ h ∷ []
    → AllZip IsHost (members_in (members_view (done ++ e ∷ []))) (map host_view now)
one_more done e hosts h now zip is more =
    rw (members_cut done e [], more, map-append host_view hosts (h ∷ []))
    (zip_push IsHost (members_in (members_view done)) (map host_view hosts) (as_member e)
    (host_view h) zip is)

-- the first entry that is no host, with whatever fault
first_at : (fault : List ℕ × Data → Type 0) (all done : List Entry) (e : Entry) (more : List Entry)
    (hosts : List RingHost) (name : List ℕ) → all ≡ done ++ e ∷ more
    → AllZip IsHost (members_in (members_view done)) hosts → name ≡ string_bytes e.0
    → fault (as_member e) → IsFirstAtFault fault (members_in (members_view all)) name
first_at fault all done e more hosts name cut zip name_is at_fault = record {
  before = members_in (members_view done);
  bad = as_member e;
  rest = members_in (members_view more);
  cut = ap (λ (es : List Entry). members_in (members_view es)) cut ∙ members_cut done e more;
  hosts = hosts;
  hosts_before = zip;
  name_is = name_is;
  at_fault = at_fault;
}

first_refused : (all done : List Entry) (e : Entry) (more : List Entry) (hosts : List RingHost)
    (why : RingWhy) → all ≡ done ++ e ∷ more
    → AllZip IsHost (members_in (members_view done)) hosts
    → IsHostRefused (string_bytes e.0, view e.1) why
    → AreMembersRefused (members_in (members_view all)) why
first_refused all done e more hosts NotJson cut zip is = is
first_refused all done e more hosts (NotRing host) cut zip is =
    first_at IsMisshapen all done e more hosts (string_bytes host) cut zip is.0 is.1
first_refused all done e more hosts (TokenRange host) cut zip is =
    first_at IsOutOfRange all done e more hosts (string_bytes host) cut zip is.0 is.1
first_refused all done e more hosts (TokenTwice token) cut zip is = is

-- an error over the first entry that is no host is one over all
pub first_fault : (all done : List Entry) (e : Entry) (more : List Entry) (hosts : List RingHost)
    (err : OrMemory RingWhy) → all ≡ done ++ e ∷ more
    → AllZip IsHost (members_in (members_view done)) hosts
    → WhyIs (IsHostRefused (string_bytes e.0, view e.1)) err
    → WhyIs (AreMembersRefused (members_in (members_view all))) err
first_fault all done e more hosts err cut zip =
    why_weaker (IsHostRefused (string_bytes e.0, view e.1))
    (AreMembersRefused (members_in (members_view all)))
    (λ why is. first_refused all done e more hosts why cut zip is) err

-- the name of a misshapen host is told rightly
named_misshapen : (m : List ℕ × Data) → (IsShaped m → ⊥) → (why : RingWhy) → IsNotRingOf m.0 why
    → IsHostRefused m why
named_misshapen m bad NotJson names = names
named_misshapen m bad (NotRing host) names = (names, bad)
named_misshapen m bad (TokenRange host) names = absurd names
named_misshapen m bad (TokenTwice token) names = names

pub misshapen : (m : List ℕ × Data) (err : OrMemory RingWhy) → WhyIs (IsNotRingOf m.0) err
    → (IsShaped m → ⊥) → WhyIs (IsHostRefused m) err
misshapen m err names bad =
    why_weaker (IsNotRingOf m.0) (IsHostRefused m) (named_misshapen m bad) err names

-- and that of one with a token out of range
named_out_of_range : (m : List ℕ × Data) → IsOutOfRange m → (why : RingWhy) → IsRangeOf m.0 why
    → IsHostRefused m why
named_out_of_range m bad NotJson names = names
named_out_of_range m bad (NotRing host) names = absurd names
named_out_of_range m bad (TokenRange host) names = (names, bad)
named_out_of_range m bad (TokenTwice token) names = names

pub out_of_range : (m : List ℕ × Data) (err : OrMemory RingWhy) → WhyIs (IsRangeOf m.0) err
    → IsOutOfRange m → WhyIs (IsHostRefused m) err
out_of_range m err names bad =
    why_weaker (IsRangeOf m.0) (IsHostRefused m) (named_out_of_range m bad) err names

fault_of : (fault : List ℕ × Data → Type 0) (bytes name : List ℕ) (tree : Data) (ms : Members)
    → IsText bytes tree → as_object tree ≡ Some ms
    → IsFirstAtFault fault (members_in ms) name → IsFaultOf fault bytes name
fault_of fault bytes name tree ms text is f = record {
  tree = tree;
  text = text;
  members = ms;
  members_are = is;
  first = f;
}

-- ---- the members of a value that was read

module _ (bytes : List ℕ) (tree : Data) (ms : Members) (text : IsText bytes tree)
    (is : as_object tree ≡ Some ms) where
  members_refused : (why : RingWhy) → AreMembersRefused (members_in ms) why → IsRefused bytes why
  members_refused NotJson f = absurd f
  members_refused (NotRing host) f =
      inr (fault_of IsMisshapen bytes (string_bytes host) tree ms text is f)
  members_refused (TokenRange host) f =
      fault_of IsOutOfRange bytes (string_bytes host) tree ms text is f
  members_refused (TokenTwice token) f = absurd f

  -- an error over the members is one over the bytes
  pub members_error : (err : OrMemory RingWhy) → WhyIs (AreMembersRefused (members_in ms)) err
      → WhyIs (IsRefused bytes) err
  members_error =
      why_weaker (AreMembersRefused (members_in ms)) (IsRefused bytes) members_refused

  tokens_refused : (hosts : List RingHost) → AllZip IsHost (members_in ms) hosts → (why : RingWhy)
      → AreTokensRefused (tokens_in hosts) why → IsRefused bytes why
  tokens_refused hosts zip NotJson f = absurd f
  tokens_refused hosts zip (NotRing host) f = absurd f
  tokens_refused hosts zip (TokenRange host) f = absurd f
  tokens_refused hosts zip (TokenTwice token) f = record {
    tree = tree;
    text = text;
    members = ms;
    members_are = is;
    hosts = hosts;
    hosts_are = zip;
    twice = f;
  }

  -- and so is one over the tokens of all hosts
  pub tokens_error : (hosts : List RingHost) (err : OrMemory RingWhy)
      → AllZip IsHost (members_in ms) hosts
      → WhyIs (AreTokensRefused (tokens_in hosts)) err → WhyIs (IsRefused bytes) err
  tokens_error hosts err zip =
      why_weaker (AreTokensRefused (tokens_in hosts)) (IsRefused bytes) (tokens_refused hosts zip)
      err
