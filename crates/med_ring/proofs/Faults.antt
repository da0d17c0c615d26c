-- Bytes that are refused for a cause are no token map.
use Rattle.std.proofs.Common.{Some, ◌≡◌, ◌∙◌, inl, inr, ℕ, ℤ, List, ◌∷◌, ◌++◌, sym, ap, subst, string_bytes}
use Rattle.std.specs.List.{AllZip, IsDistinct}
use Rattle.std.specs.Ordering.{int_eq}
use Rattle.serde_json.specs.Data.{Data, Members}
use Rattle.serde_json.specs.Find.{as_object}
use Rattle.med_base.specs.declared.memory.OrMemory.{OrMemory}
use Rattle.med_base.specs.Memory.{WhyIs}
use Rattle.med_base.proofs.Lists.{no_zip, no_zip_cut}
use Rattle.med_base.proofs.WhyLemmas.{why_weaker}
use Rattle.med_json.specs.Tree.{IsText, members_in}
use Rattle.med_json.proofs.TreeLemmas.{tree_once, no_text, members_once}
use Rattle.med_ring.specs.declared.error.RingWhy.{RingWhy}
use Rattle.med_ring.specs.declared.error.RingWhy.TheVariants.{NotJson, NotRing, TokenRange, TokenTwice}
use Rattle.med_ring.specs.Host.{RingHost, tokens_in}
use Rattle.med_ring.specs.Ring.{IsHost, IsRing}
use Rattle.med_ring.specs.Blames.{IsMisshapen, IsOutOfRange, IsFaultOf, IsNoObject, HasTwice, IsRefused, HasNoRing}
use Rattle.med_ring.specs.Token.{IsToken}
use Rattle.med_ring.proofs.OneRing.{hosts_same}
use Rattle.med_ring.proofs.Repeated.{twice_not_distinct}

pub misshapen_no_host : (m : List ℕ × Data) → IsMisshapen m → (h : RingHost) → IsHost m h → ⊥
misshapen_no_host m bad h is = bad (record {
  name_fits = is.name_fits;
  numbers = is.numbers;
  is_up = h.is_up;
  rack = h.rack;
  dc = h.dc;
  shape = is.shape;
})

pub out_of_range_no_host : (m : List ℕ × Data) → IsOutOfRange m → (h : RingHost) → IsHost m h → ⊥
out_of_range_no_host m bad h is =
    let same : is.numbers ≡ bad.shaped.numbers =
    cc (sym is.shape.tokens_are ∙ bad.shaped.shape.tokens_are) in
    let zip : AllZip IsToken bad.shaped.numbers h.tokens =
    subst (λ (ns : List Data). AllZip IsToken ns h.tokens) same is.tokens_are in
    no_zip IsToken bad.shaped.numbers h.tokens bad.no_token.at bad.no_token.number
    bad.no_token.stands (λ t e. cc (sym e ∙ bad.no_token.no_token)) zip

-- bytes with a host at fault aren't made of hosts alone
pub fault_no_hosts : (fault : List ℕ × Data → Type 0)
    → ((m : List ℕ × Data) → fault m → (h : RingHost) → IsHost m h → ⊥) → (bytes name : List ℕ)
    → IsFaultOf fault bytes name → (tree : Data) (ms : Members) (hosts : List RingHost)
    → IsText bytes tree → as_object tree ≡ Some ms → AllZip IsHost (members_in ms) hosts → ⊥
fault_no_hosts fault no_host bytes name f tree ms hosts text is zip =
    let trees = tree_once bytes tree f.tree text f.text in
    let members : ms ≡ f.members = members_once tree f.tree ms f.members trees is f.members_are in
    let all : members_in ms ≡ f.first.before ++ f.first.bad ∷ f.first.rest =
    ap members_in members ∙ f.first.cut in
    no_zip_cut IsHost f.first.before f.first.bad f.first.rest hosts
    (no_host f.first.bad f.first.at_fault)
    (subst (λ (each : List (List ℕ × Data)). AllZip IsHost each hosts) all zip)

fault_no_ring : (fault : List ℕ × Data → Type 0)
    → ((m : List ℕ × Data) → fault m → (h : RingHost) → IsHost m h → ⊥) → (bytes name : List ℕ)
    → IsFaultOf fault bytes name → (hosts : List RingHost) → IsRing bytes hosts → ⊥
fault_no_ring fault no_host bytes name f hosts ring =
    fault_no_hosts fault no_host bytes name f ring.tree ring.members hosts ring.text
    ring.members_are ring.hosts_are

no_object_no_ring : (bytes name : List ℕ) → IsNoObject bytes name → (hosts : List RingHost)
    → IsRing bytes hosts → ⊥
no_object_no_ring bytes name f hosts ring =
    let tree = tree_once bytes ring.tree f.tree ring.text f.text in
    cc (sym ring.members_are ∙ ap as_object tree ∙ f.no_object)

twice_no_ring : (bytes : List ℕ) (token : ℤ) → HasTwice bytes token → (hosts : List RingHost)
    → IsRing bytes hosts → ⊥
twice_no_ring bytes token f hosts ring =
    let tree = tree_once bytes ring.tree f.tree ring.text f.text in
    let members : ring.members ≡ f.members =
    members_once ring.tree f.tree ring.members f.members tree ring.members_are f.members_are in
    let zip : AllZip IsHost (members_in f.members) hosts =
    subst (λ (ms : Members). AllZip IsHost (members_in ms) hosts) members ring.hosts_are in
    let same : hosts ≡ f.hosts = hosts_same (members_in f.members) hosts f.hosts zip f.hosts_are in
    twice_not_distinct (tokens_in f.hosts) token f.twice
    (subst (λ (hs : List RingHost). IsDistinct int_eq (tokens_in hs)) same ring.once)

-- a cause leaves no ring
pub no_ring : (bytes : List ℕ) (why : RingWhy) → IsRefused bytes why → HasNoRing bytes
no_ring bytes NotJson is = λ hosts ring. no_text bytes ring.tree is ring.text
no_ring bytes (NotRing host) (inl f) = no_object_no_ring bytes (string_bytes host) f
no_ring bytes (NotRing host) (inr f) =
    fault_no_ring IsMisshapen misshapen_no_host bytes (string_bytes host) f
no_ring bytes (TokenRange host) f =
    fault_no_ring IsOutOfRange out_of_range_no_host bytes (string_bytes host) f
no_ring bytes (TokenTwice token) f = twice_no_ring bytes token f

-- and neither does an error with its cause
pub error_no_ring : (bytes : List ℕ) (err : OrMemory RingWhy) → WhyIs (IsRefused bytes) err
    → WhyIs (λ _. HasNoRing bytes) err
error_no_ring bytes = why_weaker (IsRefused bytes) (λ _. HasNoRing bytes) (no_ring bytes)
