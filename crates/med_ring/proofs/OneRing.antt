-- Bytes are the token map of one list of hosts at most.
use Rattle.std.proofs.Common.{◌≡◌, ◌∙◌, ℕ, ℤ, Bool, List, sym, subst}
use Rattle.std.specs.List.{AllZip}
use Rattle.serde_json.specs.Data.{Data, Members}
use Rattle.med_base.proofs.Lists.{zip_once}
use Rattle.med_json.specs.Tree.{members_in}
use Rattle.med_json.proofs.TreeLemmas.{tree_once, members_once}
use Rattle.med_ring.specs.Host.{RingHost}
use Rattle.med_ring.specs.Ring.{IsShape, IsHost, RingIsOne}
use Rattle.med_ring.specs.Token.{IsToken}

token_same : (d : Data) (x y : ℤ) → IsToken d x → IsToken d y → x ≡ y
token_same d x y p q = cc (sym p ∙ q)

-- two forms of one value have the same parts
pub numbers_same : (d : Data) (ns ms : List Data) (u v : Bool) (r s c e : List ℕ)
    → IsShape d ns u r c → IsShape d ms v s e → ns ≡ ms
numbers_same d ns ms u v r s c e p q = cc (sym p.tokens_are ∙ q.tokens_are)

host_same : (m : List ℕ × Data) (a b : RingHost) → IsHost m a → IsHost m b → a ≡ b
host_same m a b p q =
    let name : a.name ≡ b.name = p.name_is ∙ sym q.name_is in
    let numbers : p.numbers ≡ q.numbers = cc (sym p.shape.tokens_are ∙ q.shape.tokens_are) in
    let zip : AllZip IsToken q.numbers a.tokens =
    subst (λ (ns : List Data). AllZip IsToken ns a.tokens) numbers p.tokens_are in
    let tokens : a.tokens ≡ b.tokens =
    zip_once IsToken token_same q.numbers a.tokens b.tokens zip q.tokens_are in
    let up : a.is_up ≡ b.is_up = cc (sym p.shape.is_up_is ∙ q.shape.is_up_is) in
    let rack : a.rack ≡ b.rack = cc (sym p.shape.rack_is ∙ q.shape.rack_is) in
    let dc : a.dc ≡ b.dc = cc (sym p.shape.dc_is ∙ q.shape.dc_is) in
    λ i. record { name = name i; tokens = tokens i; is_up = up i; rack = rack i; dc = dc i }

pub hosts_same : (ms : List (List ℕ × Data)) (a b : List RingHost) → AllZip IsHost ms a
    → AllZip IsHost ms b → a ≡ b
hosts_same = zip_once IsHost host_same

pub ring_is_one : RingIsOne
ring_is_one bytes a b p q =
    let tree = tree_once bytes p.tree q.tree p.text q.text in
    let members : p.members ≡ q.members =
    members_once p.tree q.tree p.members q.members tree p.members_are q.members_are in
    let zip : AllZip IsHost (members_in q.members) a =
    subst (λ (ms : Members). AllZip IsHost (members_in ms) a) members p.hosts_are in
    hosts_same (members_in q.members) a b zip q.hosts_are
