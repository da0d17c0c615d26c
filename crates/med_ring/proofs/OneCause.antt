-- Bytes are refused for one cause at most.
use Rattle.std.proofs.Common.{◌≡◌, ◌∙◌, inl, inr, ℕ, ℤ, List, ◌∷◌, ◌++◌, Some, sym, ap, subst, string_bytes}
use Rattle.std.specs.List.{AllZip}
use Rattle.serde_json.specs.Data.{Data, Members}
use Rattle.serde_json.specs.Find.{as_object}
use Rattle.med_base.proofs.Cuts.{Cuts, two_cuts, first_failing_once}
use Rattle.med_base.proofs.Lists.{each_has}
use Rattle.med_json.specs.Tree.{IsText, members_in}
use Rattle.med_json.proofs.TreeLemmas.{tree_once, no_text, members_once}
use Rattle.med_ring.specs.declared.error.RingWhy.TheVariants.{NotJson, NotRing, TokenRange, TokenTwice}
use Rattle.med_ring.specs.Blames.{IsMisshapen, IsOutOfRange, IsFaultOf, IsNoObject, HasTwice, CauseIsOne}
use Rattle.med_ring.specs.Host.{RingHost, tokens_in}
use Rattle.med_ring.specs.Ring.{IsHost}
use Rattle.med_ring.specs.Twice.{IsFirstTwice}
use Rattle.med_ring.proofs.Faults.{misshapen_no_host, out_of_range_no_host, fault_no_hosts}
use Rattle.med_ring.proofs.OneRing.{hosts_same}
use Rattle.med_ring.proofs.Repeated.{twice_not_distinct}

abbrev Member : Type 0
Member = List ℕ × Data

abbrev IsNoHost : Member → Type 0
IsNoHost m = (h : RingHost) → IsHost m h → ⊥

-- the member at fault is one
bad_same : (f g : Member → Type 0) (bytes name other : List ℕ)
    → ((m : Member) → f m → IsNoHost m) → ((m : Member) → g m → IsNoHost m)
    → (p : IsFaultOf f bytes name) (q : IsFaultOf g bytes other) → p.first.bad ≡ q.first.bad
bad_same f g bytes name other no_f no_g p q =
    let tree = tree_once bytes p.tree q.tree p.text q.text in
    let members : p.members ≡ q.members =
    members_once p.tree q.tree p.members q.members tree p.members_are q.members_are in
    let e : p.first.before ++ p.first.bad ∷ p.first.rest
    ≡ q.first.before ++ q.first.bad ∷ q.first.rest =
    sym p.first.cut ∙ ap members_in members ∙ q.first.cut in
    (first_failing_once (λ m. (h : RingHost) × IsHost m h) p.first.before p.first.bad p.first.rest
    q.first.before q.first.bad q.first.rest e
    (each_has IsHost p.first.before p.first.hosts p.first.hosts_before)
    (each_has IsHost q.first.before q.first.hosts q.first.hosts_before)
    (λ h. no_f p.first.bad p.first.at_fault h.0 h.1)
    (λ h. no_g q.first.bad q.first.at_fault h.0 h.1)).1

-- no token that stood before stands before another that is the first
no_earlier : (s t : ℤ) (ts : List ℤ) (p : IsFirstTwice ts s) (q : IsFirstTwice ts t) (m : List ℤ)
    → q.before ≡ p.before ++ s ∷ m → ⊥
no_earlier s t ts p q m is =
    twice_not_distinct q.before s
    (record {
      before = p.before;
      rest = m;
      cut = is;
      stood = p.stood;
      distinct = p.distinct;
    })
    q.distinct

one_twice : (s t : ℤ) (ts : List ℤ) (p : IsFirstTwice ts s) (q : IsFirstTwice ts t)
    → Cuts p.before s q.before t → s ≡ t
one_twice s t ts p q (inl is) = is.1
one_twice s t ts p q (inr (inl (m, is))) = absurd (no_earlier s t ts p q m is)
one_twice s t ts p q (inr (inr (m, is))) = absurd (no_earlier t s ts q p m is)

-- the first token that stood before is one
twice_same : (s t : ℤ) (ts : List ℤ) → IsFirstTwice ts s → IsFirstTwice ts t → s ≡ t
twice_same s t ts p q =
    one_twice s t ts p q (two_cuts p.before s p.rest q.before t q.rest (sym p.cut ∙ q.cut))

tokens_same : (bytes : List ℕ) (s t : ℤ) → HasTwice bytes s → HasTwice bytes t → s ≡ t
tokens_same bytes s t p q =
    let tree = tree_once bytes p.tree q.tree p.text q.text in
    let members : p.members ≡ q.members =
    members_once p.tree q.tree p.members q.members tree p.members_are q.members_are in
    let zip : AllZip IsHost (members_in q.members) p.hosts =
    subst (λ (ms : Members). AllZip IsHost (members_in ms) p.hosts) members p.hosts_are in
    let same : p.hosts ≡ q.hosts =
    hosts_same (members_in q.members) p.hosts q.hosts zip q.hosts_are in
    twice_same s t (tokens_in q.hosts)
    (subst (λ (hs : List RingHost). IsFirstTwice (tokens_in hs) s) same p.twice) q.twice

-- an object and none
no_members : (bytes name : List ℕ) → IsNoObject bytes name → (tree : Data) (ms : Members)
    → IsText bytes tree → as_object tree ≡ Some ms → ⊥
no_members bytes name f tree ms text is =
    let same = tree_once bytes tree f.tree text f.text in
    cc (sym is ∙ ap as_object same ∙ f.no_object)

-- a host out of its form is not one with a token out of range
forms_apart : (bytes name other : List ℕ) → IsFaultOf IsMisshapen bytes name
    → IsFaultOf IsOutOfRange bytes other → ⊥
forms_apart bytes name other p q =
    let same : q.first.bad ≡ p.first.bad =
    sym (bad_same IsMisshapen IsOutOfRange bytes name other misshapen_no_host
    out_of_range_no_host p q) in
    p.first.at_fault (subst IsOutOfRange same q.first.at_fault).shaped

names_same : (fault : Member → Type 0) (bytes name other : List ℕ)
    → ((m : Member) → fault m → IsNoHost m) → IsFaultOf fault bytes name
    → IsFaultOf fault bytes other → name ≡ other
names_same fault bytes name other no_host p q =
    let same : p.first.bad ≡ q.first.bad =
    bad_same fault fault bytes name other no_host no_host p q in
    p.first.name_is ∙ ap (λ (m : Member). m.0) same ∙ sym q.first.name_is

pub cause_is_one : CauseIsOne
cause_is_one bytes NotJson NotJson p q = tt
cause_is_one bytes NotJson (NotRing h) p (inl q) = no_text bytes q.tree p q.text
cause_is_one bytes NotJson (NotRing h) p (inr q) = no_text bytes q.tree p q.text
cause_is_one bytes NotJson (TokenRange h) p q = no_text bytes q.tree p q.text
cause_is_one bytes NotJson (TokenTwice t) p q = no_text bytes q.tree p q.text
cause_is_one bytes (NotRing h) NotJson (inl p) q = no_text bytes p.tree q p.text
cause_is_one bytes (NotRing h) NotJson (inr p) q = no_text bytes p.tree q p.text
cause_is_one bytes (NotRing h) (NotRing g) (inl p) (inl q) = p.no_name ∙ sym q.no_name
cause_is_one bytes (NotRing h) (NotRing g) (inl p) (inr q) =
    absurd (no_members bytes (string_bytes h) p q.tree q.members q.text q.members_are)
cause_is_one bytes (NotRing h) (NotRing g) (inr p) (inl q) =
    absurd (no_members bytes (string_bytes g) q p.tree p.members p.text p.members_are)
cause_is_one bytes (NotRing h) (NotRing g) (inr p) (inr q) =
    names_same IsMisshapen bytes (string_bytes h) (string_bytes g) misshapen_no_host p q
cause_is_one bytes (NotRing h) (TokenRange g) (inl p) q =
    no_members bytes (string_bytes h) p q.tree q.members q.text q.members_are
cause_is_one bytes (NotRing h) (TokenRange g) (inr p) q =
    forms_apart bytes (string_bytes h) (string_bytes g) p q
cause_is_one bytes (NotRing h) (TokenTwice t) (inl p) q =
    no_members bytes (string_bytes h) p q.tree q.members q.text q.members_are
cause_is_one bytes (NotRing h) (TokenTwice t) (inr p) q =
    fault_no_hosts IsMisshapen misshapen_no_host bytes (string_bytes h) p q.tree q.members q.hosts
    q.text q.members_are q.hosts_are
cause_is_one bytes (TokenRange h) NotJson p q = no_text bytes p.tree q p.text
cause_is_one bytes (TokenRange h) (NotRing g) p (inl q) =
    no_members bytes (string_bytes g) q p.tree p.members p.text p.members_are
cause_is_one bytes (TokenRange h) (NotRing g) p (inr q) =
    forms_apart bytes (string_bytes g) (string_bytes h) q p
cause_is_one bytes (TokenRange h) (TokenRange g) p q =
    names_same IsOutOfRange bytes (string_bytes h) (string_bytes g) out_of_range_no_host p q
cause_is_one bytes (TokenRange h) (TokenTwice t) p q =
    fault_no_hosts IsOutOfRange out_of_range_no_host bytes (string_bytes h) p q.tree q.members
    q.hosts q.text q.members_are q.hosts_are
cause_is_one bytes (TokenTwice s) NotJson p q = no_text bytes p.tree q p.text
cause_is_one bytes (TokenTwice s) (NotRing g) p (inl q) =
    no_members bytes (string_bytes g) q p.tree p.members p.text p.members_are
cause_is_one bytes (TokenTwice s) (NotRing g) p (inr q) =
    fault_no_hosts IsMisshapen misshapen_no_host bytes (string_bytes g) q p.tree p.members p.hosts
    p.text p.members_are p.hosts_are
cause_is_one bytes (TokenTwice s) (TokenRange g) p q =
    fault_no_hosts IsOutOfRange out_of_range_no_host bytes (string_bytes g) q p.tree p.members
    p.hosts p.text p.members_are p.hosts_are
cause_is_one bytes (TokenTwice s) (TokenTwice t) p q = tokens_same bytes s t p q
