-- The canonical text is that of its tree, and its tree is a token map of the same hosts.
use Rattle.std.proofs.Common.{◌≡◌, ◌≤◌, ◌^◌, ◌∙◌, ℕ, ℤ, pos, negsuc, Bool, true, false, List, [], ◌∷◌, ◌++◌, map, append_assoc, Some, refl, sym, ap, arith}
use Rattle.std.specs.List.{AllByRecursion, AllZip}
use Rattle.std.specs.Fmt.{signed_decimal}
use Rattle.std.specs.Str.{IsUtf8}
use Rattle.std.proofs.lemmas.Bool.{lt-ltb}
use Rattle.json.specs.Print.{quoted}
use Rattle.serde_json.specs.Data.{Data, depth, items_depth, members_depth}
use Rattle.serde_json.specs.Read.{read}
use Rattle.serde_json.specs.View.{items_of}
use Rattle.serde_json.specs.Written.{compact_text, items_text, members_text, number_text, has_float, items_have_float, members_have_float}
use Rattle.serde_json.specs.Find.{of_integer}
use Rattle.serde_json.proofs.OnLiterals.{serde_json_on_literals}
use Rattle.med_base.specs.Kinds.{IsFqdn}
use Rattle.med_base.proofs.Lists.{all_split}
use Rattle.med_json.specs.Tree.{members_in}
use Rattle.med_json.proofs.TreeLemmas.{items_in-of}
use Rattle.med_ring.specs.Host.{RingHost, names_in, tokens_in, IsInRange, KeepsRules}
use Rattle.med_ring.specs.Ring.{IsShape, IsHost, IsRing}
use Rattle.med_ring.specs.Token.{IsNumber, IsToken}
use Rattle.med_ring.specs.Written.{by_commas, truth_text, value_text, host_text, ring_text, token_data, host_data, members_data, ring_data}

number_is : (t : ℤ) → number_text (of_integer t) ≡ signed_decimal t
number_is (pos n) = refl
number_is (negsuc n) = refl

-- the tokens and the closing bracket
tokens_text : (t : ℤ) (ts : List ℤ)
    → compact_text (token_data t) ++ items_text true (items_of (map token_data ts))
    ≡ by_commas (map signed_decimal (t ∷ ts)) ++ 93 ∷ []
tokens_text t [] = ap (λ (s : List ℕ). s ++ 93 ∷ []) (number_is t)
tokens_text t (u ∷ ts) = rw (number_is t, tokens_text u ts, append_assoc) refl

all_tokens_text : (ts : List ℤ)
    → items_text false (items_of (map token_data ts))
    ≡ by_commas (map signed_decimal ts) ++ 93 ∷ []
all_tokens_text [] = refl
all_tokens_text (t ∷ ts) = tokens_text t ts

truth_is : (b : Bool) → compact_text (Rattle.serde_json.specs.Data.boolean b) ≡ truth_text b
truth_is true = refl
truth_is false = refl

value_is : (h : RingHost) → compact_text (host_data h) ≡ value_text h
unfolding serde_json_on_literals
value_is h =
    rw (
      all_tokens_text h.tokens,
      truth_is h.is_up,
      append_assoc (by_commas (map signed_decimal h.tokens)) (93 ∷ []) (125 ∷ []),
    )
    refl

-- a name, a colon and a value, with what follows them
name_and_value : (name v w rest : List ℕ) → v ≡ w
    → name ++ 58 ∷ (v ++ rest) ≡ (name ++ 58 ∷ w) ++ rest
name_and_value name v w rest e =
    ap (λ (s : List ℕ). name ++ 58 ∷ (s ++ rest)) e ∙ sym (append_assoc name (58 ∷ w) rest)

-- the hosts and the closing brace
hosts_text : (h : RingHost) (hs : List RingHost)
    → quoted h.name ++ 58 ∷ (compact_text (host_data h) ++ members_text true (members_data hs))
    ≡ by_commas (map host_text (h ∷ hs)) ++ 125 ∷ []
hosts_text h [] =
    name_and_value (quoted h.name) (compact_text (host_data h)) (value_text h) (125 ∷ [])
    (value_is h)
hosts_text h (g ∷ hs) =
    name_and_value (quoted h.name) (compact_text (host_data h)) (value_text h)
    (members_text true (members_data (g ∷ hs))) (value_is h)
    ∙ ap (λ (s : List ℕ). host_text h ++ 44 ∷ s) (hosts_text g hs)
    ∙ sym (append_assoc (host_text h) (44 ∷ by_commas (map host_text (g ∷ hs))) (125 ∷ []))

pub text_is : (hs : List RingHost) → compact_text (ring_data hs) ≡ ring_text hs
text_is [] = refl
text_is (h ∷ hs) = ap (λ (s : List ℕ). 123 ∷ s) (hosts_text h hs)

integer_no_float : (t : ℤ) → has_float (token_data t) ≡ false
integer_no_float (pos n) = refl
integer_no_float (negsuc n) = refl

tokens_no_float : (ts : List ℤ) → items_have_float (items_of (map token_data ts)) ≡ false
tokens_no_float [] = refl
tokens_no_float (t ∷ ts) = rw (integer_no_float t) (tokens_no_float ts)

members_no_float : (hs : List RingHost) → members_have_float (members_data hs) ≡ false
members_no_float [] = refl
members_no_float (h ∷ hs) = rw (tokens_no_float h.tokens) (members_no_float hs)

pub no_float : (hs : List RingHost) → has_float (ring_data hs) ≡ false
no_float hs = members_no_float hs

tokens_depth : (ts : List ℤ) → items_depth (items_of (map token_data ts)) ≤ 0
tokens_depth [] = omega arith
tokens_depth (t ∷ ts) = omega (arith, tokens_depth ts)

hosts_depth : (hs : List RingHost) → members_depth (members_data hs) ≤ 2
hosts_depth [] = omega arith
hosts_depth (h ∷ hs) = omega (arith, tokens_depth h.tokens, hosts_depth hs)

pub ring_depth : (hs : List RingHost) → depth (ring_data hs) ≤ 127
ring_depth hs = omega (arith, hosts_depth hs)

integer_token : (t : ℤ) → IsInRange t → IsToken (token_data t) t
integer_token (pos n) fits = rw (lt-ltb n (2 ^ 63) fits) refl
integer_token (negsuc n) fits = refl

tokens_zip : (ts : List ℤ) → AllByRecursion IsInRange ts
    → AllZip IsToken (map token_data ts) ts
tokens_zip [] fit = tt
tokens_zip (t ∷ ts) fit = (integer_token t fit.0, tokens_zip ts fit.1)

are_numbers : (ts : List ℤ) → AllByRecursion IsNumber (map token_data ts)
are_numbers [] = tt
are_numbers (t ∷ ts) = (refl, are_numbers ts)

written_shape : (h : RingHost)
    → IsShape (host_data h) (map token_data h.tokens) h.is_up h.rack h.dc
written_shape h = record {
  tokens_are = ap (λ (ds : List Data). Some ds) (items_in-of (map token_data h.tokens));
  are_numbers = are_numbers h.tokens;
  is_up_is = refl;
  rack_is = refl;
  dc_is = refl;
}

written_host : (h : RingHost) → IsFqdn h.name → AllByRecursion IsInRange h.tokens
    → IsHost (h.name, host_data h) h
written_host h fits range = record {
  name_fits = fits;
  name_is = refl;
  numbers = map token_data h.tokens;
  shape = written_shape h;
  tokens_are = tokens_zip h.tokens range;
}

written_hosts : (hs : List RingHost) → AllByRecursion IsFqdn (names_in hs)
    → AllByRecursion IsInRange (tokens_in hs)
    → AllZip IsHost (members_in (members_data hs)) hs
written_hosts [] fit range = tt
written_hosts (h ∷ hs) fit range =
    let parts = all_split IsInRange h.tokens (tokens_in hs) range in
    (written_host h fit.0 parts.0, written_hosts hs fit.1 parts.1)

-- a text that reads as the tree of a ring is a token map of its hosts
pub is_ring : (text : List ℕ) (hs : List RingHost) → IsUtf8 text → read text ≡ Some (ring_data hs)
    → KeepsRules hs → IsRing text hs
is_ring text hs utf8 reads keeps = record {
  tree = ring_data hs;
  text = record { utf8 = utf8; reads = reads };
  members = members_data hs;
  members_are = refl;
  hosts_are = written_hosts hs keeps.names_fit keeps.in_range;
  once = keeps.once;
}
