-- Tokens that are distinct, and the first that is not.
use Rattle.std.proofs.Common.{◌≡◌, ◌∙◌, ◌<◌, ◌+◌, ℕ, ℤ, true, true≢false, refl, sym, ap, subst, arith, List, [], ◌∷◌, ◌++◌, map, length, take, drop, get_or, int_eq, length-append, append_assoc}
use Rattle.std.specs.List.{IsDistinct}
use Rattle.std.proofs.lemmas.Bool.Decides.{Decides-int_eq}
use Rattle.std.proofs.lemmas.List.{get_or_append_left, map-append, append-nil}
use Rattle.std.proofs.Math.Seq.{get_or-append_seam}
use Rattle.std.proofs.lemmas.Map.Keys.{apart_from_distinct}
use Rattle.med_base.specs.declared.memory.OrMemory.{OrMemory}
use Rattle.med_base.specs.Memory.{WhyIs}
use Rattle.med_ring.specs.declared.error.RingWhy.{RingWhy}
use Rattle.med_ring.specs.declared.error.RingWhy.TheVariants.{NotJson, NotRing, TokenRange, TokenTwice}
use Rattle.med_ring.specs.declared.ring.Host.{Host}
use Rattle.med_ring.specs.Host.{RingHost, host_view, tokens_in, IsInRange, AreInRange}
use Rattle.med_ring.specs.Twice.{IsFirstTwice, AreTokensRefused}
use Rattle.med_base.proofs.Lists.{all_append, split_at}
use Rattle.med_base.proofs.WhyLemmas.{why_weaker}

-- where a token stood before, the tokens are not distinct
pub twice_not_distinct : (ts : List ℤ) (t : ℤ) → IsFirstTwice ts t → IsDistinct int_eq ts → ⊥
twice_not_distinct ts t f once =
    let all = f.before ++ t ∷ f.rest in
    let once : IsDistinct int_eq all = subst (IsDistinct int_eq) f.cut once in
    let i : ℕ = f.stood.0 in
    let lt : i < length f.before = f.stood.1 in
    let within : length f.before < length all =
    omega (arith, length-append f.before (t ∷ f.rest)) in
    let apart = apart_from_distinct int_eq all i (length f.before) t once lt within in
    let here : get_or all i t ≡ t =
    get_or_append_left f.before (t ∷ f.rest) t i lt ∙ f.stood.2 in
    let there : get_or all (length f.before) t ≡ t = get_or-append_seam f.before t f.rest t in
    let same : int_eq t t ≡ true = (Decides-int_eq t t).1 refl in
    true≢false (sym same ∙ rw (here, there) at apart)

-- a cause over the first tokens is one over all
tokens_refused_more : (ts more all : List ℤ) (why : RingWhy) → all ≡ ts ++ more
    → AreTokensRefused ts why → AreTokensRefused all why
tokens_refused_more ts more all NotJson cut f = f
tokens_refused_more ts more all (NotRing host) cut f = f
tokens_refused_more ts more all (TokenRange host) cut f = f
tokens_refused_more ts more all (TokenTwice token) cut f = record {
  before = f.before;
  rest = f.rest ++ more;
  cut =
      cut ∙ ap (λ (xs : List ℤ). xs ++ more) f.cut
      ∙ append_assoc f.before (token ∷ f.rest) more;
  stood = f.stood;
  distinct = f.distinct;
}

-- an error over the first tokens is one over all
pub tokens_error_more : (ts more all : List ℤ) (e : OrMemory RingWhy) → all ≡ ts ++ more
    → WhyIs (AreTokensRefused ts) e → WhyIs (AreTokensRefused all) e
tokens_error_more ts more all e cut =
    why_weaker (AreTokensRefused ts) (AreTokensRefused all)
    (λ why f. tokens_refused_more ts more all why cut f) e

tokens_append : (a b : List RingHost) → tokens_in (a ++ b) ≡ tokens_in a ++ tokens_in b
tokens_append [] b = refl
tokens_append (h ∷ a) b =
    ap (λ (ts : List ℤ). h.tokens ++ ts) (tokens_append a b)
    ∙ sym (append_assoc h.tokens (tokens_in a) (tokens_in b))

-- all tokens, cut behind those of one host
pub tokens_cut : (hosts : List Host) (i : ℕ) (x : Host) → i < length hosts → x ≡ get_or hosts i x
    → tokens_in (map host_view hosts)
    ≡ (tokens_in (map host_view (take i hosts)) ++ (host_view x).tokens)
    ++ tokens_in (map host_view (drop (i + 1) hosts))
tokens_cut hosts i x lt at =
    ap (λ (hs : List Host). tokens_in (map host_view hs)) (split_at hosts i x lt at)
    ∙ ap tokens_in (map-append host_view (take i hosts) (x ∷ drop (i + 1) hosts))
    ∙ tokens_append (map host_view (take i hosts)) (map host_view (x ∷ drop (i + 1) hosts))
    ∙ sym (append_assoc (tokens_in (map host_view (take i hosts))) (host_view x).tokens
    (tokens_in (map host_view (drop (i + 1) hosts))))

-- one more host whose tokens are in range
pub range_more : (hosts : List Host) (h : Host) → AreInRange (tokens_in (map host_view hosts))
    → AreInRange h.tokens.items → AreInRange (tokens_in (map host_view (hosts ++ h ∷ [])))
range_more hosts h before own =
    rw (
      map-append host_view hosts (h ∷ []),
      tokens_append (map host_view hosts) (map host_view (h ∷ [])),
      append-nil h.tokens.items,
    )
    (all_append IsInRange (tokens_in (map host_view hosts)) h.tokens.items before own)
