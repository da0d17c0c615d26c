use Rattle.std.proofs.Common.{◌∙◌, ap, sym, subst, map, ℕ, Some, Vec, Global}
use Rattle.std.specs.Str.{IsUtf8}
use Rattle.std.proofs.lemmas.Str.{IsUtf8-string_bytes}
use Rattle.serde_json.specs.Read.{read}
use Rattle.serde_json.specs.Written.{compact_text}
use Rattle.med_ring.specs.Host.{host_view, KeepsRules}
use Rattle.med_ring.specs.Written.{ring_data, ring_text}
use Rattle.med_ring.proofs.Canonical.{text_is, no_float, ring_depth, is_ring}
use Rattle.med_ring.proofs.ring.Ring.write.Goals as goal

pub returns-clause-text : goal.returns-clause-text
returns-clause-text c =
    let hosts = map host_view c.as_slice.result.now in
    let text = c.in_ok-text.ensures.text (rw c.in_ok-value.ensures (no_float hosts)) in
    let same = ap (map host_view) c.as_slice.ensures.value ∙ c.self.view_is in
    ap (λ (v : Vec ℕ Global). v.items) c.into_bytes.ensures.value ∙ text
    ∙ ap compact_text c.in_ok-value.ensures ∙ text_is hosts ∙ ap ring_text same

pub returns-clause-utf8 : goal.returns-clause-utf8
returns-clause-utf8 c =
    subst (λ (v : Vec ℕ Global). IsUtf8 v.items) (sym c.into_bytes.ensures.value)
    (IsUtf8-string_bytes c.in_ok-text.text)

pub returns-clause-reads_back : goal.returns-clause-reads_back
returns-clause-reads_back c =
    let hosts = map host_view c.as_slice.result.now in
    let back = c.in_ok-text.ensures.reads_back (rw c.in_ok-value.ensures (ring_depth hosts)) in
    let same = ap (map host_view) c.as_slice.ensures.value ∙ c.self.view_is in
    ap (λ (v : Vec ℕ Global). read v.items) c.into_bytes.ensures.value ∙ back
    ∙ ap Some (c.in_ok-value.ensures ∙ ap ring_data same)

pub returns-clause-names : goal.returns-clause-names
returns-clause-names c =
    is_ring c.into_bytes.result.items c.args.self.now (returns-clause-utf8 c)
    (returns-clause-reads_back c) (subst KeepsRules c.self.view_is c.self.invariant)
