use Rattle.std.proofs.Common.{◌≡◌, ◌∙◌, ap, map, ℕ, List, arith, string_bytes}
use Rattle.std.proofs.lemmas.List.{take_all}
use Rattle.serde_json.specs.Data.{Data, object, put}
use Rattle.serde_json.specs.View.{view, members_view}
use Rattle.serde_json.proofs.Views.{view-Object, members_view-insert_entry}
use Rattle.med_ring.specs.declared.ring.Host.{Host}
use Rattle.med_ring.specs.Host.{host_view}
use Rattle.med_ring.specs.Written.{host_data, ring_data}
use Rattle.med_ring.proofs.Order.{next_host}
use Rattle.med_ring.proofs.written.ring_value.Goals as goal

pub loop-host-preserved : goal.loop-host-preserved
loop-host-preserved c =
    let x : Host = c.host-item.result in
    let name : string_bytes c.in_ok-name.name ≡ x.name =
    c.in_ok-name.ensures.ok ∙ c.as_str.ensures.value in
    let before = c.loop-host.members.entries in
    let value = c.in_ok-host_value.field-0 in
    ap members_view c.in_ok-insert.ensures.entries
    ∙ members_view-insert_entry before c.in_ok-name.name value
    ∙ ap (λ (n : List ℕ). put n (view value) (members_view before)) name
    ∙ ap (λ (d : Data). put x.name d (members_view before)) c.in_ok-host_value.ensures
    ∙ ap (put x.name (host_data (host_view x))) c.loop-host.invariant
    ∙ next_host c.args.hosts.now c.loop-host.host-index x (omega arith) c.host-item.is c.requires

pub returns : goal.returns
returns c =
    view-Object c.loop-host.members ∙ ap object c.loop-host.invariant
    ∙ ap (λ (hs : List Host). ring_data (map host_view hs))
    (take_all c.loop-host.host-index c.args.hosts.now (omega arith))
