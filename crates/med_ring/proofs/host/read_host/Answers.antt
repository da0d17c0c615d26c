use Rattle.std.proofs.Common.{map, subst}
use Rattle.serde_json.specs.View.{view}
use Rattle.med_base.specs.Kinds.{IsFqdn}
use Rattle.med_ring.proofs.MemberLemmas.{misshapen, out_of_range}
use Rattle.med_ring.proofs.host.read_host.Goals as goal

pub returns-in_default-clause-err : goal.returns-in_default-clause-err
returns-in_default-clause-err c =
    misshapen (c.args.name.now, view c.args.value.now) c.not_ring.result c.not_ring.ensures
    (λ s. c.shape_of.ensures.none c.in_default.is s.numbers s.is_up s.rack s.dc s.shape)

pub returns-in_default-2-clause-err : goal.returns-in_default-2-clause-err
returns-in_default-2-clause-err c =
    out_of_range (c.args.name.now, view c.args.value.now) c.token_range.result
    c.token_range.ensures
    (record {
      shaped = record {
        name_fits = subst IsFqdn c.in_ok-node.ensures.ok c.in_ok-node.ensures.fits;
        numbers = map view c.in-Some.shape.numbers.now;
        is_up = c.in-Some.shape.is_up;
        rack = c.in-Some.shape.rack.now;
        dc = c.in-Some.shape.dc.now;
        shape = c.in-Some.ensures.found;
      };
      no_token = c.in_ok-tokens.ensures.none c.in_default-2.is;
    })
