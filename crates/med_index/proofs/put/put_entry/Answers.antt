use Rattle.std.proofs.Common.{◌∙◌, [], ◌∷◌, refl, ap, arith, inr}
use Rattle.med_base.specs.Classify.{is_data, is_data_kind}
use Rattle.med_base.specs.Effects.{Stores}
use Rattle.med_base.specs.Layout.{entry_path}
use Rattle.med_outside.proofs.Making.{nothing_yet}
use Rattle.med_outside.proofs.Passing.{moves_at_rest}
use Rattle.med_index.proofs.put.put_entry.Goals as goal

pub returns-in-Err-clause-makes : goal.returns-in-Err-clause-makes
returns-in-Err-clause-makes g c =
    let state = g.S.Storage.state c.args.store.now in
    let stood = g.S.Storage.stood c.args.store.now in (
      0,
      omega arith,
      tt,
      nothing_yet _ _ state state stood stood c.args.trace.now c.args.trace.now
          (Stores (entry_path c.args.layout.now c.args.node.now c.args.name.now c.args.kind)
          c.args.bytes.now 0 ∷ []) (λ e. absurd (cc e)) refl c.requires.sure
          (moves_at_rest state stood),
    )

pub put_recorded-requires-clause-no_data : goal.put_recorded-requires-clause-no_data
put_recorded-requires-clause-no_data g c =
    ap (λ layout. is_data layout c.in-Ok.path) c.requires.ready.layout_is
    ∙ ap is_data_kind c.in-Ok.ensures.kind

pub returns-in-Err-clause-err : goal.returns-in-Err-clause-err
returns-in-Err-clause-err g c = inr (omega arith)
