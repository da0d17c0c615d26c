use Rattle.std.proofs.Common.{refl}
use Rattle.med_index.specs.Modes.{is_differential}
use Rattle.med_shelf.proofs.PutSteps.{entries_behind, entries_short, objects_refused, objects_short}
use Rattle.med_shelf.proofs.puts.put_claim.Goals as goal

pub returns-in-Err-clause-makes : goal.returns-in-Err-clause-makes
returns-in-Err-clause-makes g c =
    let (first, mark, last, fits, said, makes) = c.in-Err.ensures.makes in
    objects_refused c.args.layout.now c.args.node.now c.args.name.now (is_differential c.args.mode)
    c.args.schema.now c.args.ring.now first mark last fits _ _ _ _ _ _ _ _ makes _ _
    (λ fine. absurd (cc fine)) (λ fault. fault)

pub returns-in-Err-clause-err : goal.returns-in-Err-clause-err
returns-in-Err-clause-err g c =
    let (first, mark, last, fits, said, makes) = c.in-Err.ensures.makes in
    objects_short c.args.layout.now c.args.node.now c.args.name.now (is_differential c.args.mode)
    c.args.schema.now c.args.ring.now first mark last _ _ _ _ _ _ _ _ makes

pub returns-in-Ok-start_entries-clause-makes : goal.returns-in-Ok-start_entries-clause-makes
returns-in-Ok-start_entries-clause-makes g c =
    let (first, mark, last, fits, said, makes) = c.in-Ok.ensures.makes in
    let (entries, more) = c.in-Ok-start_entries.ensures.makes in
    entries_behind c.args.layout.now c.args.node.now c.args.name.now (is_differential c.args.mode)
    c.args.schema.now c.args.ring.now first mark last fits _ _ _ _ _ _ _ _ makes refl _ _ _ _
    (λ fine. refl) (λ fault. absurd fault) _ _ _ c.in-Ok.second said entries more

pub returns-in-Err-Store-clause-makes : goal.returns-in-Err-Store-clause-makes
returns-in-Err-Store-clause-makes g c =
    let (first, mark, last, fits, said, makes) = c.in-Ok.ensures.makes in
    let (entries, more) = c.in-Err-Store.ensures.makes in
    entries_behind c.args.layout.now c.args.node.now c.args.name.now (is_differential c.args.mode)
    c.args.schema.now c.args.ring.now first mark last fits _ _ _ _ _ _ _ _ makes refl _ _ _ _
    (λ fine. absurd (cc fine)) (λ fault. refl) _ _ _ c.in-Ok.second said entries more

pub returns-in-Err-Memory-clause-makes : goal.returns-in-Err-Memory-clause-makes
returns-in-Err-Memory-clause-makes g c =
    let (first, mark, last, fits, said, makes) = c.in-Ok.ensures.makes in
    let (entries, more) = c.in-Err-Memory.ensures.makes in
    entries_behind c.args.layout.now c.args.node.now c.args.name.now (is_differential c.args.mode)
    c.args.schema.now c.args.ring.now first mark last fits _ _ _ _ _ _ _ _ makes refl _ _ _ _
    (λ fine. absurd (cc fine)) (λ fault. absurd (cc (fault, c.in-Err-Memory.field-0-is))) _ _ _
    c.in-Ok.second said entries more

pub returns-in-Err-Store-clause-err : goal.returns-in-Err-Store-clause-err
returns-in-Err-Store-clause-err g c =
    let (first, mark, last, fits, said, makes) = c.in-Ok.ensures.makes in
    entries_short c.args.layout.now c.args.node.now c.args.name.now (is_differential c.args.mode)
    c.args.schema.now c.args.ring.now first mark last _ _ _ _ _ _ _ _ makes refl
    c.start_entries.new.trace c.in-Err-Store.ensures.err

pub returns-in-Err-Memory-clause-err : goal.returns-in-Err-Memory-clause-err
returns-in-Err-Memory-clause-err g c =
    let (first, mark, last, fits, said, makes) = c.in-Ok.ensures.makes in
    entries_short c.args.layout.now c.args.node.now c.args.name.now (is_differential c.args.mode)
    c.args.schema.now c.args.ring.now first mark last _ _ _ _ _ _ _ _ makes refl
    c.start_entries.new.trace c.in-Err-Memory.ensures.err
