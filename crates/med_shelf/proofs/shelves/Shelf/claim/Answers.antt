use Rattle.std.proofs.Common.{inl, inr, refl, subst}
use Rattle.med_base.specs.Kinds.{IsFqdn}
use Rattle.med_index.specs.Modes.{is_differential}
use Rattle.med_ring.specs.Written.{ring_text}
use Rattle.med_shelf.specs.declared.claims.Claim.{Claim}
use Rattle.med_shelf.specs.declared.errors.ClaimError.TheVariants.{Store, Memory}
use Rattle.med_shelf.specs.Shelf.{ShelfState}
use Rattle.med_shelf.proofs.ClaimSteps.{looked_in_vain, made_behind, one_more, refused_behind, refused_of, same_shelf, shelf_of}
use Rattle.med_shelf.proofs.shelves.Shelf.claim.Goals as goal

pub returns-in-Err-clause-acts : goal.returns-in-Err-clause-acts
returns-in-Err-clause-acts g c =
    looked_in_vain Claim c.args.self.now c.args.name.now (is_differential c.args.mode)
    c.args.schema.now (ring_text c.args.ring.now)
    (subst (λ (s : ShelfState). IsFqdn s.node) c.self.view_is c.names_keep_rules.ensures.node)
    c.names_keep_rules.ensures.name c.args.self.now refl _ _ _ _ c.args.trace.now c.args.trace.now
    c.in-Err.error refl c.requires.sure c.in-Err.ensures.looks.moves (Unit {0})
    c.in-Err.ensures.answer

pub returns-in-Err-clause-still : goal.returns-in-Err-clause-still
returns-in-Err-clause-still g c = refused_of Claim c.in-Err.error _ c.in-Err.ensures.looks.moves

pub returns-in-Err-reserve-clause-acts : goal.returns-in-Err-reserve-clause-acts
returns-in-Err-reserve-clause-acts g c =
    looked_in_vain Claim c.args.self.now c.args.name.now (is_differential c.args.mode)
    c.args.schema.now (ring_text c.args.ring.now)
    (subst (λ (s : ShelfState). IsFqdn s.node) c.self.view_is c.names_keep_rules.ensures.node)
    c.names_keep_rules.ensures.name _
    (same_shelf c.self.inside.layout c.self.inside.node c.self.inside.running.items
    c.reserve.new.self.items c.args.self.now c.reserve.ensures.items c.self.view_is) _ _ _ _
    c.args.trace.now c.args.trace.now Memory refl c.requires.sure c.in-Ok.ensures.looks.moves
    (Unit {0}) tt

pub returns-in-Err-ready_claim-clause-acts : goal.returns-in-Err-ready_claim-clause-acts
returns-in-Err-ready_claim-clause-acts g c =
    looked_in_vain Claim c.args.self.now c.args.name.now (is_differential c.args.mode)
    c.args.schema.now (ring_text c.args.ring.now)
    (subst (λ (s : ShelfState). IsFqdn s.node) c.self.view_is c.names_keep_rules.ensures.node)
    c.names_keep_rules.ensures.name _
    (same_shelf c.self.inside.layout c.self.inside.node c.self.inside.running.items
    c.reserve.new.self.items c.args.self.now c.reserve.ensures.items c.self.view_is) _ _ _ _
    c.args.trace.now c.args.trace.now Memory refl c.requires.sure c.in-Ok.ensures.looks.moves
    (Unit {0}) tt

pub returns-in-Err-Failed-clause-acts : goal.returns-in-Err-Failed-clause-acts
returns-in-Err-Failed-clause-acts g c =
    refused_behind Claim c.args.self.now c.args.name.now (is_differential c.args.mode)
    c.args.schema.now (ring_text c.args.ring.now)
    (subst (λ (s : ShelfState). IsFqdn s.node) c.self.view_is c.names_keep_rules.ensures.node)
    c.names_keep_rules.ensures.name
    (shelf_of c.self.inside.layout c.self.inside.node c.self.inside.running.items) c.self.view_is
    _ _ _ _ _ _ _ c.args.trace.now c.put_claim.new.trace c.in-Ok.ensures.looks.moves
    c.requires.sure (Unit {0}) tt c.in-Ok.ensures.answer _ _
    (rw (c.as_slice-ring.ensures.value, c.in-Ok-ready_claim.ensures.text)
    at c.in-Err-Failed.ensures.makes)
    (same_shelf c.self.inside.layout c.self.inside.node c.self.inside.running.items
    c.reserve.new.self.items c.args.self.now c.reserve.ensures.items c.self.view_is) Store
    (inl refl) (λ fault. refl) c.in-Err-Failed.ensures.err

pub returns-in-Err-Memory-clause-acts : goal.returns-in-Err-Memory-clause-acts
returns-in-Err-Memory-clause-acts g c =
    refused_behind Claim c.args.self.now c.args.name.now (is_differential c.args.mode)
    c.args.schema.now (ring_text c.args.ring.now)
    (subst (λ (s : ShelfState). IsFqdn s.node) c.self.view_is c.names_keep_rules.ensures.node)
    c.names_keep_rules.ensures.name
    (shelf_of c.self.inside.layout c.self.inside.node c.self.inside.running.items) c.self.view_is
    _ _ _ _ _ _ _ c.args.trace.now c.put_claim.new.trace c.in-Ok.ensures.looks.moves
    c.requires.sure (Unit {0}) tt c.in-Ok.ensures.answer _ _
    (rw (c.as_slice-ring.ensures.value, c.in-Ok-ready_claim.ensures.text)
    at c.in-Err-Memory.ensures.makes)
    (same_shelf c.self.inside.layout c.self.inside.node c.self.inside.running.items
    c.reserve.new.self.items c.args.self.now c.reserve.ensures.items c.self.view_is) Memory
    (inr refl) (λ fault. absurd (cc (fault, c.in-Err-Memory.field-0-is)))
    c.in-Err-Memory.ensures.err

pub returns-clause-acts : goal.returns-clause-acts
returns-clause-acts g c =
    made_behind Claim c.args.self.now c.args.name.now (is_differential c.args.mode) c.args.schema.now
    (ring_text c.args.ring.now)
    (subst (λ (s : ShelfState). IsFqdn s.node) c.self.view_is c.names_keep_rules.ensures.node)
    c.names_keep_rules.ensures.name
    (shelf_of c.self.inside.layout c.self.inside.node c.self.inside.running.items) c.self.view_is
    _ _ _ _ _ _ _ c.args.trace.now c.put_claim.new.trace c.in-Ok.ensures.looks.moves
    c.requires.sure (Unit {0}) tt c.in-Ok.ensures.answer _ _
    (rw (c.as_slice-ring.ensures.value, c.in-Ok-ready_claim.ensures.text)
    at c.in-Ok-put_claim.ensures.makes)
    (one_more c.self.inside.layout c.self.inside.node c.args.name.now c.self.inside.running.items
    c.reserve.new.self.items c.add_name.new.names.items c.args.self.now c.reserve.ensures.items
    (rw c.in-Ok-ready_claim.ensures.name at c.add_name.ensures) c.self.view_is)
    c.in-Ok-ready_claim.ready.claim refl (λ fault. fault)
