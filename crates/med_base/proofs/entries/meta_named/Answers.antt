use Rattle.std.proofs.Common.{◌≡◌, sym, ℕ, List}
use Rattle.med_base.specs.declared.layout.MetaKind.{MetaKind}
use Rattle.med_base.specs.declared.layout.MetaKind.TheVariants.{Schema, Differential, Tokenmap, Manifest}
use Rattle.med_base.specs.Layout.{meta_file}
use Rattle.med_base.proofs.MetaLemmas.{meta_none}
use Rattle.med_base.proofs.entries.meta_named.Goals as goal

by_kind : (name : List ℕ) → (name ≡ meta_file Schema → ⊥) → (name ≡ meta_file Differential → ⊥)
    → (name ≡ meta_file Tokenmap → ⊥) → (name ≡ meta_file Manifest → ⊥)
    → (kind : MetaKind) → name ≡ meta_file kind → ⊥
by_kind name a b c d Schema = a
by_kind name a b c d Differential = b
by_kind name a b c d Tokenmap = c
by_kind name a b c d Manifest = d

pub returns-in_default : goal.returns-in_default
returns-in_default c =
    let arm = c.in_default in
    sym (meta_none c.args.name.now
    (by_kind c.args.name.now arm.not-text arm.not-differential arm.not-text-2 arm.not-text-3))
