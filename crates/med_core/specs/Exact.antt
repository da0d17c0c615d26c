-- When a finish leaves an exact index exact.
use Rattle.std.specs.Prelude.{◌≡◌, ℕ, List, Some, None}
use Rattle.med_base.specs.declared.layout.MetaKind.TheVariants.{Schema, Manifest}
use Rattle.med_base.specs.Content.{Content, Object}
use Rattle.med_manifest.specs.Index.{meta_in}
use Rattle.med_core.specs.Section.{Call, Finish}

-- a finish begins where the schema of its backup stands and its manifest doesn't
abbrev pub IsBegunWell : List ℕ → Content → List ℕ → Call → Type 0
IsBegunWell before c f (Finish n is_differential records) =
    ((schema : Object) × (meta_in before c f n Schema ≡ Some schema))
    × (meta_in before c f n Manifest ≡ None)
IsBegunWell before c f _ = Unit {0}
