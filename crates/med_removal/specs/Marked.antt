-- What was found of a backup that goes.
use Rattle.std.specs.Prelude.{◌≡◌, ◌++◌, ℕ, List}
use Rattle.med_base.specs.declared.layout.MetaKind.{MetaKind}
use Rattle.med_base.specs.declared.layout.MetaKind.TheVariants.{Schema, Differential, Tokenmap, Manifest}
use Rattle.med_base.specs.Content.{Content}
use Rattle.med_base.specs.Layout.{meta_path}
use Rattle.med_core.specs.Removal.{is_content_of}
use Rattle.med_manifest.specs.Listed.{if_stands, paths_of}
use Rattle.med_manifest.specs.Vault.{second_of}
use Rattle.med_index.specs.declared.marks.Marks.{Marks}
use Rattle.med_index.specs.Marks.{mark_of}

-- ---- for this crate's own clauses

-- the marks are the seconds of the objects that tell of the backup
abbrev pub AreMarksOf : Content → List ℕ → List ℕ → List ℕ → Marks → Type 0
AreMarksOf c before f n marks =
    (kind : MetaKind) → second_of c before f n kind ≡ mark_of kind marks

-- the last part of what goes with a backup: the objects that tell of it, but for its manifest
abbrev pub paths_of_signs : List ℕ → Content → List ℕ → List ℕ → List (List ℕ)
paths_of_signs before c f n =
    if_stands c (meta_path before f n Differential)
    ++ (if_stands c (meta_path before f n Tokenmap) ++ if_stands c (meta_path before f n Schema))

-- what goes with a backup behind its entries in the index
abbrev pub paths_of_folder : List ℕ → Content → List ℕ → List ℕ → List (List ℕ)
paths_of_folder before c f n =
    if_stands c (meta_path before f n Manifest)
    ++ (paths_of before c (is_content_of f n) ++ paths_of_signs before c f n)
