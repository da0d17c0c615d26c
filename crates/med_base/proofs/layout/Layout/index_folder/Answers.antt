use Rattle.std.proofs.Common.{◌∙◌, ◌≡◌, ◌++◌, List, ℕ, ap₂, codes, append_assoc}
use Rattle.med_base.specs.Layout.{index_folder}
use Rattle.med_base.proofs.layout.Layout.index_folder.Goals as goal

index_folder_flat : (before n : List ℕ) → before ++
    (codes "index/backup_index/" ++ (n ++ codes "/")) ≡ index_folder before n
index_folder_flat before n = simp append_assoc

pub returns-clause-text : goal.returns-clause-text
returns-clause-text c = c.in_ok-format.ensures.ok ∙ index_folder_flat _ _
    ∙ ap₂ index_folder c.before-before.ensures c.as_str-n.ensures.value
