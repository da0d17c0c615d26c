use Rattle.std.proofs.Common.{◌≡◌, ◌∙◌, ◌++◌, ap, ap₂, sym, List, ℕ, string_bytes, codes, decimal, append_assoc}
use Rattle.med_base.specs.Layout.{entry_file}
use Rattle.med_base.specs.declared.kinds.IndexKind.TheVariants.{Tokenmap, Manifest, Started, Finished}
use Rattle.med_base.proofs.builders.entry_name.Goals as goal
use Rattle.med_base.proofs.builders.entry_name.Goals.{in-Tokenmap+in_ok-format-in-Tokenmap, in-Manifest+in_ok-format-in-Manifest, in-Started+in_ok-format-in-Started, in-Finished+in_ok-format-in-Finished, in-Differential+in_ok-format-in-Differential}

tokenmap : (f : List ℕ) → codes "tokenmap_" ++ (f ++ codes ".json") ≡ entry_file f Tokenmap
tokenmap f = simp append_assoc

manifest : (f : List ℕ) → codes "manifest_" ++ (f ++ codes ".json") ≡ entry_file f Manifest
manifest f = simp append_assoc

started : (f : List ℕ) (t : ℕ) → codes "started_" ++
    (f ++ (codes "_" ++ (decimal t ++ codes ".timestamp"))) ≡ entry_file f (Started t)
started f t = simp append_assoc

finished : (f : List ℕ) (t : ℕ)
    → codes "finished_" ++ (f ++ (codes "_" ++ (decimal t ++ codes ".timestamp"))) ≡ entry_file f
    (Finished t)
finished f t = simp append_assoc

pub returns-clause-text : goal.returns-clause-text
returns-clause-text c = elim c.match-kind.branch [
  | in-Tokenmap+in_ok-format-in-Tokenmap w ↦
      ap string_bytes w.result-is ∙ w.in_ok-format-in-Tokenmap.ensures.ok ∙ tokenmap _
      ∙ ap₂ entry_file c.as_str-f.ensures.value (sym w.in-Tokenmap.is)
  | in-Manifest+in_ok-format-in-Manifest w ↦
      ap string_bytes w.result-is ∙ w.in_ok-format-in-Manifest.ensures.ok ∙ manifest _
      ∙ ap₂ entry_file c.as_str-f.ensures.value (sym w.in-Manifest.is)
  | in-Started+in_ok-format-in-Started w ↦
      ap string_bytes w.result-is ∙ w.in_ok-format-in-Started.ensures.ok ∙ started _ _
      ∙ ap₂ entry_file c.as_str-f.ensures.value (sym w.in-Started.is)
  | in-Finished+in_ok-format-in-Finished w ↦
      ap string_bytes w.result-is ∙ w.in_ok-format-in-Finished.ensures.ok ∙ finished _ _
      ∙ ap₂ entry_file c.as_str-f.ensures.value (sym w.in-Finished.is)
  | in-Differential+in_ok-format-in-Differential w ↦
      ap string_bytes w.result-is ∙ w.in_ok-format-in-Differential.ensures.ok
      ∙ ap₂ entry_file c.as_str-f.ensures.value (sym w.in-Differential.is)
]
