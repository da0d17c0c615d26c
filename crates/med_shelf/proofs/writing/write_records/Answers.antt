use Rattle.std.proofs.Common.{◌∙◌, map, sym, ap, subst}
use Rattle.med_base.specs.Key.{AreRising}
use Rattle.med_manifest.specs.declared.manifest.FileRecord.{FileRecord}
use Rattle.med_shelf.proofs.WriteLemmas.{hows_in, keys_of_files, same_records}
use Rattle.med_shelf.proofs.writing.write_records.Goals as goal

pub write-requires : goal.write-requires
write-requires c =
    subst AreRising
    (sym (ap (map (λ (file : FileRecord). file.key)) c.in-Ok-take_files.ensures
    ∙ keys_of_files c.args.records.items)) c.requires

pub returns-in-Ok-join_records-clause-records : goal.returns-in-Ok-join_records-clause-records
returns-in-Ok-join_records-clause-records c =
    same_records c.in-Ok-join_records.records.items c.args.records.items
    (c.in-Ok-join_records.ensures.files ∙ c.in-Ok-take_files.ensures)
    (c.in-Ok-join_records.ensures.hows ∙ c.in-Ok.ensures ∙ ap hows_in c.as_slice.ensures.value)
