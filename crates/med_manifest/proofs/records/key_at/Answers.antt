use Rattle.med_manifest.proofs.records.key_at.Goals as goal

pub table_of-requires : goal.table_of-requires
table_of-requires c =
    let is = rw c.in-Some.is at c.file_at.ensures.found in (is.key_is.keyspace, is.key_is.table)

pub component-requires : goal.component-requires
component-requires c = let is = rw c.in-Some.is at c.file_at.ensures.found in is.key_is.file
