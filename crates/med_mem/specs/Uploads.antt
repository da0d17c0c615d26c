-- What the uploads of a store in memory mean.
use Rattle.std.specs.Prelude.{Option, option_map}
use Rattle.med_outside.specs.State.{Upload}
use Rattle.med_mem.specs.declared.upload.MemUpload.{MemUpload}

-- ---- for this crate's own clauses

-- the path, and the bytes so far
abbrev pub as_upload : MemUpload → Upload
as_upload u = record { path = u.path; bytes = u.bytes.items }

-- the same of an upload, if there is one
abbrev pub upload_of : Option MemUpload → Option Upload
upload_of = option_map as_upload
