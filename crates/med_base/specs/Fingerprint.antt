-- The fingerprint of bytes: their length and their MD5.
-- After RFC 1321; files of equal size and MD5 count as the same file.
use Rattle.std.specs.Prelude.{ℕ, List, length}
use Rattle.md5.specs.Md5.{md5}
use Rattle.med_base.specs.declared.fingerprint.Fingerprint.{Fingerprint}

abbrev pub fingerprint_of : List ℕ → Fingerprint
fingerprint_of bytes = record { size = length bytes; md5 = md5 bytes }
