-- The two spellings of an MD5.
-- After RFC 4648: hexadecimal digits (8) of either case, and base64 with padding (4).
use Rattle.std.specs.Prelude.{◌≡◌, ◌⊎◌, ◌<◌, ℕ, List, length, slice_index, Ok}
use Rattle.hex.specs.Hex.{decode_of}
use Rattle.base64.specs.GeneralPurpose.{encode_of}
use Rattle.base64.specs.Engines.{standard}

-- the text spells these 16 bytes, in 32 hexadecimal digits or in 24 characters of base64
pub record SpellsMd5 (text md5 : List ℕ) : Type 0 where
  pub length : length md5 ≡ 16
  pub bytes : (i : ℕ) → slice_index md5 i < 256
  pub form : (decode_of text ≡ Ok md5) ⊎ (text ≡ encode_of standard md5)
