-- Objects and files in pieces.
use Rattle.std.specs.Prelude.{◌≡◌, ◌≤◌, ◌+◌, ◌-◌, ◌^◌, ◌++◌, ℕ, List, [], take, drop, length, Option, Some, option_map, IfSome}
use Rattle.std.specs.FinMap.{get}
use Rattle.med_base.specs.Content.{Content, Object}
use Rattle.med_outside.specs.State.{State, Upload}

-- how many bytes a piece has at most
abbrev pub piece_size : ℕ
piece_size = 1048576

-- the bytes from a place on, as many as a piece has
abbrev pub piece_at : ℕ → List ℕ → List ℕ
piece_at from bytes = take piece_size (drop from bytes)

abbrev pub AnswersPiece : List ℕ → ℕ → Option Content → Option (List ℕ) → Type 0
AnswersPiece path from told answer =
    IfSome told (λ c. answer ≡ option_map (λ (o : Object). piece_at from o.bytes) (get c path))

-- the piece ends within 64 bits, so that a reader comes to its end
abbrev pub EndsInRange : ℕ → List ℕ → Type 0
EndsInRange from piece = from + length piece ≤ 2 ^ 64 - 1

-- ---- uploads

-- an upload that began
abbrev pub begun : List ℕ → Upload
begun path = record { path = path; bytes = [] }

-- an upload that has these bytes
abbrev pub upload_of : (path bytes : List ℕ) → Upload
upload_of path bytes = record { path = path; bytes = bytes }

-- bytes are being uploaded under the path
abbrev pub IsUploading : List ℕ → State → Type 0
IsUploading path s = (bytes : List ℕ) × (s.upload ≡ Some (upload_of path bytes))

-- the same upload with more bytes
abbrev pub with_piece : List ℕ → Option Upload → Option Upload
with_piece piece upload =
    option_map (λ (u : Upload). record u { bytes = u.bytes ++ piece }) upload

-- the same storage with that upload
abbrev pub with_upload : Option Upload → State → State
with_upload upload s = record s { upload = upload }
