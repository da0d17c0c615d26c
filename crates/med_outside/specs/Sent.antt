-- How a file of a snapshot comes to the storage, a piece at a time, and what a call that asks both
-- leaves.
use Rattle.std.specs.Prelude.{◌≡◌, ◌≤◌, ◌+◌, ℕ, Bool, ◌==◌, List, ◌++◌, length, Option, Some, option_map, Result, IfErr, IfSome}
use Rattle.std.specs.FinMap.{get}
use Rattle.med_base.specs.declared.fingerprint.Fingerprint.{Fingerprint}
use Rattle.med_base.specs.declared.key.FileKey.{FileKey}
use Rattle.med_base.specs.Fingerprint.{fingerprint_of}
use Rattle.med_outside.specs.Device.{Device, Nodes, Storage, Memory}
use Rattle.med_outside.specs.Pieces.{piece_size, piece_at, EndsInRange, upload_of, with_piece, with_upload}
use Rattle.med_outside.specs.Snapshot.{Snapshot, SnapState, StaysOpen}
use Rattle.med_outside.specs.State.{State, OnlyReads, History}
use Rattle.med_outside.specs.World.{rose_of_node}
use Rattle.med_outside.specs.declared.copy_fault.CopyFault.{CopyFault}
use Rattle.med_outside.specs.declared.copy_fault.CopyFault.TheVariants as fault
use Rattle.med_outside.specs.declared.denied.Denied.{Denied}
use Rattle.med_outside.specs.declared.denied.Denied.TheVariants as denied

-- the fault where a call is denied; the first is that of a call that failed
abbrev pub fault_of : CopyFault → Denied → CopyFault
fault_of failed denied.Failed = failed
fault_of failed denied.Memory = fault.Memory

-- the device that failed
abbrev pub device_of : CopyFault → Device
device_of fault.Snap = Nodes
device_of fault.Store = Storage
device_of fault.Memory = Memory

-- a call asked a snapshot and a storage: the snapshot stays open with what it holds, no count of
-- faults falls, and a fault comes only where its count rose
pub record AsksBoth {T : Type 0} (snap snap_now : SnapState) (store store_now : State)
    (result : Result T CopyFault) : Type 0
  where
    pub same : StaysOpen snap snap_now
    pub snap_later : snap.faults ≤ snap_now.faults
    pub store_later : store.faults ≤ store_now.faults
    pub cause : IfErr result
        (λ fault. rose_of_node snap.faults snap_now.faults store.faults store_now.faults
        (device_of fault))

-- these are all bytes of the file, where the snapshot is told
abbrev pub IsWholeFile : Option Snapshot → FileKey → List ℕ → Type 0
IsWholeFile held key bytes = IfSome held (λ s. get s.files key ≡ Some bytes)

-- all bytes of the file were read, and this is their fingerprint
pub record IsPrintOf (held : Option Snapshot) (key : FileKey) (print : Fingerprint) : Type 0 where
  pub bytes : List ℕ
  pub file_is : IsWholeFile held key bytes
  pub print_is : print ≡ fingerprint_of bytes

-- all bytes of the file are being uploaded under the path, and this is their fingerprint
pub record IsUploaded (held : Option Snapshot) (key : FileKey) (path : List ℕ) (old new : State)
    (stood_before stood_after : History) (print : Fingerprint) : Type 0
  where
    pub bytes : List ℕ
    pub file_is : IsWholeFile held key bytes
    pub print_is : print ≡ fingerprint_of bytes
    pub looks : OnlyReads (with_upload (Some (upload_of path bytes)) old) new stood_before
        stood_after

-- ---- for this crate's own clauses

-- these are the bytes of the file from a place on, as many as a piece has, and this says whether the
-- piece is full
pub record IsPiece (held : Option Snapshot) (key : FileKey) (from : ℕ) (full : Bool)
    (piece : List ℕ) : Type 0
  where
    pub piece_is : IfSome held (λ s. Some piece ≡ option_map (piece_at from) (get s.files key))
    pub range : EndsInRange from piece
    pub full_is : full ≡ (length piece == piece_size)

-- the piece of the file from a place on was added to the upload, and ends at the second place
pub record AddsPiece (held : Option Snapshot) (key : FileKey) (from to : ℕ) (old new : State)
    (stood_before stood_after : History) (full : Bool) : Type 0
  where
    pub piece : List ℕ
    pub is : IsPiece held key from full piece
    pub to_is : to ≡ from + length piece
    pub looks : OnlyReads (with_upload (with_piece piece old.upload) old) new stood_before
        stood_after

-- the piece of the file behind what was read was added to that
pub record AddsRead (held : Option Snapshot) (key : FileKey) (read read_now : List ℕ) (full : Bool)
    : Type 0
  where
    pub piece : List ℕ
    pub is : IsPiece held key (length read) full piece
    pub read_is : read_now ≡ read ++ piece

-- all bytes of the file were added to the upload
pub record IsSent (held : Option Snapshot) (key : FileKey) (old new : State)
    (stood_before stood_after : History) : Type 0
  where
    pub bytes : List ℕ
    pub file_is : IsWholeFile held key bytes
    pub looks : OnlyReads (with_upload (with_piece bytes old.upload) old) new stood_before
        stood_after
