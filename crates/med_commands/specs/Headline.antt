-- What the top call promises: the command ended as its plan has it, with the status of that end.
use Rattle.std.specs.Prelude.{◌≡◌, ◌≤◌, ℕ, List, Result, Ok, Err, codes}
use Rattle.med_outside.specs.Device.{Device, Files, Nodes, Storage, Output, Memory}
use Rattle.med_plan.specs.Ends.{Refusal, BadWords, NotBuilt, BadConfig, Taken, NoSnapshot, BadFileName, BadRing, NotInRing, Running, BadManifest, Stop, Refused, Failed, Plan, Ends, IsExact}
use Rattle.med_outside.specs.World.{World, SinkState, rose_of, IsLater}
use Rattle.med_commands.specs.Printed.{Complains}
use Rattle.med_commands.specs.Status.{code}
use Rattle.med_commands.specs.Texts.{not_built_text, taken_text, no_snapshot_text, bad_file_text, bad_manifest_text, not_in_ring_text, running_text}
use Rattle.med_commands.specs.declared.status.Status.{Status}
use Rattle.med_commands.specs.declared.status.Status.TheVariants as status

-- ---- the status and the text of each end

abbrev pub status_of_refusal : Refusal → Status
status_of_refusal (BadWords text) = status.Usage
status_of_refusal (NotBuilt word) = status.Usage
status_of_refusal (BadConfig text) = status.Config
status_of_refusal (Taken name path) = status.Taken
status_of_refusal (NoSnapshot name) = status.BadSnapshot
status_of_refusal (BadFileName at) = status.BadSnapshot
status_of_refusal (BadRing text) = status.BadRing
status_of_refusal (NotInRing host) = status.BadRing
status_of_refusal (Running name) = status.Running
status_of_refusal (BadManifest path) = status.BadManifest

abbrev pub text_of_refusal : Refusal → List ℕ
text_of_refusal (BadWords text) = text
text_of_refusal (NotBuilt word) = not_built_text word
text_of_refusal (BadConfig text) = text
text_of_refusal (Taken name path) = taken_text name path
text_of_refusal (NoSnapshot name) = no_snapshot_text name
text_of_refusal (BadFileName at) = bad_file_text at
text_of_refusal (BadRing text) = text
text_of_refusal (NotInRing host) = not_in_ring_text host
text_of_refusal (Running name) = running_text name
text_of_refusal (BadManifest path) = bad_manifest_text path

abbrev pub status_of_device : Device → Status
status_of_device Files = status.ReadFault
status_of_device Nodes = status.ReadFault
status_of_device Storage = status.StorageFault
status_of_device Output = status.WriteFault
status_of_device Memory = status.Memory

abbrev pub text_of_device : Device → List ℕ
text_of_device Files = codes "read fault"
text_of_device Nodes = codes "read fault"
text_of_device Storage = codes "storage fault"
text_of_device Output = codes "write fault"
text_of_device Memory = codes "out of memory"

abbrev pub status_of_stop : Stop → Status
status_of_stop (Refused refusal) = status_of_refusal refusal
status_of_stop (Failed device) = status_of_device device

abbrev pub text_of_stop : Stop → List ℕ
text_of_stop (Refused refusal) = text_of_refusal refusal
text_of_stop (Failed device) = text_of_device device

abbrev pub End : Type 0
End = Result (Unit {0}) Stop

abbrev pub status_of : End → Status
status_of (Ok x) = status.Done
status_of (Err stop) = status_of_stop stop

-- what is told on the standard error: nothing after an end that is well, and else one line, of
-- which a part is missing only where the count of that stream rose
abbrev pub Tells : End → (err err_now : SinkState) → Type 0
Tells (Ok x) err err_now = err_now ≡ err
Tells (Err stop) err err_now =
    Complains (text_of_stop stop) err.taken err_now.taken err.faults err_now.faults

-- ---- the promise

-- what a command leaves is said in statements, which mean themselves
abbrev pub says : Type 0 → Type 0
says statement = statement

-- The command ended as its plan has it; where what is told leads to an end it ended so, or a device
-- that was asked failed; and the number is the status of that end, whose text was told. Files and
-- snapshots stay, and no count of faults falls.
pub record IsAnswered (plan : Plan (Type 0) (Unit {0})) (a b : World) (err err_now : SinkState)
    (n : ℕ) : Type 0 where
  pub end : End
  pub ends : Ends (rose_of a b) says plan end
  pub exact : IsExact (rose_of a b) plan end
  pub status : n ≡ code (status_of end)
  pub tells : Tells end err err_now
  pub later : IsLater a b
  pub err_later : err.faults ≤ err_now.faults
