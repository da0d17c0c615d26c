-- A run: sections of any nodes, one after the other, and stops between or within them.
use Rattle.std.specs.Prelude.{ℕ, Bool, true, not, ◌&&◌, List, [], ◌∷◌, ◌++◌, filter, bytes_eq}
use Rattle.med_base.specs.Content.{Content}
use Rattle.med_base.specs.Effects.{Effect, applied}
use Rattle.med_base.specs.Part.{node_part}
use Rattle.med_core.specs.Section.{Running, Call, Claim, Finish, Abandon, Ending, Done, Unsure, Stopped, Event, IsSection}

-- the changes that took effect, with the last one where it answered a fault
abbrev pub effects_of : Ending → List Effect → List Effect
effects_of (Unsure x true) changes = changes ++ x ∷ []
effects_of _ changes = changes

-- the changes of an event that took effect
abbrev pub effects : Event → List Effect
effects e = effects_of e.ending e.changes

-- the two have one node and one name
abbrev pub is_same_backup : List ℕ × List ℕ → List ℕ × List ℕ → Bool
is_same_backup a b = bytes_eq a.0 b.0 && bytes_eq a.1 b.1

-- the running names but for one
abbrev pub without : List ℕ × List ℕ → Running → Running
without a running = filter (λ b. not (is_same_backup a b)) running

-- the running names after a call: a claim that was done adds its name, a finish and an abandon take
-- it out, however they end, and a stop leaves none
abbrev pub running_after : Running → List ℕ → Call → Ending → Running
running_after running f call Stopped = []
running_after running f (Claim n is_differential schema ring) Done = (f, n) ∷ running
running_after running f (Finish n is_differential records) _ = without (f, n) running
running_after running f (Abandon n) _ = without (f, n) running
running_after running f _ _ = running

-- the running names after an event
abbrev pub next_running : Running → Event → Running
next_running running e = running_after running e.node e.call e.ending

-- the content after an event
abbrev pub next_content : Content → Event → Content
next_content c e = applied (effects e) c

-- each event is a section over the part of its node, and begins where the one before it ended
abbrev pub IsRun : List ℕ → Content → Running → List Event → Type 0
IsRun before c running [] = Unit {0}
IsRun before c running (e ∷ es) =
    IsSection before (node_part before e.node c) running e
    × IsRun before (next_content c e) (next_running running e) es
