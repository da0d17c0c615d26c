-- A call that is refused for what it found has no list of changes.
use Rattle.std.proofs.Common.{◌≢◌, List, [], ◌∷◌, refl, subst, Contains}
use Rattle.std.specs.List.{AllByRecursion}
use Rattle.std.proofs.lemmas.List.Elements.{All-contains, All-from_recursion}
use Rattle.med_base.proofs.Lists.{all_split}
use Rattle.med_base.specs.Content.{Content}
use Rattle.med_base.specs.Effects.{Effect}
use Rattle.med_core.specs.Section.{Abandon, AreIdle, Call, Claim, Finish, HasBadManifest, IsListOf, IsNoBackup, IsRefusedFor, IsRunning, IsTaken, Place, Rebuild, Refusal, Remove, Running}
use Rattle.med_manifest.proofs.ByKind.{Text}
use Rattle.med_manifest.specs.Reads.{DoAllRead, DoesRead, IsFirstUnread}

unread_not_all : (before : Text) (c : Content) (f : Text) (names : List Text) (path : Text)
    → IsFirstUnread before c f names path → DoAllRead before c f names → ⊥
unread_not_all before c f names path h all =
    let split = all_split (DoesRead before c f) h.good (path ∷ h.rest)
    (subst (AllByRecursion (DoesRead before c f)) h.paths all) in
    h.unread split.1.0

running_not_idle : (r : Running) (f n : Text) (names : List Text) → Contains names n
    → Contains r (f, n) → AreIdle r f names → ⊥
running_not_idle r f n names among runs idle =
    All-contains (λ m. Contains r (f, m) → ⊥) names n
    (All-from_recursion (λ m. Contains r (f, m) → ⊥) names idle) among runs

pub no_list : (before : Text) (c : Content) (r : Running) (f : Text) (call : Call) (why : Refusal)
    → IsRefusedFor before c r f call why → (why ≢ IsNoBackup) → (xs : List Effect)
    → IsListOf before c r f call xs → ⊥
no_list before c r f (Claim n d schema ring) IsRunning h other xs list = list.0 h
no_list before c r f (Claim n d schema ring) (IsTaken path) h other xs list =
    let free = list.1 in let taken = h.1.2 in cc (free, taken)
no_list before c r f (Claim n d schema ring) (HasBadManifest path) h other xs list = h
no_list before c r f (Claim n d schema ring) IsNoBackup h other xs list = h
no_list before c r f (Place n d key bytes) why h other xs list = h
no_list before c r f (Finish n d records) why h other xs list = h
no_list before c r f (Abandon n) why h other xs list = h
no_list before c r f (Remove names grace now) IsRunning (n, among, runs) other xs list =
    running_not_idle r f n names among runs list.0
no_list before c r f (Remove names grace now) (IsTaken path) h other xs list = h
no_list before c r f (Remove names grace now) (HasBadManifest path) h other xs list =
    unread_not_all before c f names path h.1 list.1
no_list before c r f (Remove names grace now) IsNoBackup h other xs list = other refl
no_list before c r f Rebuild IsRunning h other xs list = h
no_list before c r f Rebuild (IsTaken path) h other xs list = h
no_list before c r f Rebuild (HasBadManifest path) h other xs list =
    unread_not_all before c f [] path h list.0
no_list before c r f Rebuild IsNoBackup h other xs list = h
