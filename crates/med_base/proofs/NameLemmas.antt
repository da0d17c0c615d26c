-- What the rules of names say of a text that keeps them.
use Rattle.std.proofs.Common.{◌≡◌, ◌||◌, ℕ, Bool, true, false, List, [], codes, bytes_eq, None, refl}
use Rattle.std.proofs.lemmas.Bool.{or_parts}
use Rattle.med_base.specs.Names.{first_fault, begins_with_dot}
use Rattle.med_base.specs.Kinds.{IsFqdn, IsBackupName}
use Rattle.med_base.proofs.Paths.{HasNoSlash, fault_no_slash}

not_refused : (is_refused : Bool) (limit : ℕ) (text : List ℕ)
    → first_fault is_refused limit text ≡ None → is_refused ≡ false
not_refused true limit text e = absurd (cc)
not_refused false limit text e = refl

pub fqdn_no_slash : (f : List ℕ) → IsFqdn f → HasNoSlash f
fqdn_no_slash f ok = fault_no_slash
    (bytes_eq f [] || begins_with_dot f || bytes_eq f (codes "index")) 200 f ok

pub fqdn_not_index : (f : List ℕ) → IsFqdn f → bytes_eq f (codes "index") ≡ false
fqdn_not_index f ok =
    let refused = not_refused (bytes_eq f [] || begins_with_dot f || bytes_eq f (codes "index")) 200
    f ok in
    (or_parts (bytes_eq f [] || begins_with_dot f) (bytes_eq f (codes "index")) refused).1

pub backup_no_slash : (n : List ℕ) → IsBackupName n → HasNoSlash n
backup_no_slash n ok = fault_no_slash
    (bytes_eq n [] || begins_with_dot n || bytes_eq n (codes "data") || bytes_eq n (codes "meta"))
    200 n ok

pub backup_not_data : (n : List ℕ) → IsBackupName n → bytes_eq n (codes "data") ≡ false
backup_not_data n ok =
    let front = bytes_eq n [] || begins_with_dot n in
    let word = bytes_eq n (codes "data") in
    let refused = not_refused (front || word || bytes_eq n (codes "meta")) 200 n ok in
    (or_parts front word (or_parts (front || word) (bytes_eq n (codes "meta")) refused).0).1
