-- A section over a part is a section over the content.
use Rattle.std.proofs.Common.{◌≡◌, ℕ, Bool, true, false, cond, not, ◌&&◌, List, [], ◌∷◌, ◌++◌, map, filter, Some, None, Option, refl, sym, ◌∙◌, ap, subst, inl, inr, All, is_some, bytes_eq}
use Rattle.std.specs.List.{AllByRecursion, flat_map, list_any}
use Rattle.std.proofs.lemmas.List.Elements.{All-head, All-tail, All-from_recursion, recursion_from_All}
use Rattle.std.specs.Cmp.Lexicographic.{nat_list_cmp_total}
use Rattle.std.specs.FinMap as fin
use Rattle.med_base.specs.declared.layout.MetaKind.TheVariants as meta_kind
use Rattle.med_base.specs.declared.kinds.IndexKind.TheVariants as index_kind
use Rattle.med_base.specs.declared.kinds.LatestKind.TheVariants as latest_kind
use Rattle.med_base.specs.Classify.{kind_of}
use Rattle.med_base.specs.Content.{Content, Object}
use Rattle.med_base.specs.Effects.{Effect, Removes, Stores, applied, made}
use Rattle.med_base.specs.Kinds.{Entry, Kind, Latest, Meta, Own, Shared, Stray}
use Rattle.med_base.specs.declared.key.FileKey.{FileKey}
use Rattle.med_base.specs.declared.layout.MetaKind.{MetaKind}
use Rattle.med_core.proofs.SafeByKind.{finish_with}
use Rattle.med_core.proofs.Sections.{BegunByKind, FrontByKind, IsUnder, ListByKind, LookByKind, RunByKind, RunOfParts, is_owned, part}
use Rattle.med_core.specs.Finish.{Fresh, checked, is_stored_as, manifest_puts, with_placing, with_record}
use Rattle.med_core.specs.Place.{placing, placing_over}
use Rattle.med_core.specs.Removal.{changes_of_removal, is_content_of, is_old, is_shared_of, old_unnamed, paths_of_backup}
use Rattle.med_core.specs.Run.{next_content, next_running}
use Rattle.med_core.specs.Section.{Abandon, Call, Claim, Done, Ending, Event, Finish, Halted, Place, Rebuild, Refused, Remove, Running, Stopped, Unsure}
use Rattle.med_manifest.proofs.ByKind.{HasPath, IsFileOf, IsProper, KeyByKind, NameByKind, NodeByKind, Reads, StandsByKind, Text, at, files, folder, only, under}
use Rattle.med_manifest.proofs.Gets.{cmp_same, from_same, same_itself}
use Rattle.med_manifest.proofs.IndexByKind.{IsGivenAs, pairs, put_given, rebuild_list}
use Rattle.med_manifest.proofs.Members.{IsListed, all_listed, get_kept}
use Rattle.med_manifest.proofs.Newest.{IsAllOf, IsOutside, newest_outside}
use Rattle.med_manifest.proofs.Rebuilds.{pairs_given, rebuild_is}
use Rattle.med_manifest.specs.Index.{IsGiven, given, given_by, given_to}
use Rattle.med_manifest.specs.Listed.{if_stands, paths_of, remove_if_stands, removes}
use Rattle.med_manifest.specs.Mend.{changes_of_mend, finished_at, has_bytes, is_manifest_outside, latest_of, mend_to, mend_tokenmap, name_in, newest, put_unless, second_or_zero}
use Rattle.med_manifest.specs.Named.{named}
use Rattle.med_manifest.specs.Rebuild.{is_entry_of, is_entry_of_node}
use Rattle.med_manifest.specs.declared.manifest.FileRecord.{FileRecord}

pub and_first : (a b : Bool) → (a && b) ≡ true → a ≡ true
and_first true b e = refl
and_first false b e = e

-- the contents have the same of node f
abbrev pub Agree : Text → Text → Content → Content → Type 0
Agree before f c d = (q : Text) → is_owned f (kind_of before q) ≡ true → fin.get c q ≡ fin.get d q

pub part_agrees : (before : Text) (f : Text) (c : Content) → Agree before f (part before f c) c
part_agrees before f c q own = get_kept c (λ p. is_owned f (kind_of before p)) q
    ∙ ap (λ b. cond b (fin.get c q) None) own

agree_made : (before : Text) (f : Text) (c d : Content) (x : Effect) → Agree before f c d
    → Agree before f (made x c) (made x d)
agree_made before f c d (Stores p b s) h q own = fin.get-insert nat_list_cmp_total c p _ q
    ∙ ap (cond (cmp_same q p) _) (h q own) ∙ sym (fin.get-insert nat_list_cmp_total d p _ q)
agree_made before f c d (Removes p) h q own = fin.get-remove nat_list_cmp_total c p q
    ∙ ap (cond (cmp_same q p) None) (h q own) ∙ sym (fin.get-remove nat_list_cmp_total d p q)

pub agree_applied : (before : Text) (f : Text) (xs : List Effect) (c d : Content) → Agree before f c d
    → Agree before f (applied xs c) (applied xs d)
agree_applied before f [] c d h = h
agree_applied before f (x ∷ xs) c d h = agree_applied before f xs (made x c) (made x d)
    (agree_made before f c d x h)

map_so : {X Y : Type 0} (g h : X → Y) (xs : List X) → AllByRecursion (λ x. g x ≡ h x) xs → map g xs
    ≡ map h xs
map_so g h [] k = refl
map_so g h (x ∷ xs) k = λ i. k.0 i ∷ map_so g h xs k.1 i

filter_so : {X : Type 0} (g h : X → Bool) (xs : List X) → AllByRecursion (λ x. g x ≡ h x) xs
    → filter g xs ≡ filter h xs
filter_so g h [] k = refl
filter_so g h (x ∷ xs) k = λ i. cond (k.0 i) (x ∷ filter_so g h xs k.1 i) (filter_so g h xs k.1 i)

flat_map_so : {X Y : Type 0} (g h : X → List Y) (xs : List X) → AllByRecursion (λ x. g x ≡ h x) xs
    → flat_map g xs ≡ flat_map h xs
flat_map_so g h [] k = refl
flat_map_so g h (x ∷ xs) k = λ i. k.0 i ++ flat_map_so g h xs k.1 i

all_at : (P : ℕ × Text → Type 0) (o : Option (ℕ × Text)) (b : ℕ × Text) → IsAllOf P o → o ≡ Some b
    → P b
all_at P None b h e = absurd (cc)
all_at P (Some a) b h e = let is : a ≡ b = cc in subst P is h

all_map : {X : Type 0} (P Q : X → Type 0) → ((x : X) → P x → Q x) → (xs : List X)
    → AllByRecursion P xs → AllByRecursion Q xs
all_map P Q so [] h = tt
all_map P Q so (x ∷ xs) h = (so x h.0, all_map P Q so xs h.1)

module _ (before : Text) (f : Text) where
  owned_at : (k : Kind) → HasPath before k → is_owned f k ≡ true
      → is_owned f (kind_of before (at before k)) ≡ true
  owned_at k has own = ap (is_owned f) has ∙ own

  pub mine : bytes_eq f f ≡ true
  mine = same_itself f

  module _ (c d : Content) (h : Agree before f c d) where
    pub at_agrees : (k : Kind) → HasPath before k → is_owned f k ≡ true → fin.get c (at before k)
        ≡ fin.get d (at before k)
    at_agrees k has own = h (at before k) (owned_at k has own)

    pub paths_agree : (test : Kind → Bool) → ((k : Kind) → test k ≡ true → is_owned f k ≡ true)
        → paths_of before c test ≡ paths_of before d test
    paths_agree test within = ap fin.keys (fin.same_map nat_list_cmp_total
        (fin.slice_cmp-IsAntisymmetric fin.nat_cmp-IsAntisymmetric)
        (fin.retain_keys c (λ p. test (kind_of before p)))
        (fin.retain_keys d (λ p. test (kind_of before p)))
        (λ q. get_kept c (λ p. test (kind_of before p)) q ∙ by q (test (kind_of before q)) refl
        ∙ sym (get_kept d (λ p. test (kind_of before p)) q)))
      where
        by : (q : Text) (b : Bool) → test (kind_of before q) ≡ b → cond b (fin.get c q) None
            ≡ cond b (fin.get d q) None
        by q true e = h q (within (kind_of before q) e)
        by q false e = refl

    deletes_agree : (k : Kind) → HasPath before k → is_owned f k ≡ true → remove_if_stands c
        (at before k) ≡ remove_if_stands d (at before k)
    deletes_agree k has own = ap (λ o. cond (is_some o) (Removes (at before k) ∷ []) [])
        (at_agrees k has own)

    pub entry_owned : (n : Text) (k : Kind) → is_entry_of f n k ≡ true → is_owned f k ≡ true
    entry_owned n (Entry g m e) is = and_first (bytes_eq g f) (bytes_eq m n) is
    entry_owned n _ is = absurd (cc)

    pub file_owned : (n : Text) (k : Kind) → is_content_of f n k ≡ true → is_owned f k ≡ true
    file_owned n (Own g m e) is = and_first (bytes_eq g f) (bytes_eq m n) is
    file_owned n (Stray g (Some m)) is = and_first (bytes_eq g f) (bytes_eq m n) is
    file_owned n _ is = absurd (cc)

    pub shared_owned : (k : Kind) → is_shared_of f k ≡ true → is_owned f k ≡ true
    shared_owned (Shared g e) is = is
    shared_owned _ is = absurd (cc)

    pub candidate_owned : (names : List Text) (k : Kind) → is_manifest_outside f names k ≡ true
        → is_owned f k ≡ true
    candidate_owned names (Meta g n meta_kind.Manifest) is = and_first (bytes_eq g f)
        (not (list_any (bytes_eq n) names)) is
    candidate_owned names _ is = absurd (cc)

    pub any_entry_owned : (k : Kind) → is_entry_of_node f k ≡ true → is_owned f k ≡ true
    any_entry_owned (Entry g n e) is = is
    any_entry_owned _ is = absurd (cc)

    newest_agrees : (names : List Text) → newest before c f names ≡ newest before d f names
    newest_agrees names = ap latest_of (map_so (finished_at before c) (finished_at before d)
        (paths_of before c (is_manifest_outside f names))
        (all_map (IsListed before c (is_manifest_outside f names)) (λ p. finished_at before c p
        ≡ finished_at before d p)
        (λ p k i. (
          second_or_zero (h p (candidate_owned names (kind_of before p) k.0) i),
          name_in (kind_of before p),
        )) _ (all_listed before c (is_manifest_outside f names)))
        ∙ ap (map (finished_at before d)) (paths_agree (is_manifest_outside f names)
        (candidate_owned names)))

    puts_agree : (k : Kind) → HasPath before k → is_owned f k ≡ true → (b : Text) (t : ℕ)
        → put_unless c (at before k) b t ≡ put_unless d (at before k) b t
    puts_agree k has own b t = ap (λ o. cond (has_bytes o b) [] (Stores (at before k) b t ∷ []))
        (at_agrees k has own)

    module _ (node : NodeByKind before f) where
      ring_agrees : (o : Option Object) (t : ℕ) → mend_tokenmap before c f o t
          ≡ mend_tokenmap before d f o t
      ring_agrees None t = deletes_agree (Latest f latest_kind.Tokenmap)
          (node.latest latest_kind.Tokenmap) mine
      ring_agrees (Some o) t = puts_agree (Latest f latest_kind.Tokenmap)
          (node.latest latest_kind.Tokenmap) mine o.bytes t

      to_agrees : (a : Option (ℕ × Text)) (t : ℕ → ℕ) → ((b : ℕ × Text) → a ≡ Some b
          → HasPath before (Meta f b.1 meta_kind.Tokenmap)) → mend_to before c f a t
          ≡ mend_to before d f a t
      to_agrees None t has = λ i. deletes_agree (Latest f latest_kind.Name)
          (node.latest latest_kind.Name) mine i ++ deletes_agree (Latest f latest_kind.Tokenmap)
          (node.latest latest_kind.Tokenmap) mine i
      to_agrees (Some a) t has =
          let rings : mend_tokenmap before c f
          (fin.get c (at before (Meta f a.1 meta_kind.Tokenmap))) (t 1)
          ≡ mend_tokenmap before d f (fin.get d (at before (Meta f a.1 meta_kind.Tokenmap)))
          (t 1) =
          ring_agrees (fin.get c (at before (Meta f a.1 meta_kind.Tokenmap))) (t 1)
          ∙ ap (λ o. mend_tokenmap before d f o (t 1))
          (at_agrees (Meta f a.1 meta_kind.Tokenmap) (has a refl) mine) in
          λ i. puts_agree (Latest f latest_kind.Name) (node.latest latest_kind.Name) mine a.1
          (t 0) i ++ rings i

      pub mend_agrees : (names : List Text) (t : ℕ → ℕ) → changes_of_mend before c f names t
          ≡ changes_of_mend before d f names t
      mend_agrees names t = to_agrees (newest before c f names) t (λ b e. let (o, stands) =
          (all_at (IsOutside before c f names) (newest before c f names) b
          (newest_outside before c f names) e).0 in
          folder before f b.1 meta_kind.Manifest meta_kind.Tokenmap stands.0)
          ∙ ap (λ a. mend_to before d f a t) (newest_agrees names)

    pub placing_agrees : (n : Text) (e : Bool) (k : FileKey) → HasPath before (Shared f k)
        → (b : Text) (t : ℕ) → placing before f n e k b t c ≡ placing before f n e k b t d
    placing_agrees n true k has b t = ap (placing_over before f n k b t)
        (at_agrees (Shared f k) has mine)
    placing_agrees n false k has b t = refl

    standing_agrees : (k : Kind) → HasPath before k → is_owned f k ≡ true
        → if_stands c (at before k) ≡ if_stands d (at before k)
    standing_agrees k has own = ap (λ o. cond (is_some o) (at before k ∷ []) [])
        (at_agrees k has own)

    one_agrees : (n : Text) → NameByKind before f n → paths_of_backup before c f n
        ≡ paths_of_backup before d f n
    one_agrees n has = λ i. paths_agree (is_entry_of f n) (entry_owned n) i
        ++ (standing_agrees (Meta f n meta_kind.Manifest) (has.meta meta_kind.Manifest) mine i
        ++ (paths_agree (is_content_of f n) (file_owned n) i
        ++ (standing_agrees (Meta f n meta_kind.Differential) (has.meta meta_kind.Differential) mine
        i ++ (standing_agrees (Meta f n meta_kind.Tokenmap) (has.meta meta_kind.Tokenmap) mine i
        ++ standing_agrees (Meta f n meta_kind.Schema) (has.meta meta_kind.Schema) mine i))))

    dropped_agree : (named : List Text) (grace now : ℕ) → old_unnamed before c f named grace now
        ≡ old_unnamed before d f named grace now
    dropped_agree named grace now = filter_so (λ p. not (list_any (bytes_eq p) named)
        && is_old (fin.get c p) grace now) (λ p. not (list_any (bytes_eq p) named)
        && is_old (fin.get d p) grace now) (paths_of before c (is_shared_of f))
        (all_map (IsListed before c (is_shared_of f)) _ (λ p k i. not (list_any (bytes_eq p) named)
        && is_old (h p (shared_owned (kind_of before p) k.0) i) grace now) _
        (all_listed before c (is_shared_of f)))
        ∙ ap (filter (λ p. not (list_any (bytes_eq p) named) && is_old (fin.get d p) grace now))
        (paths_agree (is_shared_of f) shared_owned)

    pub remove_agrees : (names named : List Text) (grace now : ℕ) → All (NameByKind before f) names
        → (t : ℕ → ℕ) → NodeByKind before f → changes_of_removal before c f names named grace now t
        ≡ changes_of_removal before d f names named grace now t
    remove_agrees names named grace now are t node = λ i. mend_agrees node names t i
        ++ removes (flat_map_so (paths_of_backup before c f) (paths_of_backup before d f) names
        (all_map (NameByKind before f) _ one_agrees names (recursion_from_All
        (NameByKind before f) names are)) i ++ dropped_agree named grace now i)

    stands_agree : (k : Kind) (o : Object) → is_owned f k ≡ true → StandsByKind before c k o
        → StandsByKind before d k o
    stands_agree k o own (has, e) = (has, sym (at_agrees k has own) ∙ e)

    given_agrees : (b : Text) (k : Kind) → IsGivenAs before c f b k → IsGivenAs before d f b k
    given_agrees b (Entry g n index_kind.Tokenmap) (here_at, (o, stands, is)) =
        (here_at, (o, stands_agree (Meta f n meta_kind.Tokenmap) o mine stands, is))
    given_agrees b (Entry g n index_kind.Manifest) (here_at, (o, stands, is)) =
        (here_at, (o, stands_agree (Meta f n meta_kind.Manifest) o mine stands, is))
    given_agrees b (Entry g n (index_kind.Finished t)) (here_at, (o, stands, is)) =
        (here_at, (o, stands_agree (Meta f n meta_kind.Manifest) o mine stands, is))
    given_agrees b (Entry g n _) h = h
    given_agrees b _ h = absurd h

    pub given_owned : (b : Text) (k : Kind) → IsGivenAs before c f b k → is_owned f k ≡ true
    given_owned b (Entry g n index_kind.Tokenmap) (here_at, _) = ap (λ x. bytes_eq x f) here_at
        ∙ mine
    given_owned b (Entry g n index_kind.Manifest) (here_at, _) = ap (λ x. bytes_eq x f) here_at
        ∙ mine
    given_owned b (Entry g n (index_kind.Finished t)) (here_at, _) = ap (λ x. bytes_eq x f) here_at
        ∙ mine
    given_owned b (Entry g n _) here_at = ap (λ x. bytes_eq x f) here_at ∙ mine
    given_owned b _ h = absurd h

    put_given_agrees : (given : List (Text × Text)) (u : Text → ℕ)
        → All (λ e. IsGivenAs before c f e.1 (kind_of before e.0)) given → put_given c given u
        ≡ put_given d given u
    put_given_agrees [] u k = refl
    put_given_agrees (e ∷ rest) u k = λ i. cond
        (has_bytes (h e.0 (given_owned e.1 (kind_of before e.0)
        (All-head (λ a. IsGivenAs before c f a.1 (kind_of before a.0)) e rest k)) i) e.1) []
        (Stores e.0 e.1 (u e.0) ∷ [])
        ++ put_given_agrees rest u (All-tail (λ a. IsGivenAs before c f a.1 (kind_of before a.0)) e
        rest k) i

    pub rebuild_agrees : (given : List (Text × Text)) (t : ℕ → ℕ) (u : Text → ℕ) → NodeByKind before f
        → All (λ e. IsGivenAs before c f e.1 (kind_of before e.0)) given
        → rebuild_list before c f given t u ≡ rebuild_list before d f given t u
    rebuild_agrees given t u node k = λ i. mend_agrees node [] t i
        ++ (removes (filter (λ p. not (list_any (λ (e : Text × Text). bytes_eq p e.0) given))
        (paths_agree (is_entry_of_node f) any_entry_owned i)) ++ put_given_agrees given u k i)

    under_owned : (n : Text) (k : Kind) → IsUnder f n k → is_owned f k ≡ true
    under_owned n (Meta g m e) (here_at, _) = ap (λ x. bytes_eq x f) here_at ∙ mine
    under_owned n _ k = absurd k

  file_path_owned : (n : Text) (r : FileRecord) → IsFileOf before f n r
      → is_owned f (kind_of before r.path) ≡ true
  file_path_owned n r (inl e) = ap (is_owned f) e ∙ mine
  file_path_owned n r (inr e) = ap (is_owned f) e ∙ mine

  pub checked_agrees : (n : Text) (e : Bool) (x : Fresh) (rs : List FileRecord) (c d : Content)
      → Agree before f c d → All (λ q. KeyByKind before f n q.key) rs → All (IsFileOf before f n) rs
      → checked before f n e x c rs ≡ checked before f n e x d rs
  checked_agrees n e x [] c d h keyed files = refl
  checked_agrees n e x (r ∷ rs) c d h keyed files =
      let more = λ (a b : Content) (k : Agree before f a b). checked_agrees n e x rs a b k
      (All-tail (λ q. KeyByKind before f n q.key) r rs keyed) (All-tail (IsFileOf before f n) r
      rs files) in
      let key : KeyByKind before f n r.key = All-head (λ q. KeyByKind before f n q.key) r rs
      keyed in
      let here_at : fin.get c r.path ≡ fin.get d r.path = h r.path (file_path_owned n r
      (All-head (IsFileOf before f n) r rs files)) in
      let p = placing_agrees c d h n e r.key key.shared (x.bytes r.key) (x.second r.key) in
      let xs : List Effect = (placing before f n e r.key (x.bytes r.key) (x.second r.key)
      c).changes in
      let rest = more (applied xs c) (applied xs d) (agree_applied before f xs c d h)
      ∙ ap (λ y. checked before f n e x (applied y.changes d) rs) p in
      λ i. cond (is_stored_as r.fingerprint (here_at i)) (with_record r (more c d h i))
      (with_placing (p i) (rest i))

  pub map_agrees : (c d : Content) → Agree before f c d → (p : Text) (k : Kind) → kind_of before p ≡ k
      → given_to before c f k ≡ given_to before d f k
  map_agrees c d h p (Entry g n e) is = go (bytes_eq g f) refl
    where
      has : bytes_eq g f ≡ true → HasPath before (Entry f n e)
      has a =
          let here : kind_of before p ≡ Entry f n e = is ∙ ap (λ x. Entry x n e)
          (from_same g f a) in
          subst (λ q. kind_of before q ≡ Entry f n e) (only before p (subst IsProper (sym here) tt)
          ∙ ap (at before) here) here

      go : (b : Bool) → bytes_eq g f ≡ b → cond b (given before c f n e) None
          ≡ cond b (given before d f n e) None
      go true a =
          let here_at : (k : MetaKind) → fin.get c (at before (Meta f n k))
          ≡ fin.get d (at before (Meta f n k)) = λ k. at_agrees c d h (Meta f n k)
          (under before f n e k (has a)) mine in
          λ i. given_by (here_at meta_kind.Schema i) (here_at meta_kind.Differential i)
          (here_at meta_kind.Tokenmap i) (here_at meta_kind.Manifest i) e
      go false a = refl
  map_agrees c d h p _ is = refl

  list_agrees : (c d : Content) → Agree before f c d → (r : Running) (call : Call)
      (xs : List Effect) → ListByKind before c r f call xs → ListByKind before d r f call xs
  list_agrees c d h r (Claim n e schema ring) xs (has, not_running, free, seconds) = (
    has,
    not_running,
    λ p o stands under. free p o
        (h p (under_owned c d h n (kind_of before p) under) ∙ stands) under,
    seconds,
  )
  list_agrees c d h r (Place n e k b) xs (keyed, runs, (t, is)) =
      (keyed, runs, (t, is ∙ ap (λ y. y.changes) (placing_agrees c d h n e k keyed.shared b t)))
  list_agrees c d h r (Finish n e records) xs (
    node,
    has,
    runs,
    apart,
    keyed,
    files,
    (x, b, t, u, fit, reads, is),
  ) =
      let one : checked before f n e x c records ≡ checked before f n e x d records = checked_agrees
      n e x records c d h keyed files in
      let more : Agree before f (applied (manifest_puts before f n b t)
      (applied (checked before f n e x c records).changes c))
      (applied (manifest_puts before f n b t)
      (applied (checked before f n e x c records).changes d)) =
      agree_applied before f (manifest_puts before f n b t) _ _ (agree_applied before f
      (checked before f n e x c records).changes c d h) in (
        node,
        has,
        runs,
        apart,
        keyed,
        files,
        (
          x,
          b,
          t,
          u,
          fit,
          subst (λ y. Reads before f n b y.files) one reads,
          is ∙ ap (finish_with before f n (checked before f n e x c records) b t)
              (mend_agrees _ _ more node [] u)
              ∙ ap (λ y. finish_with before f n y b t (changes_of_mend before
              (applied (manifest_puts before f n b t) (applied y.changes d)) f [] u)) one,
        ),
      )
  list_agrees c d h r (Abandon n) xs is = is
  list_agrees c d h r (Remove names grace now) xs (node, are, apart, (named, t, has, is)) = (
    node,
    are,
    apart,
    (
      named,
      t,
      record {
        all = λ n o stands out L reads file among. has.all n o
            (stands_agree d c (λ q own. sym (h q own)) (Meta f n meta_kind.Manifest) o mine stands)
            out L reads file among;
      },
      is ∙ remove_agrees c d h names named grace now are t node,
    ),
  )
  list_agrees c d h r Rebuild xs (node, (G, t, u, given, is)) =
      let pairs_so : All (λ e. IsGivenAs before c f e.1 (kind_of before e.0))
      (pairs G (fin.keys G)) = All-from_recursion (λ e. IsGivenAs before c f e.1
      (kind_of before e.0)) (pairs G (fin.keys G)) (pairs_given before f c G given
      (fin.keys G)) in
      let there : IsGiven before d f G = λ p. given p ∙ map_agrees c d h p (kind_of before p)
      refl in (
        node,
        (
          G,
          t,
          u,
          there,
          is ∙ rebuild_is before f node c G given t u ∙ rebuild_agrees c d h
              (pairs G (fin.keys G)) t u node pairs_so
              ∙ sym (rebuild_is before f node d G there t u),
        ),
      )

  look_agrees : (c d : Content) → Agree before f c d → (r : Running) (call : Call)
      (xs : List Effect) → LookByKind before c r f call xs → LookByKind before d r f call xs
  look_agrees c d h r (Finish n e records) xs (runs, apart, keyed, files, (x, is)) = (
    runs,
    apart,
    keyed,
    files,
    (x, is ∙ ap (λ y. y.changes) (checked_agrees n e x records c d h keyed files)),
  )
  look_agrees c d h r (Claim n e schema ring) xs k = absurd k
  look_agrees c d h r (Place n e key b) xs k = absurd k
  look_agrees c d h r (Abandon n) xs k = absurd k
  look_agrees c d h r (Remove names grace now) xs k = absurd k
  look_agrees c d h r Rebuild xs k = absurd k

  front_agrees : (c d : Content) → Agree before f c d → (r : Running) (call : Call)
      (xs : List Effect) → FrontByKind before c r f call xs → FrontByKind before d r f call xs
  front_agrees c d h r call xs (inl k) = inl (list_agrees c d h r call xs k)
  front_agrees c d h r call xs (inr k) = inr (look_agrees c d h r call xs k)

  pub begun_agrees : (c d : Content) → Agree before f c d → (r : Running) (call : Call)
      (end : Ending) (xs : List Effect) → BegunByKind before c r f call end xs
      → BegunByKind before d r f call end xs
  begun_agrees c d h r call Done xs k = list_agrees c d h r call xs k
  begun_agrees c d h r call (Refused why) xs k = k
  begun_agrees c d h r call (Halted by) xs (inl none) = inl none
  begun_agrees c d h r call (Halted by) xs (inr (rest, k)) = inr (
    rest,
    front_agrees c d h r call (xs
        ++ rest) k,
  )
  begun_agrees c d h r call Stopped xs (inl none) = inl none
  begun_agrees c d h r call Stopped xs (inr (rest, k)) = inr (
    rest,
    front_agrees c d h r call (xs
        ++ rest) k,
  )
  begun_agrees c d h r call (Unsure x took) xs (rest, k) = (
    rest,
    front_agrees c d h r call (xs ++ x
        ∷ rest) k,
  )

pub run_of_parts : (before : Text) → (es : List Event) (c : Content) (r : Running)
    → RunOfParts before c r es → RunByKind before c r es
run_of_parts before [] c r h = tt
run_of_parts before (e ∷ es) c r h = (
  begun_agrees before e.node (part before e.node c) c
      (part_agrees before e.node c) r e.call e.ending e.changes h.0,
  run_of_parts before es
      (next_content c e) (next_running r e) h.1,
)
