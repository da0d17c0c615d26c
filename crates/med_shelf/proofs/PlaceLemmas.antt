-- A file of a snapshot that is placed, in a full and in a differential backup.
use Rattle.std.proofs.Common.{◌≡◌, ◌∙◌, ℕ, Bool, true, false, List, [], ◌∷◌, Option, Some, None, Result, Ok, Err, IsOk, IfOk, IfSome, inl, inr, refl, sym, ap, subst, if◌then◌else◌}
use Rattle.std.specs.List.{AllByRecursion}
use Rattle.std.specs.FinMap.{get}
use Rattle.med_base.specs.declared.fingerprint.Fingerprint.{Fingerprint}
use Rattle.med_base.specs.declared.key.FileKey.{FileKey}
use Rattle.med_base.specs.Content.{Content, Object}
use Rattle.med_base.specs.Effects.{Stores}
use Rattle.med_base.specs.Fingerprint.{fingerprint_of}
use Rattle.med_base.specs.Layout.{own_path, shared_path}
use Rattle.med_core.specs.declared.records.How.{How}
use Rattle.med_core.specs.declared.records.How.TheVariants.{Reused, Stored, Aside}
use Rattle.med_core.specs.declared.records.Record.{Record}
use Rattle.med_core.specs.Place.{how_over, is_same_print, placed_record, placing, placing_over, reused, stored_own}
use Rattle.med_manifest.specs.Manifest.{IsPathOf}
use Rattle.med_outside.specs.declared.copy_fault.CopyFault.{CopyFault}
use Rattle.med_outside.specs.declared.copy_fault.CopyFault.TheVariants as fault
use Rattle.med_outside.specs.declared.trace.Trace.{Trace}
use Rattle.med_outside.specs.Makes.{IsError}
use Rattle.med_outside.specs.Snapshot.{Snapshot, HasKey}
use Rattle.med_outside.specs.State.{State, ChangesWithin, History}
use Rattle.med_outside.proofs.Making.{nothing_yet, told_as}
use Rattle.med_shelf.specs.declared.sending.Paths.{Paths}
use Rattle.med_shelf.specs.declared.sending.Placed.{Placed}
use Rattle.med_shelf.specs.Places.{IsFilePut, IsRecordOf, PlacesFile, SendsBeside, how_unless, path_beside, path_by, put_unless, stands_as}
use Rattle.med_shelf.proofs.SendLemmas.{not_beside, print_in, some_file}

module _ (before f n : List ℕ) (key : FileKey) where
  -- ---- in a full backup

  full_list : (bytes : List ℕ) (second : ℕ) (told : Option Content) → IfSome told
      (λ c. (Stores (own_path before f n key) bytes second ∷ [])
      ≡ (placing before f n false key bytes second c).changes)
  full_list bytes second None = tt
  full_list bytes second (Some c) = refl

  -- nothing was placed
  none_full : (held : Option Snapshot) (s : State) (p : History) (t : Trace)
      (answer : CopyFault) → IfSome held (HasKey key) → t.unsure ≡ false
      → ChangesWithin [] s s p p
      → PlacesFile before f n false key held (Err answer) s s p p t t
  none_full held s p t answer has sure moves =
      let (bytes, whole) = some_file held key has in
      record {
        bytes = bytes;
        file_is = whole;
        second = 0;
        xs = Stores (own_path before f n key) bytes 0 ∷ [];
        puts = ((inr refl, refl), tt);
        list = full_list bytes 0 s.content;
        makes = nothing_yet _ _ s s p p t t _ (λ fine. absurd (cc fine)) refl sure moves;
        record_is = tt;
      }

  -- ---- in a differential backup

  puts_beside : (stands : Bool) (standing : Option Fingerprint) (bytes : List ℕ) (second : ℕ)
      → AllByRecursion (IsFilePut before f n key bytes)
      (put_unless stands (path_beside standing (shared_path before f key) (own_path before f n key))
      bytes second)
  puts_beside true standing bytes second = tt
  puts_beside false None bytes second = ((inl refl, refl), tt)
  puts_beside false (Some print) bytes second = ((inr refl, refl), tt)

  -- the changes by what stands
  list_over : (bytes : List ℕ) (second : ℕ) (o : Option Object)
      → put_unless (stands_as (print_in o) (fingerprint_of bytes))
      (path_beside (print_in o) (shared_path before f key) (own_path before f n key)) bytes second
      ≡ (placing_over before f n key bytes second o).changes
  list_over bytes second None = refl
  list_over bytes second (Some o) =
      go (is_same_print (fingerprint_of o.bytes) (fingerprint_of bytes))
    where
      go : (same : Bool) → put_unless same (own_path before f n key) bytes second
          ≡ (if same then reused before f key bytes
          else stored_own before f n key bytes second).changes
      go true = refl
      go false = refl

  -- each change of a place puts its file
  pub puts_placing : (d : Bool) (bytes : List ℕ) (second : ℕ) (c : Content)
      → AllByRecursion (IsFilePut before f n key bytes)
      (placing before f n d key bytes second c).changes
  puts_placing false bytes second c = ((inr refl, refl), tt)
  puts_placing true bytes second c =
      let o = get c (shared_path before f key) in
      subst (AllByRecursion (IsFilePut before f n key bytes)) (list_over bytes second o)
      (puts_beside (stands_as (print_in o) (fingerprint_of bytes)) (print_in o) bytes second)

  -- the record of a file
  abbrev pub record_by : (stands : Bool) → Option Fingerprint → (bytes : List ℕ) → Record
  record_by stands standing bytes = record {
    file = record {
      key = key;
      path = path_by (how_unless stands standing) (shared_path before f key)
          (own_path before f n key);
      fingerprint = fingerprint_of bytes;
    };
    how = how_unless stands standing;
  }

  record_over : (bytes : List ℕ) (o : Option Object)
      → record_by (stands_as (print_in o) (fingerprint_of bytes)) (print_in o) bytes
      ≡ record { file = (placing_over before f n key bytes 0 o).file; how = how_over bytes o }
  record_over bytes None = refl
  record_over bytes (Some o) =
      go (is_same_print (fingerprint_of o.bytes) (fingerprint_of bytes))
    where
      go : (same : Bool) → record_by same (Some (fingerprint_of o.bytes)) bytes
          ≡ record {
            file = (if same then reused before f key bytes
                else stored_own before f n key bytes 0).file;
            how = if same then Reused else Aside;
          }
      go true = refl
      go false = refl

  path_is_one : (how : How)
      → IsPathOf before f n key (path_by how (shared_path before f key) (own_path before f n key))
  path_is_one Reused = inl refl
  path_is_one Stored = inl refl
  path_is_one Aside = inr refl

  -- `standing` is the fingerprint of the shared file that stands, if one does
  module _ (told : Option Content) (standing : Option Fingerprint)
      (is : IfSome told (λ c. standing ≡ print_in (get c (shared_path before f key))))
      (bytes : List ℕ) where
    told_list : (second : ℕ) → IfSome told
        (λ c. put_unless (stands_as standing (fingerprint_of bytes))
        (path_beside standing (shared_path before f key) (own_path before f n key)) bytes second
        ≡ (placing before f n true key bytes second c).changes)
    told_list second = go told is
      where
        go : (told : Option Content)
            → IfSome told (λ c. standing ≡ print_in (get c (shared_path before f key)))
            → IfSome told
            (λ c. put_unless (stands_as standing (fingerprint_of bytes))
            (path_beside standing (shared_path before f key) (own_path before f n key)) bytes
            second
            ≡ (placing before f n true key bytes second c).changes)
        go None is = tt
        go (Some c) is =
            ap (λ st. put_unless (stands_as st (fingerprint_of bytes))
            (path_beside st (shared_path before f key) (own_path before f n key)) bytes second) is
            ∙ list_over bytes second (get c (shared_path before f key))

    module _ (r : Record)
        (r_is : r ≡ record_by (stands_as standing (fingerprint_of bytes)) standing bytes) where
      told_record : (told : Option Content)
          → IfSome told (λ c. standing ≡ print_in (get c (shared_path before f key)))
          → IfSome told (λ c. r ≡ placed_record before f n true key bytes c)
      told_record None is = tt
      told_record (Some c) is =
          r_is ∙ ap (λ st. record_by (stands_as st (fingerprint_of bytes)) st bytes) is
          ∙ record_over bytes (get c (shared_path before f key))

      is_record : IsRecordOf before f n true key bytes told r
      is_record = record {
        key_is = ap (λ (q : Record). q.file.key) r_is;
        path_is = subst (IsPathOf before f n key) (sym (ap (λ (q : Record). q.file.path) r_is))
            (path_is_one (how_unless (stands_as standing (fingerprint_of bytes)) standing));
        print_is = ap (λ (q : Record). q.file.fingerprint) r_is;
        full = λ e. absurd (cc e);
        record_is = told_record told is;
      }

  module _ (held : Option Snapshot) (s0 s1 : State) (p0 p1 : History) (t0 t1 : Trace) where
    placed_beside : (result : Result Placed CopyFault) (said : Result Record CopyFault)
        → (IsOk said → IsOk result) → (IsError result fault.Store → IsError said fault.Store)
        → (b : SendsBeside (shared_path before f key) (own_path before f n key) key held result s0
        s1 p0 p1 t0 t1)
        → IfOk said (IsRecordOf before f n true key b.sends.bytes s0.content)
        → PlacesFile before f n true key held said s0 s1 p0 p1 t0 t1
    placed_beside result said back blames b record_is = record {
      bytes = b.sends.bytes;
      file_is = b.sends.file_is;
      second = b.sends.second;
      xs = put_unless (stands_as b.standing (fingerprint_of b.sends.bytes))
          (path_beside b.standing (shared_path before f key) (own_path before f n key))
          b.sends.bytes b.sends.second;
      puts = puts_beside (stands_as b.standing (fingerprint_of b.sends.bytes)) b.standing
          b.sends.bytes b.sends.second;
      list = told_list s0.content b.standing b.standing_is b.sends.bytes b.sends.second;
      makes = told_as (IsOk result) (IsError result fault.Store) (IsOk said)
          (IsError said fault.Store) _ s0 s1 p0 p1 t0 t1 back blames b.sends.makes;
      record_is = record_is;
    }

    -- the paths are those of the file
    module _ (paths : Paths) (paths_is : paths ≡ record {
      key = key;
      shared = shared_path before f key;
      own = own_path before f n key;
    }) where
      at_paths : (result : Result Placed CopyFault)
          → SendsBeside paths.shared paths.own key held result s0 s1 p0 p1 t0 t1
          → SendsBeside (shared_path before f key) (own_path before f n key) key held result s0 s1
          p0 p1 t0 t1
      at_paths result =
          subst (λ (q : Paths). SendsBeside q.shared q.own key held result s0 s1 p0 p1 t0 t1)
          paths_is

      -- the file was placed
      pub differential_placed : (placed : Placed) (r : Record) → r ≡ record {
        file = record {
          key = paths.key;
          path = path_by placed.how paths.shared paths.own;
          fingerprint = placed.fingerprint;
        };
        how = placed.how;
      }
          → SendsBeside paths.shared paths.own key held (Ok placed) s0 s1 p0 p1 t0 t1
          → PlacesFile before f n true key held (Ok r) s0 s1 p0 p1 t0 t1
      differential_placed placed r r_is sent =
          let b = at_paths (Ok placed) sent in
          placed_beside (Ok placed) (Ok r) (λ fine. refl) (λ never. never) b
          (is_record s0.content b.standing b.standing_is b.sends.bytes r
          (r_is ∙ (λ i. record {
            file = record {
              key = (paths_is i).key;
              path = path_by (b.sends.placed_is i).how (paths_is i).shared (paths_is i).own;
              fingerprint = (b.sends.placed_is i).fingerprint;
            };
            how = (b.sends.placed_is i).how;
          })))

      -- it wasn't
      pub differential_refused : (answer : CopyFault)
          → SendsBeside paths.shared paths.own key held (Err answer) s0 s1 p0 p1 t0 t1
          → PlacesFile before f n true key held (Err answer) s0 s1 p0 p1 t0 t1
      differential_refused answer sent =
          placed_beside (Err answer) (Err answer) (λ fine. fine) (λ is. is)
          (at_paths (Err answer) sent) tt

-- nothing was placed
pub none_placed : (before f n : List ℕ) (d : Bool) (key : FileKey) (held : Option Snapshot)
    (s : State) (p : History) (t : Trace) (answer : CopyFault) → IfSome held (HasKey key)
    → t.unsure ≡ false → ChangesWithin [] s s p p
    → PlacesFile before f n d key held (Err answer) s s p p t t
none_placed before f n false key held s p t answer has sure moves =
    none_full before f n key held s p t answer has sure moves
none_placed before f n true key held s p t answer has sure moves =
    placed_beside before f n key held s s p p t t (Err answer) (Err answer) (λ fine. fine)
    (λ is. is)
    (not_beside (shared_path before f key) (own_path before f n key) key held s s p p t sure answer
    has moves) tt
