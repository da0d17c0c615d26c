-- What places leave: each file stands as its record has it, and by what stood before the first one.
use Rattle.std.proofs.Common.{◌≡◌, ◌∙◌, ◌&&◌, ℕ, Bool, true, false, List, [], ◌∷◌, map, Option, Some, None, option_map, if◌then◌else◌, eq-eqb, refl, sym, ap, subst}
use Rattle.std.specs.FinMap.{get}
use Rattle.std.specs.List.{AllByRecursion}
use Rattle.std.specs.declared.cmp.Ordering.TheVariants.{Less}
use Rattle.med_base.specs.declared.fingerprint.Fingerprint.{Fingerprint}
use Rattle.med_base.specs.declared.key.FileKey.{FileKey}
use Rattle.med_base.specs.Classify.{kind_of}
use Rattle.med_base.specs.Content.{Content, Object}
use Rattle.med_base.specs.Effects.{Effect, Stores, applied, made}
use Rattle.med_base.specs.Fingerprint.{fingerprint_of}
use Rattle.med_base.specs.Key.{AreRising, IsKey, key_cmp}
use Rattle.med_base.specs.Kinds.{Entry, IsBackupName, IsFqdn, Kind, Latest, Meta, Other, Own, Shared, Stray}
use Rattle.med_base.specs.Layout.{own_path, shared_path}
use Rattle.med_base.specs.Part.{node_part}
use Rattle.med_core.proofs.Parts.{Agree, part_agrees, placing_agrees}
use Rattle.med_core.proofs.Sections.{part_same}
use Rattle.med_core.specs.declared.records.How.{How}
use Rattle.med_core.specs.declared.records.How.TheVariants.{Aside, Reused, Stored}
use Rattle.med_core.specs.declared.records.Record.{Record}
use Rattle.med_core.specs.Finish.{is_stored_as}
use Rattle.med_core.specs.Place.{Placing, how_over, is_same_print, placed_record, placing, placing_over, reused, stored_own}
use Rattle.med_core.specs.Run.{IsRun, effects, next_content, next_running}
use Rattle.med_core.specs.Section.{Call, Done, Event, IsSection, Place, Running}
use Rattle.med_manifest.proofs.ByKind.{KeyByKind, key_by_kind}
use Rattle.med_manifest.proofs.Gets.{get_put_same, same_itself}
use Rattle.med_outside.proofs.Passing.{applied-append}
use Rattle.med_shelf.specs.Acts.{event_of}
use Rattle.med_backup.specs.Backups.{PlacedFile, places_of}
use Rattle.med_backup.specs.Facts.{HoldsBytes, MayDiffer}
use Rattle.med_backup.specs.Sections.{AreDone, all_effects}
use Rattle.med_backup.proofs.KeyLemmas.{not_below}
use Rattle.med_backup.proofs.KindSteps.{AreAt, untouched}

-- a fingerprint is the same as itself
pub print_itself : (print : Fingerprint) → is_same_print print print ≡ true
print_itself print = λ i. eq-eqb print.size print.size refl i && same_itself print.md5 i

-- the kind is that of a file of this key
abbrev pub IsOfKey : FileKey → Kind → Type 0
IsOfKey k (Shared g j) = j ≡ k
IsOfKey k (Own g m j) = j ≡ k
IsOfKey k _ = ⊥

one_key : (k j : FileKey) (kind : Kind) → IsOfKey k kind → IsOfKey j kind → k ≡ j
one_key k j (Shared g i) a b = sym a ∙ b
one_key k j (Own g m i) a b = sym a ∙ b
one_key k j (Meta g m i) a b = absurd a
one_key k j (Entry g m i) a b = absurd a
one_key k j (Latest g i) a b = absurd a
one_key k j (Stray g m) a b = absurd a
one_key k j Other a b = absurd a

-- the file stands with the fingerprint of its record, and itself where the path was free
pub record IsKeptAs (r : Record) (bytes : List ℕ) (old new : Content) : Type 0 where
  pub print : is_stored_as r.file.fingerprint (get new r.file.path) ≡ true
  pub held : get old r.file.path ≡ None → HoldsBytes new r.file.path bytes

-- ---- one place

-- what a place changes, and how its file stands then
pub record IsPlacedBy (before f n : List ℕ) (d : Bool) (k : FileKey) (bytes : List ℕ) (c : Content)
    (xs : List Effect) (r : Record) : Type 0
  where
    pub of_key : AreAt (λ q. IsOfKey k (kind_of before q)) xs
    pub may : AreAt (λ q. MayDiffer f n d (get c q) (kind_of before q)) xs
    pub kept : IsKeptAs r bytes c (applied xs c)

module _ (before f n : List ℕ) (k : FileKey) (keyed : KeyByKind before f n k) (bytes : List ℕ)
    (t : ℕ) (c : Content) where
  put_held : (path : List ℕ) → is_stored_as (fingerprint_of bytes)
      (get (made (Stores path bytes t) c) path) ≡ true
  put_held path =
      ap (is_stored_as (fingerprint_of bytes)) (get_put_same c path bytes t)
      ∙ print_itself (fingerprint_of bytes)

  put_bytes : (path : List ℕ) → HoldsBytes (made (Stores path bytes t) c) path bytes
  put_bytes path =
      ap (option_map (λ (o : Object). o.bytes)) (get_put_same c path bytes t)

  own_by : (d : Bool) (how : How) → IsPlacedBy before f n d k bytes c
      (stored_own before f n k bytes t).changes
      (record { file = (stored_own before f n k bytes 0).file; how = how })
  own_by d how = record {
    of_key = (subst (IsOfKey k) (sym keyed.own) refl, tt);
    may = (
      subst (MayDiffer f n d (get c (own_path before f n k))) (sym keyed.own) (refl, refl),
      tt,
    );
    kept = record {
      print = put_held (own_path before f n k);
      held = λ none. put_bytes (own_path before f n k);
    };
  }

  over_by : (o : Option Object) → get c (shared_path before f k) ≡ o
      → IsPlacedBy before f n true k bytes c (placing_over before f n k bytes t o).changes
      (record { file = (placing_over before f n k bytes 0 o).file; how = how_over bytes o })
  over_by None none = record {
    of_key = (subst (IsOfKey k) (sym keyed.shared) refl, tt);
    may = (
      subst (MayDiffer f n true (get c (shared_path before f k))) (sym keyed.shared)
          (refl, refl, none),
      tt,
    );
    kept = record {
      print = put_held (shared_path before f k);
      held = λ none. put_bytes (shared_path before f k);
    };
  }
  over_by (Some o) stands =
      go (is_same_print (fingerprint_of o.bytes) (fingerprint_of bytes)) refl
    where
      go : (same : Bool)
          → is_same_print (fingerprint_of o.bytes) (fingerprint_of bytes) ≡ same
          → IsPlacedBy before f n true k bytes c
          (if same then reused before f k bytes else stored_own before f n k bytes t).changes
          (record {
            file =
                (if same then reused before f k bytes else stored_own before f n k bytes 0).file;
            how = if same then Reused else Aside;
          })
      go true same = record {
        of_key = tt;
        may = tt;
        kept = record {
          print = ap (is_stored_as (fingerprint_of bytes)) stands ∙ same;
          held = λ none. let gone : ◌≡◌ {A = Option Object} None (Some o) = sym none ∙ stands in
              absurd (cc gone);
        };
      }
      go false same = own_by true Aside

  pub placed_by : (d : Bool) → IsPlacedBy before f n d k bytes c
      (placing before f n d k bytes t c).changes (placed_record before f n d k bytes c)
  placed_by true = over_by (get c (shared_path before f k)) refl
  placed_by false = own_by false Stored

  record_over : (o : Option Object)
      → IsOfKey k (kind_of before (placing_over before f n k bytes 0 o).file.path)
  record_over None = subst (IsOfKey k) (sym keyed.shared) refl
  record_over (Some o) = go (is_same_print (fingerprint_of o.bytes) (fingerprint_of bytes))
    where
      go : (same : Bool) → IsOfKey k (kind_of before
          (if same then reused before f k bytes else stored_own before f n k bytes 0).file.path)
      go true = subst (IsOfKey k) (sym keyed.shared) refl
      go false = subst (IsOfKey k) (sym keyed.own) refl

  -- the path of its record is of its key
  pub record_at : (d : Bool)
      → IsOfKey k (kind_of before (placed_record before f n d k bytes c).file.path)
  record_at true = record_over (get c (shared_path before f k))
  record_at false = subst (IsOfKey k) (sym keyed.own) refl

-- a place over another content in which the shared file is the same
pub same_record : (before f n : List ℕ) (d : Bool) (k : FileKey) (bytes : List ℕ) (c e : Content)
    → get e (shared_path before f k) ≡ get c (shared_path before f k)
    → placed_record before f n d k bytes e ≡ placed_record before f n d k bytes c
same_record before f n true k bytes c e is =
    ap (λ (o : Option Object). record {
      file = (placing_over before f n k bytes 0 o).file;
      how = how_over bytes o;
    }) is
same_record before f n false k bytes c e is = refl

-- the part of a node has what the content has of it
pub over_part : (before f : List ℕ) (c : Content) → Agree before f (node_part before f c) c
over_part before f c =
    subst (λ (e : Content). Agree before f e c) (sym (part_same before f c)) (part_agrees before f c)

-- ---- the section of a place

-- a call that was done, over the content of all nodes
pub done_section : (before : List ℕ) (c : Content) (running : Running) (e : Event) (f : List ℕ)
    (call : Call) → IsSection before (node_part before e.node c) running e → e.node ≡ f
    → e.call ≡ call → e.ending ≡ Done
    → IsSection before (node_part before f c) running (event_of f call Done e.changes)
    × (effects e ≡ e.changes)
done_section before c running e f call section node_is call_is ending_is =
    let same : e ≡ event_of f call Done e.changes =
    λ i. record {
      node = node_is i;
      call = call_is i;
      changes = e.changes;
      ending = ending_is i;
    } in (
      subst (λ (x : Event). IsSection before (node_part before x.node c) running x) same section,
      ap effects same,
    )

pub record IsPlaceDone (before f n : List ℕ) (d : Bool) (k : FileKey) (bytes : List ℕ)
    (c : Content) (xs : List Effect) : Type 0
  where
    pub node : IsFqdn f
    pub name : IsBackupName n
    pub key : IsKey k
    pub second : ℕ
    pub changes_are : xs ≡ (placing before f n d k bytes second c).changes

pub place_section : (before f n : List ℕ) (d : Bool) (c : Content) (running : Running) (e : Event)
    (k : FileKey) (bytes : List ℕ) → IsSection before (node_part before e.node c) running e
    → e.node ≡ f → e.call ≡ Place n d k bytes → e.ending ≡ Done
    → IsPlaceDone before f n d k bytes c (effects e)
place_section before f n d c running e k bytes section node_is call_is ending_is =
    let (so, changes_are) =
    done_section before c running e f (Place n d k bytes) section node_is call_is ending_is in
    let (second, list) = so.ends in
    record {
      node = so.node;
      name = so.asked.0;
      key = so.asked.2;
      second = second;
      changes_are = changes_are ∙ list ∙ ap (λ (p : Placing). p.changes)
          (placing_agrees before f (node_part before f c) c (over_part before f c) n d k
          (key_by_kind before f n k so.node so.asked.0 so.asked.2).shared bytes second);
    }

-- ---- many places

module _ (before f n : List ℕ) (d : Bool) where
  -- the file stands as a place over the first content records it
  abbrev pub IsKept : (old new : Content) → PlacedFile → Type 0
  IsKept old new p = IsKeptAs (placed_record before f n d p.0 p.1 old) p.1 old new

  -- files were placed between the two contents
  pub record ArePlaced (old new : Content) (files : List PlacedFile) : Type 0 where
    pub keyed : AllByRecursion (λ (p : PlacedFile). KeyByKind before f n p.0) files
    pub kept : AllByRecursion (IsKept old new) files
    pub apart : (q : List ℕ)
        → AllByRecursion (λ (p : PlacedFile). IsOfKey p.0 (kind_of before q) → ⊥) files
        → get new q ≡ get old q
    pub others : (q : List ℕ) → (MayDiffer f n d (get old q) (kind_of before q) → ⊥)
        → get new q ≡ get old q

  -- the key is below those of the others
  abbrev IsBelow : FileKey → List PlacedFile → Type 0
  IsBelow k ps = AllByRecursion (λ (j : FileKey). key_cmp k j ≡ Less)
      (map (λ (p : PlacedFile). p.0) ps)

  -- a path of the key is none of those
  away : (k : FileKey) (q : List ℕ) → IsOfKey k (kind_of before q) → (ps : List PlacedFile)
      → IsBelow k ps
      → AllByRecursion (λ (p : PlacedFile). IsOfKey p.0 (kind_of before q) → ⊥) ps
  away k q is [] below = tt
  away k q is (p ∷ ps) below = (
    λ other. not_below k
        (subst (λ (j : FileKey). key_cmp k j ≡ Less)
        (one_key p.0 k (kind_of before q) other is) below.0),
    away k q is ps below.1,
  )

  -- one place, and others behind it
  module _ (p : PlacedFile) (keyed : KeyByKind before f n p.0) (old mid new : Content)
      (xs : List Effect) (mid_is : mid ≡ applied xs old)
      (one : IsPlacedBy before f n d p.0 p.1 old xs
      (placed_record before f n d p.0 p.1 old)) where
    -- a path of another key is as before
    still : (q : List ℕ) → (IsOfKey p.0 (kind_of before q) → ⊥) → get mid q ≡ get old q
    still q never =
        ap (λ (c : Content). get c q) mid_is
        ∙ untouched (λ q. IsOfKey p.0 (kind_of before q)) xs old q one.of_key never

    not_first : (k : FileKey) → key_cmp p.0 k ≡ Less → (q : List ℕ) → IsOfKey k (kind_of before q)
        → IsOfKey p.0 (kind_of before q) → ⊥
    not_first k less q is first =
        not_below p.0 (subst (λ (j : FileKey). key_cmp p.0 j ≡ Less)
        (one_key k p.0 (kind_of before q) is first) less)

    kept_later : (ps : List PlacedFile) → IsBelow p.0 ps
        → AllByRecursion (λ (x : PlacedFile). KeyByKind before f n x.0) ps
        → AllByRecursion (IsKept mid new) ps → AllByRecursion (IsKept old new) ps
    kept_later [] below keys kept = tt
    kept_later (x ∷ ps) below keys kept = (here, kept_later ps below.1 keys.1 kept.1)
      where
        shared_same : get mid (shared_path before f x.0) ≡ get old (shared_path before f x.0)
        shared_same =
            still (shared_path before f x.0)
            (not_first x.0 below.0 (shared_path before f x.0)
            (subst (IsOfKey x.0) (sym keys.0.shared) refl))

        at_old : IsKeptAs (placed_record before f n d x.0 x.1 old) x.1 mid new
        at_old =
            subst (λ (r : Record). IsKeptAs r x.1 mid new)
            (same_record before f n d x.0 x.1 old mid shared_same) kept.0

        here : IsKept old new x
        here = record {
          print = at_old.print;
          held = λ none. at_old.held
              (still (placed_record before f n d x.0 x.1 old).file.path
              (not_first x.0 below.0 (placed_record before f n d x.0 x.1 old).file.path
              (record_at before f n x.0 keys.0 x.1 0 old d)) ∙ none);
        }

    pub placed_first : (ps : List PlacedFile) → IsBelow p.0 ps → ArePlaced mid new ps
        → ArePlaced old new (p ∷ ps)
    placed_first ps below rest =
        let path = (placed_record before f n d p.0 p.1 old).file.path in
        let later : get new path ≡ get (applied xs old) path =
        rest.apart path (away p.0 path (record_at before f n p.0 keyed p.1 0 old d) ps below)
        ∙ ap (λ (c : Content). get c path) mid_is in
        record {
          keyed = (keyed, rest.keyed);
          kept = (
            record {
              print = ap
                  (is_stored_as (placed_record before f n d p.0 p.1 old).file.fingerprint) later
                  ∙ one.kept.print;
              held = λ none. ap (option_map (λ (o : Object). o.bytes)) later ∙ one.kept.held none;
            },
            kept_later ps below rest.keyed rest.kept,
          );
          apart = λ q never. rest.apart q never.1 ∙ still q never.0;
          others = λ q never.
              let same : get mid q ≡ get old q =
              ap (λ (c : Content). get c q) mid_is
              ∙ untouched (λ q. MayDiffer f n d (get old q) (kind_of before q)) xs old q one.may
              never in
              rest.others q (λ may. never (subst (λ (o : Option Object).
              MayDiffer f n d o (kind_of before q)) same may))
              ∙ same;
        }

  none_placed : (c : Content) → ArePlaced c c []
  none_placed c = record {
    keyed = tt;
    kept = tt;
    apart = λ q never. refl;
    others = λ q never. refl;
  }

  -- a run of places that were done
  pub all_placed : (files : List PlacedFile) (es : List Event) (c : Content) (running : Running)
      → IsRun before c running es → AreDone f (places_of n d files) es
      → AreRising (map (λ (p : PlacedFile). p.0) files)
      → ArePlaced c (applied (all_effects es) c) files
  all_placed [] [] c running run done rising = none_placed c
  all_placed [] (e ∷ es) c running run done rising = absurd done
  all_placed (p ∷ ps) [] c running run done rising = absurd done
  all_placed (p ∷ ps) (e ∷ es) c running run (node_is, call_is, ending_is, done) rising =
      let so = place_section before f n d c running e p.0 p.1 run.0 node_is call_is ending_is in
      let keyed = key_by_kind before f n p.0 so.node so.name so.key in
      let xs = (placing before f n d p.0 p.1 so.second c).changes in
      subst (λ (end : Content). ArePlaced c end (p ∷ ps))
      (sym (applied-append (effects e) (all_effects es) c))
      (placed_first p keyed c (next_content c e) (applied (all_effects es) (next_content c e)) xs
      (ap (λ (l : List Effect). applied l c) so.changes_are)
      (placed_by before f n p.0 keyed p.1 so.second c d) ps rising.0
      (all_placed ps es (next_content c e) (next_running running e) run.1 done rising.1))
