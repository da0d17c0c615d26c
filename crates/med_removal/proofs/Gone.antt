-- What goes with a backup, one group after another.
use Rattle.std.proofs.Common.{◌≡◌, ◌∙◌, ◌++◌, ◌+◌, ◌∷◌, [], ℕ, true, false, cond, List, inl, inr, Option, Some, None, IfSome, is_some, option_map, bytes_eq, length, refl, sym, ap, subst, append_assoc, append-nil, arith}
use Rattle.std.specs.BTreeMap.{BTreeMap, get as lookup}
use Rattle.std.specs.FinMap.{get}
use Rattle.std.specs.List.{AllByRecursion, flat_map}
use Rattle.med_base.proofs.Lists.{all_append, all_push, all_with}
use Rattle.med_base.specs.declared.layout.MetaKind.{MetaKind}
use Rattle.med_base.specs.declared.layout.MetaKind.TheVariants as meta
use Rattle.med_base.specs.Classify.{kind_of}
use Rattle.med_base.specs.Content.{Content, Object}
use Rattle.med_base.specs.Kinds.{Kind, Shared, Own, Meta, Entry, Latest, Stray, Other, IsBackupName}
use Rattle.med_base.specs.Layout.{meta_path}
use Rattle.med_base.specs.NameOrder.{name_cmp}
use Rattle.med_core.specs.Counts.{Weight, as_bytes, as_file, is_data_of, weight_in}
use Rattle.med_core.specs.Reach.{MayRemove, Removing}
use Rattle.med_core.specs.Removal.{is_content_of, paths_of_backup}
use Rattle.med_core.specs.Section.{Call, Remove}
use Rattle.med_manifest.proofs.Gets.{from_same}
use Rattle.med_manifest.proofs.Newest.{and_first}
use Rattle.med_manifest.specs.Listed.{if_stands, paths_of}
use Rattle.med_manifest.specs.Rebuild.{is_entry_of}
use Rattle.med_manifest.specs.Vault.{second_of}
use Rattle.med_index.specs.declared.marks.Marks.{Marks}
use Rattle.med_index.specs.Marks.{or_none}
use Rattle.med_index.specs.Visits.{AreFound, found_second}
use Rattle.med_index.specs.Listed.{IsEntryOfBackup}
use Rattle.med_removal.specs.declared.going.Going.{Going}
use Rattle.med_removal.specs.Going.{AddsAll, AddsOne, Adds, AreRemovable, held, weights}
use Rattle.med_removal.specs.Marked.{AreMarksOf, paths_of_folder, paths_of_signs}
use Rattle.med_removal.proofs.Adding.{counted_all}
use Rattle.med_removal.proofs.Picks.{counted_one}

module _ (before f : List ℕ) (c : Content) where
  -- nothing more
  pub adds_none : (g : Going) → Adds before f c [] g g
  adds_none g = record { paths = sym (append-nil g.paths.items); counted = λ was. was }

  pub adds_on : (ps qs : List (List ℕ)) (a b d : Going) → Adds before f c ps a b
      → Adds before f c qs b d → Adds before f c (ps ++ qs) a d
  adds_on ps qs a b d first second = record {
    paths = second.paths ∙ ap (λ l. l ++ qs) first.paths ∙ append_assoc a.paths.items ps qs;
    counted = λ was. second.counted (first.counted was);
  }

  -- paths of which none is that of a data object of the node weigh nothing
  weightless : (w : Weight) (ps : List (List ℕ))
      → AllByRecursion (λ p. (o : Object) → w p o ≡ 0) ps → weights w c ps ≡ 0
  weightless w [] all = refl
  weightless w (p ∷ ps) all =
      (λ i. none (get c p) i + weightless w ps all.1 i) ∙ zero
    where
      none : (o : Option Object) → weight_in w p o ≡ 0
      none None = refl
      none (Some o) = all.0 o

      zero : 0 + 0 ≡ 0
      zero = omega arith

  no_data : (ps : List (List ℕ))
      → AllByRecursion (λ p. is_data_of f (kind_of before p) ≡ false) ps
      → AllByRecursion (λ p. (o : Object) → as_file before f p o ≡ 0) ps
  no_data ps all =
      all_with (λ p. is_data_of f (kind_of before p) ≡ false)
      (λ p. (o : Object) → as_file before f p o ≡ 0) (λ p is o. ap (λ b. cond b 1 0) is) ps all

  no_bytes : (ps : List (List ℕ))
      → AllByRecursion (λ p. is_data_of f (kind_of before p) ≡ false) ps
      → AllByRecursion (λ p. (o : Object) → as_bytes before f p o ≡ 0) ps
  no_bytes ps all =
      all_with (λ p. is_data_of f (kind_of before p) ≡ false)
      (λ p. (o : Object) → as_bytes before f p o ≡ 0)
      (λ p is o. ap (λ b. cond b (length o.bytes) 0) is) ps all

  -- such paths, with no counts
  pub adds_apart : (more old new : Going) → AddsAll more old new → more.files ≡ 0
      → more.bytes ≡ 0
      → AllByRecursion (λ p. is_data_of f (kind_of before p) ≡ false) more.paths.items
      → Adds before f c more.paths.items old new
  adds_apart more old new adds files bytes all = record {
    paths = adds.paths;
    counted = counted_all before f c more old new adds (record {
      files = files ∙ sym (ap held (weightless (as_file before f) more.paths.items
          (no_data more.paths.items all)));
      bytes = bytes ∙ sym (ap held (weightless (as_bytes before f) more.paths.items
          (no_bytes more.paths.items all)));
    });
  }

  -- one such path
  pub adds_plain : (path : List ℕ) (o : Object) (old new : Going) → get c path ≡ Some o
      → is_data_of f (kind_of before path) ≡ false → AddsOne path None old new
      → Adds before f c (path ∷ []) old new
  adds_plain path o old new stands isnt adds = record {
    paths = adds.paths;
    counted = counted_one before f c path o None old new stands
        (ap (λ b. cond b 1 0) isnt) (ap (λ b. cond b (length o.bytes) 0) isnt) adds;
  }

  module _ (n : List ℕ) (kind : MetaKind) where
    abbrev here : List ℕ
    here = meta_path before f n kind

    -- an object that tells of the backup and wasn't found
    pub adds_absent : (g : Going) → second_of c before f n kind ≡ None
        → Adds before f c (if_stands c here) g g
    adds_absent g none = go (get c here) refl none
      where
        go : (o : Option Object) → get c here ≡ o
            → option_map (λ (x : Object). x.second) (get c here) ≡ None
            → Adds before f c (if_stands c here) g g
        go None is e =
            subst (λ ps. Adds before f c ps g g)
            (sym (ap (λ b. cond b (here ∷ []) []) (ap is_some is))) (adds_none g)
        go (Some o) is e =
            absurd (let none = sym (ap (option_map (λ (x : Object). x.second)) is) ∙ e in cc none)

    -- one that was found
    pub adds_found : (second : ℕ) (old new : Going) → second_of c before f n kind ≡ Some second
        → kind_of before here ≡ Meta f n kind → AddsOne here None old new
        → Adds before f c (if_stands c here) old new
    adds_found second old new found is adds = go (get c here) refl found
      where
        go : (o : Option Object) → get c here ≡ o
            → option_map (λ (x : Object). x.second) (get c here) ≡ Some second
            → Adds before f c (if_stands c here) old new
        go None e s =
            absurd (let none = sym (ap (option_map (λ (x : Object). x.second)) e) ∙ s in cc none)
        go (Some o) e s =
            subst (λ ps. Adds before f c ps old new) (sym (ap (λ b. cond b (here ∷ []) []) (ap is_some e)))
            (adds_plain here o old new e (ap (is_data_of f) is) adds)

-- ---- a removal may remove it

pub meta_removable : (before f n : List ℕ) (kind : MetaKind) (call : Call) (old new : Going)
    → kind_of before (meta_path before f n kind) ≡ Meta f n kind → Removing call n
    → AddsOne (meta_path before f n kind) None old new
    → AreRemovable before f call old.paths.items → AreRemovable before f call new.paths.items
meta_removable before f n kind call old new is removing adds was =
    subst (AreRemovable before f call) (sym adds.paths)
    (all_push (λ p. MayRemove f call (kind_of before p)) old.paths.items
    (meta_path before f n kind) was
    (subst (MayRemove f call) (sym is) (refl, removing)))

entry_is : (f n : List ℕ) (call : Call) (k : Kind) → is_entry_of f n k ≡ true
    → MayRemove f call k × (is_data_of f k ≡ false)
entry_is f n call (Entry g m kind) is =
    (from_same g f (and_first (bytes_eq g f) (bytes_eq m n) is), refl)
entry_is f n call (Shared g key) is = absurd (cc is)
entry_is f n call (Own g m key) is = absurd (cc is)
entry_is f n call (Meta g m kind) is = absurd (cc is)
entry_is f n call (Latest g kind) is = absurd (cc is)
entry_is f n call (Stray g m) is = absurd (cc is)
entry_is f n call Other is = absurd (cc is)

module _ (before f n : List ℕ) (more old new : Going) (adds : AddsAll more old new)
    (all : AllByRecursion (IsEntryOfBackup before f n) more.paths.items) where
  pub entries_told : (told : Option Content) → more.files ≡ 0 → more.bytes ≡ 0
      → IfSome told (λ c. more.paths.items ≡ paths_of before c (is_entry_of f n))
      → IfSome told (λ c. Adds before f c (paths_of before c (is_entry_of f n)) old new)
  entries_told None files bytes is = tt
  entries_told (Some c) files bytes is =
      subst (λ ps. Adds before f c ps old new) is
      (adds_apart before f c more old new adds files bytes
      (all_with (IsEntryOfBackup before f n) (λ p. is_data_of f (kind_of before p) ≡ false)
      (λ p is. (entry_is f n (Remove [] 0 0) (kind_of before p) is).1) more.paths.items all))

  pub entries_removable : (call : Call) → AreRemovable before f call old.paths.items
      → AreRemovable before f call new.paths.items
  entries_removable call was =
      subst (AreRemovable before f call) (sym adds.paths)
      (all_append (λ p. MayRemove f call (kind_of before p)) old.paths.items more.paths.items was
      (all_with (IsEntryOfBackup before f n) (λ p. MayRemove f call (kind_of before p))
      (λ p is. (entry_is f n call (kind_of before p) is).0) more.paths.items all))

-- ---- all of a backup

module _ (before f n : List ℕ) (marks : Marks) (a b d e : Going) where
  pub signs_told : ((c : Content) → second_of c before f n meta.Differential ≡ marks.differential
      → Adds before f c (if_stands c (meta_path before f n meta.Differential)) a b)
      → ((c : Content) → second_of c before f n meta.Tokenmap ≡ marks.tokenmap
      → Adds before f c (if_stands c (meta_path before f n meta.Tokenmap)) b d)
      → ((c : Content) → second_of c before f n meta.Schema ≡ marks.schema
      → Adds before f c (if_stands c (meta_path before f n meta.Schema)) d e) → (c : Content)
      → AreMarksOf c before f n marks → Adds before f c (paths_of_signs before c f n) a e
  signs_told marker ring schema c are =
      adds_on before f c _ _ a b e (marker c (are meta.Differential))
      (adds_on before f c _ _ b d e (ring c (are meta.Tokenmap)) (schema c (are meta.Schema)))

  pub folder_told : (told : Option Content)
      → ((c : Content) → second_of c before f n meta.Manifest ≡ marks.manifest
      → Adds before f c (if_stands c (meta_path before f n meta.Manifest)) a b)
      → IfSome told (λ c. Adds before f c (paths_of before c (is_content_of f n)) b d)
      → ((c : Content) → AreMarksOf c before f n marks
      → Adds before f c (paths_of_signs before c f n) d e)
      → IfSome told (λ c. AreMarksOf c before f n marks
      → Adds before f c (paths_of_folder before c f n) a e)
  folder_told None manifest content signs = tt
  folder_told (Some c) manifest content signs = λ are.
      adds_on before f c _ _ a b e (manifest c (are meta.Manifest))
      (adds_on before f c _ _ b d e content (signs c are))

  pub backup_told : (told later : Option Content) → later ≡ told
      → IfSome told (λ c. Adds before f c (paths_of before c (is_entry_of f n)) a b)
      → IfSome later (λ c. AreMarksOf c before f n marks
      → Adds before f c (paths_of_folder before c f n) b d)
      → IfSome told (λ c. AreMarksOf c before f n marks
      → Adds before f c (paths_of_backup before c f n) a d)
  backup_told None later same entries folder = tt
  backup_told (Some c) later same entries folder = λ are.
      adds_on before f c _ _ a b d entries
      (subst (λ o. IfSome o (λ c. AreMarksOf c before f n marks
      → Adds before f c (paths_of_folder before c f n) b d)) same folder are)

-- ---- one backup after another

flat_push : {X Y : Type 0} (g : X → List Y) (xs : List X) (x : X)
    → flat_map g (xs ++ x ∷ []) ≡ flat_map g xs ++ g x
flat_push g [] x = append-nil (g x)
flat_push g (y ∷ xs) x =
    ap (λ l. g y ++ l) (flat_push g xs x) ∙ sym (append_assoc (g y) (flat_map g xs) (g x))

-- what was found of a backup are the seconds of its objects
marks_are : (before f : List ℕ) (c : Content) (found : BTreeMap (List ℕ) Marks)
    → AreFound f found before f c [] → (n : List ℕ) → IsBackupName n
    → AreMarksOf c before f n (or_none (lookup name_cmp found n))
marks_are before f c found are n name kind =
    go (second_of c before f n kind) refl (found_second kind (lookup name_cmp found n)) refl
  where
    go : (o : Option ℕ) → second_of c before f n kind ≡ o → (p : Option ℕ)
        → found_second kind (lookup name_cmp found n) ≡ p
        → second_of c before f n kind ≡ found_second kind (lookup name_cmp found n)
    go (Some s) e p is = elim (are.all n kind s name e) [
      | inl there ↦ e ∙ sym there
      | inr never ↦ absurd never
    ]
    go None e None is = e ∙ sym is
    go None e (Some s) is = absurd (let there = are.stands n kind s is in cc (there, e))

module _ (before f : List ℕ) (found : BTreeMap (List ℕ) Marks) where
  abbrev AddsThese : Content → List (List ℕ) → Going → Going → Type 0
  AddsThese c names a b =
      AreFound f found before f c []
      → Adds before f c (flat_map (paths_of_backup before c f) names) a b

  pub backups_first : (told : Option Content) (a : Going) → IfSome told (λ c. AddsThese c [] a a)
  backups_first None a = tt
  backups_first (Some c) a = λ are. adds_none before f c a

  pub backups_more : (start later : Option Content) (names : List (List ℕ)) (n : List ℕ)
      (marks : Marks) (a b d : Going) → later ≡ start → IsBackupName n
      → marks ≡ or_none (lookup name_cmp found n) → IfSome start (λ c. AddsThese c names a b)
      → IfSome later (λ c. AreMarksOf c before f n marks
      → Adds before f c (paths_of_backup before c f n) b d)
      → IfSome start (λ c. AddsThese c (names ++ n ∷ []) a d)
  backups_more None later names n marks a b d same name is so more = tt
  backups_more (Some c) later names n marks a b d same name is so more = λ are.
      subst (λ ps. Adds before f c ps a d) (sym (flat_push (paths_of_backup before c f) names n))
      (adds_on before f c _ _ a b d (so are)
      (subst (λ o. IfSome o (λ c. AreMarksOf c before f n marks
      → Adds before f c (paths_of_backup before c f n) b d)) same more
      (subst (AreMarksOf c before f n) (sym is) (marks_are before f c found are n name))))
