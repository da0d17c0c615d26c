-- A finish that a fault of the snapshot cut short: it puts files alone, and no manifest.
use Rattle.std.proofs.Common.{◌≡◌, ◌≢◌, ◌⊎◌, ◌∙◌, ◌++◌, ℕ, List, [], ◌∷◌, append-nil, Option, Ok, Err, Contains, inl, inr, refl, sym, ap, subst}
use Rattle.std.specs.List.{AllByRecursion}
use Rattle.std.proofs.lemmas.List.Elements.{All-contains, All-from_recursion}
use Rattle.med_base.specs.declared.key.FileKey.{FileKey}
use Rattle.med_base.specs.declared.layout.MetaKind.TheVariants.{Manifest}
use Rattle.med_base.specs.Classify.{kind_of}
use Rattle.med_base.specs.Effects.{Effect, Removes, Stores}
use Rattle.med_base.specs.Key.{IsKey}
use Rattle.med_base.specs.Kinds.{IsBackupName, IsFqdn, Kind, Meta, Own, Shared}
use Rattle.med_base.specs.Layout.{meta_path}
use Rattle.med_base.proofs.Lists.{all_split, all_with}
use Rattle.med_core.specs.declared.records.Record.{Record}
use Rattle.med_core.specs.Run.{effects_of}
use Rattle.med_index.specs.Modes.{is_differential}
use Rattle.med_manifest.proofs.ByKind.{name_by_kind, path_has}
use Rattle.med_outside.specs.declared.copy_fault.CopyFault.{CopyFault}
use Rattle.med_outside.specs.declared.copy_fault.CopyFault.TheVariants as fault
use Rattle.med_outside.specs.declared.trace.Trace.{Trace}
use Rattle.med_outside.specs.Makes.{Last, tried}
use Rattle.med_outside.specs.Snapshot.{Snapshot}
use Rattle.med_outside.specs.State.{History, State}
use Rattle.med_shelf.specs.declared.finished.Finished.{Finished}
use Rattle.med_shelf.specs.Checks.{PutsOne}
use Rattle.med_shelf.specs.Endings.{copy_ending}
use Rattle.med_shelf.specs.Finishes.{Finishes, IsEnded}
use Rattle.med_shelf.specs.Places.{IsFilePut}
use Rattle.med_shelf.specs.Records.{keys_of}
use Rattle.med_shelf.specs.Shelf.{ClaimState, ShelfState}
use Rattle.med_backup.specs.Backups.{PutsManifest}

-- what took effect of a call that the snapshot's fault cut short was made for sure
made_for_sure : (P : Effect → Type 0) (why : CopyFault) (done rest : List Effect) (last : Last)
    → why ≡ fault.Snap → AllByRecursion P (done ++ (tried last ++ rest))
    → AllByRecursion P (effects_of (copy_ending {T = Finished} (Err why) last) done)
made_for_sure P fault.Snap done rest last is all = (all_split P done (tried last ++ rest) all).0
made_for_sure P fault.Store done rest last is all = absurd (cc is)
made_for_sure P fault.Memory done rest last is all = absurd (cc is)

-- records of keys
records_of_keys : (rs : List Record) → AllByRecursion IsKey (keys_of rs)
    → AllByRecursion (λ (r : Record). IsKey r.file.key) rs
records_of_keys [] all = tt
records_of_keys (r ∷ rs) all = (all.0, records_of_keys rs all.1)

module _ (before f n : List ℕ) (node : IsFqdn f) (name : IsBackupName n) where
  manifest_there : kind_of before (meta_path before f n Manifest) ≡ Meta f n Manifest
  manifest_there = (name_by_kind before f n node name).meta Manifest

  -- the put of a file puts no manifest
  no_file : (key : FileKey) → IsKey key → (bytes : List ℕ) (x : Effect)
      → IsFilePut before f n key bytes x → PutsManifest before f n x → ⊥
  no_file key valid bytes (Stores path stored second) (inl is, same) manifest =
      let bad : Shared f key ≡ Meta f n Manifest =
      sym (path_has before (Shared f key) tt (node, valid)) ∙ ap (kind_of before) (sym is ∙ manifest)
      ∙ manifest_there in absurd (cc bad)
  no_file key valid bytes (Stores path stored second) (inr is, same) manifest =
      let bad : Own f n key ≡ Meta f n Manifest =
      sym (path_has before (Own f n key) tt (node, name, valid))
      ∙ ap (kind_of before) (sym is ∙ manifest) ∙ manifest_there in absurd (cc bad)
  no_file key valid bytes (Removes path) put manifest = manifest

  -- so does no look at records
  no_look : (held : Option Snapshot) (rs : List Record) → AllByRecursion IsKey (keys_of rs)
      → (xs : List Effect) → AllByRecursion (PutsOne before f n held rs) xs
      → AllByRecursion (λ (x : Effect). PutsManifest before f n x → ⊥) xs
  no_look held rs keys xs puts =
      all_with (PutsOne before f n held rs) (λ (x : Effect). PutsManifest before f n x → ⊥)
      (λ x (r, bytes, among, whole, put). no_file r.file.key
      (All-contains (λ (r : Record). IsKey r.file.key) rs r
      (All-from_recursion (λ (r : Record). IsKey r.file.key) rs (records_of_keys rs keys)) among)
      bytes x put) xs puts

-- a finish that the snapshot's fault cut short put no manifest
pub cut_unfinished : (a now : ShelfState) (k : ClaimState) (held : Option Snapshot) (s0 s1 : State)
    (p0 p1 : History) (t0 t1 : Trace) (why : CopyFault)
    (fin : Finishes a now k held (Err why) s0 s1 p0 p1 t0 t1) → IsFqdn k.node
    → IsBackupName k.name → AllByRecursion IsKey (keys_of fin.sorted) → why ≡ fault.Snap
    → AllByRecursion (λ (x : Effect). PutsManifest k.layout k.node k.name x → ⊥)
    (effects_of (copy_ending {T = Finished} (Err why) fin.acts.makes.last) fin.acts.makes.done)
cut_unfinished a now k held s0 s1 p0 p1 t0 t1 why fin node name keys is =
    let m = fin.acts.makes in
    made_for_sure (λ (x : Effect). PutsManifest k.layout k.node k.name x → ⊥) why m.done m.rest
    m.last is
    (subst (AllByRecursion (λ (x : Effect). PutsManifest k.layout k.node k.name x → ⊥))
    (sym (append-nil fin.looked) ∙ ap (λ l. fin.looked ++ l) (sym (none fin.ends))
    ∙ sym fin.changes_are ∙ m.split)
    (no_look k.layout k.node k.name node name held fin.sorted keys fin.looked fin.looked_are))
  where
    none : (fin.ended ≡ [])
        ⊎ ((why ≢ fault.Snap) × (rs : List Record) × (second : ℕ)
        × IsEnded k.layout k.node k.name (is_differential k.mode) fin.sorted fin.fresh s0.content
        fin.looked rs second fin.ended) → fin.ended ≡ []
    none (inl is_none) = is_none
    none (inr (apart, rs, second, ended)) = absurd (apart is)
