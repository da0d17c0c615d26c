-- The definitions of the index and those by kinds say the same.
use Rattle.std.proofs.Common.{◌≡◌, ◌≢◌, ℕ, false, List, [], Option, Some, None, option_map, refl, sym, ◌∙◌, ap, subst}
use Rattle.std.specs.FinMap as fin
use Rattle.med_base.specs.declared.layout.MetaKind.TheVariants as meta_kind
use Rattle.med_base.specs.declared.kinds.IndexKind.TheVariants as index_kind
use Rattle.med_base.specs.declared.kinds.LatestKind.TheVariants as latest_kind
use Rattle.med_base.specs.Classify.{kind_of}
use Rattle.med_base.specs.Content.{Content, Object}
use Rattle.med_base.specs.Effects.{Effect, applied}
use Rattle.med_base.specs.Kinds.{Entry, HasSecond, IsBackupName, IsFqdn, Latest, Meta}
use Rattle.med_base.specs.declared.kinds.LatestKind.{LatestKind}
use Rattle.med_base.specs.declared.layout.MetaKind.{MetaKind}
use Rattle.med_manifest.proofs.ByKind.{FinishedByKind, HasPath, SoundByKind, StandsByKind, Text, at, manifest, node_by_kind, path_has, path_valid}
use Rattle.med_manifest.proofs.IndexByKind.{ExactByKind, rebuild_by, rebuild_same}
use Rattle.med_manifest.proofs.Rebuilds.{exact_sound, rebuild_nothing, rebuild_other, rebuild_reaches}
use Rattle.med_manifest.specs.Index.{IsIndexExact, IsIndexSound}
use Rattle.med_manifest.specs.Rebuild.{IsListOfRebuild, is_entry_of_node}
use Rattle.med_manifest.specs.Vault.{IsFinished}

-- ---- names

pub names_of : (before f n : Text) → HasPath before (Meta f n meta_kind.Manifest) → IsFqdn f
    × IsBackupName n
names_of before f n h = path_valid before (Meta f n meta_kind.Manifest) tt h

pub meta_has : (before f n : Text) (e : MetaKind) → IsFqdn f → IsBackupName n
    → HasPath before (Meta f n e)
meta_has before f n e node name = path_has before (Meta f n e) tt (node, name)

-- ---- finished and whole backups

some_second : (o : Option Object) (second : ℕ) → option_map (λ (x : Object). x.second) o
    ≡ Some second → (x : Object) × (o ≡ Some x)
some_second None second e = absurd (cc)
some_second (Some x) second e = (x, refl)

pub finished_kind : (before : Text) (c : Content) (f n : Text) → IsFqdn f → IsBackupName n
    → IsFinished c before f n → FinishedByKind before c f n
finished_kind before c f n node name (second, e) =
    let (o, stands) = some_second (fin.get c (manifest before f n)) second e in
    (o, (meta_has before f n meta_kind.Manifest node name, stands))

pub kind_finished : (before : Text) (c : Content) (f n : Text) → FinishedByKind before c f n
    → IsFinished c before f n
kind_finished before c f n (o, (h, stands)) = (
  o.second,
  ap (option_map (λ (x : Object). x.second))
      stands,
)

-- ---- the index

pub sound_kind : (before : Text) (c : Content) (f : Text) → (IsFqdn f → IsIndexSound before c f)
    → SoundByKind before c f
sound_kind before c f sound = record {
  entry = λ n o (h, stands). by_entry n o (path_valid before (Entry f n index_kind.Manifest) tt h)
      stands;
  finished = λ n t o (h, stands). by_finished n t o
      (path_valid before (Entry f n (index_kind.Finished t)) tt h) stands;
  latest = λ o (h, stands). by_latest o (path_valid before (Latest f latest_kind.Name) tt h) stands;
}
  where
    by_entry : (n : Text) (o : Object) → IsFqdn f × IsBackupName n × Unit {0}
        → fin.get c (at before (Entry f n index_kind.Manifest)) ≡ Some o → (x : Object)
        × StandsByKind before c (Meta f n meta_kind.Manifest) x × (x.bytes ≡ o.bytes)
    by_entry n o (node, name, _) stands =
        let (x, here, is) = (sound node).copy_is n o name stands in
        (x, (meta_has before f n meta_kind.Manifest node name, here), is)

    by_finished : (n : Text) (t : ℕ) (o : Object) → IsFqdn f × IsBackupName n
        × HasSecond (index_kind.Finished t)
        → fin.get c (at before (Entry f n (index_kind.Finished t))) ≡ Some o → (x : Object)
        × StandsByKind before c (Meta f n meta_kind.Manifest) x × (x.second ≡ t)
    by_finished n t o (node, name, fits) stands =
        let (x, here, is) = (sound node).finished_is n t o name fits stands in
        (x, (meta_has before f n meta_kind.Manifest node name, here), is)

    by_latest : (o : Object) → IsFqdn f → fin.get c (at before (Latest f latest_kind.Name)) ≡ Some o
        → FinishedByKind before c f o.bytes
    by_latest o node stands =
        let h = (sound node).latest_is o stands in finished_kind before c f o.bytes node h.0 h.1

pub kind_sound : (before : Text) (c : Content) (f : Text) → IsFqdn f → SoundByKind before c f
    → IsIndexSound before c f
kind_sound before c f node sound = record {
  copy_is = λ n o name stands. let (x, here, is) = sound.entry n o
      (path_has before (Entry f n index_kind.Manifest) tt (node, name, tt), stands) in
      (x, here.1, is);
  finished_is = λ n t o name fits stands. let (x, here, is) = sound.finished n t o
      (path_has before (Entry f n (index_kind.Finished t)) tt (node, name, fits), stands) in
      (x, here.1, is);
  latest_is = λ o stands. let done = sound.latest o (
    path_has before (Latest f latest_kind.Name) tt
        node,
    stands,
  ) in (
    (names_of before f o.bytes done.1.0).1,
    kind_finished before c f o.bytes
        done,
  );
}

pub exact_kind : (before : Text) (c : Content) (f : Text) → IsIndexExact before c f
    → ExactByKind before c f
exact_kind before c f exact = record {
  entries = λ n e h. let v = path_valid before (Entry f n e) tt h in exact.entries n e v.1 v.2;
  latest = exact.mended;
}

pub kind_exact : (before : Text) (c : Content) (f : Text) → IsFqdn f → ExactByKind before c f
    → IsIndexExact before c f
kind_exact before c f node exact = record {
  entries = λ n e name fits. exact.entries n e (path_has before (Entry f n e) tt
      (node, name, fits));
  mended = exact.latest;
}

-- ---- a rebuild

module _ (before : Text) (c : Content) (f : Text) (xs : List Effect) (node : IsFqdn f)
    (is : IsListOfRebuild before c f xs) where
  same_list : xs ≡ rebuild_by before c f is.entries is.of_mend is.of_entries
  same_list = is.list ∙ rebuild_same before c f is.entries is.of_mend is.of_entries

  pub reaches_exact : IsIndexExact before (applied xs c) f
  reaches_exact = subst (λ (ys : List Effect). IsIndexExact before (applied ys c) f) (sym same_list)
      (kind_exact before (applied (rebuild_by before c f is.entries is.of_mend is.of_entries) c) f
      node (rebuild_reaches before f (node_by_kind before f node) c is.entries is.given is.of_mend
      is.of_entries))

  pub others_stay : (q : Text) → is_entry_of_node f (kind_of before q) ≡ false → ((e : LatestKind)
      → (kind_of before q ≢ Latest f e)) → fin.get (applied xs c) q ≡ fin.get c q
  others_stay q other_kind apart = ap (λ (ys : List Effect). fin.get (applied ys c) q) same_list
      ∙ rebuild_other before f (node_by_kind before f node) c is.entries is.given is.of_mend
      is.of_entries q other_kind apart

  pub nothing_left : IsIndexExact before c f → xs ≡ []
  nothing_left exact = same_list ∙ rebuild_nothing before f (node_by_kind before f node) c
      is.entries is.given is.of_mend is.of_entries (exact_kind before c f exact)

pub exact_is_sound : (before : Text) (c : Content) (f : Text) → IsFqdn f → IsIndexExact before c f
    → IsIndexSound before c f
exact_is_sound before c f node exact = kind_sound before c f node (exact_sound before f
    (node_by_kind before f node) c (exact_kind before c f exact))
