-- What is told of a snapshot and of the storage leads the work on a node to one end.
use Rattle.std.proofs.Common.{◌≡◌, ℕ, zero, suc, List, [], ◌∷◌, ◌++◌, codes, take, slice_get, Option, Some, None, IfSome, Result, Ok, Err, MatchResult, refl, sym, ◌∙◌, ap, ap₂, subst}
use Rattle.std.specs.Fmt.{signed_decimal}
use Rattle.std.specs.List.{AllByRecursion}
use Rattle.med_base.specs.Content.{Content, Object, objects_under}
use Rattle.med_base.specs.Layout.{backup_folder}
use Rattle.med_base.specs.declared.key.FileKey.{FileKey}
use Rattle.med_base.specs.Key.{IsKey}
use Rattle.med_base.proofs.Lists.{not_all}
use Rattle.med_commands.specs.NodeConfig.{NodeConfig, snap_at}
use Rattle.med_backup.specs.Walked.{CanBeWalked, IsFirstBad}
use Rattle.med_backup.specs.Backups.{AreSourcesOf, HasHost, Sources}
use Rattle.med_backup.specs.declared.report.BackupReport.{BackupReport}
use Rattle.med_outside.specs.Device.{Nodes, Storage, on}
use Rattle.med_plan.specs.Ends.{Refusal, Taken, NoSnapshot, BadFileName, BadRing, NotInRing, Passed, Refused, step, Leads}
use Rattle.med_outside.specs.Snapshot.{Snapshot}
use Rattle.med_outside.specs.World.{World}
use Rattle.med_outside.specs.declared.mode.Mode.{Mode}
use Rattle.med_ring.specs.declared.error.RingWhy.{RingWhy}
use Rattle.med_ring.specs.declared.error.RingWhy.TheVariants.{NotJson, NotRing, TokenRange, TokenTwice}
use Rattle.med_ring.specs.Blames.{IsRefused as IsNoRing, IsSameWhy}
use Rattle.med_ring.specs.Host.{RingHost}
use Rattle.med_ring.specs.Ring.{IsRing}
use Rattle.med_ring.proofs.Faults.{no_ring}
use Rattle.med_ring.proofs.OneCause.{cause_is_one}
use Rattle.med_ring.proofs.OneRing.{ring_is_one}
use Rattle.med_shelf.specs.Claims.{IsFirstUnder}
use Rattle.med_commands.specs.Backups.{FindsFree, IsDone, IsPart, Prepares, copy_plan, held_at, node_plan, sections_plan, snapshot_plan}
use Rattle.med_commands.specs.Decided.{CanBeBackedUp}
use Rattle.med_commands.specs.Headline.{End}
use Rattle.med_commands.specs.Report.{report_line}
use Rattle.med_commands.specs.Steps.{prints}
use Rattle.med_commands.specs.Texts.{ring_why_text}

-- what follows from each value that a step answers, and from each of its refusals, follows
pub by_answer : {T : Type 0} (answers : Result T Refusal → Type 0) (P : T → Type 0)
    (Q : Refusal → Type 0) → ((x : T) → answers (Ok x) → P x)
    → ((f : Refusal) → answers (Err f) → Q f) → (s : Result T Refusal) → answers s
    → MatchResult s P Q
by_answer answers P Q good bad (Ok x) h = good x h
by_answer answers P Q good bad (Err f) h = bad f h

-- ---- the keys of a snapshot

no_first : (at : ℕ) (order : List FileKey) → order ≡ [] → IsFirstBad at order → ⊥
no_first at order none bad =
    let gone : slice_get [] at ≡ Some bad.key =
    sym (ap (λ (keys : List FileKey). slice_get keys at) none) ∙ bad.stands in cc gone

one_bad : (order : List FileKey) (at other : ℕ) (k l : FileKey) → slice_get order at ≡ Some k
    → (IsKey k → ⊥) → AllByRecursion IsKey (take at order) → slice_get order other ≡ Some l
    → (IsKey l → ⊥) → AllByRecursion IsKey (take other order) → at ≡ other
one_bad [] at other k l e no_k f g no_l h = cc e
one_bad (x ∷ xs) zero zero k l e no_k f g no_l h = refl
one_bad (x ∷ xs) zero (suc other) k l e no_k f g no_l h =
    let is : x ≡ k = cc e in absurd (no_k (subst IsKey is h.0))
one_bad (x ∷ xs) (suc at) zero k l e no_k f g no_l h =
    let is : x ≡ l = cc g in absurd (no_l (subst IsKey is f.0))
one_bad (x ∷ xs) (suc at) (suc other) k l e no_k f g no_l h =
    ap suc (one_bad xs at other k l e no_k f.1 g no_l h.1)

one_first : (order : List FileKey) (at other : ℕ) → IsFirstBad at order → IsFirstBad other order
    → at ≡ other
one_first order at other f g =
    one_bad order at other f.key g.key f.stands f.bad f.before g.stands g.bad g.before

not_walked : (s : Snapshot) (at : ℕ) → CanBeWalked s → IsFirstBad at s.order → ⊥
not_walked s at walked bad = not_all IsKey s.order at bad.key bad.stands bad.bad walked.names

-- ---- the objects under a folder

no_path : (folder path : List ℕ) (c : Content) → objects_under folder c ≡ []
    → IsFirstUnder folder (Some c) (Some path) → ⊥
no_path folder path c none (o, rest, is) =
    let bad : ◌≡◌ {A = List (List ℕ × Object)} ((path, o) ∷ rest) [] = sym is ∙ none in cc bad

one_path : (folder x y : List ℕ) (c : Content) → IsFirstUnder folder (Some c) (Some x)
    → IsFirstUnder folder (Some c) (Some y) → x ≡ y
one_path folder x y c (o, rest, is) (o', rest', is') =
    let same : ◌≡◌ {A = List (List ℕ × Object)} ((x, o) ∷ rest) ((y, o') ∷ rest') =
    sym is ∙ is' in
    let first : ◌≡◌ {A = List ℕ × Object} (x, o) (y, o') = cc same in
    ap (λ (e : List ℕ × Object). e.0) first

-- ---- the token map

same_text : (why other : RingWhy) → IsSameWhy why other → ring_why_text why ≡ ring_why_text other
same_text NotJson NotJson same = refl
same_text (NotRing a) (NotRing b) same = ap (λ t. codes "ring: bad host " ++ t) same
same_text (TokenRange a) (TokenRange b) same =
    ap (λ t. codes "ring: token out of range of " ++ t) same
same_text (TokenTwice a) (TokenTwice b) same =
    ap (λ t. codes "ring: token " ++ (signed_decimal t ++ codes " twice")) same
same_text _ _ same = absurd same

-- ---- the work on a node

module _ (n : List ℕ) (mode : Mode) (a b : World) (node_config : NodeConfig) where
  -- the folder of the name, and the objects under it
  abbrev folder : List ℕ
  folder = backup_folder node_config.before node_config.node n

  abbrev under : Content → List (List ℕ × Object)
  under c = objects_under folder c

  -- what the look at the folder answers
  abbrev Finds : Result (Unit {0}) Refusal → Type 0
  Finds = FindsFree node_config.before node_config.node n a.store.content

  -- what the look at the snapshot answers
  abbrev Begins : Result Sources Refusal → Type 0
  Begins = Prepares node_config.node n (held_at node_config n a b)

  -- the sections, and what follows them
  sections_lead : (x : Sources) → Leads (sections_plan n mode a b node_config x) (Ok tt)
  sections_lead x =
      by_answer _ _ _
      (λ y h. by_answer _ _ _
      (λ report g. by_answer _ _ _ (λ z k. refl) (λ f k. absurd k)) (λ f g. absurd g))
      (λ f h. absurd h)

  module _ (c : Content) (content : a.store.content ≡ Some c) where
    -- what is told of the first path is so of the content
    first_here : (path : List ℕ) → IsFirstUnder folder a.store.content (Some path)
        → IsFirstUnder folder (Some c) (Some path)
    first_here path h =
        subst (λ (o : Option Content). IsFirstUnder folder o (Some path)) content h

    free_copies : under c ≡ [] → (x : Sources) → Leads (copy_plan n mode a b node_config x) (Ok tt)
    free_copies none x = by_answer _ _ _ (λ y h. sections_lead x) (λ f h. absurd (no f h))
      where
        no : (f : Refusal) → Finds (Err f) → ⊥
        no (Taken name path) h = no_path folder path c none (first_here path h.1)
        no f h = h

    taken_stops : (path : List ℕ) → IsFirstUnder folder (Some c) (Some path) → (x : Sources)
        → Leads (copy_plan n mode a b node_config x) (Err (Refused (Taken n path)))
    taken_stops path first x = by_answer _ _ _ (λ y h. absurd (no y h)) yes
      where
        no : (y : Unit {0}) → Finds (Ok y) → ⊥
        no y h =
            no_path folder path c
            (subst (λ (o : Option Content). IsFirstUnder folder o None) content h) first

        yes : (f : Refusal) → Finds (Err f)
            → ◌≡◌ {A = End} (Err (Refused (Taken n path))) (Err (Refused f))
        yes (Taken name other) h =
            ap₂ (λ (m p : List ℕ). Err (Refused (Taken m p))) (sym h.0)
            (one_path folder path other c first (first_here other h.1))
        yes f h = absurd h

  module _ (s : Snapshot) (is : snap_at a.nodes.snaps node_config n ≡ Some s) where
    on_it : (P : Snapshot → Type 0) → IfSome (snap_at a.nodes.snaps node_config n) P → P s
    on_it P h = subst (λ (o : Option Snapshot). IfSome o P) is h

    -- the snapshot can be backed up: what follows the look at it decides
    prepared : (r : End) → CanBeBackedUp node_config.node s
        → ((x : Sources) → Leads (copy_plan n mode a b node_config x) r)
        → Leads (snapshot_plan n mode a b node_config) r
    prepared r can leads = by_answer _ _ _ (λ x h. leads x) (λ f h. absurd (no f h))
      where
        no : (f : Refusal) → Begins (Err f) → ⊥
        no (NoSnapshot name) h = can.walked.some (on_it (λ s. s.order ≡ []) h.1)
        no (BadFileName at) h =
            not_walked s at can.walked (on_it (λ s. IsFirstBad at s.order) h)
        no (BadRing text) (why, bad, told) =
            no_ring s.ring why (on_it (λ s. CanBeWalked s × IsNoRing s.ring why) bad).1 can.hosts
            can.reads
        no (NotInRing host) (host_is, lacks) =
            let h = on_it (λ s. CanBeWalked s × ((hosts : List RingHost) × IsRing s.ring hosts
            × (HasHost hosts node_config.node → ⊥))) lacks in
            h.1.2 (subst (λ (hosts : List RingHost). HasHost hosts node_config.node)
            (ring_is_one s.ring can.hosts h.1.0 can.reads h.1.1) can.among)
        no f h = h

    pub free_leads : (c : Content) → CanBeBackedUp node_config.node s → a.store.content ≡ Some c
        → under c ≡ [] → Leads (snapshot_plan n mode a b node_config) (Ok tt)
    free_leads c can content none = prepared (Ok tt) can (free_copies c content none)

    pub taken_leads : (c : Content) (path : List ℕ) → CanBeBackedUp node_config.node s
        → a.store.content ≡ Some c → IsFirstUnder folder (Some c) (Some path)
        → Leads (snapshot_plan n mode a b node_config) (Err (Refused (Taken n path)))
    taken_leads c path can content first =
        prepared (Err (Refused (Taken n path))) can (taken_stops c content path first)

    -- what was read of the snapshot
    sources_on : (x : Sources) → Begins (Ok x) → AreSourcesOf node_config.node s x
    sources_on x h = on_it (λ s. AreSourcesOf node_config.node s x) h

    pub empty_leads : s.order ≡ []
        → Leads (snapshot_plan n mode a b node_config) (Err (Refused (NoSnapshot n)))
    empty_leads none =
        by_answer _ _ _ (λ x h. absurd ((sources_on x h).walked.some none)) yes
      where
        yes : (f : Refusal) → Begins (Err f)
            → ◌≡◌ {A = End} (Err (Refused (NoSnapshot n))) (Err (Refused f))
        yes (NoSnapshot name) h = ap (λ (m : List ℕ). Err (Refused (NoSnapshot m))) (sym h.0)
        yes (BadFileName at) h =
            absurd (no_first at s.order none (on_it (λ s. IsFirstBad at s.order) h))
        yes (BadRing text) (why, bad, told) =
            absurd ((on_it (λ s. CanBeWalked s × IsNoRing s.ring why) bad).0.some none)
        yes (NotInRing host) (host_is, lacks) =
            absurd ((on_it (λ s. CanBeWalked s × ((hosts : List RingHost) × IsRing s.ring hosts
            × (HasHost hosts node_config.node → ⊥))) lacks).0.some none)
        yes f h = absurd h

    pub bad_key_leads : (at : ℕ) → IsFirstBad at s.order
        → Leads (snapshot_plan n mode a b node_config) (Err (Refused (BadFileName at)))
    bad_key_leads at bad =
        by_answer _ _ _ (λ x h. absurd (not_walked s at (sources_on x h).walked bad)) yes
      where
        yes : (f : Refusal) → Begins (Err f)
            → ◌≡◌ {A = End} (Err (Refused (BadFileName at))) (Err (Refused f))
        yes (NoSnapshot name) h =
            absurd (no_first at s.order (on_it (λ s. s.order ≡ []) h.1) bad)
        yes (BadFileName other) h =
            ap (λ (m : ℕ). Err (Refused (BadFileName m)))
            (one_first s.order at other bad (on_it (λ s. IsFirstBad other s.order) h))
        yes (BadRing text) (why, no_ring, told) =
            absurd (not_walked s at
            (on_it (λ s. CanBeWalked s × IsNoRing s.ring why) no_ring).0 bad)
        yes (NotInRing host) (host_is, lacks) =
            absurd (not_walked s at
            (on_it (λ s. CanBeWalked s × ((hosts : List RingHost) × IsRing s.ring hosts
            × (HasHost hosts node_config.node → ⊥))) lacks).0 bad)
        yes f h = absurd h

    module _ (walked : CanBeWalked s) where
      pub bad_ring_leads : (why : RingWhy) → IsNoRing s.ring why
          → Leads (snapshot_plan n mode a b node_config)
          (Err (Refused (BadRing (ring_why_text why))))
      bad_ring_leads why bad =
          by_answer _ _ _
          (λ x h. absurd (no_ring s.ring why bad (sources_on x h).hosts (sources_on x h).reads)) yes
        where
          yes : (f : Refusal) → Begins (Err f)
              → ◌≡◌ {A = End} (Err (Refused (BadRing (ring_why_text why)))) (Err (Refused f))
          yes (NoSnapshot name) h = absurd (walked.some (on_it (λ s. s.order ≡ []) h.1))
          yes (BadFileName at) h =
              absurd (not_walked s at walked (on_it (λ s. IsFirstBad at s.order) h))
          yes (BadRing text) (other, no_ring, told) =
              ap (λ (t : List ℕ). Err (Refused (BadRing t)))
              (same_text why other (cause_is_one s.ring why other bad
              (on_it (λ s. CanBeWalked s × IsNoRing s.ring other) no_ring).1) ∙ sym told)
          yes (NotInRing host) (host_is, lacks) =
              let h = on_it (λ s. CanBeWalked s × ((hosts : List RingHost) × IsRing s.ring hosts
              × (HasHost hosts node_config.node → ⊥))) lacks in
              absurd (no_ring s.ring why bad h.1.0 h.1.1)
          yes f h = absurd h

      pub lack_leads : (hosts : List RingHost) → IsRing s.ring hosts
          → (HasHost hosts node_config.node → ⊥)
          → Leads (snapshot_plan n mode a b node_config)
          (Err (Refused (NotInRing node_config.node)))
      lack_leads hosts reads lacks =
          by_answer _ _ _
          (λ x h. absurd (lacks (subst (λ (l : List RingHost). HasHost l node_config.node)
          (ring_is_one s.ring (sources_on x h).hosts hosts (sources_on x h).reads reads)
          (sources_on x h).among))) yes
        where
          yes : (f : Refusal) → Begins (Err f)
              → ◌≡◌ {A = End} (Err (Refused (NotInRing node_config.node))) (Err (Refused f))
          yes (NoSnapshot name) h = absurd (walked.some (on_it (λ s. s.order ≡ []) h.1))
          yes (BadFileName at) h =
              absurd (not_walked s at walked (on_it (λ s. IsFirstBad at s.order) h))
          yes (BadRing text) (why, bad, told) =
              absurd (no_ring s.ring why
              (on_it (λ s. CanBeWalked s × IsNoRing s.ring why) bad).1 hosts reads)
          yes (NotInRing host) (host_is, others) =
              ap (λ (h : List ℕ). Err (Refused (NotInRing h))) (sym host_is)
          yes f h = absurd h

  -- the bucket and the snapshot are opened first
  pub node_leads : (r : End) → Leads (snapshot_plan n mode a b node_config) r
      → Leads (node_plan n mode a b node_config) r
  node_leads r leads =
      by_answer _ _ _ (λ x h. by_answer _ _ _ (λ y g. leads) (λ f g. absurd g)) (λ f h. absurd h)
