-- What is told decides how a command ends.
use Rattle.std.proofs.Common.{◌≡◌, true, false, List, ℕ, Option, Some, Result, Ok, Err, sym, ◌∙◌, ap, subst}
use Rattle.med_commands.specs.NodeConfig.{NodeConfig, node_config_of}
use Rattle.med_ini.specs.declared.config.Config.{Config}
use Rattle.med_outside.specs.Device.{Files, on}
use Rattle.med_plan.specs.Ends.{Refusal, BadWords, NotBuilt, BadConfig, Taken, NoSnapshot, BadFileName, BadRing, NotInRing, BadManifest, Refused, Plan, step, Leads}
use Rattle.med_outside.specs.Snapshot.{Snapshot}
use Rattle.med_outside.specs.World.{World}
use Rattle.med_words.specs.Blames.{BlamesWords}
use Rattle.med_words.specs.Request.{Asked, IsRequest}
use Rattle.med_words.specs.Tables.{Action, backup, build_index, word_of}
use Rattle.med_words.specs.declared.request.Usage.{Usage}
use Rattle.med_words.specs.declared.request.WordsError.TheVariants as words_error
use Rattle.med_words.proofs.OneRequest.{one_request, asks_nothing}
use Rattle.med_commands.specs.Backups.{node_plan, snapshot_plan}
use Rattle.med_commands.specs.Decided.{is_built, IsAskedIndex, IsAskedOver, IsDecided}
use Rattle.med_commands.specs.Headline.{End}
use Rattle.med_commands.specs.Loaded.{IsConfigured, IsRefused}
use Rattle.med_commands.specs.Plans.{unbuilt_plan, action_plan, plan_of, words_plan}
use Rattle.med_commands.specs.Steps.{ReadsConfig, ReadsWords, IsUntouched}
use Rattle.med_commands.specs.Texts.{ring_why_text, usage_text}
use Rattle.med_commands.proofs.DecidedTexts.{one_usage, one_text}
use Rattle.med_commands.proofs.DecidedWork.{by_answer, node_leads, free_leads, taken_leads, empty_leads, bad_key_leads, bad_ring_leads, lack_leads}
use Rattle.med_commands.proofs.IndexDecided.{index_work, all_read_leads, first_unread_leads}
use Rattle.med_commands.proofs.OneNodeConfig.{one_node_config, not_refused}

-- ---- the config file

module _ (asked : Asked) (a b : World) (file : Option (List ℕ))
    (file_is : a.files.contents asked.config_file ≡ Some file)
    (rest : NodeConfig → Plan (Type 0) (Unit {0})) where
  -- it is read, and what follows that
  abbrev read_first : Plan (Type 0) (Unit {0})
  read_first = step (ReadsConfig a.files.contents asked) (on Files) (IsUntouched a b) rest

  config_read : (node_config : NodeConfig) (config : Config)
      → IsConfigured a.files.contents asked config → node_config ≡ node_config_of config
      → (r : End) → Leads (rest node_config) r → Leads read_first r
  config_read node_config config configured is r leads =
      by_answer _ _ _
      (λ other h. subst (λ (t : NodeConfig). Leads (rest t) r)
      (is ∙ one_node_config a.files.contents asked file file_is config h.0 configured h.1
      ∙ sym h.2) leads) (λ f h. absurd (no f h))
    where
      no : (f : Refusal) → ReadsConfig a.files.contents asked (Err f) → ⊥
      no (BadConfig text) h =
          not_refused a.files.contents asked file file_is text config configured h
      no f h = h

  config_refused : (text : List ℕ) → IsRefused a.files.contents asked text
      → Leads read_first (Err (Refused (BadConfig text)))
  config_refused text refused =
      by_answer _ _ _
      (λ node_config h. absurd (not_refused a.files.contents asked file file_is text h.0 h.1
      refused)) yes
    where
      yes : (f : Refusal) → ReadsConfig a.files.contents asked (Err f)
          → ◌≡◌ {A = End} (Err (Refused (BadConfig text))) (Err (Refused f))
      yes (BadConfig other) h =
          ap (λ (t : List ℕ). Err (Refused (BadConfig t)))
          (one_text a.files.contents asked file file_is text other refused h)
      yes f h = absurd h

bad_config_leads : (action : Action) (asked : Asked) (a b : World) (file : Option (List ℕ))
    (text : List ℕ) → is_built action ≡ true → a.files.contents asked.config_file ≡ Some file
    → IsRefused a.files.contents asked text
    → Leads (action_plan action asked a b) (Err (Refused (BadConfig text)))
bad_config_leads (backup n mode) asked a b file text e file_is refused =
    config_refused asked a b file file_is (λ node_config. node_plan n mode a b node_config) text
    refused
bad_config_leads build_index asked a b file text e file_is refused =
    config_refused asked a b file file_is (λ node_config. index_work node_config a b) text refused
bad_config_leads action asked a b file text e file_is refused = absurd (cc e)

-- a rebuild of the index over a config file that is told: the work on the storage decides
over_index : (asked : Asked) (a b : World) (node_config : NodeConfig)
    → IsAskedIndex asked a node_config → (r : End) → Leads (index_work node_config a b) r
    → Leads (plan_of asked a b) r
over_index asked a b node_config asks r leads =
    subst (λ (action : Action). Leads (action_plan action asked a b) r) (sym asks.action)
    (config_read asked a b asks.file asks.file_is (λ t. index_work t a b) node_config asks.config
    asks.configured asks.node_config_is r leads)

-- a backup over a snapshot that is told: the work on the snapshot decides
over_snapshot : (asked : Asked) (node_config : NodeConfig) (n : List ℕ) (a b : World) (s : Snapshot)
    → (over : IsAskedOver asked a node_config n s) → (r : End)
    → Leads (snapshot_plan n over.asks.mode a b node_config) r
    → Leads (plan_of asked a b) r
over_snapshot asked node_config n a b s over r leads =
    subst (λ (action : Action). Leads (action_plan action asked a b) r) (sym over.asks.action)
    (config_read asked a b over.asks.file over.asks.file_is
    (λ t. node_plan n over.asks.mode a b t) node_config over.config over.configured
    over.node_config_is r (node_leads n over.asks.mode a b node_config r leads))

-- ---- the command and the words

unbuilt_leads : (word : List ℕ) (a b : World)
    → Leads (unbuilt_plan word a b) (Err (Refused (NotBuilt word)))
unbuilt_leads word a b = by_answer _ _ _ (λ x h. absurd (no x h)) yes
  where
    no : (x : Unit {0}) → ◌≡◌ {A = Result (Unit {0}) Refusal} (Ok x) (Err (NotBuilt word)) → ⊥
    no x h = cc h

    yes : (f : Refusal)
        → ◌≡◌ {A = Result (Unit {0}) Refusal} (Err f) (Err (NotBuilt word))
        → ◌≡◌ {A = End} (Err (Refused (NotBuilt word))) (Err (Refused f))
    yes f h = let is : NotBuilt word ≡ f = cc h in ap (λ (g : Refusal). Err (Refused g)) is

no_command : (action : Action) (asked : Asked) (a b : World) → is_built action ≡ false
    → Leads (action_plan action asked a b) (Err (Refused (NotBuilt (word_of action))))
no_command (backup n mode) asked a b e = absurd (cc e)
no_command build_index asked a b e = absurd (cc e)
no_command action asked a b e = unbuilt_leads _ a b

words_lead : (words : List (List ℕ)) (asked : Asked) (a b : World) (told : End)
    → IsRequest words asked → Leads (plan_of asked a b) told → Leads (words_plan words a b) told
words_lead words asked a b told is leads =
    by_answer _ _ _ (λ other h. subst (λ (x : Asked). Leads (plan_of x a b) told)
    (one_request words asked other is h) leads) (λ f h. absurd (no f h))
  where
    no : (f : Refusal) → ReadsWords words (Err f) → ⊥
    no (BadWords text) h = h.2 asked is
    no f h = h

bad_words_lead : (words : List (List ℕ)) (usage : Usage) (a b : World)
    → BlamesWords words (words_error.Usage usage)
    → Leads (words_plan words a b) (Err (Refused (BadWords (usage_text usage))))
bad_words_lead words usage a b blames =
    by_answer _ _ _
    (λ asked h. absurd (asks_nothing words (words_error.Usage usage) blames asked h)) yes
  where
    yes : (f : Refusal) → ReadsWords words (Err f)
        → ◌≡◌ {A = End} (Err (Refused (BadWords (usage_text usage)))) (Err (Refused f))
    yes (BadWords text) h =
        ap (λ (t : List ℕ). Err (Refused (BadWords t)))
        (one_usage words usage h.0 blames h.1 ∙ sym h.3)
    yes f h = absurd h

-- ---- the law

pub decided : (a b : World) → IsDecided a b
decided a b = record {
  done = λ asked node_config n s c over can content none.
      over_snapshot asked node_config n a b s over (Ok tt)
      (free_leads n over.asks.mode a b node_config s over.snapshot_is c can content none);
  taken = λ asked node_config n s c path over can content first.
      over_snapshot asked node_config n a b s over (Err (Refused (Taken n path)))
      (taken_leads n over.asks.mode a b node_config s over.snapshot_is c path can content first);
  no_snapshot = λ asked node_config n s over none.
      over_snapshot asked node_config n a b s over (Err (Refused (NoSnapshot n)))
      (empty_leads n over.asks.mode a b node_config s over.snapshot_is none);
  bad_file_name = λ asked node_config n s at over bad.
      over_snapshot asked node_config n a b s over (Err (Refused (BadFileName at)))
      (bad_key_leads n over.asks.mode a b node_config s over.snapshot_is at bad);
  bad_ring = λ asked node_config n s why over walked bad.
      over_snapshot asked node_config n a b s over (Err (Refused (BadRing (ring_why_text why))))
      (bad_ring_leads n over.asks.mode a b node_config s over.snapshot_is walked why bad);
  not_in_ring = λ asked node_config n s hosts over walked reads lacks.
      over_snapshot asked node_config n a b s over (Err (Refused (NotInRing node_config.node)))
      (lack_leads n over.asks.mode a b node_config s over.snapshot_is walked hosts reads lacks);
  all_read = λ asked node_config c asks content read.
      over_index asked a b node_config asks (Ok tt)
      (all_read_leads node_config a b c content read);
  bad_manifest = λ asked node_config c f path asks content has read first.
      over_index asked a b node_config asks (Err (Refused (BadManifest path)))
      (first_unread_leads node_config a b c f path content has read first);
  no_config = λ asked text file built file_is refused.
      bad_config_leads asked.action asked a b file text built file_is refused;
  unbuilt = λ asked e. no_command asked.action asked a b e;
  words = λ words asked told is leads. words_lead words asked a b told is leads;
  bad_words = λ words usage blames. bad_words_lead words usage a b blames;
}
