-- How a command ends where what it meets is told, as the law `what_is_told_decides` has it. A plan
-- leads to an end where each call of it ends so, but for devices that fail.
use Rattle.std.specs.Prelude.{◌≡◌, ℕ, Bool, true, false, List, [], Option, Some, Result, Ok, Err}
use Rattle.std.specs.declared.cmp.Ordering.TheVariants.{Less}
use Rattle.med_base.specs.Content.{Content, objects_under}
use Rattle.med_base.specs.Layout.{backup_folder}
use Rattle.med_base.specs.NameOrder.{name_cmp}
use Rattle.med_commands.specs.NodeConfig.{NodeConfig, node_config_of, snap_at}
use Rattle.med_backup.specs.Walked.{CanBeWalked, IsFirstBad}
use Rattle.med_index.specs.Rows.{HasBackup}
use Rattle.med_ini.specs.declared.config.Config.{Config}
use Rattle.med_manifest.specs.Reads.{DoAllRead, IsFirstUnread}
use Rattle.med_backup.specs.Backups.{HasHost}
use Rattle.med_plan.specs.Ends.{BadWords, NotBuilt, BadConfig, Taken, NoSnapshot, BadFileName, BadRing, NotInRing, BadManifest, Stop, Refused, Leads}
use Rattle.med_outside.specs.Snapshot.{Snapshot}
use Rattle.med_outside.specs.World.{World}
use Rattle.med_outside.specs.declared.mode.Mode.{Mode}
use Rattle.med_ring.specs.declared.error.RingWhy.{RingWhy}
use Rattle.med_ring.specs.Blames.{IsRefused as IsNoRing}
use Rattle.med_ring.specs.Host.{RingHost}
use Rattle.med_ring.specs.Ring.{IsRing}
use Rattle.med_shelf.specs.Claims.{IsFirstUnder}
use Rattle.med_words.specs.Blames.{BlamesWords}
use Rattle.med_words.specs.Request.{Asked, IsRequest}
use Rattle.med_words.specs.Tables.{Action, backup, build_index, word_of}
use Rattle.med_words.specs.declared.request.Usage.{Usage}
use Rattle.med_words.specs.declared.request.WordsError.TheVariants as words_error
use Rattle.med_commands.specs.Loaded.{IsConfigured, IsRefused}
use Rattle.med_commands.specs.Plans.{plan_of, words_plan}
use Rattle.med_commands.specs.Texts.{ring_why_text, usage_text}

-- ---- what is told

-- the commands that are built: the backup of a node, and the rebuild of the index
abbrev pub is_built : Action → Bool
is_built (backup n mode) = true
is_built build_index = true
is_built action = false

-- a backup of this name is asked for, and the files tell of the config file: what its bytes are, or
-- that there is none
pub record IsAskedBackup (asked : Asked) (a : World) (n : List ℕ) : Type 0 where
  pub mode : Mode
  pub action : asked.action ≡ backup n mode
  pub file : Option (List ℕ)
  pub file_is : a.files.contents asked.config_file ≡ Some file

-- the same; and the config file gives a configuration that says this of the node, for which the
-- nodes tell this snapshot
pub record IsAskedOver (asked : Asked) (a : World) (node_config : NodeConfig) (n : List ℕ)
    (s : Snapshot) : Type 0 where
  pub asks : IsAskedBackup asked a n
  pub config : Config
  pub configured : IsConfigured a.files.contents asked config
  pub node_config_is : node_config ≡ node_config_of config
  pub snapshot_is : snap_at a.nodes.snaps node_config n ≡ Some s

-- the snapshot has keys that are names of files, and a token map that has the node f
pub record CanBeBackedUp (f : List ℕ) (s : Snapshot) : Type 0 where
  pub walked : CanBeWalked s
  pub hosts : List RingHost
  pub reads : IsRing s.ring hosts
  pub among : HasHost hosts f

-- a rebuild of the index is asked for, and the files tell of a config file that gives this
-- configuration
pub record IsAskedIndex (asked : Asked) (a : World) (node_config : NodeConfig) : Type 0 where
  pub action : asked.action ≡ build_index
  pub file : Option (List ℕ)
  pub file_is : a.files.contents asked.config_file ≡ Some file
  pub config : Config
  pub configured : IsConfigured a.files.contents asked config
  pub node_config_is : node_config ≡ node_config_of config

-- ---- how a backup ends, in either mode

-- the snapshot can be backed up, and no object lies under the folder of the name: the command ends
-- well
abbrev pub FreeIsDone : World → World → Type 0
FreeIsDone a b =
    (asked : Asked) (node_config : NodeConfig) (n : List ℕ) (s : Snapshot) (c : Content)
    → IsAskedOver asked a node_config n s → CanBeBackedUp node_config.node s
    → a.store.content ≡ Some c
    → objects_under (backup_folder node_config.before node_config.node n) c ≡ []
    → Leads (plan_of asked a b) (Ok tt)

-- the same, but that an object lies under the folder: the first of their paths is told
abbrev pub TakenIsRefused : World → World → Type 0
TakenIsRefused a b =
    (asked : Asked) (node_config : NodeConfig) (n : List ℕ) (s : Snapshot) (c : Content)
    (path : List ℕ)
    → IsAskedOver asked a node_config n s → CanBeBackedUp node_config.node s
    → a.store.content ≡ Some c
    → IsFirstUnder (backup_folder node_config.before node_config.node n) (Some c) (Some path)
    → Leads (plan_of asked a b) (Err (Refused (Taken n path)))

-- the snapshot has no key
abbrev pub EmptyIsRefused : World → World → Type 0
EmptyIsRefused a b = (asked : Asked) (node_config : NodeConfig) (n : List ℕ) (s : Snapshot)
    → IsAskedOver asked a node_config n s → s.order ≡ []
    → Leads (plan_of asked a b) (Err (Refused (NoSnapshot n)))

-- the key at this place is the first that is no name of a file
abbrev pub BadKeyIsRefused : World → World → Type 0
BadKeyIsRefused a b =
    (asked : Asked) (node_config : NodeConfig) (n : List ℕ) (s : Snapshot) (at : ℕ)
    → IsAskedOver asked a node_config n s → IsFirstBad at s.order
    → Leads (plan_of asked a b) (Err (Refused (BadFileName at)))

-- the keys are names of files, and the token map doesn't read, for this cause
abbrev pub BadRingIsRefused : World → World → Type 0
BadRingIsRefused a b =
    (asked : Asked) (node_config : NodeConfig) (n : List ℕ) (s : Snapshot) (why : RingWhy)
    → IsAskedOver asked a node_config n s → CanBeWalked s → IsNoRing s.ring why
    → Leads (plan_of asked a b) (Err (Refused (BadRing (ring_why_text why))))

-- the keys are names of files, and the token map has no host of the node's name
abbrev pub LackIsRefused : World → World → Type 0
LackIsRefused a b =
    (asked : Asked) (node_config : NodeConfig) (n : List ℕ) (s : Snapshot) (hosts : List RingHost)
    → IsAskedOver asked a node_config n s → CanBeWalked s → IsRing s.ring hosts
    → (HasHost hosts node_config.node → ⊥)
    → Leads (plan_of asked a b) (Err (Refused (NotInRing node_config.node)))

-- ---- how a rebuild of the index ends

-- the manifests of each node that has a backup read: the command ends well
abbrev pub AllReadIsDone : World → World → Type 0
AllReadIsDone a b =
    (asked : Asked) (node_config : NodeConfig) (c : Content)
    → IsAskedIndex asked a node_config → a.store.content ≡ Some c
    → ((f : List ℕ) → HasBackup c node_config.before f → DoAllRead node_config.before c f [])
    → Leads (plan_of asked a b) (Ok tt)

-- those of a node don't, and those of the nodes before it in byte order do: the first of its
-- manifests that doesn't read is told
abbrev pub UnreadIsRefused : World → World → Type 0
UnreadIsRefused a b =
    (asked : Asked) (node_config : NodeConfig) (c : Content) (f path : List ℕ)
    → IsAskedIndex asked a node_config → a.store.content ≡ Some c
    → HasBackup c node_config.before f
    → ((g : List ℕ) → HasBackup c node_config.before g → name_cmp g f ≡ Less
    → DoAllRead node_config.before c g [])
    → IsFirstUnread node_config.before c f [] path
    → Leads (plan_of asked a b) (Err (Refused (BadManifest path)))

-- ---- how all commands end

-- the command is built, and the config file, which is told, gives no configuration
abbrev pub BadConfigIsRefused : World → World → Type 0
BadConfigIsRefused a b = (asked : Asked) (text : List ℕ) (file : Option (List ℕ))
    → is_built asked.action ≡ true → a.files.contents asked.config_file ≡ Some file
    → IsRefused a.files.contents asked text
    → Leads (plan_of asked a b) (Err (Refused (BadConfig text)))

-- the command isn't built, whatever the config file is
abbrev pub UnbuiltIsRefused : World → World → Type 0
UnbuiltIsRefused a b = (asked : Asked) → is_built asked.action ≡ false
    → Leads (plan_of asked a b) (Err (Refused (NotBuilt (word_of asked.action))))

-- the words ask for this: the whole ends as what they ask for
abbrev pub WordsDecide : World → World → Type 0
WordsDecide a b =
    (words : List (List ℕ)) (asked : Asked) (told : Result (Unit {0}) Stop)
    → IsRequest words asked → Leads (plan_of asked a b) told → Leads (words_plan words a b) told

-- the words are no line, or an option has a value that it doesn't take
abbrev pub BadWordsAreRefused : World → World → Type 0
BadWordsAreRefused a b = (words : List (List ℕ)) (usage : Usage)
    → BlamesWords words (words_error.Usage usage)
    → Leads (words_plan words a b) (Err (Refused (BadWords (usage_text usage))))

-- ---- the law

-- what is told in the first world decides how a command ends that leaves the second
pub record IsDecided (a b : World) : Type 0 where
  pub done : FreeIsDone a b
  pub taken : TakenIsRefused a b
  pub no_snapshot : EmptyIsRefused a b
  pub bad_file_name : BadKeyIsRefused a b
  pub bad_ring : BadRingIsRefused a b
  pub not_in_ring : LackIsRefused a b
  pub all_read : AllReadIsDone a b
  pub bad_manifest : UnreadIsRefused a b
  pub no_config : BadConfigIsRefused a b
  pub unbuilt : UnbuiltIsRefused a b
  pub words : WordsDecide a b
  pub bad_words : BadWordsAreRefused a b
