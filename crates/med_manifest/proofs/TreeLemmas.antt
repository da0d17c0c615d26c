-- The files of tables, table after table.
use Rattle.std.proofs.Common.{◌≡◌, ◌∙◌, ◌<◌, ◌+◌, ℕ, suc, Bool, true, Option, Some, None, option_map, Result, Ok, Err, IfOk, IfSome, refl, sym, ap, subst, List, [], ◌∷◌, ◌++◌, map, flat_map, length, take, drop, get_or, append_assoc, codes, arith}
use Rattle.std.specs.Prelude.{is_none}
use Rattle.std.specs.List.{AllZip}
use Rattle.std.specs.declared.alloc.Global.{Global}
use Rattle.std.proofs.lemmas.List.{append-nil}
use Rattle.json.specs.declared.value.Value.{Value}
use Rattle.serde_json.specs.Data.{Data, Items}
use Rattle.serde_json.specs.Find.{as_array}
use Rattle.med_base.specs.Names.{component_fault}
use Rattle.med_base.proofs.Lists.{zip_next, each_has, map_around, length_front}
use Rattle.med_base.proofs.Options.{none_by_test}
use Rattle.med_json.specs.Borrowed.{tree_of}
use Rattle.med_json.specs.Tree.{IsText, items_in, text_at, list_at}
use Rattle.med_manifest.specs.declared.why.ManifestWhy.{ManifestWhy}
use Rattle.med_manifest.specs.declared.why.ManifestWhy.TheVariants.{NotJson, NotManifest, BadDigest, ForeignPath, DuplicatePath}
use Rattle.med_manifest.specs.Named.{Named, IsFile, IsTable, AreTables, IsFirstUnshaped, HasFiles}
use Rattle.med_manifest.specs.Refusals.{IsUnshaped, IsRefused, no_table}

joined : List (List Named) → List Named
joined tables = flat_map (λ (table : List Named). table) tables

joined_push : (tables : List (List Named)) (more : List Named)
    → joined (tables ++ more ∷ []) ≡ joined tables ++ more
unfolding joined
joined_push [] more = append-nil more
joined_push (table ∷ tables) more =
    ap (λ (files : List Named). table ++ files) (joined_push tables more)
    ∙ sym (append_assoc table (joined tables) more)

-- one more table
pub tables_next : (list : List (Value Global)) (files more all : List Named) (i : ℕ)
    (v : Value Global) → i < length list → v ≡ get_or list i v
    → AreTables (map tree_of (take i list)) files → IsTable (tree_of v) more → all ≡ files ++ more
    → AreTables (map tree_of (take (i + 1) list)) all
unfolding joined
tables_next list files more all i v lt at so is all_is = record {
  tables = so.tables ++ more ∷ [];
  tables_are =
      zip_next IsTable tree_of list so.tables (so.tables ++ more ∷ []) i v more lt at so.tables_are
      is refl;
  files_are =
      all_is ∙ ap (λ (fs : List Named). fs ++ more) so.files_are
      ∙ sym (joined_push so.tables more);
}

-- the first item that is no table
pub first_unshaped : (list : List (Value Global)) (files : List Named) (i : ℕ) (v : Value Global)
    → i < length list → v ≡ get_or list i v → AreTables (map tree_of (take i list)) files
    → ((more : List Named) → IsTable (tree_of v) more → ⊥) → IsFirstUnshaped (map tree_of list) i
first_unshaped list files i v lt at so none = record {
  good = map tree_of (take i list);
  bad = tree_of v;
  rest = map tree_of (drop (suc i) list);
  items_are = map_around tree_of list i v lt at;
  at_is = sym (length_front tree_of list i (omega arith));
  tables_before = each_has IsTable (map tree_of (take i list)) so.tables so.tables_are;
  no_table = λ s. none s.0 s.1;
}

-- ---- a table

-- a text that was tested is a component
pub component_from : (text : List ℕ) (b : Bool) → b ≡ is_none (component_fault text) → b ≡ true
    → component_fault text ≡ None
component_from text b e g = none_by_test (component_fault text) (sym (sym g ∙ e))

pub table_is : (d : Data) (keyspace table : List ℕ) (list : List (Value Global))
    (files : List Named) → text_at (codes "keyspace") d ≡ Some keyspace
    → text_at (codes "columnfamily") d ≡ Some table → component_fault keyspace ≡ None
    → component_fault table ≡ None → list_at (codes "objects") d ≡ Some (map tree_of list)
    → AllZip (IsFile keyspace table) (map tree_of list) files → IsTable d files
table_is d keyspace table list files keyspace_is named_so keyspace_fits table_fits objects zip =
    record {
      keyspace = keyspace;
      table = table;
      keyspace_is = keyspace_is;
      table_is = named_so;
      keyspace_fits = keyspace_fits;
      table_fits = table_fits;
      objects = map tree_of list;
      objects_are = objects;
      files_are = zip;
    }

-- the files of a table are those of its list
pub in_list : (d : Data) (keyspace table : List ℕ) (list : List (Value Global)) (files : List Named)
    → text_at (codes "keyspace") d ≡ Some keyspace
    → text_at (codes "columnfamily") d ≡ Some table
    → list_at (codes "objects") d ≡ Some (map tree_of list) → IsTable d files
    → AllZip (IsFile keyspace table) (map tree_of list) files
in_list d keyspace table list files keyspace_is named_so objects is =
    let same_keyspace : is.keyspace ≡ keyspace = cc (sym is.keyspace_is ∙ keyspace_is) in
    let same_table : is.table ≡ table = cc (sym is.table_is ∙ named_so) in
    let items : is.objects ≡ map tree_of list = cc (sym is.objects_are ∙ objects) in
    subst (λ (k : List ℕ). AllZip (IsFile k table) (map tree_of list) files) same_keyspace
    (subst (λ (t : List ℕ). AllZip (IsFile is.keyspace t) (map tree_of list) files) same_table
    (subst (λ (ds : List Data). AllZip (IsFile is.keyspace is.table) ds files) items is.files_are))

-- ---- the whole value

-- the items of a list that is there
listed : (o : Option Items) (ds : List Data) → Some ds ≡ option_map items_in o
    → (list : Items) × (o ≡ Some list) × (items_in list ≡ ds)
listed None ds e = absurd (cc)
listed (Some list) ds e = (list, refl, cc)

-- a value whose items are these is a list
unlisted : (o : Option Items) → None ≡ option_map items_in o → o ≡ None
unlisted None e = refl
unlisted (Some list) e = absurd (cc)

pub has_files : (d : Data) (ds : List Data) (files : List Named)
    → Some ds ≡ option_map items_in (as_array d) → AreTables ds files → HasFiles d files
has_files d ds files is tables =
    let (list, list_is, items) = listed (as_array d) ds is in
    record {
      list = list;
      list_is = list_is;
      tables = subst (λ (es : List Data). AreTables es files) (sym items) tables;
    }

-- the first item that is no table refuses the text
pub unshaped : (d : Data) (ds : List Data) (why : ManifestWhy)
    → Some ds ≡ option_map items_in (as_array d) → IsUnshaped ds why
    → (before f n bytes : List ℕ) → IsText bytes d → IsRefused before f n bytes why
unshaped d ds NotJson is has before f n bytes text = absurd has
unshaped d ds (NotManifest at) is has before f n bytes text =
    let (list, list_is, items) = listed (as_array d) ds is in
    let first = subst (λ (es : List Data). IsFirstUnshaped es at) (sym items) has in
    (d, text, no_table list list_is first)
unshaped d ds (BadDigest at) is has before f n bytes text = absurd has
unshaped d ds (ForeignPath path) is has before f n bytes text = absurd has
unshaped d ds (DuplicatePath path) is has before f n bytes text = absurd has

-- a value that is no list
pub no_array : (d : Data) → None ≡ option_map items_in (as_array d) → as_array d ≡ None
no_array d e = unlisted (as_array d) e

-- ---- answers of a reader

pub some_weaker : {X E : Type 0} (r : Result (Option X) E) (P Q : X → Type 0)
    → ((x : X) → P x → Q x) → IfOk r (λ o. IfSome o P) → IfOk r (λ o. IfSome o Q)
some_weaker (Err e) P Q more h = tt
some_weaker (Ok None) P Q more h = tt
some_weaker (Ok (Some x)) P Q more h = more x h
