-- The tokens of a manifest: how they are joined, and that they read back as its tree.
use Rattle.std.proofs.Common.{◌≡◌, ◌∙◌, ◌≤◌, ℕ, Bool, true, false, refl, sym, ap, List, [], ◌∷◌, ◌++◌, map, Some, Option, option_and_then, OnOk, Result, Ok, Err, suc, append_assoc, append-nil, arith}
use Rattle.std.specs.List.{AllByRecursion}
use Rattle.json.specs.Json as json
use Rattle.json.specs.Lex.{tokens}
use Rattle.json.specs.Token.{Token, begin_array, end_array}
use Rattle.json.specs.Tree as tree
use Rattle.json.specs.Written.{Written, Writes}
use Rattle.json.proofs.Printed.Trees.{value-json_tokens}
use Rattle.serde_json.specs.Data.{Data, Items, Members, null, boolean, number, string, array, object, no_items, item, no_members, member, depth, items_depth, members_depth}
use Rattle.serde_json.specs.Read.{read, of_json, of_items, max_depth}
use Rattle.serde_json.specs.View.{items_of}
use Rattle.serde_json.specs.Written.{outline, items_outline, members_outline}
use Rattle.serde_json.proofs.Numbers.{number_of-decimal}
use Rattle.med_manifest.specs.declared.manifest.FileRecord.{FileRecord}
use Rattle.med_manifest.specs.Tokens.{Adds, tokens_of, tokens_of_all, list_data}
use Rattle.med_manifest.specs.Written.{Table, tables, with_file, is_same_table, file_data, table_data, manifest_data, IsFingerprint, HaveFingerprints}
use Rattle.med_manifest.proofs.Nesting.{manifest_depth}

-- ---- tokens that are added in turn

pub adds_none : (w : Written) → Adds w w []
adds_none w = record { tokens = sym (append-nil w.tokens); before = refl }

pub adds_then : (a b c : Written) (ts us : List Token) → Adds a b ts → Adds b c us
    → Adds a c (ts ++ us)
adds_then a b c ts us first next = record {
  tokens =
      next.tokens ∙ ap (λ (l : List Token). l ++ us) first.tokens ∙ append_assoc a.tokens ts us;
  before = next.before ∙ first.before;
}

-- a token that was written
pub adds_one : {E : Type 0} (r : Result (Unit {0}) E) (a b : Written) (t : Token)
    → Writes r a b t → OnOk r (Adds a b (t ∷ []))
adds_one (Ok x) a b t w = record { tokens = w.ok; before = w.room.0 }
adds_one (Err e) a b t w = tt

-- ---- the tokens of a list

items_all : (ds : List Data)
    → tree.items_tokens (items_outline (items_of ds)) ≡ tokens_of_all ds ++ end_array ∷ []
items_all [] = refl
items_all (d ∷ ds) =
    ap (λ (l : List Token). tokens_of d ++ l) (items_all ds)
    ∙ sym (append_assoc (tokens_of d) (tokens_of_all ds) (end_array ∷ []))

pub list_tokens : (ds : List Data)
    → tokens_of (list_data ds) ≡ begin_array ∷ (tokens_of_all ds ++ end_array ∷ [])
list_tokens ds = ap (λ (l : List Token). begin_array ∷ l) (items_all ds)

-- ---- the tokens read back

mutual
  same_depth : (d : Data) → tree.depth (outline d) ≡ depth d
  same_depth null = refl
  same_depth (boolean b) = refl
  same_depth (number n) = refl
  same_depth (string s) = refl
  same_depth (array ds) = ap suc (items_same ds)
  same_depth (object ms) = ap suc (members_same ms)

  items_same : (ds : Items) → tree.items_depth (items_outline ds) ≡ items_depth ds
  items_same no_items = refl
  items_same (item d ds) = rw (same_depth d, items_same ds) refl

  members_same : (ms : Members) → tree.members_depth (members_outline ms) ≡ members_depth ms
  members_same no_members = refl
  members_same (member k d ms) = rw (same_depth d, members_same ms) refl

abbrev whole : Option (json.Json × List Token) → Option Data
whole o = option_and_then of_json (option_and_then (λ p. json.if_last p.0 p.1) o)

read_tokens : (d : Data) (text : List ℕ) → tokens text ≡ tokens_of d
    → of_json (outline d) ≡ Some d → depth d ≤ 127 → read text ≡ Some d
read_tokens d text same back shallow =
    let nests : tree.depth (outline d) ≤ 127 = omega (arith, same_depth d, shallow) in
    ap whole (ap (json.value max_depth) (same ∙ sym (append-nil (tokens_of d)))
    ∙ value-json_tokens (outline d) max_depth [] nests) ∙ back

file_back : (f : FileRecord) → IsFingerprint f.fingerprint
    → of_json (outline (file_data f)) ≡ Some (file_data f)
file_back f print = rw (number_of-decimal f.fingerprint.size print.size) refl

files_back : (fs : List FileRecord) → HaveFingerprints fs
    → of_items (items_outline (items_of (map file_data fs))) ≡ Some (items_of (map file_data fs))
files_back [] prints = refl
files_back (f ∷ fs) prints = rw (file_back f prints.0, files_back fs prints.1) refl

table_back : (t : Table) → HaveFingerprints t.files
    → of_json (outline (table_data t)) ≡ Some (table_data t)
table_back t prints = rw (files_back t.files prints) refl

-- each file of these tables has a fingerprint
abbrev AreFull : List Table → Type 0
AreFull ts = AllByRecursion (λ (t : Table). HaveFingerprints t.files) ts

tables_back : (ts : List Table) → AreFull ts
    → of_items (items_outline (items_of (map table_data ts))) ≡ Some (items_of (map table_data ts))
tables_back [] full = refl
tables_back (t ∷ ts) full = rw (table_back t full.0, tables_back ts full.1) refl

one_more : (r : FileRecord) (t : Table) (ts : List Table) → IsFingerprint r.fingerprint
    → HaveFingerprints t.files → AreFull ts → (b : Bool) → is_same_table r t.first ≡ b
    → AreFull (with_file r (t ∷ ts))
one_more r t ts print prints full true e = rw e ((print, prints), full)
one_more r t ts print prints full false e = rw e ((print, tt), (prints, full))

with_one : (r : FileRecord) (ts : List Table) → IsFingerprint r.fingerprint → AreFull ts
    → AreFull (with_file r ts)
with_one r [] print full = ((print, tt), tt)
with_one r (t ∷ ts) print full = one_more r t ts print full.0 full.1 _ refl

are_full : (fs : List FileRecord) → HaveFingerprints fs → AreFull (tables fs)
are_full [] prints = tt
are_full (f ∷ fs) prints = with_one f (tables fs) prints.0 (are_full fs prints.1)

-- a text with the tokens of a manifest reads as its tree
pub read_manifest : (files : List FileRecord) (text : List ℕ)
    → tokens text ≡ tokens_of (manifest_data files) → HaveFingerprints files
    → read text ≡ Some (manifest_data files)
read_manifest files text same prints =
    read_tokens (manifest_data files) text same
    (rw (tables_back (tables files) (are_full files prints)) refl) (manifest_depth files)
