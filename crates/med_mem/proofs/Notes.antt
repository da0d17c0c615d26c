-- What one change more leaves, and that no change was made in a later call.
use Rattle.std.proofs.Common.{◌≡◌, ◌∙◌, ◌<◌, ◌≤◌, ◌&&◌, ◌+◌, ◌-◌, ℕ, Bool, true, false, cond, not, T, None, List, [], ◌∷◌, ◌++◌, map, length, Vec, vec_len, vec_capacity, IsTrue, refl, sym, ap, subst, arith, leb-true, le-leb}
use Rattle.std.specs.Prelude.{nat_le}
use Rattle.std.specs.List.{list_all}
use Rattle.std.specs.FinMap.{empty, entries, remove, same_entries_map, entries-insert, entries_sorted, len-entries, len-empty, same_map, get, get-remove, get-entries, from_sorted, get-from_sorted, entries-from_sorted}
use Rattle.std.specs.FinMap.Entries.{find, is_sorted, is_sorted-where_key, find-where_key}
use Rattle.std.specs.Ordering.{nat_cmp, eq_by_cmp}
use Rattle.std.specs.declared.cmp.Ordering.TheVariants.{Equal}
use Rattle.std.specs.Cmp.{eq_by_cmp_equiv}
use Rattle.std.specs.Cmp.Lexicographic.{slice_cmp, nat_list_cmp_total}
use Rattle.std.proofs.lemmas.List.{map-append, nil_from_length, length-map, length-append}
use Rattle.std.proofs.lemmas.Bool.{and_parts}
use Rattle.std.proofs.lemmas.Map.Lookups.{exact_bytes}
use Rattle.med_base.specs.Content.{Content, Object}
use Rattle.med_base.specs.Effects.{Effect, Stores, Removes, made, applied}
use Rattle.med_mem.specs.declared.object.MemObject.{MemObject}
use Rattle.med_mem.specs.declared.object.Change.{Change}
use Rattle.med_mem.specs.Objects.{effect_of, pairs, put_at, is_other, without_path, noted, Tells, IsStored, IsNoted, IsRemoved, room_after}
use Rattle.med_mem.specs.Told.{Note, content_after, content_at, notes_to, AreMadeBy}
use Rattle.med_mem.specs.Calls.{note_of}

both_true : (a b : Bool) → IsTrue a → IsTrue b → IsTrue (a && b)
both_true true b e f = f
both_true false b e f = absurd (cc)

pub made_later : (notes : List Note) (a b : ℕ) → a ≤ b → AreMadeBy a notes → AreMadeBy b notes
made_later [] a b le by = refl
made_later (n ∷ notes) a b le by =
    let parts = and_parts _ _ by in
    let call : n.call ≤ a = leb-true n.call a parts.0 in
    both_true _ _ (le-leb n.call b (omega arith)) (made_later notes a b le parts.1)

pub made_more : (notes : List Note) (a b : ℕ) (n : Note) → a ≤ b → n.call ≤ b
    → AreMadeBy a notes → AreMadeBy b (notes ++ n ∷ [])
made_more [] a b n le call by = both_true _ _ (le-leb n.call b call) refl
made_more (m ∷ notes) a b n le call by =
    let parts = and_parts _ _ by in
    let first : m.call ≤ a = leb-true m.call a parts.0 in
    both_true _ _ (le-leb m.call b (omega arith)) (made_more notes a b n le call parts.1)

applied_more : (xs : List Effect) (x : Effect) (c : Content)
    → applied (xs ++ x ∷ []) c ≡ made x (applied xs c)
applied_more [] x c = refl
applied_more (y ∷ xs) x c = applied_more xs x (made y c)

pub after_more : (notes : List Note) (n : Note)
    → content_after (notes ++ n ∷ []) ≡ made n.effect (content_after notes)
after_more notes n =
    ap (λ (xs : List Effect). applied xs empty) (map-append (λ (n : Note). n.effect) notes (n ∷ []))
    ∙ applied_more (map (λ (n : Note). n.effect) notes) n.effect empty

-- ---- contents at a step

-- all changes, where none was made later
all_notes : (notes : List Note) (k : ℕ) → AreMadeBy k notes → notes_to k notes ≡ notes
all_notes [] k by = refl
all_notes (n ∷ notes) k by =
    let parts = and_parts (nat_le n.call k) (list_all (λ (n : Note). nat_le n.call k) notes) by in
    rw parts.0 (ap (λ l. n ∷ l) (all_notes notes k parts.1))

pub content_whole : (notes : List Note) (k : ℕ) → AreMadeBy k notes
    → content_at k notes ≡ content_after notes
content_whole notes k by = ap content_after (all_notes notes k by)

-- a change that was made later says nothing of an earlier step
notes_before : (notes : List Note) (n : Note) (k : ℕ) → k < n.call
    → notes_to k (notes ++ n ∷ []) ≡ notes_to k notes
notes_before [] n k less = go (nat_le n.call k) refl
  where
    go : (b : Bool) → nat_le n.call k ≡ b → cond (nat_le n.call k) (n ∷ []) [] ≡ []
    go true e = absurd (let le = leb-true n.call k e in omega arith)
    go false e = rw e refl
notes_before (m ∷ notes) n k less =
    ap (λ l. cond (nat_le m.call k) (m ∷ l) l) (notes_before notes n k less)

pub content_before : (notes : List Note) (n : Note) (k : ℕ) → k < n.call
    → content_at k (notes ++ n ∷ []) ≡ content_at k notes
content_before notes n k less = ap content_after (notes_before notes n k less)

-- ---- entries

pub no_entries : entries (empty {K = List ℕ} {X = Object} {R = slice_cmp nat_cmp}) ≡ []
no_entries =
    nil_from_length (entries empty)
    (sym (len-entries empty) ∙ len-empty (slice_cmp nat_cmp) Object)

same_test : (path q x : List ℕ) → slice_cmp nat_cmp q x ≡ Equal
    → is_other path x ≡ is_other path q
same_test path q x e = ap (is_other path) (sym (exact_bytes q x e))

turned_test : {A : Type 0} (b : Bool) (x y : A) → cond b x y ≡ cond (not b) y x
turned_test true x y = refl
turned_test false x y = refl

pub entries-removed : (path : List ℕ) (c : Content)
    → entries (remove c path) ≡ without_path path (entries c)
entries-removed path c =
    let R = slice_cmp nat_cmp in
    let rest = without_path path (entries c) in
    let sorted = is_sorted-where_key R (is_other path) (entries c) (entries_sorted c) in
    ap entries (same_map nat_list_cmp_total exact_bytes (remove c path) (from_sorted rest) (λ q.
    get-remove nat_list_cmp_total c path q
    ∙ ap (λ o. cond (eq_by_cmp R q path) None o) (get-entries c q)
    ∙ ap (λ b. cond b None (find R q (entries c)))
    ((eq_by_cmp_equiv nat_list_cmp_total).symm q path)
    ∙ turned_test (eq_by_cmp R path q) None (find R q (entries c))
    ∙ sym (get-from_sorted R rest q sorted
    ∙ find-where_key R (is_other path) q (same_test path q) (entries c))))
    ∙ entries-from_sorted R rest sorted

-- a content whose entries are the same without a path has no object there
pub not_there : (path : List ℕ) (c : Content) → entries c ≡ without_path path (entries c)
    → c ≡ remove c path
not_there path c e = same_entries_map c (remove c path) (e ∙ sym (entries-removed path c))

-- ---- the invariant

abbrev note : Change → Note
note c = note_of c.call (effect_of c.effect)

module _ {Z : Type 0} (old new : Vec Change Z) (room left : ℕ)
    (larger : vec_capacity old ≤ vec_capacity new)
    (has : room + vec_len old ≤ vec_capacity old) where
  -- where nothing was noted there is as much room
  pub room_stays : noted new.items ≡ noted old.items → room + vec_len new ≤ vec_capacity new
  room_stays same =
      let len : length new.items ≡ length old.items =
      sym (length-map new.items note) ∙ ap length same ∙ length-map old.items note in
      omega (arith, larger, has, len, old.ok.0, new.ok.0)

  -- where one change more was noted there is room for one less, if there was any
  pub room_falls : (n : Note) → IsNoted n old.items new.items → left ≡ room - 1
      → left + vec_len new ≤ vec_capacity new
  room_falls n more less =
      let len : length new.items ≡ length old.items + 1 =
      sym (length-map new.items note)
      ∙ ap length more
      ∙ length-append (noted old.items) (n ∷ [])
      ∙ ap (λ k. k + 1) (length-map old.items note) in
      omega (arith, larger, has, len, less, old.ok.0, new.ok)

pub tells_later : (os : List MemObject) (cs : List Change) (calls next : ℕ) → calls ≤ next
    → Tells os cs calls → Tells os cs next
tells_later os cs calls next le told = record {
  same = told.same;
  made_by = made_later (noted cs) calls next le told.made_by;
  in_order = told.in_order;
}

pub tells_same : (os os' : List MemObject) (cs cs' : List Change) (calls next : ℕ) → calls ≤ next
    → noted cs' ≡ noted cs → pairs os' ≡ pairs os → Tells os cs calls → Tells os' cs' next
tells_same os os' cs cs' calls next le notes objects told = record {
  same = rw (notes, objects) told.same;
  made_by = rw notes (made_later (noted cs) calls next le told.made_by);
  in_order = rw objects told.in_order;
}

true_of : (b : Bool) → T b → IsTrue b
true_of true p = refl
true_of false p = absurd p

-- a change was made in a call, and that was noted
tells_more : (os os' : List MemObject) (cs cs' : List Change) (calls call : ℕ) (x : Effect)
    → calls ≤ call → IsNoted (note_of call x) cs cs'
    → entries (made x (content_after (noted cs))) ≡ pairs os' → Tells os cs calls
    → Tells os' cs' call
tells_more os os' cs cs' calls call x le notes objects told =
    let n : Note = note_of call x in
    let same : entries (content_after (noted cs')) ≡ pairs os' =
    ap (λ (l : List Note). entries (content_after l)) notes
    ∙ ap entries (after_more (noted cs) n)
    ∙ objects in
    record {
      same = same;
      made_by = rw notes (made_more (noted cs) calls call n le (omega arith) told.made_by);
      in_order =
          subst (λ (l : List (List ℕ × Object)). IsTrue (is_sorted (slice_cmp nat_cmp) l)) same
          (true_of _ (entries_sorted (content_after (noted cs'))));
    }

-- an object was stored in a call, and that was noted
pub tells_stored : (os os' : List MemObject) (cs cs' : List Change) (calls call : ℕ)
    (path bytes : List ℕ) (second : ℕ) → calls ≤ call
    → IsNoted (note_of call (Stores path bytes second)) cs cs'
    → IsStored path (record { bytes = bytes; second = second }) os os'
    → Tells os cs calls → Tells os' cs' call
tells_stored os os' cs cs' calls call path bytes second le notes objects told =
    let v : Object = record { bytes = bytes; second = second } in
    tells_more os os' cs cs' calls call (Stores path bytes second) le notes
    (entries-insert nat_list_cmp_total (content_after (noted cs)) path v
    ∙ ap (put_at path v) told.same
    ∙ sym objects)
    told

-- an object was removed in a call, and that was noted
pub tells_removed : (os os' : List MemObject) (cs cs' : List Change) (calls call : ℕ)
    (path : List ℕ) → calls ≤ call
    → IsNoted (note_of call (Removes path)) cs cs'
    → pairs os' ≡ without_path path (pairs os)
    → Tells os cs calls → Tells os' cs' call
tells_removed os os' cs cs' calls call path le notes objects told =
    tells_more os os' cs cs' calls call (Removes path) le notes
    (entries-removed path (content_after (noted cs))
    ∙ ap (without_path path) told.same
    ∙ sym objects)
    told

-- the objects are the entries of what is held
pub held_entries : (os : List MemObject) (cs : List Change) (calls : ℕ) → Tells os cs calls
    → pairs os ≡ entries (content_at calls (noted cs))
held_entries os cs calls told =
    sym told.same ∙ ap entries (sym (content_whole (noted cs) calls told.made_by))

pub found_held : (os : List MemObject) (cs : List Change) (calls : ℕ) (path : List ℕ)
    → Tells os cs calls
    → find (slice_cmp nat_cmp) path (pairs os) ≡ get (content_at calls (noted cs)) path
found_held os cs calls path told =
    ap (find (slice_cmp nat_cmp) path) (held_entries os cs calls told)
    ∙ sym (get-entries (content_at calls (noted cs)) path)

-- a call that removed the object of a path, or found none
pub tells_removal : {Z : Type 0} (os os' : List MemObject) (cs cs' : Vec Change Z)
    (calls call room left : ℕ) (path : List ℕ) (is_noted : Bool) → calls ≤ call
    → IsRemoved (note_of call (Removes path)) path os os' cs.items cs'.items is_noted
    → left ≡ room_after is_noted room → vec_capacity cs ≤ vec_capacity cs'
    → Tells os cs.items calls → room + vec_len cs ≤ vec_capacity cs
    → Tells os' cs'.items call × (left + vec_len cs' ≤ vec_capacity cs')
tells_removal os os' cs cs' calls call room left path true le removal less larger told has = (
  tells_removed os os' cs.items cs'.items calls call path le removal.0 removal.1 told,
  room_falls cs cs' room left larger has (note_of call (Removes path)) removal.0 less,
)
tells_removal os os' cs cs' calls call room left path false le removal less larger told has = (
  tells_same os os' cs.items cs'.items calls call le removal.0 removal.1 told,
  rw less (room_stays cs cs' room 0 larger has removal.0),
)

-- the content that the changes leave, where none was there
pub none_removed : (os : List MemObject) (cs : List Change) (calls : ℕ) (path : List ℕ)
    → Tells os cs calls → pairs os ≡ without_path path (pairs os)
    → content_after (noted cs) ≡ remove (content_after (noted cs)) path
none_removed os cs calls path told none =
    not_there path (content_after (noted cs))
    (told.same ∙ none ∙ ap (without_path path) (sym told.same))
