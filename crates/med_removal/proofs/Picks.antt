-- What is picked of a listing, one entry after another.
use Rattle.std.proofs.Common.{◌≡◌, ◌∙◌, ◌+◌, ◌*◌, ◌++◌, ◌&&◌, ◌∷◌, [], ℕ, Bool, true, false, cond, List, Option, Some, bytes_eq, length, not, Result, Ok, Err, OnOk, nat_lt, refl, sym, ap, subst, append_assoc, arith}
use Rattle.std.specs.BTreeSet.{contains}
use Rattle.std.specs.FinMap.{get}
use Rattle.std.specs.List.{AllByRecursion}
use Rattle.med_base.proofs.Lists.{all_push}
use Rattle.med_base.specs.Classify.{is_data, is_data_kind, kind_of}
use Rattle.med_base.specs.Content.{Content, Object}
use Rattle.med_base.specs.Kinds.{Kind, Shared, Own, Meta, Entry as IndexEntry, Latest, Stray, Other}
use Rattle.med_base.specs.NameOrder.{name_cmp}
use Rattle.med_core.specs.Counts.{Weight, as_bytes, as_file, is_data_of, weight_in}
use Rattle.med_core.specs.Removal.{is_shared_of}
use Rattle.med_manifest.proofs.Newest.{and_first}
use Rattle.med_outside.specs.declared.storage.Entry.{Entry}
use Rattle.med_removal.specs.declared.going.Going.{Going}
use Rattle.med_removal.specs.declared.picking.Which.{Which}
use Rattle.med_removal.specs.declared.picking.Which.TheVariants.{Content as OfBackup, Old}
use Rattle.med_removal.specs.Going.{AddsOne, IsCounted, held, one_where, size_where, weights}
use Rattle.med_removal.specs.Picking.{ArePicked, IsPicking, data_size, goes, may_go, picked}

-- what follows where a call answered a value
pub ok_with : {T E P Q : Type 0} → (P → Q) → (r : Result T E) → OnOk r P → OnOk r Q
ok_with so (Ok x) h = so h
ok_with so (Err x) h = tt

-- ---- sums

pub held_more : (a b : ℕ) → held (held a + b) ≡ held (a + b)
held_more a b = omega arith

pub held_both : (a b : ℕ) → held (held a + held b) ≡ held (a + b)
held_both a b = omega arith

pub weights_append : (w : Weight) (c : Content) (ps qs : List (List ℕ))
    → weights w c (ps ++ qs) ≡ weights w c ps + weights w c qs
weights_append w c [] qs = none (weights w c qs)
  where
    none : (n : ℕ) → n ≡ 0 + n
    none n = omega arith
weights_append w c (p ∷ ps) qs =
    ap (λ n. weight_in w p (get c p) + n) (weights_append w c ps qs)
    ∙ plus_assoc (weight_in w p (get c p)) (weights w c ps) (weights w c qs)
  where
    plus_assoc : (a b d : ℕ) → a + (b + d) ≡ a + b + d
    plus_assoc a b d = omega arith

-- ---- one entry

-- an entry that goes is of a kind that may
pub may_where : (before f : List ℕ) (which : Which) (e : Entry) → goes before f which e ≡ true
    → may_go f which (kind_of before e.path) ≡ true
may_where before f (OfBackup name) e is = is
may_where before f (Old named grace now) e is =
    and_first (is_shared_of f (kind_of before e.path))
    (not (contains name_cmp named.now e.path) && nat_lt (e.second + 86400 * grace) now) is

-- what goes is a data object just where it is one of the node
pub data_alike : (f : List ℕ) (which : Which) (k : Kind) → may_go f which k ≡ true
    → is_data_of f k ≡ is_data_kind k
data_alike f (OfBackup name) (Own g n key) is = and_first (bytes_eq g f) (bytes_eq n name.now) is
data_alike f (OfBackup name) (Stray g n) is = refl
data_alike f (OfBackup name) (Shared g key) is = absurd (cc is)
data_alike f (OfBackup name) (Meta g n kind) is = refl
data_alike f (OfBackup name) (IndexEntry g n kind) is = refl
data_alike f (OfBackup name) (Latest g kind) is = refl
data_alike f (OfBackup name) Other is = refl
data_alike f (Old named grace now) (Shared g key) is = is
data_alike f (Old named grace now) (Own g n key) is = absurd (cc is)
data_alike f (Old named grace now) (Stray g n) is = refl
data_alike f (Old named grace now) (Meta g n kind) is = refl
data_alike f (Old named grace now) (IndexEntry g n kind) is = refl
data_alike f (Old named grace now) (Latest g kind) is = refl
data_alike f (Old named grace now) Other is = refl

module _ (before f : List ℕ) (c : Content) where
  -- one more path is counted
  pub counted_one : (path : List ℕ) (o : Object) (size : Option ℕ) (old new : Going)
      → get c path ≡ Some o → as_file before f path o ≡ one_where size
      → as_bytes before f path o ≡ size_where size → AddsOne path size old new
      → IsCounted before f c old → IsCounted before f c new
  counted_one path o size old new stands file bytes adds was = record {
    files = one (as_file before f) old.files new.files (one_where size) file adds.files was.files;
    bytes =
        one (as_bytes before f) old.bytes new.bytes (size_where size) bytes adds.bytes was.bytes;
  }
    where
      sum_is : (w : Weight) (n : ℕ) → w path o ≡ n
          → weights w c (old.paths.items ++ path ∷ []) ≡ weights w c old.paths.items + n
      sum_is w n is =
          weights_append w c old.paths.items (path ∷ [])
          ∙ ap (λ (x : Option Object). weights w c old.paths.items + (weight_in w path x + 0)) stands
          ∙ ap (λ m. weights w c old.paths.items + (m + 0)) is
          ∙ ap (λ m. weights w c old.paths.items + m) (zero n)
        where
          zero : (m : ℕ) → m + 0 ≡ m
          zero m = omega arith

      one : (w : Weight) (before_it now n : ℕ) → w path o ≡ n → now ≡ held (before_it + n)
          → before_it ≡ held (weights w c old.paths.items)
          → now ≡ held (weights w c new.paths.items)
      one w before_it now n is step so =
          step ∙ ap (λ m. held (m + n)) so ∙ held_more (weights w c old.paths.items) n
          ∙ ap held (sym (sum_is w n is)) ∙ ap (λ ps. held (weights w c ps)) (sym adds.paths)

  module _ (which : Which) (e : Entry) (rest : List Entry) (node : List ℕ) where
    -- an entry that doesn't go
    pub passed_over : (going : Going) → goes before node which e ≡ false
        → ArePicked before c f which node going (e ∷ rest)
        → ArePicked before c f which node going rest
    passed_over going isnt was = record {
      node_is = was.node_is;
      paths =
          ap (λ b. going.paths.items
          ++ cond b (e.path ∷ picked before f which rest) (picked before f which rest))
          (sym (ap (λ g. goes before g which e) (sym was.node_is) ∙ isnt)) ∙ was.paths;
      counted = was.counted;
      entries = was.entries.1;
    }

    weight_is : (o : Object) (t : Bool) → is_data before e.path ≡ t
        → is_data_of f (kind_of before e.path) ≡ t
        → as_file before f e.path o ≡ one_where (data_size before e)
    weight_is o true is so = rw (is, so) refl
    weight_is o false is so = rw (is, so) refl

    size_is : (o : Object) (t : Bool) → e.size ≡ length o.bytes → is_data before e.path ≡ t
        → is_data_of f (kind_of before e.path) ≡ t
        → as_bytes before f e.path o ≡ size_where (data_size before e)
    size_is o true size is so = rw (is, so) (sym size)
    size_is o false size is so = rw (is, so) refl

    -- an entry that goes
    pub picked_more : (old new : Going) → goes before node which e ≡ true
        → AddsOne e.path (data_size before e) old new
        → ArePicked before c f which node old (e ∷ rest)
        → ArePicked before c f which node new rest
    picked_more old new is adds was =
        let here : goes before f which e ≡ true =
        ap (λ g. goes before g which e) (sym was.node_is) ∙ is in
        let alike : is_data_of f (kind_of before e.path) ≡ is_data before e.path =
        data_alike f which (kind_of before e.path) (may_where before f which e here) in
        let entry = was.entries.0 in
        record {
          node_is = was.node_is;
          paths =
              ap (λ ps. ps ++ picked before f which rest) adds.paths
              ∙ append_assoc old.paths.items (e.path ∷ []) (picked before f which rest)
              ∙ ap (λ b. old.paths.items
              ++ cond b (e.path ∷ picked before f which rest) (picked before f which rest))
              (sym here) ∙ was.paths;
          counted =
              counted_one e.path entry.object (data_size before e) old new entry.stands
              (weight_is entry.object (is_data before e.path) refl alike)
              (size_is entry.object (is_data before e.path) entry.size refl alike) adds
              was.counted;
          entries = was.entries.1;
        }

-- what is held over every storage, with one more
pub holds_more : (before f : List ℕ) (which : Which) (e : Entry) (node : List ℕ) (size : Option ℕ)
    (old new : Going) → goes before node which e ≡ true → AddsOne e.path size old new
    → IsPicking before f which node old.paths.items
    → IsPicking before f which node new.paths.items
holds_more before f which e node size old new is adds (node_is, all) = (
  node_is,
  subst (AllByRecursion (λ p. may_go f which (kind_of before p) ≡ true)) (sym adds.paths)
      (all_push (λ p. may_go f which (kind_of before p) ≡ true) old.paths.items e.path all
      (may_where before f which e (ap (λ g. goes before g which e) (sym node_is) ∙ is))),
)
