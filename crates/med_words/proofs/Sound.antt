-- Words without a fault spell uses.
use Rattle.std.proofs.Common.{◌≡◌, ◌∙◌, ◌<◌, ◌≤◌, ℕ, Bool, zero, suc, refl, sym, ap, ap₂, subst, arith, List, [], ◌∷◌, ◌++◌, length, Option, Some, None, inl, inr, append-nil, append_assoc}
use Rattle.std.specs.List.{fold, flat_map, AllByRecursion}
use Rattle.clap.specs.Lexer.{name_and_value}
use Rattle.clap.specs.Kinds.{Kinds}
use Rattle.clap.specs.Walk.{Held, Walk, Row, Rule, walk_from, walked}
use Rattle.clap.specs.Faults.{turn_fault}
use Rattle.med_words.specs.Grammar.{Text, Opt, valued, flag, Use, alone, joined, apart, opt_of, spelled, Fits, AreOnce}
use Rattle.med_words.specs.WellFormed.{IsWellFormed, IsRestOfOption, EndsWell}
use Rattle.med_words.proofs.Rows.{rules, value_rule, flag_rule, rows}
use Rattle.med_words.proofs.Steps.{faults, faults_end, faults_step, here}
use Rattle.std.proofs.lemmas.Bool.{cases_eq}
use Rattle.clap.specs.Walk.{reacted}
use Rattle.med_words.proofs.Level as level
use Rattle.med_words.proofs.Places as places
use Rattle.med_words.proofs.Places.{Parts, a_name, a_value, name_or_value, opt_is}

module _ (name : Text) (table : List Opt) where
  abbrev rs : List Rule
  rs = rules table

  abbrev settled : Held → List Row
  settled = level.settled_at name table

  abbrev fault : Held → Kinds
  fault = level.fault_at name table

  -- the words spell uses, after those that were done
  pub record Read (h : Held) (done : List Use) (words : List Text) : Type 0 where
    pub uses : List Use
    pub words_are : words ≡ flat_map spelled uses
    pub fit : AllByRecursion (Fits table) uses
    pub once : AreOnce done uses
    pub quiet : fault h ≡ []
    pub end : settled (fold (walked rs []) (walk_from h) words).held ≡ rows (done ++ uses)

  abbrev Reads : ℕ → Type 0
  Reads fuel = (words : List Text) → length words ≤ fuel → (h : Held) (done : List Use)
      → AllByRecursion IsWellFormed words → places.Stands name table h done
      → faults name rs (walk_from h) words ≡ [] → Read h done words

  -- one use more before what was read
  more_end : (h k : Held) (done : List Use) (u : Use) (before rest : List Text)
      → fold (walked rs []) (walk_from h) (before ++ rest)
      ≡ fold (walked rs []) (walk_from k) rest
      → (r : Read k (done ++ u ∷ []) rest) → settled
      (fold (walked rs []) (walk_from h) (before ++ rest)).held ≡ rows (done ++ u ∷ r.uses)
  more_end h k done u before rest e r = ap (λ (w : Walk). settled w.held) e ∙ r.end
      ∙ ap rows (append_assoc done (u ∷ []) r.uses)

  hyphens : (n : Text) (q : Bool) (h : Held) (x : ℕ) (xs : Text)
      → opt_of table n ≡ Some (valued n q) → IsRestOfOption xs → x ≡ 45
      → turn_fault (here name rs) [] (level.waits name table n h) (x ∷ xs) ≡ [] → ⊥
  hyphens n q h x [] found p same none = absurd p
  hyphens n q h x (y ∷ []) found p same none = absurd p
  hyphens n q h x (y ∷ z ∷ zs) found p same none =
      places.waiting_long name table n q h z zs found
      (ap₂ (λ (a b : ℕ). turn_fault (here name rs) [] (level.waits name table n h)
      (a ∷ b ∷ z ∷ zs)) (sym same) (sym p.0) ∙ none)

  joined_case : (fuel : ℕ) (h : Held) (done : List Use) (z : ℕ)
      (zs n v : Text) (q : Bool) (rest : List Text) → Reads fuel → length rest ≤ fuel
      → AllByRecursion IsWellFormed rest
      → places.Stands name table h done → z ∷ zs ≡ n ++ 61 ∷ v → 0 < length v
      → name_and_value (z ∷ zs) ≡ (n, Some v) → opt_of table n ≡ Some (valued n q)
      → turn_fault (here name rs) [] (walk_from h) (45 ∷ 45 ∷ z ∷ zs) ≡ []
      → faults name rs (walked rs [] (walk_from h) (45 ∷ 45 ∷ z ∷ zs)) rest ≡ []
      → Read h done ((45 ∷ 45 ∷ z ∷ zs) ∷ rest)
  joined_case fuel h done z zs n v q rest rec len passes stands is long nv found turn more =
      let t = level.value_turn name table n v (45 ∷ 45 ∷ z ∷ zs) q h
      (sym (places.turn_at name table h z zs n (Some v) (Some (valued n q)) nv found) ∙ turn) in
      let at : settled h ≡ rows done = stands t.0 in
      let w : walked rs [] (walk_from h) (45 ∷ 45 ∷ z ∷ zs)
      ≡ walk_from (reacted rs (value_rule n q) (v ∷ []) h) =
      places.walk_at name table h z zs n (Some v) (Some (valued n q)) nv found in
      let r = rec rest len (reacted rs (value_rule n q) (v ∷ []) h) (done ++ joined n v ∷ []) passes
      (λ _. places.after_joined name table n v q h done at t.1)
      (ap (λ (x : Walk). faults name rs x rest) (sym w) ∙ more) in
      record {
        uses = joined n v ∷ r.uses;
        words_are = ap₂ (λ (t : Text) (ts : List Text). (45 ∷ 45 ∷ t) ∷ ts) is r.words_are;
        fit = ((q, found, long), r.fit);
        once = (places.fresh name table n done h at t.1, r.once);
        quiet = t.0;
        end = more_end h (reacted rs (value_rule n q) (v ∷ []) h) done (joined n v)
            ((45 ∷ 45 ∷ z ∷ zs) ∷ []) rest (ap (λ x. fold (walked rs []) x rest) w) r;
      }

  alone_case : (fuel : ℕ) (h : Held) (done : List Use) (z : ℕ) (zs : Text) (rest : List Text)
      → Reads fuel → length rest ≤ fuel → AllByRecursion IsWellFormed rest
      → places.Stands name table h done → name_and_value (z ∷ zs) ≡ (z ∷ zs, None)
      → opt_of table (z ∷ zs) ≡ Some (flag (z ∷ zs))
      → turn_fault (here name rs) [] (walk_from h) (45 ∷ 45 ∷ z ∷ zs) ≡ []
      → faults name rs (walked rs [] (walk_from h) (45 ∷ 45 ∷ z ∷ zs)) rest ≡ []
      → Read h done ((45 ∷ 45 ∷ z ∷ zs) ∷ rest)
  alone_case fuel h done z zs rest rec len passes stands nv found turn more =
      let n : Text = z ∷ zs in
      let t = level.flag_turn name table n (45 ∷ 45 ∷ n) h
      (sym (places.turn_at name table h z zs n None (Some (flag n)) nv found) ∙ turn) in
      let at : settled h ≡ rows done = stands t.0 in
      let w : walked rs [] (walk_from h) (45 ∷ 45 ∷ z ∷ zs)
      ≡ walk_from (reacted rs (flag_rule n) [] h) =
      places.walk_at name table h z zs n None (Some (flag n)) nv found in
      let r = rec rest len (reacted rs (flag_rule n) [] h) (done ++ alone n ∷ []) passes
      (λ _. places.after_alone name table n h done at t.1)
      (ap (λ (x : Walk). faults name rs x rest) (sym w) ∙ more) in
      record {
        uses = alone n ∷ r.uses;
        words_are = ap (λ (ts : List Text). (45 ∷ 45 ∷ n) ∷ ts) r.words_are;
        fit = (found, r.fit);
        once = (places.fresh name table n done h at t.1, r.once);
        quiet = t.0;
        end = more_end h (reacted rs (flag_rule n) [] h) done (alone n) ((45 ∷ 45 ∷ n) ∷ []) rest
            (ap (λ x. fold (walked rs []) x rest) w) r;
      }

  apart_case : (fuel : ℕ) (h : Held) (done : List Use) (z : ℕ) (zs : Text) (q : Bool) (rest : List
      Text) → Reads fuel → length rest ≤ fuel → AllByRecursion IsWellFormed rest
      → places.Stands name table h done → name_and_value (z ∷ zs) ≡ (z ∷ zs, None)
      → opt_of table (z ∷ zs) ≡ Some (valued (z ∷ zs) q)
      → turn_fault (here name rs) [] (walk_from h) (45 ∷ 45 ∷ z ∷ zs) ≡ []
      → faults name rs (walked rs [] (walk_from h) (45 ∷ 45 ∷ z ∷ zs)) rest ≡ []
      → Read h done ((45 ∷ 45 ∷ z ∷ zs) ∷ rest)
  apart_case fuel h done z zs q [] rec len passes stands nv found turn more =
      let n : Text = z ∷ zs in
      let w : walked rs [] (walk_from h) (45 ∷ 45 ∷ z ∷ zs) ≡ level.waits name table n h =
      places.walk_at name table h z zs n None (Some (valued n q)) nv found in
      absurd (cc (sym (level.waiting_fault name table n q h found)
      ∙ sym (faults_end name rs (level.waits name table n h))
      ∙ ap (λ (x : Walk). faults name rs x []) (sym w) ∙ more))
  apart_case fuel h done z zs q ([] ∷ rest) rec len passes stands nv found turn more =
      absurd passes.0
  apart_case fuel h done z zs q ((x ∷ xs) ∷ rest) rec len passes stands nv found turn more =
      let n : Text = z ∷ zs in
      let v : Text = x ∷ xs in
      let f = level.open_turn name table n (45 ∷ 45 ∷ n) q h
      (sym (places.turn_at name table h z zs n None (Some (valued n q)) nv found) ∙ turn) in
      let at : settled h ≡ rows done = stands f in
      let w : walked rs [] (walk_from h) (45 ∷ 45 ∷ z ∷ zs) ≡ level.waits name table n h =
      places.walk_at name table h z zs n None (Some (valued n q)) nv found in
      let two = faults_step name rs (level.waits name table n h) v rest
      (ap (λ (y : Walk). faults name rs y (v ∷ rest)) (sym w) ∙ more) in
      elim (cases_eq x 45) [
        | inl same ↦ absurd (hyphens n q h x xs found (passes.0 same) same two.0)
        | inr ne ↦
            let step : walked rs [] (level.waits name table n h) v
            ≡ walk_from (level.given name table n v h) =
            level.value_walk name table n q h x xs found ne in
            let k : Held = level.given name table n v h in
            let r = rec rest (omega arith) k (done ++ apart n v ∷ []) passes.1
            (λ g. level.given_rows name table n v q h found
            ∙ places.after_apart name table n v q h done at
            (level.given_fault name table n v q h found g))
            (ap (λ (y : Walk). faults name rs y rest) (sym step) ∙ two.1) in
            record {
              uses = apart n v ∷ r.uses;
              words_are = ap (λ (ts : List Text). (45 ∷ 45 ∷ n) ∷ v ∷ ts) r.words_are;
              fit = ((q, found, ne), r.fit);
              once = (
                places.fresh name table n done h at
                    (level.given_fault name table n v q h found r.quiet),
                r.once,
              );
              quiet = f;
              end = more_end h k done (apart n v) ((45 ∷ 45 ∷ n) ∷ v ∷ []) rest
                  (ap (λ y. fold (walked rs []) (walked rs [] y v) rest) w
                  ∙ ap (λ y. fold (walked rs []) y rest) step) r;
            }
      ]

  -- by what the word says, and what the table has
  long_case : (fuel : ℕ) (h : Held) (done : List Use) (z : ℕ) (zs : Text) (rest : List Text)
      → Reads fuel → length rest ≤ fuel → AllByRecursion IsWellFormed rest → EndsWell (z ∷ zs)
      → places.Stands name table h done → turn_fault (here name rs) [] (walk_from h)
      (45 ∷ 45 ∷ z ∷ zs) ≡ [] → faults name rs
      (walked rs [] (walk_from h) (45 ∷ 45 ∷ z ∷ zs)) rest ≡ []
      → Read h done ((45 ∷ 45 ∷ z ∷ zs) ∷ rest)
  long_case fuel h done z zs rest rec len passes ends stands turn more = by (name_or_value (z ∷ zs))
    where
      by_name : name_and_value (z ∷ zs) ≡ (z ∷ zs, None) → (o : Option Opt)
          → opt_of table (z ∷ zs) ≡ o → Read h done ((45 ∷ 45 ∷ z ∷ zs) ∷ rest)
      by_name e None f =
          absurd (cc (sym (places.turn_at name table h z zs (z ∷ zs) None None e f) ∙ turn))
      by_name e (Some (valued m q)) f =
          let is : valued m q ≡ valued (z ∷ zs) q =
          ap (λ t. valued t q) (opt_is table (z ∷ zs) (valued m q) f) in
          apart_case fuel h done z zs q rest rec len passes stands e
          (f ∙ ap (λ (o : Opt). Some o) is) turn more
      by_name e (Some (flag m)) f =
          let is : flag m ≡ flag (z ∷ zs) = ap flag (opt_is table (z ∷ zs) (flag m) f) in
          alone_case fuel h done z zs rest rec len passes stands e
          (f ∙ ap (λ (o : Opt). Some o) is) turn more

      by_value : (n v : Text) → z ∷ zs ≡ n ++ 61 ∷ v → name_and_value (z ∷ zs) ≡ (n, Some v)
          → 0 < length v → (o : Option Opt) → opt_of table n ≡ o
          → Read h done ((45 ∷ 45 ∷ z ∷ zs) ∷ rest)
      by_value n v is e long None f =
          absurd (cc (sym (places.turn_at name table h z zs n (Some v) None e f) ∙ turn))
      by_value n v is e long (Some (valued m q)) f =
          let same : valued m q ≡ valued n q = ap (λ t. valued t q)
          (opt_is table n (valued m q) f) in
          joined_case fuel h done z zs n v q rest rec len passes stands is long e
          (f ∙ ap (λ (o : Opt). Some o) same) turn more
      by_value n v is e long (Some (flag m)) f =
          absurd (cc (sym (places.turn_at name table h z zs n (Some v) (Some (flag m)) e f) ∙ turn))

      by : Parts (z ∷ zs) → Read h done ((45 ∷ 45 ∷ z ∷ zs) ∷ rest)
      by (a_name e) = by_name e (opt_of table (z ∷ zs)) refl
      by (a_value n v is e at has) = by_value n v is e
          (subst (λ (t : Text). 0 < length t) (sym at) (ends has)) (opt_of table n) refl

  hyphen_case : (fuel : ℕ) (h : Held) (done : List Use) (x : ℕ) (xs : Text) (rest : List Text)
      → Reads fuel → length rest ≤ fuel → AllByRecursion IsWellFormed rest → IsRestOfOption xs → x
      ≡ 45
      → places.Stands name table h done → turn_fault (here name rs) [] (walk_from h)
      (x ∷ xs) ≡ [] → faults name rs (walked rs [] (walk_from h) (x ∷ xs)) rest ≡ []
      → Read h done ((x ∷ xs) ∷ rest)
  hyphen_case fuel h done x [] rest rec len passes p same stands turn more = absurd p
  hyphen_case fuel h done x (y ∷ []) rest rec len passes p same stands turn more = absurd p
  hyphen_case fuel h done x (y ∷ z ∷ zs) rest rec len passes p same stands turn more =
      let word : ◌≡◌ {A = Text} (45 ∷ 45 ∷ z ∷ zs) (x ∷ y ∷ z ∷ zs) =
      ap₂ (λ (a b : ℕ). a ∷ b ∷ z ∷ zs) (sym same) (sym p.0) in
      subst (λ (w : Text). Read h done (w ∷ rest)) word
      (long_case fuel h done z zs rest rec len passes p.1 stands
      (ap (turn_fault (here name rs) [] (walk_from h)) word ∙ turn)
      (ap (λ (w : Text). faults name rs (walked rs [] (walk_from h) w) rest) word ∙ more))

  pub sound : (fuel : ℕ) → Reads fuel
  sound fuel [] len h done passes stands e =
      let f : fault h ≡ [] = sym (faults_end name rs (walk_from h)) ∙ e in
      record {
        uses = [];
        words_are = refl;
        fit = tt;
        once = tt;
        quiet = f;
        end =
            stands f ∙ ap rows (sym (append-nil done));
      }
  sound zero (w ∷ rest) len h done passes stands e = absurd (omega arith)
  sound (suc fuel) ([] ∷ rest) len h done passes stands e = absurd passes.0
  sound (suc fuel) ((x ∷ xs) ∷ rest) len h done passes stands e =
      let step = faults_step name rs (walk_from h) (x ∷ xs) rest e in
      elim (cases_eq x 45) [
        | inl same ↦ hyphen_case fuel h done x xs rest (sound fuel) (omega arith) passes.1
            (passes.0 same) same stands step.0 step.1
        | inr ne ↦ absurd (places.plain_turn name table h x xs ne step.0)
      ]
