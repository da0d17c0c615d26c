-- Uses that fit spell words without a fault.
use Rattle.std.proofs.Common.{◌≡◌, ◌∙◌, Bool, refl, sym, ap, List, [], ◌∷◌, ◌++◌, Some, None, append-nil, append_assoc}
use Rattle.std.specs.List.{fold, flat_map, AllByRecursion}
use Rattle.clap.specs.Lexer.{name_and_value}
use Rattle.clap.specs.Kinds.{Kinds}
use Rattle.clap.specs.Walk.{Held, Walk, Row, Rule, walk_from, walked}
use Rattle.med_words.specs.Grammar.{Text, Opt, valued, flag, Use, alone, joined, apart, opt_of, spelled, Fits, AreOnce}
use Rattle.med_words.proofs.Rows.{IsGoodName, rules, value_rule, flag_rule, rows}
use Rattle.med_words.proofs.Steps.{faults, faults_end, faults_join}
use Rattle.med_words.proofs.Names.{alone_text, joined_text}
use Rattle.clap.specs.Walk.{reacted}
use Rattle.med_words.proofs.Level as level
use Rattle.med_words.proofs.Places as places

module _ (name : Text) (table : List Opt) where
  abbrev rs : List Rule
  rs = rules table

  abbrev settled : Held → List Row
  settled = level.settled_at name table

  abbrev fault : Held → Kinds
  fault = level.fault_at name table

  abbrev End : Held → List Text → List Row
  End h words = settled (fold (walked rs []) (walk_from h) words).held

  pub record Walks (h : Held) (done uses : List Use) (words : List Text) : Type 0 where
    pub none : faults name rs (walk_from h) words ≡ []
    pub end : End h words ≡ rows (done ++ uses)

  pub complete : (uses : List Use)
      → ((n : Text) (o : Opt) → opt_of table n ≡ Some o → IsGoodName n)
      → (h : Held) (done : List Use) → fault h ≡ [] → settled h ≡ rows done
      → AllByRecursion (Fits table) uses → AreOnce done uses
      → Walks h done uses (flat_map spelled uses)
  complete [] good h done f at fit once = record {
    none = faults_end name rs (walk_from h) ∙ f;
    end = at ∙ ap rows (sym (append-nil done));
  }
  complete (alone [] ∷ us) good h done f at fit once = absurd (good [] _ fit.0)
  complete (alone (z ∷ zs) ∷ us) good h done f at fit once =
      let n : Text = z ∷ zs in
      let rest : List Text = flat_map spelled us in
      let nv = alone_text n (good n _ fit.0) in
      let none = places.unfresh name table n done h at once.0 in
      let w : walked rs [] (walk_from h) (45 ∷ 45 ∷ n)
      ≡ walk_from (reacted rs (flag_rule n) [] h) =
      places.walk_at name table h z zs n None (Some (flag n)) nv fit.0 in
      let r = complete us good (reacted rs (flag_rule n) [] h) (done ++ alone n ∷ []) refl
      (places.after_alone name table n h done at none) fit.1 once.1 in record {
        none = faults_join name rs (walk_from h) (45 ∷ 45 ∷ n) rest
            (places.turn_at name table h z zs n None (Some (flag n)) nv fit.0
            ∙ level.flag_turn_ok name table n (45 ∷ 45 ∷ n) h f none)
            (ap (λ (x : Walk). faults name rs x rest) w ∙ r.none);
        end = ap (λ (x : Walk). settled (fold (walked rs []) x rest).held) w ∙ r.end
            ∙ ap rows (append_assoc done (alone n ∷ []) us);
      }
  complete (joined [] v ∷ us) good h done f at fit once = absurd (good [] _ fit.0.1)
  complete (joined (z ∷ zs) v ∷ us) good h done f at fit once =
      let n : Text = z ∷ zs in
      let q : Bool = fit.0.0 in
      let rest : List Text = flat_map spelled us in
      let word : Text = 45 ∷ 45 ∷ z ∷ (zs ++ 61 ∷ v) in
      let nv : name_and_value (z ∷ (zs ++ 61 ∷ v)) ≡ (n, Some v) =
      joined_text n v (good n _ fit.0.1) in
      let none = places.unfresh name table n done h at once.0 in
      let w : walked rs [] (walk_from h) word
      ≡ walk_from (reacted rs (value_rule n q) (v ∷ []) h) =
      places.walk_at name table h z (zs ++ 61 ∷ v) n (Some v) (Some (valued n q)) nv fit.0.1 in
      let r = complete us good (reacted rs (value_rule n q) (v ∷ []) h)
      (done ++ joined n v ∷ []) refl (places.after_joined name table n v q h done at none) fit.1
      once.1 in record {
        none = faults_join name rs (walk_from h) word rest
            (places.turn_at name table h z (zs ++ 61 ∷ v) n (Some v) (Some (valued n q)) nv fit.0.1
            ∙ level.value_turn_ok name table n v word q h f none)
            (ap (λ (x : Walk). faults name rs x rest) w ∙ r.none);
        end = ap (λ (x : Walk). settled (fold (walked rs []) x rest).held) w ∙ r.end
            ∙ ap rows (append_assoc done (joined n v ∷ []) us);
      }
  complete (apart [] v ∷ us) good h done f at fit once = absurd (good [] _ fit.0.1)
  complete (apart (z ∷ zs) [] ∷ us) good h done f at fit once = absurd fit.0.2
  complete (apart (z ∷ zs) (x ∷ xs) ∷ us) good h done f at fit once =
      let n : Text = z ∷ zs in
      let v : Text = x ∷ xs in
      let q : Bool = fit.0.0 in
      let rest : List Text = flat_map spelled us in
      let nv = alone_text n (good n _ fit.0.1) in
      let none = places.unfresh name table n done h at once.0 in
      let w : walked rs [] (walk_from h) (45 ∷ 45 ∷ n) ≡ level.waits name table n h =
      places.walk_at name table h z zs n None (Some (valued n q)) nv fit.0.1 in
      let step : walked rs [] (level.waits name table n h) v
      ≡ walk_from (level.given name table n v h) =
      level.value_walk name table n q h x xs fit.0.1 fit.0.2 in
      let k : Held = level.given name table n v h in
      let r = complete us good k (done ++ apart n v ∷ [])
      (level.given_ok name table n v q h fit.0.1 none)
      (level.given_rows name table n v q h fit.0.1
      ∙ places.after_apart name table n v q h done at none) fit.1 once.1 in record {
        none = faults_join name rs (walk_from h) (45 ∷ 45 ∷ n) (v ∷ rest)
            (places.turn_at name table h z zs n None (Some (valued n q)) nv fit.0.1
            ∙ level.open_turn_ok name table n (45 ∷ 45 ∷ n) q h f)
            (ap (λ (y : Walk). faults name rs y (v ∷ rest)) w
            ∙ faults_join name rs (level.waits name table n h) v rest
            (level.value_word name table n h x xs fit.0.2)
            (ap (λ (y : Walk). faults name rs y rest) step ∙ r.none));
        end = ap (λ (y : Walk). settled (fold (walked rs [])
            (walked rs [] y v) rest).held) w
            ∙ ap (λ (y : Walk). settled (fold (walked rs []) y rest).held) step
            ∙ r.end ∙ ap rows (append_assoc done (apart n v ∷ []) us);
      }
