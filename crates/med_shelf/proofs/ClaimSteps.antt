-- A claim as a section of its node: how it ends by its answer, told or not.
use Rattle.std.proofs.Common.{◌≡◌, ◌≢◌, ◌⊎◌, inl, inr, ◌∙◌, ◌<◌, ◌^◌, ℕ, Bool, true, false, List, [], ◌∷◌, ◌++◌, length, Option, Some, None, Ok, Err, IsOk, IfSome, refl, sym, ap, subst, append-nil, filter, nat_cmp, arith}
use Rattle.std.proofs.lemmas.List.{nil_from_length}
use Rattle.std.specs.Cmp.Lexicographic.{slice_cmp}
use Rattle.std.specs.FinMap.{empty, entries, len-empty, len-entries}
use Rattle.std.specs.List.{IsDistinct}
use Rattle.med_base.specs.Content.{Content, Object, is_under, objects_under}
use Rattle.med_base.specs.Effects.{Effect}
use Rattle.med_base.specs.Kinds.{IsBackupName, IsFqdn}
use Rattle.med_base.specs.Layout.{backup_folder}
use Rattle.med_base.specs.Part.{node_part}
use Rattle.med_core.specs.Claim.{changes_of_claim}
use Rattle.med_core.specs.Reach.{AreWithin}
use Rattle.med_core.specs.Run.{running_after}
use Rattle.med_core.specs.Section.{Call, Claim, Done, Ending, EndsSo, Halted, IsFree, IsListOf, IsSection, Running}
use Rattle.med_core.specs.Section as section
use Rattle.med_core.proofs.Joined.{lists_within}
use Rattle.med_core.proofs.OverParts.{section_in_part}
use Rattle.med_outside.specs.declared.trace.Trace.{Trace}
use Rattle.med_outside.specs.Makes.{IsError, IsShort, Last, Makes, Sure, Unsure, is_unsure, tried}
use Rattle.med_outside.specs.State.{ChangesWithin, History, State}
use Rattle.med_outside.proofs.Making.{all_made, gained, in_turn, nothing_yet, told_as}
use Rattle.med_shelf.specs.declared.errors.ClaimError.{ClaimError}
use Rattle.med_shelf.specs.declared.errors.ClaimError.TheVariants as error
use Rattle.med_shelf.specs.Acts.{ActsAsClaim, event_of}
use Rattle.med_shelf.specs.Claims.{AnswersLook, Runs, WhereRefused}
use Rattle.med_shelf.specs.Endings.{claim_ending}
use Rattle.med_shelf.specs.Records.{AreRecordsOf}
use Rattle.med_shelf.specs.Shelf.{ShelfState, running_of, with_running}
use Rattle.med_shelf.proofs.PutSteps.{MakesClaim, size}

-- a claim without records
pub no_records : (before f n : List ℕ) → AreRecordsOf before f n []
unfolding IsDistinct
no_records before f n = record { once = tt; each = tt }

-- nothing lies in an empty bucket
empty_free : (folder : List ℕ) → objects_under folder empty ≡ []
empty_free folder =
    ap (filter (λ (e : List ℕ × Object). is_under folder e.0))
    (nil_from_length (entries empty) (sym (len-entries empty) ∙ len-empty (slice_cmp nat_cmp) Object))

-- a claim has so many puts
list_size : (before f n : List ℕ) (d : Bool) (schema ring : List ℕ) (seconds : ℕ → ℕ)
    → length (changes_of_claim before f n d schema ring seconds) ≡ size d
list_size before f n true schema ring seconds = refl
list_size before f n false schema ring seconds = refl

-- a shelf of this node, under this layout, with these running names
abbrev pub shelf_of : (layout node : List ℕ) → List (List ℕ) → ShelfState
shelf_of layout node names = record { layout = layout; node = node; running = names }

-- a refused claim leaves the running names
stays : (T : Type 0) (running : Running) (f : List ℕ) (n : List ℕ) (d : Bool)
    (schema ring : List ℕ) (e : ClaimError) (last : Last)
    → running_after running f (Claim n d schema ring) (claim_ending {T = T} (Err e) last) ≡ running
stays T running f n d schema ring (error.Running name) last = refl
stays T running f n d schema ring (error.Taken path) last = refl
stays T running f n d schema ring error.Store Sure = refl
stays T running f n d schema ring error.Store (Unsure x took) = refl
stays T running f n d schema ring error.Memory last = refl

-- the shelf is as before, but for the memory of its running names
pub same_shelf : (layout node : List ℕ) (names names_now : List (List ℕ)) (shelf : ShelfState)
    → names_now ≡ names → shelf_of layout node names ≡ shelf
    → shelf_of layout node names_now ≡ shelf
same_shelf layout node names names_now shelf same is = ap (shelf_of layout node) same ∙ is

-- the shelf has one more name
pub one_more : (layout node n : List ℕ) (names kept names_now : List (List ℕ)) (shelf : ShelfState)
    → kept ≡ names → names_now ≡ n ∷ kept → shelf_of layout node names ≡ shelf
    → shelf_of layout node names_now ≡ with_running n shelf
one_more layout node n names kept names_now shelf same more is =
    ap (shelf_of layout node) (more ∙ ap (λ l. n ∷ l) same) ∙ ap (with_running n) is

module _ (T : Type 0) (shelf : ShelfState) (n : List ℕ) (d : Bool) (schema ring : List ℕ)
    (node : IsFqdn shelf.node) (name : IsBackupName n) where
  abbrev call : Call
  call = Claim n d schema ring

  abbrev list : (ℕ → ℕ) → List Effect
  list seconds = changes_of_claim shelf.layout shelf.node n d schema ring seconds

  -- the puts are of paths of the node, whatever the storage holds
  within : (seconds : ℕ → ℕ) → seconds 0 < 2 ^ 64
      → AreWithin shelf.layout shelf.node call (list seconds)
  within seconds fits =
      lists_within shelf.layout empty [] shelf.node call (list seconds) node name
      (inl (
        λ there. absurd (omega (arith, there.1)),
        empty_free (backup_folder shelf.layout shelf.node n),
        (seconds, fits, refl),
      ))

  -- the claim ended so over the content
  abbrev Ends : Ending → List Effect → Content → Type 0
  Ends ending done c = EndsSo shelf.layout c (running_of shelf) shelf.node call ending done

  -- the same over the part of the node
  section_of : (told : Option Content) (ending : Ending) (done : List Effect)
      → IfSome told (Ends ending done)
      → IfSome told
      (λ c. IsSection shelf.layout (node_part shelf.layout shelf.node c) (running_of shelf)
      (event_of shelf.node call ending done))
  section_of None ending done ends = tt
  section_of (Some c) ending done ends =
      section_in_part shelf.layout c (running_of shelf) (event_of shelf.node call ending done)
      (record { node = node; asked = name; ends = ends })

  -- ---- nothing was put

  vain_ends : (U : Type 0) (told : Option Content) (e : ClaimError)
      → AnswersLook {T = U} shelf n told (Err e)
      → IfSome told (Ends (claim_ending {T = T} (Err e) Sure) [])
  vain_ends U None e answer = tt
  vain_ends U (Some c) (error.Running m) answer = (refl, answer.1)
  vain_ends U (Some c) (error.Taken path) answer = (refl, answer)
  vain_ends U (Some c) error.Store answer = inl refl
  vain_ends U (Some c) error.Memory answer = inl refl

  module _ (now : ShelfState) (same : now ≡ shelf) (s0 s1 : State) (p0 p1 : History)
      (t0 t1 : Trace) (e : ClaimError) (still : t1.changes.items ≡ t0.changes.items)
      (sure : t1.unsure ≡ false) (moves : ChangesWithin [] s0 s1 p0 p1) where
    nothing : Makes (IsOk {T = T} (Err e)) (IsError {T = T} (Err e) error.Store) (list (λ i. 0)) s0
        s1 p0 p1 t0 t1
    nothing = record {
      done = [];
      last = Sure;
      rest = list (λ i. 0);
      split = refl;
      moves = moves;
      records = record { changes = still ∙ sym (append-nil t0.changes.items); unsure = sure };
      whole = λ fine. absurd (cc fine);
      cause = λ unsure. absurd (cc unsure);
    }

    -- a claim that was refused by the look, or for want of memory before its first put
    pub looked_in_vain : (U : Type 0) → AnswersLook {T = U} shelf n s0.content (Err e)
        → ActsAsClaim {T = T} shelf now call (Err e) s0 s1 p0 p1 t0 t1
    unfolding nothing
    looked_in_vain U answer = record {
      xs = list (λ i. 0);
      within = within (λ i. 0) (omega arith);
      makes = nothing;
      section = section_of s0.content (claim_ending {T = T} (Err e) Sure) []
          (vain_ends U s0.content e answer);
      layout_is = ap (λ s. s.layout) same;
      node_is = ap (λ s. s.node) same;
      running_is = ap running_of same
          ∙ sym (stays T (running_of shelf) shelf.node n d schema ring e Sure);
    }

  -- ---- puts were made

  module _ (seconds : ℕ → ℕ) (fits : seconds 0 < 2 ^ 64) where
    listed : (c : Content) → (Runs shelf n → ⊥) → IsFree shelf.layout c shelf.node n
        → (xs : List Effect) → xs ≡ list seconds
        → IsListOf shelf.layout c (running_of shelf) shelf.node call xs
    listed c idle free xs is = (idle, free, (seconds, fits, is))

    -- a part that was halted, by what is left of it
    halted : (c : Content) → (Runs shelf n → ⊥) → IsFree shelf.layout c shelf.node n
        → (done rest : List Effect) → list seconds ≡ done ++ rest → rest ≢ [] → (by : Ending)
        → (by ≡ Halted section.Store) ⊎ (by ≡ Halted section.Memory) → Ends by done c
    halted c idle free done rest split left by (inl is) =
        rw is (inr (rest, left, inl (listed c idle free (done ++ rest) (sym split))))
    halted c idle free done rest split left by (inr is) =
        rw is (inr (rest, left, inl (listed c idle free (done ++ rest) (sym split))))

    cut_ends : (told : Option Content) → (Runs shelf n → ⊥)
        → IfSome told (λ c. IsFree shelf.layout c shelf.node n) → (e : ClaimError)
        → (e ≡ error.Store) ⊎ (e ≡ error.Memory) → (done : List Effect) (last : Last)
        (rest : List Effect) → list seconds ≡ done ++ (tried last ++ rest)
        → (is_unsure last ≡ true → e ≡ error.Store) → (is_unsure last ≡ false → rest ≢ [])
        → IfSome told (Ends (claim_ending {T = T} (Err e) last) done)
    cut_ends None idle free e why done last rest split cause left = tt
    cut_ends (Some c) idle free (error.Running m) why done last rest split cause left =
        absurd (elim why [ inl is ↦ cc is | inr is ↦ cc is ])
    cut_ends (Some c) idle free (error.Taken path) why done last rest split cause left =
        absurd (elim why [ inl is ↦ cc is | inr is ↦ cc is ])
    cut_ends (Some c) idle free error.Store why done Sure rest split cause left =
        halted c idle free done rest split (left refl) (Halted section.Store) (inl refl)
    cut_ends (Some c) idle free error.Store why done (Unsure x took) rest split cause left =
        (rest, inl (listed c idle free (done ++ x ∷ rest) (sym split)))
    cut_ends (Some c) idle free error.Memory why done Sure rest split cause left =
        halted c idle free done rest split (left refl) (Halted section.Memory) (inr refl)
    cut_ends (Some c) idle free error.Memory why done (Unsure x took) rest split cause left =
        let is : error.Memory ≡ error.Store = cause refl in absurd (cc is)

    done_ends : (told : Option Content) → (Runs shelf n → ⊥)
        → IfSome told (λ c. IsFree shelf.layout c shelf.node n) → (done : List Effect)
        → list seconds ≡ done → IfSome told (Ends Done done)
    done_ends None idle free done is = tt
    done_ends (Some c) idle free done is = listed c idle free done (sym is)

    module _ (now : ShelfState) (s0 s1 : State) (p0 p1 : History) (t0 t1 : Trace)
        (idle : Runs shelf n → ⊥)
        (free : IfSome s0.content (λ c. IsFree shelf.layout c shelf.node n)) where
      -- a claim of which not all was put for sure
      put_in_part : now ≡ shelf → (e : ClaimError)
          → (e ≡ error.Store) ⊎ (e ≡ error.Memory) → IsShort (size d) t0 t1
          → Makes (IsOk {T = T} (Err e)) (IsError {T = T} (Err e) error.Store) (list seconds) s0 s1
          p0 p1 t0 t1
          → ActsAsClaim {T = T} shelf now call (Err e) s0 s1 p0 p1 t0 t1
      put_in_part same e why short m = record {
        xs = list seconds;
        within = within seconds fits;
        makes = m;
        section = section_of s0.content (claim_ending {T = T} (Err e) m.last) m.done
            (cut_ends s0.content idle free e why m.done m.last m.rest m.split m.cause left);
        layout_is = ap (λ s. s.layout) same;
        node_is = ap (λ s. s.node) same;
        running_is = ap running_of same
            ∙ sym (stays T (running_of shelf) shelf.node n d schema ring e m.last);
      }
        where
          left : is_unsure m.last ≡ false → m.rest ≢ []
          left sure none = elim short [
            | inl unsure ↦ cc (unsure, m.records.unsure, sure)
            | inr less ↦ omega (
              arith,
              less,
              ap length none,
              list_size shelf.layout shelf.node n d
                  schema ring seconds,
              gained _ _ (list seconds) s0 s1 p0 p1 t0 t1 m,
            )
          ]

      -- a claim that was made
      put_whole : now ≡ with_running n shelf → (x : T)
          → Makes (IsOk {E = ClaimError} (Ok x)) (IsError {E = ClaimError} (Ok x) error.Store)
          (list seconds) s0 s1 p0 p1 t0 t1
          → ActsAsClaim {T = T} shelf now call (Ok x) s0 s1 p0 p1 t0 t1
      put_whole more x m = record {
        xs = list seconds;
        within = within seconds fits;
        makes = m;
        section = section_of s0.content Done m.done
            (done_ends s0.content idle free m.done
            (all_made _ _ (list seconds) s0 s1 p0 p1 t0 t1 refl m));
        layout_is = ap (λ s. s.layout) more;
        node_is = ap (λ s. s.node) more;
        running_is = ap running_of more;
      }

  -- a look, and then puts under the names as they were seen
  module _ (seen : ShelfState) (is : seen ≡ shelf) (now : ShelfState) (s0 s1 s2 : State)
      (p0 p1 p2 : History) (t0 t2 : Trace) (looks : ChangesWithin [] s0 s1 p0 p1)
      (sure : t0.unsure ≡ false) (U : Type 0) (u : U)
      (answer : AnswersLook {T = U} shelf n s0.content (Ok u)) (fine fault : Type 0)
      (puts : MakesClaim seen.layout seen.node n d schema ring fine fault s1 s2 p1 p2 t0 t2) where
    here : MakesClaim shelf.layout shelf.node n d schema ring fine fault s1 s2 p1 p2 t0 t2
    here =
        subst (λ (s : ShelfState). MakesClaim s.layout s.node n d schema ring fine fault s1 s2 p1
        p2 t0 t2) is puts

    behind : (fine' fault' : Type 0) → (fine' → fine) → (fault → fault')
        → Makes fine' fault' (list here.0) s0 s2 p0 p2 t0 t2
    behind fine' fault' back blames =
        in_turn (Unit {0}) ⊥ fine' fault' [] (list here.0) s0 s1 s2 p0 p1 p2 t0 t0 t2 tt
        (nothing_yet (Unit {0}) ⊥ s0 s1 p0 p1 t0 t0 [] (λ _. refl) refl sure looks)
        (told_as fine fault fine' fault' (list here.0) s1 s2 p1 p2 t0 t2 back blames here.2)

    -- not all was put for sure
    pub refused_behind : now ≡ shelf → (e : ClaimError)
        → (e ≡ error.Store) ⊎ (e ≡ error.Memory) → (fault → e ≡ error.Store)
        → IsShort (size d) t0 t2 → ActsAsClaim {T = T} shelf now call (Err e) s0 s2 p0 p2 t0 t2
    refused_behind same e why blames short =
        put_in_part here.0 here.1 now s0 s2 p0 p2 t0 t2 answer.0 answer.1 same e why short
        (behind (IsOk {T = T} (Err e)) (IsError {T = T} (Err e) error.Store)
        (λ ok. absurd (cc ok)) blames)

    -- all was put
    pub made_behind : now ≡ with_running n shelf → (x : T) → fine → (fault → ⊥)
        → ActsAsClaim {T = T} shelf now call (Ok x) s0 s2 p0 p2 t0 t2
    made_behind more x ok blames =
        put_whole here.0 here.1 now s0 s2 p0 p2 t0 t2 answer.0 answer.1 more x
        (behind (IsOk {E = ClaimError} (Ok x)) (IsError {E = ClaimError} (Ok x) error.Store)
        (λ _. ok) blames)

-- what holds after every error holds where the name is refused
pub refused_of : (T : Type 0) (e : ClaimError) (P : Type 0) → P → WhereRefused {T = T} (Err e) P
refused_of T (error.Running name) P h = h
refused_of T (error.Taken path) P h = h
refused_of T error.Store P h = tt
refused_of T error.Memory P h = tt
