-- The end of a backup: the puts of its manifest and the entries, and the mend behind them.
use Rattle.std.proofs.Common.{◌≡◌, ◌∙◌, ◌<◌, ◌^◌, zero, suc, ℕ, true, false, List, [], ◌∷◌, ◌++◌, append-nil, Option, Some, None, Result, Err, IsOk, IfOk, refl, sym, ap, subst}
use Rattle.med_base.specs.declared.layout.MetaKind.TheVariants.{Manifest}
use Rattle.med_base.specs.Content.{Content}
use Rattle.med_base.specs.Effects.{Effect, Stores, after_all}
use Rattle.med_base.specs.Kinds.{IsFqdn}
use Rattle.med_base.specs.Layout.{meta_path}
use Rattle.med_core.specs.Finish.{manifest_puts}
use Rattle.med_index.specs.Rebuilt.{IsMend}
use Rattle.med_index.proofs.MendLemmas.{mend_reach}
use Rattle.med_manifest.specs.EntryPuts.{finish_puts}
use Rattle.med_manifest.specs.Mend.{changes_of_mend}
use Rattle.med_outside.specs.declared.denied.Denied.{Denied}
use Rattle.med_outside.specs.declared.denied.Denied.TheVariants.{Failed}
use Rattle.med_outside.specs.declared.trace.Trace.{Trace}
use Rattle.med_outside.specs.Makes.{IsError, Makes, took}
use Rattle.med_outside.specs.State.{State, History}
use Rattle.med_outside.proofs.Making.{all_made, cut_short, in_turn, told_as}
use Rattle.med_shelf.specs.Ends.{EndsBackup}

-- the seconds of the puts in a row
abbrev seconds_of : (first : ℕ) (entries : ℕ → ℕ) → ℕ → ℕ
seconds_of first entries zero = first
seconds_of first entries (suc i) = entries i

-- what is told behind a call that is fine
content_behind : (fine fault : Type 0) (xs : List Effect) (s0 s1 : State) (p0 p1 : History)
    (t0 t1 : Trace) → fine → Makes fine fault xs s0 s1 p0 p1 t0 t1
    → s1.content ≡ after_all xs s0.content
content_behind fine fault xs s0 s1 p0 p1 t0 t1 ok m =
    m.moves.passes.content
    ∙ ap (λ l. after_all (m.done ++ took l) s0.content) (m.whole ok).0
    ∙ ap (λ l. after_all l s0.content)
    (append-nil m.done ∙ sym (all_made fine fault xs s0 s1 p0 p1 t0 t1 ok m))

-- the list of a mend that isn't made
some_mend : (before f : List ℕ) → IsFqdn f → (told : Option Content)
    → (xs : List Effect) × IsMend before told f xs
some_mend before f node None = ([], record { reach = tt; list = tt })
some_mend before f node (Some c) = (
  changes_of_mend before c f [] (λ i. 0),
  record {
    reach = mend_reach before c f node (λ i. 0);
    list = (λ i. 0, refl);
  },
)

module _ (before f n text : List ℕ) where
  -- a Makes of the puts of a manifest, with their seconds
  abbrev pub MakesPuts : (result : Result ℕ Denied) (s0 s1 : State) (p0 p1 : History)
      (t0 t1 : Trace) → Type 0
  MakesPuts result s0 s1 p0 p1 t0 t1 =
      (seconds : ℕ → ℕ) × (seconds 0 < 2 ^ 64) × IfOk result (λ second. second ≡ seconds 0)
      × Makes (IsOk result) (IsError result Failed) (manifest_puts before f n text seconds) s0 s1
      p0 p1 t0 t1

  module _ (first : ℕ) (fits : first < 2 ^ 64) (fine fault : Type 0) (s0 s1 : State)
      (p0 p1 : History) (t0 t1 : Trace)
      (told : Makes fine fault (Stores (meta_path before f n Manifest) text first ∷ []) s0 s1 p0
      p1 t0 t1) where
    -- the manifest wasn't put
    pub manifest_refused : (denied : Denied) → (fault → denied ≡ Failed)
        → MakesPuts (Err denied) s0 s1 p0 p1 t0 t1
    manifest_refused denied blames = (
      seconds_of first (λ i. 0),
      fits,
      tt,
      cut_short fine fault _ _ (Stores (meta_path before f n Manifest) text first ∷ [])
          (finish_puts before f n text first (λ i. 0)) s0 s1 p0 p1 t0 t1
          (λ ok. absurd (cc ok)) blames told,
    )

    -- it was, and then the entries were put or not
    pub entries_behind : fine → (result : Result ℕ Denied) → (fine' fault' : Type 0)
        → (IsOk result → fine') → (fault' → IsError result Failed) → (s2 : State) (p2 : History)
        (t2 : Trace) (second : ℕ) → second ≡ first → IfOk result (λ at. at ≡ second)
        → (entries : ℕ → ℕ)
        → Makes fine' fault' (finish_puts before f n text second entries) s1 s2 p1 p2 t1 t2
        → MakesPuts result s0 s2 p0 p2 t0 t2
    entries_behind ok result fine' fault' back blames s2 p2 t2 second same answer entries more = (
      seconds_of first entries,
      fits,
      subst (λ (m : ℕ). IfOk result (λ at. at ≡ m)) same answer,
      in_turn fine fault (IsOk result) (IsError result Failed)
          (Stores (meta_path before f n Manifest) text first ∷ [])
          (finish_puts before f n text first entries) s0 s1 s2 p0 p1 p2 t0 t1 t2 ok told
          (told_as fine' fault' (IsOk result) (IsError result Failed)
          (finish_puts before f n text first entries) s1 s2 p1 p2 t1 t2 back blames
          (subst (λ (m : ℕ). Makes fine' fault' (finish_puts before f n text m entries) s1 s2 p1
          p2 t1 t2) same more)),
    )

  module _ (seconds : ℕ → ℕ) (fits : seconds 0 < 2 ^ 64) (fine fault : Type 0) (s0 s1 : State)
      (p0 p1 : History) (t0 t1 : Trace)
      (told : Makes fine fault (manifest_puts before f n text seconds) s0 s1 p0 p1 t0 t1) where
    -- the manifest and its entries weren't all put
    pub puts_refused : IsFqdn f → (denied : Denied) → (fault → denied ≡ Failed)
        → EndsBackup before f n text (Err denied) s0 s1 p0 p1 t0 t1
    puts_refused node denied blames =
        let (mend, is) = some_mend before f node
        (after_all (manifest_puts before f n text seconds) s0.content) in
        record {
          second = seconds 0;
          xs = manifest_puts before f n text seconds ++ mend;
          ending = record {
            seconds = seconds;
            second_is = refl;
            fits = fits;
            mend = mend;
            mend_is = is;
            changes_are = refl;
          };
          makes = cut_short fine fault (false ≡ true) (denied ≡ Failed)
              (manifest_puts before f n text seconds) mend s0 s1 p0 p1 t0 t1
              (λ ok. absurd (cc ok)) blames told;
          answer = tt;
        }

    -- they were, and then the latest entry was mended or not
    pub mend_behind : fine → (result : Result ℕ Denied) → (fine' fault' : Type 0)
        → (IsOk result → fine') → (fault' → IsError result Failed) → (s2 : State) (p2 : History)
        (t2 : Trace) → IfOk result (λ at. at ≡ seconds 0) → (mend : List Effect)
        → IsMend before s1.content f mend → Makes fine' fault' mend s1 s2 p1 p2 t1 t2
        → EndsBackup before f n text result s0 s2 p0 p2 t0 t2
    mend_behind ok result fine' fault' back blames s2 p2 t2 answer mend is more = record {
      second = seconds 0;
      xs = manifest_puts before f n text seconds ++ mend;
      ending = record {
        seconds = seconds;
        second_is = refl;
        fits = fits;
        mend = mend;
        mend_is = subst (λ (o : Option Content). IsMend before o f mend)
            (content_behind fine fault (manifest_puts before f n text seconds) s0 s1 p0 p1 t0 t1
            ok told) is;
        changes_are = refl;
      };
      makes = in_turn fine fault (IsOk result) (IsError result Failed)
          (manifest_puts before f n text seconds) mend s0 s1 s2 p0 p1 p2 t0 t1 t2 ok told
          (told_as fine' fault' (IsOk result) (IsError result Failed) mend s1 s2 p1 p2 t1 t2 back
          blames more);
      answer = answer;
    }
