-- What a call leaves of the contents that stood.
use Rattle.std.proofs.Common.{◌≡◌, ◌∙◌, ◌⊎◌, ◌↔◌, ◌<◌, ◌≤◌, ◌+◌, ℕ, Bool, true, false, leb, List, [], ◌∷◌, ◌++◌, Option, Some, None, Result, Ok, Err, OnErr, refl, sym, ap, inl, inr, arith, leb-true, leb-false}
use Rattle.std.specs.FinMap.{remove}
use Rattle.med_base.specs.Content.{Content}
use Rattle.med_base.specs.Effects.{Effect, Removes, made}
use Rattle.med_outside.specs.Follows.{Follows}
use Rattle.med_outside.specs.State.{OpenBucket, Upload, Changes, ChangesOnce}
use Rattle.med_mem.specs.Told.{Note, Told, content_after, content_at, content_of, StoodFrom, stood_of, state_of, AreMadeBy}
use Rattle.med_mem.specs.Calls.{note_of, Stays}
use Rattle.med_mem.specs.declared.object.MemObject.{MemObject}
use Rattle.med_mem.specs.declared.object.Change.{Change}
use Rattle.med_mem.specs.Objects.{noted, Tells, IsRemoved, room_after}
use Rattle.med_mem.proofs.Notes.{made_later, made_more, none_removed, content_whole, content_before, after_more}

pub on_err : {T E : Type 0} (r : Result T E) {P : Type 0} → P → OnErr r P
on_err (Ok x) p = tt
on_err (Err e) p = p

-- the number of calls is one of some numbers, or a greater one
split : (k n : ℕ) → (k ≤ n) ⊎ (n < k)
split k n = go (leb k n) refl
  where
    go : (b : Bool) → leb k n ≡ b → (k ≤ n) ⊎ (n < k)
    go true e = inl (leb-true k n e)
    go false e = inr (leb-false k n e)

-- the same contents at each step up to some calls
abbrev AgreeTo : ℕ → List Note → List Note → Type 0
AgreeTo calls old new = (k : ℕ) → k ≤ calls → content_at k new ≡ content_at k old

module _ (old new : List Note) (calls next : ℕ) (le : calls ≤ next)
    (agree : AgreeTo calls old new) where
  -- what stood up to an earlier step stays as it was
  past : (from to : ℕ) (c : Content) → to ≤ calls
      → StoodFrom new next from to c ↔ StoodFrom old calls from to c
  past from to c early = (
    λ s. record {
      step = s.step;
      begun = s.begun;
      ended = s.ended;
      made = omega (arith, early, s.ended);
      held = s.held ∙ agree s.step (omega (arith, early, s.ended));
    },
    λ s. record {
      step = s.step;
      begun = s.begun;
      ended = s.ended;
      made = omega (arith, le, s.made);
      held = s.held ∙ sym (agree s.step s.made);
    },
  )

  -- what stood up to now stood before, or is what is held after one of the later calls
  moments : (from : ℕ) (c : Content) → StoodFrom new next from next c
      → StoodFrom old calls from calls c
      ⊎ ((k : ℕ) × (calls < k) × (k ≤ next) × (c ≡ content_at k new))
  moments from c s = elim (split s.step calls) [
    | inl early ↦ inl record {
      step = s.step;
      begun = s.begun;
      ended = early;
      made = early;
      held = s.held ∙ agree s.step early;
    }
    | inr late ↦ inr (s.step, late, s.made, s.held)
  ]

-- a call that changes no content
module _ (m n : Told) (made_by : AreMadeBy m.calls m.notes) (notes : n.notes ≡ m.notes)
    (le : m.calls ≤ n.calls) where
  held_still : (k : ℕ) → m.calls ≤ k → content_at k n.notes ≡ content_of m
  held_still k later =
      ap (content_at k) notes
      ∙ content_whole m.notes k (made_later m.notes m.calls k later made_by)
      ∙ sym (content_whole m.notes m.calls made_by)

  still : AgreeTo m.calls m.notes n.notes
  still k early = ap (content_at k) notes

  stood_still : (from : ℕ) (c : Content) → from ≤ m.calls → stood_of n from n.calls c
      → stood_of m from m.calls c
  stood_still from c begun s =
      elim (moments m.notes n.notes m.calls n.calls le still from c s) [
        | inl stood ↦ stood
        | inr (k, late, ended, held) ↦ record {
          step = m.calls;
          begun = begun;
          ended = omega arith;
          made = omega arith;
          held = held ∙ held_still k (omega (arith, late));
        }
      ]

  no_change : n.clock ≡ m.clock
      → Changes [] (state_of m) (state_of n) (stood_of m) (stood_of n)
  no_change clock = record {
    content = ap Some (held_still n.calls le);
    second = ap Some clock;
    never_falls = refl;
    later = le;
    moments = λ from c begun s. inl (stood_still from c begun s);
    past = past m.notes n.notes m.calls n.calls le still;
  }

  stays_by_reading : n.clock ≡ m.clock → n.room ≡ m.room → n.bucket ≡ m.bucket
      → n.upload ≡ m.upload → Stays m n
  stays_by_reading clock room bucket upload = record {
    moves = record {
      passes = no_change clock;
      upload = upload;
      terms = ap (λ (b : OpenBucket). record { bucket = b; lent = []; owner = None }) bucket;
    };
    room = ap Some room;
  }

-- a call that makes one change
module _ (m n : Told) (x : Effect) (made_by : AreMadeBy m.calls m.notes)
    (notes : n.notes ≡ m.notes ++ note_of n.calls x ∷ []) (next : n.calls ≡ m.calls + 1) where
  earlier : AgreeTo m.calls m.notes n.notes
  earlier k early =
      ap (content_at k) notes
      ∙ content_before m.notes (note_of n.calls x) k (omega (arith, early, next))

  content_now : content_of n ≡ made x (content_of m)
  content_now =
      content_whole n.notes n.calls
      (rw notes (made_more m.notes m.calls n.calls (note_of n.calls x) (omega (arith, next))
      (omega arith) made_by))
      ∙ ap content_after notes
      ∙ after_more m.notes (note_of n.calls x)
      ∙ ap (made x) (sym (content_whole m.notes m.calls made_by))

  one_change : Follows true (Some m.clock) (x ∷ []) (Some n.clock)
      → Changes (x ∷ []) (state_of m) (state_of n) (stood_of m) (stood_of n)
  one_change follows = record {
    content = ap Some content_now;
    second = follows;
    never_falls = refl;
    later = omega (arith, next);
    moments = λ from c begun s.
        elim (moments m.notes n.notes m.calls n.calls (omega (arith, next)) earlier from c s) [
          | inl stood ↦ inl stood
          | inr (k, late, ended, held) ↦ inr record {
            first = x ∷ [];
            later = [];
            split = refl;
            held =
                let last : k ≡ n.calls = omega (arith, late, ended, next) in
                ap Some (sym (held ∙ ap (λ j. content_at j n.notes) last ∙ content_now));
          }
        ];
    past = past m.notes n.notes m.calls n.calls (omega (arith, next)) earlier;
  }

  makes : Follows true (Some m.clock) (x ∷ []) (Some n.clock) → n.room ≤ m.room
      → m.room ≤ n.room + 1 → n.bucket ≡ m.bucket → n.upload ≡ m.upload
      → ChangesOnce (x ∷ []) (state_of m) (state_of n) (stood_of m) (stood_of n)
  makes follows fell near bucket upload = record {
    moves = record {
      passes = one_change follows;
      upload = upload;
      terms = ap (λ (b : OpenBucket). record { bucket = b; lent = []; owner = None }) bucket;
    };
    room = (n.room, refl, fell, near);
  }

-- what the trait tells is the same whatever the tick, and whatever is set to fail
abbrev told_as : List Note → (clock calls faults room : ℕ) → OpenBucket → Option Upload → Told
told_as notes clock calls faults room bucket upload = record {
  notes = notes;
  clock = clock;
  tick = 0;
  calls = calls;
  faults = faults;
  room = room;
  to_fail = [];
  bucket = bucket;
  upload = upload;
}

module _ {upload : Option Upload} where
  -- the fields before and after a call that changed none but the number of calls and the faults
  pub only_reads : (notes : List Note) (clock calls next faults later room : ℕ)
      (bucket : OpenBucket) → AreMadeBy calls notes → calls ≤ next
      → Stays (told_as notes clock calls faults room bucket upload)
      (told_as notes clock next later room bucket upload)
  only_reads notes clock calls next faults later room bucket made_by le =
      stays_by_reading (told_as notes clock calls faults room bucket upload)
      (told_as notes clock next later room bucket upload) made_by refl le refl refl refl refl

  -- the same of a call that noted what was noted already
  pub only_reads_again : (notes again : List Note)
      (clock calls next faults later room : ℕ) (bucket : OpenBucket)
      → AreMadeBy calls notes → again ≡ notes → calls ≤ next
      → Stays (told_as notes clock calls faults room bucket upload)
      (told_as again clock next later room bucket upload)
  only_reads_again notes again clock calls next faults later room bucket made_by same le =
      stays_by_reading (told_as notes clock calls faults room bucket upload)
      (told_as again clock next later room bucket upload) made_by same le refl refl refl refl

  -- the same of a call that made one change
  pub makes_one : (notes more : List Note) (clock moved calls next : ℕ)
      (faults later room left : ℕ) (bucket : OpenBucket) (x : Effect) → AreMadeBy calls notes
      → more ≡ notes ++ note_of next x ∷ [] → next ≡ calls + 1
      → Follows true (Some clock) (x ∷ []) (Some moved) → left ≤ room → room ≤ left + 1
      → ChangesOnce (x ∷ []) (state_of (told_as notes clock calls faults room bucket upload))
      (state_of (told_as more moved next later left bucket upload)) (StoodFrom notes calls)
      (StoodFrom more next)
  makes_one notes more clock moved calls next faults later room left bucket x made_by noted one
      follows fell near =
      makes (told_as notes clock calls faults room bucket upload)
      (told_as more moved next later left bucket upload) x made_by noted one follows fell near
      refl refl

  -- removing an object that isn't there
  pub makes_none : (notes again : List Note) (clock calls next faults later room : ℕ)
      (bucket : OpenBucket) (path : List ℕ) → AreMadeBy calls notes → again ≡ notes
      → calls ≤ next → content_after notes ≡ remove (content_after notes) path
      → ChangesOnce (Removes path ∷ [])
      (state_of (told_as notes clock calls faults room bucket upload))
      (state_of (told_as again clock next later room bucket upload)) (StoodFrom notes calls)
      (StoodFrom again next)
  makes_none notes again clock calls next faults later room bucket path made_by same le none =
      let m = told_as notes clock calls faults room bucket upload in
      let n = told_as again clock next later room bucket upload in
      let whole = content_whole notes calls made_by in
      let still = no_change m n made_by same le refl in
      record {
        moves = record {
          passes = record {
            content =
                still.content
                ∙ ap Some (whole ∙ none ∙ ap (λ (c : Content). remove c path) (sym whole));
            second = refl;
            never_falls = refl;
            later = le;
            moments = λ from c begun s. inl (stood_still m n made_by same le from c begun s);
            past = still.past;
          };
          upload = refl;
          terms = refl;
        };
        room = (room, refl, omega arith, omega arith);
      }

  -- a call that removed the object of a path, or found none
  pub makes_removal : (os os' : List MemObject) (cs cs' : List Change) (clock calls next : ℕ)
      (faults later room left : ℕ) (bucket : OpenBucket) (path : List ℕ) (is_noted : Bool)
      → Tells os cs calls → next ≡ calls + 1
      → IsRemoved (note_of next (Removes path)) path os os' cs cs' is_noted
      → left ≡ room_after is_noted room
      → ChangesOnce (Removes path ∷ [])
      (state_of (told_as (noted cs) clock calls faults room bucket upload))
      (state_of (told_as (noted cs') clock next later left bucket upload))
      (StoodFrom (noted cs) calls) (StoodFrom (noted cs') next)
  makes_removal os os' cs cs' clock calls next faults later room left bucket path true told one
      removal less =
      makes_one (noted cs) (noted cs') clock clock calls next faults later room left bucket
      (Removes path) told.made_by removal.0 one refl (omega (arith, less)) (omega (arith, less))
  makes_removal os os' cs cs' clock calls next faults later room left bucket path false told one
      removal less =
      rw less
      (makes_none (noted cs) (noted cs') clock calls next faults later room bucket path told.made_by
      removal.0 (omega (arith, one)) (none_removed os cs calls path told removal.2))

pub reads_on_err : {T E : Type 0} (r : Result T E) (notes : List Note)
    (clock calls next faults later room : ℕ) (bucket : OpenBucket) (upload : Option Upload)
    → AreMadeBy calls notes → calls ≤ next
    → OnErr r (Stays (told_as notes clock calls faults room bucket upload)
    (told_as notes clock next later room bucket upload))
reads_on_err r notes clock calls next faults later room bucket upload made_by le =
    on_err r (only_reads notes clock calls next faults later room bucket made_by le)

-- a change that belongs to the last call that was counted
pub gains : (notes more : List Note) (calls : ℕ) (x : Effect) → AreMadeBy calls notes
    → more ≡ notes ++ note_of calls x ∷ []
    → content_at calls more ≡ made x (content_at calls notes)
gains notes more calls x made_by noted =
    content_whole more calls
    (rw noted (made_more notes calls calls (note_of calls x) (omega arith) (omega arith) made_by))
    ∙ ap content_after noted
    ∙ after_more notes (note_of calls x)
    ∙ ap (made x) (sym (content_whole notes calls made_by))
