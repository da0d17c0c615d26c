-- Calls in a row: what they change together.
use Rattle.std.proofs.Common.{◌≡◌, inl, inr, ℕ, Bool, List, [], ◌∷◌, ◌++◌, Option, Some, None, Result, Ok, Err, IfOk, OnOk, OnErr, refl, sym, ap, ◌∙◌, arith, append_assoc, subst}
use Rattle.med_base.specs.Content.{Content}
use Rattle.med_base.specs.Effects.{Effect, Stores, Removes, made, applied, after_all, IsMoment}
use Rattle.med_outside.specs.Follows.{Follows}
use Rattle.med_outside.specs.State.{State, OpenBucket, Changes, ChangesWithin, ChangesOnce, OnlyReads, IsAtRest, IsReady, MayChange, with_bucket, opened, History}
use Rattle.med_outside.specs.Storage.{AnswersPut, AnswersDelete}
use Rattle.med_outside.specs.declared.denied.Denied.{Denied}
use Rattle.med_outside.specs.declared.denied.Denied.TheVariants.{Failed, Memory}

pub applied-append : (xs ys : List Effect) (c : Content)
    → applied (xs ++ ys) c ≡ applied ys (applied xs c)
applied-append [] ys c = refl
applied-append (x ∷ xs) ys c = applied-append xs ys (made x c)

pub after_all-append : (xs ys : List Effect) (told : Option Content)
    → after_all (xs ++ ys) told ≡ after_all ys (after_all xs told)
after_all-append xs ys None = refl
after_all-append xs ys (Some c) = ap Some (applied-append xs ys c)

pub after_all-nothing : (told : Option Content) → after_all [] told ≡ told
after_all-nothing None = refl
after_all-nothing (Some c) = refl

-- a moment of the first changes is one of all
moment_more : (xs ys : List Effect) (told : Option Content) (c : Content) → IsMoment xs told c
    → IsMoment (xs ++ ys) told c
moment_more xs ys told c m = record {
  first = m.first;
  later = m.later ++ ys;
  split = ap (λ l. l ++ ys) m.split ∙ append_assoc m.first m.later ys;
  held = m.held;
}

-- a moment of the later changes, over what the first ones left
moment_later : (xs ys : List Effect) (told mid : Option Content) (c : Content)
    → mid ≡ after_all xs told → IsMoment ys mid c → IsMoment (xs ++ ys) told c
moment_later xs ys told mid c is m = record {
  first = xs ++ m.first;
  later = m.later;
  split = ap (λ l. xs ++ l) m.split ∙ sym (append_assoc xs m.first m.later);
  held = after_all-append xs m.first told ∙ ap (after_all m.first) (sym is) ∙ m.held;
}

-- a second that isn't told stays so
untold_stays : (never_falls : Bool) (xs : List Effect) (now : Option ℕ)
    → Follows never_falls None xs now → now ≡ None
untold_stays never_falls [] now follows = follows
untold_stays never_falls (x ∷ xs) now follows = follows

follows_on : (never_falls : Bool) (xs ys : List Effect) (a b c : Option ℕ)
    → Follows never_falls a xs b → Follows never_falls b ys c → Follows never_falls a (xs ++ ys) c
follows_on never_falls [] ys a b c first later =
    subst (λ (o : Option ℕ). Follows never_falls o ys c) first later
follows_on never_falls (x ∷ xs) ys None b c first later =
    untold_stays never_falls ys c
    (subst (λ (o : Option ℕ). Follows never_falls o ys c) first later)
follows_on never_falls (Stores path bytes at ∷ xs) ys (Some second) b c first later =
    let (next, rises, rest) = first.1 in
    (first.0, (next, rises, follows_on never_falls xs ys (Some next) b c rest later))
follows_on never_falls (Removes path ∷ xs) ys (Some second) b c first later =
    follows_on never_falls xs ys (Some second) b c first later

-- one list of changes after the other
pub passes_on : (xs ys : List Effect) (s0 s1 s2 : State) (p0 p1 p2 : History)
    → Changes xs s0 s1 p0 p1 → Changes ys s1 s2 p1 p2 → Changes (xs ++ ys) s0 s2 p0 p2
passes_on xs ys s0 s1 s2 p0 p1 p2 a b = record {
  content = b.content ∙ ap (after_all ys) a.content ∙ sym (after_all-append xs ys s0.content);
  second = follows_on s0.never_falls xs ys s0.second s1.second s2.second a.second
      (subst (λ (n : Bool). Follows n s1.second ys s2.second) a.never_falls b.second);
  never_falls = b.never_falls ∙ a.never_falls;
  later = omega (arith, a.later, b.later);
  moments = λ from c le stood_after.
      elim (b.moments from c (omega (arith, le, a.later)) stood_after) [
        | inl stood ↦ elim (a.moments from c le stood) [
          | inl stood_before ↦ inl stood_before
          | inr m ↦ inr (moment_more xs ys s0.content c m)
        ]
        | inr m ↦ inr (moment_later xs ys s0.content s1.content c a.content m)
      ];
  past = λ from to c le.
      let first = a.past from to c le in
      let later = b.past from to c (omega (arith, le, a.later)) in
      (λ stood. first.0 (later.0 stood), λ stood. later.1 (first.1 stood));
}

pub moves_on : (xs ys : List Effect) (s0 s1 s2 : State) (p0 p1 p2 : History)
    → ChangesWithin xs s0 s1 p0 p1 → ChangesWithin ys s1 s2 p1 p2
    → ChangesWithin (xs ++ ys) s0 s2 p0 p2
moves_on xs ys s0 s1 s2 p0 p1 p2 a b = record {
  passes = passes_on xs ys s0 s1 s2 p0 p1 p2 a.passes b.passes;
  upload = b.upload ∙ a.upload;
  terms = b.terms ∙ a.terms;
}

-- no call at all
pub passes_at_rest : (s : State) (p : History) → Changes [] s s p p
passes_at_rest s p = record {
  content = sym (after_all-nothing s.content);
  second = refl;
  never_falls = refl;
  later = omega arith;
  moments = λ from c le stood. inl stood;
  past = λ from to c le. (λ stood. stood, λ stood. stood);
}

pub moves_at_rest : (s : State) (p : History) → ChangesWithin [] s s p p
moves_at_rest s p = record { passes = passes_at_rest s p; upload = refl; terms = refl }

-- the bucket says nothing of what a call changed
pub changes_from_bucket : (bucket : OpenBucket) (xs : List Effect) (s0 s1 : State)
    (p0 p1 : History)
    → Changes xs (with_bucket bucket s0) s1 p0 p1 → Changes xs s0 s1 p0 p1
changes_from_bucket bucket xs s0 s1 p0 p1 a = record {
  content = a.content;
  second = a.second;
  never_falls = a.never_falls;
  later = a.later;
  moments = a.moments;
  past = a.past;
}

-- ---- conditions of calls

-- where nothing is lent every path may be changed
pub may_change : (s : State) (path : List ℕ) → IsAtRest s → MayChange path s.terms
may_change s path rest owner is lent =
    let (i, less, same) = rw rest.lent at lent in
    absurd (omega (arith, less))

-- what is at rest stays so after changes
pub rests_on : (xs : List Effect) (s0 s1 : State) (p0 p1 : History)
    → ChangesWithin xs s0 s1 p0 p1 → IsAtRest s0 → IsAtRest s1
rests_on xs s0 s1 p0 p1 moves rest = record {
  lent = ap (λ t. t.lent) moves.terms ∙ rest.lent;
  upload = moves.upload ∙ rest.upload;
}

-- what is ready stays so after changes
pub ready_on : (layout : List ℕ) (xs : List Effect) (s0 s1 : State) (p0 p1 : History)
    → ChangesWithin xs s0 s1 p0 p1 → IsReady layout s0 → IsReady layout s1
ready_on layout xs s0 s1 p0 p1 moves ready = record {
  rest = rests_on xs s0 s1 p0 p1 moves ready.rest;
  layout_is = ap (λ t. t.bucket.layout) moves.terms ∙ ready.layout_is;
}

-- after a call that opens a bucket
pub opening_rests : (base bucket layout : List ℕ) (s0 s1 : State) (p0 p1 : History)
    (r : Result (Unit {0}) Denied)
    → OnOk r (OnlyReads (opened base bucket layout s0) s1 p0 p1) → OnErr r (OnlyReads s0 s1 p0 p1)
    → IsAtRest s0 → IsAtRest s1
opening_rests base bucket layout s0 s1 p0 p1 (Ok x) ok err rest =
    rests_on [] (opened base bucket layout s0) s1 p0 p1 ok.moves
    (record { lent = rest.lent; upload = rest.upload })
opening_rests base bucket layout s0 s1 p0 p1 (Err x) ok err rest =
    rests_on [] s0 s1 p0 p1 err.moves rest

module _ (s0 s1 : State) (p0 p1 : History) (rest : IsAtRest s0) where
  once_rests : (xs : List Effect) → ChangesOnce xs s0 s1 p0 p1 → IsAtRest s1
  once_rests xs once = rests_on xs s0 s1 p0 p1 once.moves rest

  -- after a put
  pub put_rests : (path bytes : List ℕ) (r : Result ℕ Denied)
      → AnswersPut path bytes r s0 s1 p0 p1 → IsAtRest s1
  put_rests path bytes (Ok at) put = once_rests (Stores path bytes at ∷ []) put
  put_rests path bytes (Err Failed) may = elim may [
    | inl none ↦ once_rests [] none
    | inr (at, fits, put) ↦ once_rests (Stores path bytes at ∷ []) put
  ]
  put_rests path bytes (Err Memory) none = once_rests [] none

  -- after a delete
  pub delete_rests : (path : List ℕ) (r : Result (Unit {0}) Denied)
      → AnswersDelete path r s0 s1 p0 p1 → IsAtRest s1
  delete_rests path (Ok x) gone = once_rests (Removes path ∷ []) gone
  delete_rests path (Err Failed) may = elim may [
    | inl none ↦ once_rests [] none
    | inr gone ↦ once_rests (Removes path ∷ []) gone
  ]
  delete_rests path (Err Memory) none = once_rests [] none.0
