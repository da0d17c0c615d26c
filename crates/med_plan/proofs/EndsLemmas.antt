-- Laws of plans.
use Rattle.std.proofs.Common.{◌≡◌, ◌∙◌, sym, inl, inr, refl, subst, List, Result, Ok, Err, OnErr, MatchResult}
use Rattle.med_outside.specs.Device.{Device}
use Rattle.med_plan.specs.Ends.{Refusal, Stop, Refused, Failed, Plan, last, step, StopsAt, Steps, Ends, then, said_as, Leads, EndsAs}

ok_is : {T E : Type 0} (a b : T) → ◌≡◌ {A = Result T E} (Ok a) (Ok b) → a ≡ b
ok_is a b e = cc

ok_no_err : {T E : Type 0} (a : T) (b : E) → ◌≡◌ {A = Result T E} (Ok a) (Err b) → ⊥
ok_no_err a b e = cc

-- a stop at a call is a stop of the whole
pub stops : {T : Type 0} (low high : Device → Type 0) → ((d : Device) → low d → high d)
    → (answers : Result T Refusal → Type 0) (on : List Device) (s : Stop)
    → StopsAt low answers on s → StopsAt high answers on s
stops low high up answers on (Refused f) h = h
stops low high up answers on (Failed d) (among, p) = (among, up d p)

stopped : {T R : Type 0} (low high : Device → Type 0) → ((d : Device) → low d → high d)
    → (answers : Result T Refusal → Type 0) (on : List Device) (r : Result R Stop)
    → MatchResult r (λ _. ⊥) (StopsAt low answers on)
    → MatchResult r (λ _. ⊥) (StopsAt high answers on)
stopped low high up answers on (Ok x) h = h
stopped low high up answers on (Err s) h = stops low high up answers on s h

module _ {W : Type 1} {R : Type 0} (low high : Device → Type 0) (up : (d : Device) → low d → high d)
    (weak strong : W → Type 0) (more : (w : W) → weak w → strong w) where
  -- counts that rose in a part rose in the whole, and what is left of a part is left of the whole
  pub carried : (p : Plan W R) (r : Result R Stop) → Ends low weak p r → Ends high strong p r
  carried (last good x) r (is, g) = (is, more good g)
  carried (step answers on leaves rest) r (inl (stop, left)) =
      inl (stopped low high up answers on r stop, more leaves left)
  carried (step answers on leaves rest) r (inr (x, ok, e)) =
      inr (x, ok, carried (rest x) r e)

-- the same with what is left in other words
pub carried_as : {V W : Type 1} {R : Type 0} (low high : Device → Type 0)
    → ((d : Device) → low d → high d) → (weak : V → Type 0) (strong : W → Type 0) (word : V → W)
    → ((v : V) → weak v → strong (word v)) → (p : Plan V R) (r : Result R Stop)
    → Ends low weak p r → Ends high strong (said_as word p) r
carried_as low high up weak strong word more (last good x) r (is, g) = (is, more good g)
carried_as low high up weak strong word more (step answers on leaves rest) r (inl (stop, left)) =
    inl (stopped low high up answers on r stop, more leaves left)
carried_as low high up weak strong word more (step answers on leaves rest) r (inr (x, ok, e)) =
    inr (x, ok, carried_as low high up weak strong word more (rest x) r e)

module _ {W : Type 1} {R Q : Type 0} (rose : Device → Type 0) (means : W → Type 0)
    (next : R → Plan W Q) where
  -- a layer that ended well, whatever its words mean, and what follows
  pub goes_on : (low : Device → Type 0) (weak : W → Type 0) (x : R) (q : Result Q Stop)
      (p : Plan W R) → Ends low weak p (Ok x)
      → Ends rose means (next x) q → Ends rose means (then p next) q
  goes_on low weak x q (last good y) (is, g) e =
      subst (λ z. Ends rose means (next z) q) (ok_is x y is) e
  goes_on low weak x q (step answers on leaves rest) (inl (stop, left)) e = absurd stop
  goes_on low weak x q (step answers on leaves rest) (inr (y, ok, d)) e =
      inr (y, ok, goes_on low weak x q (rest y) d e)

  -- a layer that stopped stops the whole
  pub stops_all : (s : Stop) (p : Plan W R) → Ends rose means p (Err s)
      → Ends rose means (then p next) (Err s)
  stops_all s (last good y) (is, g) = absurd (ok_no_err y s (sym is))
  stops_all s (step answers on leaves rest) (inl (stop, left)) = inl (stop, left)
  stops_all s (step answers on leaves rest) (inr (y, ok, d)) =
      inr (y, ok, stops_all s (rest y) d)

-- a call of one step that ends a plan
pub ends_by : {W : Type 1} {R : Type 0} (low high : Device → Type 0)
    → ((d : Device) → low d → high d) → (means : W → Type 0)
    → (answers : Result R Refusal → Type 0) (on : List Device) (leaves : W) (good : R → W)
    (r : Result R Stop) → Steps low answers on r → OnErr r (means leaves)
    → MatchResult r (λ x. means (good x)) (λ _. Unit {0})
    → Ends high means (step answers on leaves (λ x. last (good x) x)) r
ends_by low high up means answers on leaves good (Ok x) h left g = inr (x, h, (refl, g))
ends_by low high up means answers on leaves good (Err s) h left g =
    inl (stops low high up answers on s h, left)

-- ---- the converse

err_is : {T E : Type 0} (a b : E) → ◌≡◌ {A = Result T E} (Err a) (Err b) → a ≡ b
err_is a b e = cc

module _ {W : Type 1} {R : Type 0} (rose : Device → Type 0) (told : Result R Stop) where
  -- a device that is asked after a step is asked on the way
  asked_further : {T : Type 0} (answers : Result T Refusal → Type 0) (on : List Device) (leaves : W)
      (rest : T → Plan W R) (x : T) → answers (Ok x) → (end : Result R Stop)
      → EndsAs rose (rest x) told end → EndsAs rose (step answers on leaves rest) told end
  asked_further answers on leaves rest x ok (Ok y) h = h
  asked_further answers on leaves rest x ok (Err (Refused f)) h = h
  asked_further answers on leaves rest x ok (Err (Failed d)) (asked, r) = (inr (x, ok, asked), r)

  -- a stop at a step
  stopped_here : {T : Type 0} (answers : Result T Refusal → Type 0) (on : List Device) (leaves : W)
      (rest : T → Plan W R) → Leads (step answers on leaves rest) told → (end : Result R Stop)
      → MatchResult end (λ _. ⊥) (StopsAt rose answers on)
      → EndsAs rose (step answers on leaves rest) told end
  stopped_here answers on leaves rest leads (Ok y) h = absurd h
  stopped_here answers on leaves rest leads (Err (Refused f)) h = sym (leads (Err f) h)
  stopped_here answers on leaves rest leads (Err (Failed d)) (among, r) = (inl among, r)

  -- for every plan: where it leads to an end, a call of it ends so
  pub plan_exact : (means : W → Type 0) (plan : Plan W R) → Leads plan told → (end : Result R Stop)
      → Ends rose means plan end → EndsAs rose plan told end
  plan_exact means (last good x) leads (Ok y) (done, holds) = done ∙ sym leads
  plan_exact means (last good x) leads (Err s) (done, holds) = absurd (ok_no_err x s (sym done))
  plan_exact means (step answers on leaves rest) leads end (inl (stop, left)) =
      stopped_here answers on leaves rest leads end stop
  plan_exact means (step answers on leaves rest) leads end (inr (x, ok, ends)) =
      asked_further answers on leaves rest x ok end
      (plan_exact means (rest x) (leads (Ok x) ok) end ends)
