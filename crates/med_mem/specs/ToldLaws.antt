-- The laws of the contents that stood, of every store in memory.
use Rattle.std.proofs.Common.{◌≡◌, ◌∙◌, ◌≤◌, ℕ, Some, sym, ap, arith}
use Rattle.std.specs.Option.{unwrap_or}
use Rattle.med_base.specs.Content.{Content}
use Rattle.med_mem.specs.Told.{Told, content_at, content_of, stood_of}

-- what it holds is one of what it held up to now
pub counts_now_of : (m : Told) (from : ℕ) (c : Content) → from ≤ m.calls
    → Some (content_of m) ≡ Some c → stood_of m from m.calls c
counts_now_of m from c le e = record {
  step = m.calls;
  begun = le;
  ended = omega arith;
  made = omega arith;
  held = sym (ap (λ o. unwrap_or o c) e);
}

-- at the present step it holds nothing else
pub only_now_of : (m : Told) (c : Content) → stood_of m m.calls m.calls c
    → Some (content_of m) ≡ Some c
only_now_of m c s =
    let now : s.step ≡ m.calls = omega (arith, s.begun, s.ended) in
    sym (ap Some (s.held ∙ ap (λ k. content_at k m.notes) now))

-- what stood stood in a longer time too
pub widens_of : (m : Told) (earlier from to later : ℕ) (c : Content) → earlier ≤ from → to ≤ later
    → stood_of m from to c → stood_of m earlier later c
widens_of m earlier from to later c before after s = record {
  step = s.step;
  begun = omega (arith, before, s.begun);
  ended = omega (arith, after, s.ended);
  made = s.made;
  held = s.held;
}
