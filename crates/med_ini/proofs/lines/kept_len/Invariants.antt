use Rattle.std.proofs.Common.{◌≡◌, ◌≤◌, ◌<◌, ℕ, length, get_or, true}
use Rattle.med_ini.specs.Lines.{is_blank}
use Rattle.med_ini.proofs.lines.kept_len.Given as goal

-- white space and line feeds stand from the end on
abbrev pub invariant-blank : goal.invariant-blank
invariant-blank l = record {
  bound : l.end ≤ length l.text;
  blank : (k : ℕ) → l.end ≤ k → k < length l.text → is_blank (get_or l.text k 0) ≡ true;
}

abbrev pub decreases-blank : goal.decreases-blank
decreases-blank l = l.end
