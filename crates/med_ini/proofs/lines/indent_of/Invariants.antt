use Rattle.std.proofs.Common.{◌≡◌, ◌≤◌, ◌<◌, ◌-◌, ℕ, length, get_or, true}
use Rattle.med_ini.specs.Lines.{is_space}
use Rattle.med_ini.proofs.lines.indent_of.Given as goal

-- white space stands before the place
abbrev pub invariant-white : goal.invariant-white
invariant-white l = record {
  bound : l.at ≤ length l.line;
  white : (k : ℕ) → k < l.at → is_space (get_or l.line k 0) ≡ true;
}

abbrev pub decreases-white : goal.decreases-white
decreases-white l = length l.line - l.at
