-- Places that give each line the same labels and the same faults.
use Rattle.std.specs.Prelude.{◌≡◌}
use Rattle.std.specs.List.{list_any}
use Rattle.std.specs.Str.{bytes_eq}
use Rattle.med_ini.specs.Labels.{Place, is_taken}
use Rattle.med_ini.specs.Lines.{Line}

-- they differ at most in the order of the headers and options, and in how often one is listed
pub record IsLike (p q : Place) : Type 0 where
  pub section : p.section ≡ q.section
  pub in_option : p.in_option ≡ q.in_option
  pub level : p.level ≡ q.level
  pub headers : (name : Line) → list_any (λ seen. bytes_eq seen name) p.headers
      ≡ list_any (λ seen. bytes_eq seen name) q.headers
  pub options : (section key : Line) → is_taken section p.options key
      ≡ is_taken section q.options key
