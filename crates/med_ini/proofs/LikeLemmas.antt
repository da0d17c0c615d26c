-- Places that are alike give a line the same labels and faults, and are alike behind it.
use Rattle.std.proofs.Common.{◌≡◌, ◌∙◌, ◌&&◌, ◌||◌, ◌∷◌, [], ℕ, Bool, List, Option, not, nat_lt, codes, is_some, unwrap_or, refl, sym, ap, ap₂}
use Rattle.std.proofs.lemmas.List.Folds.{list_any-append}
use Rattle.std.specs.List.{list_any}
use Rattle.std.specs.Str.{bytes_eq}
use Rattle.med_ini.specs.Alike.{IsLike}
use Rattle.med_ini.specs.Labels.{Label, quiet, more, header, option, Named, Place, Begins, BeginsOption, Fits, IsFault, after, goes_on, is_named, is_quiet, is_repeated, is_taken, section_name}
use Rattle.med_ini.specs.Lines.{Line, begins_comment, indent, is_empty, past}
use Rattle.med_ini.specs.declared.errors.IniKind.{IniKind}
use Rattle.med_ini.specs.declared.errors.IniKind.TheVariants.{NotUtf8, NoSection, NoDelimiter, DuplicateSection, DuplicateOption, EmptyKey}

pub like_self : (p q : Place) → q ≡ p → IsLike p q
like_self p q is = record {
  section = ap (λ (r : Place). r.section) (sym is);
  in_option = ap (λ (r : Place). r.in_option) (sym is);
  level = ap (λ (r : Place). r.level) (sym is);
  headers = λ name. ap (λ (r : Place). list_any (λ seen. bytes_eq seen name) r.headers) (sym is);
  options = λ section key. ap (λ (r : Place). is_taken section r.options key) (sym is);
}

pub like_twice : (p q r : Place) → IsLike p q → IsLike q r → IsLike p r
like_twice p q r a b = record {
  section = a.section ∙ b.section;
  in_option = a.in_option ∙ b.in_option;
  level = a.level ∙ b.level;
  headers = λ name. a.headers name ∙ b.headers name;
  options = λ section key. a.options section key ∙ b.options section key;
}

module _ (p q : Place) (like : IsLike p q) where
  name_like : section_name p ≡ section_name q
  name_like = ap (λ (o : Option Line). unwrap_or o []) like.section

  taken_like : (key : Line) → is_taken (section_name p) p.options key
      ≡ is_taken (section_name q) q.options key
  taken_like key =
      ap (λ (s : Line). is_taken s p.options key) name_like ∙ like.options (section_name q) key

  repeated_like : (name : Line) → is_repeated p name ≡ is_repeated q name
  repeated_like name =
      ap (λ (b : Bool). not (bytes_eq name (codes "DEFAULT")) && b) (like.headers name)

  module _ (line : Line) where
    quiet_like : is_quiet p line ≡ is_quiet q line
    quiet_like =
        ap (λ (b : Bool). begins_comment (past line) || (is_empty (past line) && not b))
        like.in_option

    more_like : goes_on p line ≡ goes_on q line
    more_like =
        ap₂ (λ (b : Bool) (n : ℕ). b && (is_empty (past line) || nat_lt n (indent line)))
        like.in_option like.level

    begins_like : Begins q line → Begins p line
    begins_like b = record {
      not_quiet = quiet_like ∙ b.not_quiet;
      not_more = more_like ∙ b.not_more;
    }

    begins_option_like : BeginsOption q line → BeginsOption p line
    begins_option_like b = record {
      begins = begins_like b.begins;
      no_header = b.no_header;
      in_section = ap (λ (o : Option Line). is_some o) like.section ∙ b.in_section;
    }

    pub fits_like : (l : Label) → Fits q line l → Fits p line l
    fits_like quiet f = quiet_like ∙ f
    fits_like (more text) f = (quiet_like ∙ f.0, more_like ∙ f.1, f.2)
    fits_like (header name) f = (begins_like f.0, f.1, repeated_like name ∙ f.2)
    fits_like (option key value) f = (
      begins_option_like f.0,
      record {
        key_value_is = f.1.key_value_is;
        some_key = f.1.some_key;
        new_key = taken_like key ∙ f.1.new_key;
      },
    )

    pub fault_like : (kind : IniKind) → IsFault q line kind → IsFault p line kind
    fault_like NotUtf8 f = f
    fault_like NoSection f =
        (begins_like f.0, f.1, ap (λ (o : Option Line). is_some o) like.section ∙ f.2)
    fault_like NoDelimiter f = (begins_option_like f.0, f.1)
    fault_like DuplicateSection f =
        (begins_like f.0, (f.1.0, f.1.1, repeated_like f.1.0 ∙ f.1.2))
    fault_like DuplicateOption f =
        (begins_option_like f.0, (f.1.0, f.1.1, f.1.2, f.1.3, taken_like f.1.0 ∙ f.1.4))
    fault_like EmptyKey f = (begins_option_like f.0, f.1)

    pub after_like : (l : Label) → IsLike (after p line l) (after q line l)
    after_like quiet = like
    after_like (more text) = like
    after_like (header name) = record {
      section = refl;
      in_option = refl;
      level = refl;
      headers = λ other.
          let is_other : Line → Bool = λ seen. bytes_eq seen other in
          list_any-append is_other p.headers (name ∷ [])
          ∙ ap (λ (b : Bool). b || list_any is_other (name ∷ [])) (like.headers other)
          ∙ sym (list_any-append is_other q.headers (name ∷ []));
      options = like.options;
    }
    after_like (option key value) = record {
      section = like.section;
      in_option = refl;
      level = refl;
      headers = like.headers;
      options = λ section other.
          let here : Line → List Named = λ s. record { section = s; key = key } ∷ [] in
          list_any-append (is_named section other) p.options (here (section_name p))
          ∙ ap₂ (λ (a b : Bool). a || b) (like.options section other)
          (ap (λ (s : Line). list_any (is_named section other) (here s)) name_like)
          ∙ sym (list_any-append (is_named section other) q.options (here (section_name q)));
    }
