use Rattle.std.proofs.Common.{◌≡◌, ◌∙◌, ◌++◌, ◌∷◌, [], inl, inr, refl, sym, ap, map, rules}
use Rattle.std.specs.Str.{str_to_ascii_lowercase}
use Rattle.med_ini.specs.LabelViews.{named_view, place_view}
use Rattle.med_ini.specs.Labels.{is_taken, section_name}
use Rattle.med_ini.specs.Lines.{Line}
use Rattle.med_ini.proofs.LikeLemmas.{like_self}
use Rattle.med_ini.proofs.NameLemmas.{header_pushed, option_pushed}
use Rattle.med_ini.proofs.labels.after_label.Goals as goal
use Rattle.med_ini.proofs.labels.after_label.Goals.{in-Quiet, in-Header+in_ok-insert-in-Header, in-Setting+in_ok-insert-in-Setting}

pub returns : goal.returns
returns c = elim c.match-label.branch [
  | in-Quiet w ↦
      let same = like_self (place_view c.args.place) (place_view c.args.place) refl in
      elim w.in-Quiet.is [
        | inl is ↦ rw (is, w.place-is) same
        | inr is ↦ rw (is.1, w.place-is) same
      ]
  | in-Header+in_ok-insert-in-Header w ↦ rw (w.in-Header.is, w.place-is) (record {
    section = refl;
    in_option = refl;
    level = sym w.indent_of.ensures.value;
    headers =
        header_pushed c.args.place.headers.keys w.insert.new.self.keys w.in-Header.name
        w.in_ok-insert-in-Header.ensures.keys;
    options = λ section key. refl;
  })
  | in-Setting+in_ok-insert-in-Setting w ↦
      let old = c.args.place.options.keys in
      let key = str_to_ascii_lowercase w.in-Setting.key.now in
      let here : section_name (place_view c.args.place) ≡ w.unwrap_or-section.result.now =
      search rules in
      let pushed = option_pushed old w.insert-in-Setting.new.self.keys
      (record { section = w.unwrap_or-section.result; key = w.in-Setting.key })
      w.in_ok-insert-in-Setting.ensures.keys in
      rw (w.in-Setting.is, w.place-is) (record {
        section = refl;
        in_option = refl;
        level = sym w.indent_of-in-Setting.ensures.value;
        headers = λ name. refl;
        options = λ section other.
            ap (λ (s : Line). is_taken section
            (map named_view old ++ record { section = s; key = key } ∷ []) other) here
            ∙ pushed section other;
      })
]
