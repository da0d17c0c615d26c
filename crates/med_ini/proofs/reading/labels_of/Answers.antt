use Rattle.std.proofs.Common.{◌≡◌, ◌∙◌, ◌++◌, ◌∷◌, [], List, map, option_map, ap, refl, sym, subst, arith, append_assoc, rules}
use Rattle.std.proofs.lemmas.List.{map-append, length-map}
use Rattle.med_base.specs.Cut.{pieces_left}
use Rattle.med_ini.specs.LabelViews.{label_view, place_view}
use Rattle.med_ini.specs.Labels.{Label, Reads, after, start}
use Rattle.med_ini.specs.Lines.{Line}
use Rattle.med_ini.proofs.LikeLemmas.{after_like, fault_like, fits_like, like_self, like_twice}
use Rattle.med_ini.proofs.Readings.{reads_more, reads_length}
use Rattle.med_ini.proofs.reading.labels_of.Goals as goal

pub lines-init : goal.lines-init
lines-init c = (
  [],
  refl,
  start,
  search rules,
  like_self start (place_view c.first_place-place.result) c.first_place-place.ensures,
)

pub returns-in-Err-clause-err : goal.returns-in-Err-clause-err
returns-in-Err-clause-err c =
    let inv = c.lines.invariant in
    let counted = reads_length start inv.2 inv.0
    (map label_view c.lines.labels.items) inv.3 in
    record {
      before = inv.0;
      line = c.cut_line.result.0.now;
      rest = pieces_left 10 (option_map (λ s. s.now) c.cut_line.result.1);
      lines_are =
          inv.1
          ∙ ap (λ r. inv.0 ++ pieces_left 10 (option_map (λ s. s.now) r)) c.in-Some.is
          ∙ ap (λ (ls : List Line). inv.0 ++ ls) c.cut_line.ensures.lines;
      counted = omega (arith, counted, length-map c.lines.labels.items label_view, c.len.ensures);
      labels = map label_view c.lines.labels.items;
      place = inv.2;
      reads = inv.3;
      fault =
          fault_like inv.2 (place_view c.lines.place) inv.4 c.cut_line.result.0.now _
          c.in-Err.ensures.err;
    }

pub lines-preserved : goal.lines-preserved
lines-preserved c =
    let inv = c.lines.invariant in
    let line : Line = c.cut_line.result.0.now in
    let left = pieces_left 10 (option_map (λ s. s.now) c.cut_line.result.1) in
    let all =
    inv.1
    ∙ ap (λ r. inv.0 ++ pieces_left 10 (option_map (λ s. s.now) r)) c.in-Some.is
    ∙ ap (λ (ls : List Line). inv.0 ++ ls) c.cut_line.ensures.lines
    ∙ sym (append_assoc inv.0 (line ∷ []) left) in
    let pushed : c.push.new.self.items ≡ c.lines.labels.items ++ c.in-Ok.label ∷ [] =
    search rules in
    let labels_are : map label_view c.push.new.self.items
    ≡ map label_view c.lines.labels.items ++ label_view c.in-Ok.label ∷ [] =
    ap (map label_view) pushed ∙ map-append label_view c.lines.labels.items (c.in-Ok.label ∷ [])
    in
    let label = label_view c.in-Ok.label in
    let place = place_view c.lines.place in
    let fits = fits_like inv.2 place inv.4 line label c.in-Ok.ensures.ok in
    let more = reads_more start inv.2 inv.0 (map label_view c.lines.labels.items) line label inv.3
    fits in (
      inv.0 ++ line ∷ [],
      all,
      after inv.2 line label,
      subst (λ (ls : List Label). Reads start (inv.0 ++ line ∷ []) ls (after inv.2 line label))
          (sym labels_are) more,
      like_twice (after inv.2 line label) (after place line label)
          (place_view c.in_ok-place.place) (after_like inv.2 place inv.4 line label)
          c.in_ok-place.ensures,
    )
