use Rattle.std.proofs.Common.{◌≡◌, ◌∙◌, ap, sym, subst, ℕ, List, Option, Some, None, IfSome, option_map, Bor, ap₂}
use Rattle.med_base.specs.Classify.{kind_of}
use Rattle.med_base.specs.KindRelation.{IsOfKind}
use Rattle.med_base.specs.Kinds.{Kind, as_data}
use Rattle.med_manifest.specs.Manifest.{IsKeyOf}
use Rattle.med_manifest.specs.Named.{Named, named}
use Rattle.med_manifest.specs.Places.{file_told, key_told}
use Rattle.med_manifest.proofs.PlaceLemmas.{told_is, is_told}
use Rattle.med_manifest.proofs.records.file_at.Goals as goal

-- what is told under equal names is equal
told_under : {f g n m : List ℕ} (file : Named) (kind : Kind) → f ≡ g → n ≡ m
    → file_told f n file kind ≡ file_told g m file kind
told_under file kind node name =
    ap₂ (λ (f n : List ℕ). file_told f n file kind) node name

-- what is found is that of a key
found_is_told : (before f n : List ℕ) (file : Named) (kind : Kind) (r : Option (Bor (List ℕ)))
    → IsOfKind before file.path kind
    → option_map (λ (s : Bor (List ℕ)). s.now) r ≡ file_told f n file kind
    → IfSome r (λ (s : Bor (List ℕ)). IsKeyOf before f n file (key_told file s.now))
found_is_told before f n file kind None is e = tt
found_is_told before f n file kind (Some s) is e = told_is before f n file kind s.now is (sym e)

pub returns-clause-found : goal.returns-clause-found
returns-clause-found c =
    let path = c.requires in
    let layout = c.args.layout.now in
    let kind = as_data c.classify.result in
    let file = named c.args.raw.now in
    let told = c.file_in.ensures
    ∙ told_under file kind c.as_str.ensures.value c.as_str-2.ensures.value in
    found_is_told layout c.args.node.now c.args.name.now file kind c.file_in.result
    (subst (λ (p : List ℕ). IsOfKind layout p kind) path c.classify.ensures.told) told

pub returns-clause-none : goal.returns-clause-none
returns-clause-none c none key is =
    let path = c.requires in
    let layout = c.args.layout.now in
    let kind = as_data c.classify.result in
    let file = named c.args.raw.now in
    let told = c.file_in.ensures
    ∙ told_under file kind c.as_str.ensures.value c.as_str-2.ensures.value in
    let kind_is : kind ≡ kind_of layout file.path =
    c.classify.ensures.kind ∙ ap (kind_of layout) path in
    let some = is_told layout c.args.node.now c.args.name.now file key c.as_str.ensures.fits
    c.as_str-2.ensures.fits is in
    let bad : None ≡ Some key.file =
    sym (ap (option_map (λ (s : Bor (List ℕ)). s.now)) none) ∙ told
    ∙ ap (file_told c.args.node.now c.args.name.now file) kind_is ∙ some in
    cc bad
