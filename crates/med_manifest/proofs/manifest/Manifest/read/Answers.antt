use Rattle.std.proofs.Common.{rules, List, map, subst}
use Rattle.med_base.specs.Memory.{WhyIs}
use Rattle.med_manifest.specs.declared.shape.NamedFile.{NamedFile}
use Rattle.med_manifest.specs.Named.{named}
use Rattle.med_manifest.specs.Refusals.{IsFirstFault, IsRefused, IsNoManifest}
use Rattle.med_manifest.proofs.Refused.{error_refused, files_refused}
use Rattle.med_manifest.proofs.manifest.Manifest.read.Goals as goal

pub returns-in_err-named-clause-err : goal.returns-in_err-named-clause-err
returns-in_err-named-clause-err c =
    let refused : WhyIs
    (IsRefused c.args.layout.now c.args.node.now c.args.name.now c.args.bytes.now)
    c.in_err-named.field-0.0 = c.in_err-named.ensures.err _ _ _ in
    search rules

pub returns-in_err-named-clause-refused : goal.returns-in_err-named-clause-refused
returns-in_err-named-clause-refused c =
    let refuses : WhyIs
    (λ _. IsNoManifest c.args.layout.now c.args.node.now c.args.name.now c.args.bytes.now)
    c.in_err-named.field-0.0 =
    error_refused _ _ _ _ _ (c.in_err-named.ensures.err _ _ _) in
    search rules

pub returns-in_err-files-clause-refused : goal.returns-in_err-files-clause-refused
returns-in_err-files-clause-refused c =
    let layout = c.args.layout.now in
    let node = c.args.node.now in
    let name = c.args.name.now in
    let e = c.in_err-files.field-0.0 in
    let faulty : WhyIs (IsFirstFault layout node name (map named c.in_ok-named.named.items)) e =
    subst (λ (fs : List NamedFile). WhyIs (IsFirstFault layout node name (map named fs)) e)
    c.as_slice.ensures.value c.in_err-files.ensures.err in
    let refuses : WhyIs (λ _. IsNoManifest layout node name c.args.bytes.now) e =
    error_refused layout node name c.args.bytes.now e
    (files_refused layout node name c.args.bytes.now _ e c.in_ok-named.ensures.ok faulty) in
    search rules
