use Rattle.std.proofs.Common.{◌≡◌, ◌∙◌, ap, subst}
use Rattle.json.specs.Lex.{tokens}
use Rattle.serde_json.proofs.Texts.{print-outline}
use Rattle.med_manifest.specs.Tokens.{tokens_of}
use Rattle.med_manifest.specs.Written.{HaveFingerprints, manifest_data, manifest_text}
use Rattle.med_manifest.proofs.Names.{is_manifest}
use Rattle.med_manifest.proofs.Once.{manifest_once}
use Rattle.med_manifest.proofs.TokenLemmas.{read_manifest}
use Rattle.med_manifest.proofs.manifest.Manifest.write.Goals as goal

pub returns-clause-text : goal.returns-clause-text
returns-clause-text c =
    c.in_ok-text.ensures.text ∙ print-outline (manifest_data c.as_slice.result.now)
    ∙ ap manifest_text c.as_slice.ensures.value

pub returns-clause-reads_back : goal.returns-clause-reads_back
returns-clause-reads_back c =
    let files = c.args.self.now.files.items in
    let same : tokens c.in_ok-text.text.items ≡ tokens_of (manifest_data files) =
    c.in_ok-text.ensures.tokens
    ∙ ap (λ rs. tokens_of (manifest_data rs)) c.as_slice.ensures.value in
    read_manifest files _ same
    (subst HaveFingerprints c.as_slice.ensures.value c.in_ok-text.ensures.prints)

pub returns-clause-names : goal.returns-clause-names
returns-clause-names c before f n (keys, places) =
    let prints = subst HaveFingerprints c.as_slice.ensures.value c.in_ok-text.ensures.prints in
    is_manifest before f n _ _ c.in_ok-text.ensures.utf8 (returns-clause-reads_back c) c.requires
    prints keys places

pub returns-clause-names_no_other : goal.returns-clause-names_no_other
returns-clause-names_no_other c before f n of_backup files is =
    manifest_once before f n _ files c.args.self.now.files.items is
    (returns-clause-names c before f n of_backup)
