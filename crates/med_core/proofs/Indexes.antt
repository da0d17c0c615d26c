-- What the public functions say of the index.
use Rattle.std.proofs.Common.{List, sym, ◌∙◌, ap, subst}
use Rattle.med_base.specs.Content.{Content}
use Rattle.med_base.specs.Effects.{Effect, applied}
use Rattle.med_core.proofs.Kept.{claim_keeps, exact_same, finish_keeps, place_keeps, remove_keeps}
use Rattle.med_core.proofs.Parts.{part_agrees}
use Rattle.med_core.proofs.Sections.{ListByKind, is_owned, part}
use Rattle.med_core.specs.Exact.{IsBegunWell}
use Rattle.med_core.specs.Section.{Abandon, Call, Claim, Finish, Place, Rebuild, Remove, Running}
use Rattle.med_manifest.proofs.ByKind.{NodeByKind, Text, at, files}
use Rattle.med_manifest.proofs.IndexByKind.{ExactByKind}
use Rattle.med_manifest.proofs.Rebuilds.{rebuild_reaches}
use Rattle.med_manifest.specs.Index.{given}
use Rattle.med_manifest.specs.Named.{named}

module _ (before : Text) (c : Content) (r : Running) (f : Text) (node : NodeByKind before f) where
  pub stays_exact : (call : Call) (xs : List Effect) → ListByKind before c r f call xs
      → IsBegunWell before c f call → ExactByKind before c f → ExactByKind before (applied xs c) f
  stays_exact (Claim n d schema ring) xs (named, free_name, free, (t, small, is)) well exact = subst
      (λ l. ExactByKind before (applied l c) f) (sym is) (claim_keeps before f node c n d schema
      ring t named free small exact)
  stays_exact (Place n d k b) xs (key, among, (t, is)) well exact = subst (λ l. ExactByKind before
      (applied l c) f) (sym is) (place_keeps before f node c n d k b t key exact)
  stays_exact (Finish n d records) xs (
    at_node,
    named,
    among,
    apart,
    keys,
    files,
    (x, b, t, u, small, reads, is),
  ) ((s, schema), fresh) exact =
      subst (λ l. ExactByKind before (applied l c) f) (sym is) (finish_keeps before f node c n d
      records x b t u named keys small s schema fresh exact)
  stays_exact (Abandon n) xs is well exact = subst (λ l. ExactByKind before (applied l c) f)
      (sym is) exact
  stays_exact (Remove names grace now) xs (at_node, named, free, (paths, t, has, is)) well exact =
      subst (λ l. ExactByKind before (applied l c) f) (sym is) (remove_keeps before f node c names
      paths grace now t named exact)
  stays_exact Rebuild xs (at_node, (G, t, u, given, is)) well exact = subst (λ l. ExactByKind before
      (applied l c) f) (sym is) (rebuild_reaches before f node c G given t u)

module _ (before : Text) (f : Text) (node : NodeByKind before f) where
  -- the index is as exact in the part of the node
  pub exact_part : (c : Content) → ExactByKind before c f → ExactByKind before (part before f c) f
  exact_part c exact = exact_same before f node c (part before f c)
      (λ k has told own. part_agrees before f c (at before k) (ap (is_owned f) has ∙ own)) exact

  pub exact_whole : (c : Content) → ExactByKind before (part before f c) f → ExactByKind before c f
  exact_whole c exact = exact_same before f node (part before f c) c (λ k has told own. sym
      (part_agrees before f c (at before k) (ap (is_owned f) has ∙ own))) exact
