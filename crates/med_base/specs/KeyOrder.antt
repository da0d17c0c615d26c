-- The order of keys is total, and keys that it holds equal are equal.
use Rattle.std.proofs.Common.{ℕ, List, ap}
use Rattle.std.specs.Ordering.{nat_cmp}
use Rattle.std.specs.Cmp.{IsTotalOrder}
use Rattle.std.specs.Cmp.Lexicographic.{slice_cmp, nat_list_cmp_total}
use Rattle.std.specs.FinMap.{IsAntisymmetric}
use Rattle.std.proofs.lemmas.Cmp.{on_total, then_total}
use Rattle.std.proofs.lemmas.Map.Lookups.{exact_bytes, exact_pairs}
use Rattle.med_base.specs.declared.key.FileKey.{FileKey}
use Rattle.med_base.specs.Key.{key_cmp}

pub key_total : IsTotalOrder key_cmp
key_total =
    then_total (on_total (λ (k : FileKey). k.keyspace) nat_list_cmp_total)
    (then_total (on_total (λ (k : FileKey). k.table) nat_list_cmp_total)
    (on_total (λ (k : FileKey). k.file) nat_list_cmp_total))

pub key_exact : IsAntisymmetric key_cmp
key_exact a b h =
    ap (λ (p : List ℕ × (List ℕ × List ℕ)). record { keyspace = p.0; table = p.1.0; file = p.1.1 })
    (exact_pairs (slice_cmp nat_cmp) _ exact_bytes
    (exact_pairs (slice_cmp nat_cmp) (slice_cmp nat_cmp) exact_bytes exact_bytes)
    (a.keyspace, (a.table, a.file)) (b.keyspace, (b.table, b.file)) h)
