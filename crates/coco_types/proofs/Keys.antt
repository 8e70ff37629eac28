-- Keys: their order is a total one, and keys that compare alike are one.
use Rattle.std.proofs.Common.{◌≡◌, ℕ, Bool, true, refl, ap}
use Rattle.std.specs.BTreeMap.{is_at}
use Rattle.std.specs.Cmp.{IsTotalOrder, eq_by_cmp_equiv}
use Rattle.std.specs.Ordering.{nat_cmp, is_eq}
use Rattle.std.specs.declared.cmp.Ordering.{Ordering}
use Rattle.std.specs.declared.cmp.Ordering.TheVariants.{Less, Equal, Greater}
use Rattle.std.proofs.lemmas.Cmp.{on_total, then_total, nat_cmp_total, tied_itself}
use Rattle.std.proofs.lemmas.Map.Lookups.{CmpEqualImpliesEq, exact_pairs, exact_unsigned}
use Rattle.coco_types.specs.RowKey.{RowKey, key_cmp}

pub keys_total : IsTotalOrder key_cmp
keys_total = then_total (on_total (λ (k : RowKey). k.table) nat_cmp_total) (on_total (λ (k : RowKey). k.row) nat_cmp_total)

pub keys_exact : CmpEqualImpliesEq key_cmp
keys_exact a b h = ap (λ (p : ℕ × ℕ). record { table = p.0; row = p.1 }) (exact_pairs nat_cmp nat_cmp exact_unsigned exact_unsigned (a.table, a.row) (b.table, b.row) h)

-- whether two keys are one
abbrev pub is_key : RowKey → RowKey → Bool
is_key k q = is_at (key_cmp k) q

is_equal : (o : Ordering) → is_eq o ≡ true → o ≡ Equal
is_equal Less h = cc
is_equal Equal h = refl
is_equal Greater h = cc

pub one_key : (k q : RowKey) → is_key k q ≡ true → k ≡ q
one_key k q h = keys_exact k q (is_equal (key_cmp k q) h)

pub key_itself : (k : RowKey) → is_key k k ≡ true
key_itself k = ap is_eq (tied_itself keys_total k)

pub key_swap : (k q : RowKey) → is_key k q ≡ is_key q k
key_swap = (eq_by_cmp_equiv keys_total).symm
