-- Maps under keys: what one has behind a write, and on a partition.
use Rattle.std.proofs.Common.{◌≡◌, ℕ, ◌%◌, nat_eq, cond, None, sym, ap}
use Rattle.std.specs.FinMap.{get-retain_keys}
use Rattle.coco_types.proofs.Keys.{keys_exact}
use Rattle.coco_types.specs.RowKey.{RowKey}
use Rattle.coco_ast.specs.Keyed.{Rows, value_at, on_partition}

pub value_on_partition : (count p : ℕ) (m : Rows) (k : RowKey) → value_at (on_partition count p m) k ≡ cond (nat_eq (k.row % count) p) (value_at m k) None
value_on_partition count p m k = get-retain_keys m (λ q. nat_eq (q.row % count) p) k (λ q same. ap (λ (r : RowKey). nat_eq (r.row % count) p) (sym (keys_exact k q same)))
