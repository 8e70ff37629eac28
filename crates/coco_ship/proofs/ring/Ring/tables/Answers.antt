use Rattle.std.proofs.Common.{◌*◌, ◌≤◌, arith}
use Rattle.std.proofs.Math.Nat.{mul-le-mul}
use Rattle.coco_ship.proofs.ring.Ring.tables.Goals as goal

pub overflow_mul-result : goal.overflow_mul-result
overflow_mul-result c =
    let most : c.args.self.partitions * c.args.self.copies ≤ 255 * 255 = mul-le-mul {n₁ = c.args.self.partitions} {m₁ = c.args.self.copies} {n₂ = 255} {m₂ = 255} (omega arith) (omega arith) in
    omega (arith, most)
