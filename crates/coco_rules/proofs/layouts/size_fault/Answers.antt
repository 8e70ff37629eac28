use Rattle.std.proofs.Common.{arith}
use Rattle.coco_rules.specs.Sizes.{nodes, partitions, copies, base_epoch}
use Rattle.coco_rules.proofs.layouts.size_fault.Goals as goal
use Rattle.coco_rules.proofs.layouts.size_fault.Goals.{then-layout-lt1-via-then-layout-lt1, then-layout-lt1-via-else-layout-lt1+then-layout-gt-MOST_NODES, then-layout-lt1-2-via-then-layout-lt1-2, then-layout-lt1-2-via-else-layout-lt1-2+then-layout-gt-MOST_PARTITIONS}

pub returns-then-layout-lt1 : goal.returns-then-layout-lt1
returns-then-layout-lt1 c =
    nodes (λ few.
    elim c.then-layout-lt1.branch [
      | then-layout-lt1-via-then-layout-lt1 w ↦ omega (arith, few.0, few.1)
      | then-layout-lt1-via-else-layout-lt1+then-layout-gt-MOST_NODES w ↦ omega (arith, few.0, few.1)
    ])

pub returns-then-layout-lt1-2 : goal.returns-then-layout-lt1-2
returns-then-layout-lt1-2 c =
    partitions (omega arith, omega arith) (λ few.
    elim c.then-layout-lt1-2.branch [
      | then-layout-lt1-2-via-then-layout-lt1-2 w ↦ omega (arith, few.0, few.1)
      | then-layout-lt1-2-via-else-layout-lt1-2+then-layout-gt-MOST_PARTITIONS w ↦ omega (arith, few.0, few.1)
    ])

pub returns-then-layout : goal.returns-then-layout
returns-then-layout c = copies (omega arith, omega arith) (omega arith, omega arith) (λ less. omega (arith, less))

pub returns-then-layout-ge-EPOCHS_END : goal.returns-then-layout-ge-EPOCHS_END
returns-then-layout-ge-EPOCHS_END c = base_epoch (omega arith, omega arith) (omega arith, omega arith) (omega arith) (λ less. omega (arith, less))
