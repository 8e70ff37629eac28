-- The numbers of a layout, the keep number aside, and the first that is out of its limits.
use Rattle.std.specs.Prelude.{ℕ, ◌+◌, ◌*◌, ◌<◌, ◌≤◌, Option, None, Some}
use Rattle.coco_types.specs.Limits.{epochs_end, most_nodes, most_partitions}
use Rattle.coco_entry.specs.declared.layout.Layout.{Layout}

abbrev pub AreFew : ℕ → ℕ → Type 0
AreFew most n = (1 ≤ n) × (n ≤ most)

pub record AreSizes (layout : Layout) : Type 0 where
  pub nodes : AreFew most_nodes layout.nodes
  pub partitions : AreFew most_partitions layout.partitions
  pub copies : layout.copies < layout.nodes
  pub base_epoch : layout.base_epoch < epochs_end

-- one is out of its limits, at its field, and those in front of it aren't
pub data IsFirstSize (layout : Layout) : ℕ → Type 0 where
  nodes : ¬ (AreFew most_nodes layout.nodes) → IsFirstSize layout 2
  partitions : AreFew most_nodes layout.nodes → ¬ (AreFew most_partitions layout.partitions) → IsFirstSize layout 3
  copies : AreFew most_nodes layout.nodes → AreFew most_partitions layout.partitions → ¬ (layout.copies < layout.nodes) → IsFirstSize layout 4
  base_epoch : AreFew most_nodes layout.nodes → AreFew most_partitions layout.partitions → layout.copies < layout.nodes → ¬ (layout.base_epoch < epochs_end)
      → IsFirstSize layout (9 + 4 * layout.nodes)

abbrev pub FindsSize : Layout → Option ℕ → Type 0
FindsSize layout None = AreSizes layout
FindsSize layout (Some at) = IsFirstSize layout at
