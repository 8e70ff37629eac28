-- Where partitions and their copies stand in a ring of nodes.
use Rattle.std.specs.Prelude.{ℕ, ◌+◌, ◌*◌, ◌%◌, ◌<◌, ◌≤◌}
use Rattle.coco_types.specs.Limits.{most_nodes, most_partitions}
use Rattle.coco_ship.specs.declared.ring.Ring.{Ring}

abbrev pub primary_of : Ring → ℕ → ℕ
primary_of ring p = p % ring.nodes

-- the node of copy j of partition p, copies counted from 0
abbrev pub holder_of : Ring → ℕ → ℕ → ℕ
holder_of ring p j = (p + j + 1) % ring.nodes

-- the number of a copy among all
abbrev pub table_of : Ring → ℕ → ℕ → ℕ
table_of ring p j = p * ring.copies + j

-- the numbers of nodes, partitions and copies that there may be
pub record IsRing (ring : Ring) : Type 0 where
  pub some_node : 1 ≤ ring.nodes
  pub nodes : ring.nodes ≤ most_nodes
  pub some_partition : 1 ≤ ring.partitions
  pub partitions : ring.partitions ≤ most_partitions
  pub copies : ring.copies < ring.nodes

-- there is a copy j of partition p
pub record IsCopy (ring : Ring) (p j : ℕ) : Type 0 where
  pub partition : p < ring.partitions
  pub copy : j < ring.copies
