-- On which nodes the tables of a partition stand.
use Rattle.std.specs.Prelude.{ℕ, ◌+◌, ◌/◌, ◌%◌, ◌==◌, Bool}
use Rattle.coco_entry.specs.declared.layout.Layout.{Layout}

-- the node of a partition's table that is so far behind its primary round the ring: 0 for the shard, and j for copy j
abbrev pub node_of : Layout → ℕ → ℕ → ℕ
node_of layout p j = (p + j) % layout.nodes

-- that of the copy at a place: copies stand one partition behind another, and those of one round the ring
abbrev pub copy_node : Layout → ℕ → ℕ
copy_node layout place = node_of layout (place / layout.copies) (place % layout.copies + 1)

-- whether the table at a place is on the node
abbrev pub is_shard_on : Layout → ℕ → ℕ → Bool
is_shard_on layout node place = node_of layout place 0 == node

abbrev pub is_copy_on : Layout → ℕ → ℕ → Bool
is_copy_on layout node place = copy_node layout place == node
