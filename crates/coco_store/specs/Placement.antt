-- Which nodes hold a partition.
use Rattle.std.specs.Prelude.{◌≡◌, ℕ, ◌+◌, ◌%◌, ◌≤◌}
use Rattle.coco_entry.specs.declared.layout.Layout.{Layout}

-- a partition is held by its primary and, as copies, by so many nodes behind it round the ring; j is 0 for the primary
abbrev pub IsHeldBy : Layout → ℕ → ℕ → Type 0
IsHeldBy layout p n = (j : ℕ) × (j ≤ layout.copies) × (n ≡ (p + j) % layout.nodes)
