use Rattle.std.proofs.Common.{ℕ, ◌≤◌, arith}
use Rattle.coco_io.specs.Counts.{Rose}

pub Rose-within : (first old new last : ℕ) → first ≤ old → Rose old new → new ≤ last → Rose first last
Rose-within first old new last low rose high = grind arith

pub Rose-≤ : (old new : ℕ) → Rose old new → old ≤ new
Rose-≤ old new rose = grind arith
