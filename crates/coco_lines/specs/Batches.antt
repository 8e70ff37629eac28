-- How lines are cut into batches.
use Rattle.std.specs.Prelude.{◌≡◌, ⊤, ℕ, ◌<◌, ◌≤◌, List, [], ◌∷◌, ◌++◌, length}
use Rattle.coco_lines.specs.Lines.{Line}

abbrev pub Batch : Type 0
Batch = List Line

-- every batch has this many lines; the last may be shorter
abbrev pub AreBatches : ℕ → List Batch → Type 0
AreBatches size [] = ⊤
AreBatches size (b ∷ []) = (0 < length b) × (length b ≤ size)
AreBatches size (b ∷ c ∷ bs) = (length b ≡ size) × AreBatches size (c ∷ bs)

-- all of them behind one another
abbrev pub joined : {A : Type 0} → List (List A) → List A
joined [] = []
joined (xs ∷ more) = xs ++ joined more
