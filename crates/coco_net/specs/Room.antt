-- Room in the boxes of the places.
use Rattle.std.specs.Prelude.{ℕ, ◌<◌, ◌≤◌, ◌^◌, List, length}
use Rattle.std.specs.List.{slice_index_or}
use Rattle.coco_net.specs.declared.letter.Posted.{Posted}
use Rattle.coco_net.specs.Mail.{letters_to}

-- each place's box has room for the letters to it, which are no more than its count can say
abbrev pub HasRoom : List Posted → List ℕ → Type 0
HasRoom these rooms = (p : ℕ) → p < length rooms → (length (letters_to p these) ≤ slice_index_or rooms p 0) × (length (letters_to p these) < 2 ^ 32)
