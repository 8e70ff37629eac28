-- What the program's arguments are: its own name, the store's folder, and the words of the command.
use Rattle.std.specs.Prelude.{ℕ, List, [], ◌∷◌, codes, if◌then◌else◌}
use Rattle.coco_host.specs.declared.files.Purpose.{Purpose}
use Rattle.coco_host.specs.declared.files.Purpose.TheVariants.{Reading, Writing}
use Rattle.coco_words.specs.Commands.{reads_alone}
use Rattle.coco_words.specs.declared.Kind.{Kind}

-- the name of the store's folder, which may be left out
abbrev pub folder_in : List (List ℕ) → List ℕ
folder_in [] = codes "."
folder_in (program ∷ []) = codes "."
folder_in (program ∷ folder ∷ words) = folder

-- what the folder is wanted for by a command of this kind
abbrev pub purpose_for : Kind → Purpose
purpose_for kind = if reads_alone kind then Reading else Writing
