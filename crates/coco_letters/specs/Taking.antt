-- Letters that the coordinator takes one behind another.
use Rattle.std.specs.Prelude.{◌≡◌, List, [], ◌∷◌}
use Rattle.coco_net.specs.declared.letter.Letter.{Letter}
use Rattle.coco_net.specs.declared.letter.Posted.{Posted}
use Rattle.coco_chief.specs.Chief.{Chief}
use Rattle.coco_letters.specs.Turns.{ChiefHears}

-- The coordinator hears each of the letters, in order.
abbrev pub ChiefTakes : List Letter → Chief → List Posted → Chief → List Posted → Type 0
ChiefTakes [] chief sent chief_new sent_new = (chief_new ≡ chief) × (sent_new ≡ sent)
ChiefTakes (letter ∷ letters) chief sent chief_new sent_new =
    (next : Chief) × (said : List Posted) × ChiefHears letter chief sent next said × ChiefTakes letters next said chief_new sent_new
