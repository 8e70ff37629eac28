-- The exchanges of a ship phase that gives up.
use Rattle.std.specs.Prelude.{◌≡◌, ℕ, zero, suc, ◌<◌, ◌++◌, false, List, [], Contains, Some}
use Rattle.std.specs.List.{slice_get}
use Rattle.coco_msg.specs.declared.message.Message.TheVariants.{Total}
use Rattle.coco_msg.specs.Bytes.{IsMessage}
use Rattle.coco_net.specs.declared.letter.Posted.{Posted}
use Rattle.coco_ship.specs.declared.line.Line.{Line}
use Rattle.coco_ship.specs.declared.ring.Ring.{Ring}
use Rattle.coco_ship.specs.Placing.{table_of, IsCopy}
use Rattle.coco_ship.specs.Letters.{all_of}
use Rattle.coco_ship.specs.Sending.{ask_of}

-- a Total of this epoch from its primary to the copy is among these letters
abbrev pub IsAsked : Ring → ℕ → List Posted → ℕ → ℕ → Type 0
IsAsked ring epoch sent p j = (places : List ℕ) × Contains sent (ask_of ring p j (Total epoch p places)) × IsMessage (Total epoch p places)

-- so for each copy whose All isn't among the letters given
abbrev pub AreOwersAsked : Ring → ℕ → List Posted → List Posted → Type 0
AreOwersAsked ring epoch given sent = (p j : ℕ) → IsCopy ring p j → (Contains given (all_of ring epoch p j) → ⊥) → IsAsked ring epoch sent p j

-- so for each copy whose All the primary hasn't
abbrev pub AreAsked : Ring → ℕ → List Line → List Posted → Type 0
AreAsked ring epoch lines sent = (p j : ℕ) → IsCopy ring p j → (line : Line) → slice_get lines (table_of ring p j) ≡ Some line → line.is_done ≡ false → IsAsked ring epoch sent p j

-- The letters sent are those of so many exchanges, one after the other: what was sent in each meets this, and in each
-- the count of faults rose. A net keeps no record of its count between them, so those counts are only said to exist.
abbrev pub AreExchanges : ℕ → (List Posted → Type 0) → List Posted → ℕ → ℕ → Type 0
AreExchanges zero Asks sent faults_old faults_new = (sent ≡ []) × (faults_new ≡ faults_old)
AreExchanges (suc n) Asks sent faults_old faults_new = (earlier : List Posted) × (last : List Posted) × (faults : ℕ)
    × (sent ≡ earlier ++ last) × Asks last × (faults < faults_new) × AreExchanges n Asks earlier faults_old faults
