-- Messages that can be read can be written.
use Rattle.std.proofs.Common.{ℕ, ◌<◌, ◌^◌, List, [], ◌∷◌, length, Option, Some, None, arith}
use Rattle.std.specs.List.{All}
use Rattle.std.proofs.lemmas.List.Elements.{All-tail}
use Rattle.coco_types.specs.declared.call.Write.{Write}
use Rattle.coco_bytes.specs.Lists.{FitInTurn}
use Rattle.coco_msg.specs.declared.message.Message.{Message}
use Rattle.coco_msg.specs.declared.message.Message.TheVariants.{Ship, Total, Missing, All as Done}
use Rattle.coco_msg.specs.Bytes.{AreListable, ArePlaces, AreWrites, HasBytes, IsMessage, IsPlace, IsWrite, RisesFrom}

rise : (before : Option ℕ) (ks : List ℕ) → FitInTurn IsPlace before ks → FitInTurn RisesFrom before ks
rise before [] h = tt
rise before (k ∷ ks) h = (h.0.1, rise (Some k) ks h.1)

pub has_bytes : (m : Message) → IsMessage m → HasBytes m
has_bytes (Ship epoch partition place time writes) is = is.4.0
has_bytes (Total epoch partition places) is = (is.2.0, rise None places is.2.1)
has_bytes (Missing epoch partition places) is = (is.2.0, rise None places is.2.1)
has_bytes (Done epoch partition) is = tt
has_bytes m is = tt

-- rising places, each of four bytes
below : (before : Option ℕ) (ks : List ℕ) → FitInTurn RisesFrom before ks → All (λ q. q < 2 ^ 32) ks → FitInTurn IsPlace before ks
below before [] rises all = tt
below before (k ∷ ks) rises all = ((all 0 k (omega arith), rises.0), below (Some k) ks rises.1 (All-tail (λ q. q < 2 ^ 32) k ks all))

pub are_places : (ks : List ℕ) → AreListable ks → All (λ q. q < 2 ^ 32) ks → ArePlaces ks
are_places ks listable all = (listable.0, below None ks listable.1 all)

-- each fits behind any
in_turn : (before : Option Write) (ws : List Write) → All IsWrite ws → FitInTurn (λ _. IsWrite) before ws
in_turn before [] all = tt
in_turn before (w ∷ ws) all = (all 0 w (omega arith), in_turn (Some w) ws (All-tail IsWrite w ws all))

pub are_writes : (ws : List Write) → length ws < 2 ^ 32 → All IsWrite ws → AreWrites ws
are_writes ws few all = (few, in_turn None ws all)
