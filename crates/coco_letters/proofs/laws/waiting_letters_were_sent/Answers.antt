use Rattle.coco_letters.proofs.WaitingLemmas.{letter_sent, round_sent, taken_sent}
use Rattle.coco_letters.proofs.laws.waiting_letters_were_sent.Goals as goal

pub returns : goal.returns
returns c = record { round = round_sent; taken = taken_sent; letter = letter_sent }
