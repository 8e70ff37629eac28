use Rattle.std.proofs.Common.{ℕ, Result, Ok, Err, arith}
use Rattle.std.specs.Prelude.{◌≡◌, IfOk, List}
use Rattle.coco_bytes.specs.Fields.{AreBytes}
use Rattle.coco_msg.specs.declared.fault.MessageFault.{MessageFault}
use Rattle.coco_msg.specs.declared.message.Message.{Message}
use Rattle.coco_msg.specs.Bytes.{bytes_of, IsMessage}
use Rattle.coco_msg.specs.Reading.{message_in, Answers}
use Rattle.coco_msg.proofs.MessageLemmas.{message_found, message_again}
use Rattle.coco_msg.proofs.reading.read_message_in.Goals as goal

is_found : (bytes : List ℕ) (r : Result Message MessageFault) → AreBytes bytes → Answers r (message_in bytes) → IfOk r (λ m. IsMessage m × (bytes ≡ bytes_of m))
is_found bytes (Ok m) fits given = message_found bytes m fits given
is_found bytes (Err e) fits given = tt

pub returns-clause-found : goal.returns-clause-found
returns-clause-found c = is_found c.args.bytes.now c.get_message.result (λ i. omega (arith, c.type_inv.bytes i)) c.get_message.ensures

pub returns-clause-only : goal.returns-clause-only
returns-clause-only c m fits same = rw (message_again c.args.bytes.now m fits same) at c.get_message.ensures
