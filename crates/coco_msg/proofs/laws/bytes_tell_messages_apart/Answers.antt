use Rattle.std.proofs.Common.{◌≡◌, Result, Ok, Err, refl, sym, ◌∙◌}
use Rattle.coco_bytes.specs.declared.fault.FieldFault.{FieldFault}
use Rattle.coco_msg.specs.declared.message.Message.{Message}
use Rattle.coco_msg.specs.Bytes.{bytes_of}
use Rattle.coco_msg.proofs.MessageLemmas.{message_again}
use Rattle.coco_msg.proofs.laws.bytes_tell_messages_apart.Goals as goal

same_ok : (a b : Message) → ◌≡◌ {A = Result Message FieldFault} (Ok a) (Ok b) → a ≡ b
same_ok a b is = cc

-- both are what reading gives of the bytes
pub returns : goal.returns
returns c a b is_a is_b same = same_ok a b (sym (message_again (bytes_of a) a is_a refl) ∙ message_again (bytes_of a) b is_b same)
