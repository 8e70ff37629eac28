use Rattle.std.proofs.Common.{length, refl}
use Rattle.std.proofs.lemmas.Bool.{ne_eqb}
use Rattle.coco_bytes.specs.declared.fault.FieldFault.TheVariants.{Bad}
use Rattle.coco_msg.specs.Reading.{message_in}
use Rattle.coco_msg.proofs.reading.get_message.Goals as goal

pub returns-else-bytes-end : goal.returns-else-bytes-end
unfolding message_in
returns-else-bytes-end c =
    (Bad c.in_ok-message.end, rw (← c.in_ok-tag.ensures.read, c.in_ok-message.ensures.read, ne_eqb (length c.args.bytes.now) c.in_ok-message.end c.if-bytes-end.false) refl, refl)
