use Rattle.std.proofs.Common.{refl}
use Rattle.coco_bytes.specs.declared.fault.FieldFault.TheVariants.{Bad}
use Rattle.coco_msg.specs.Reading.{place_at}
use Rattle.coco_msg.proofs.lists.get_place.Goals as goal

pub returns-else-is_above-clause-read : goal.returns-else-is_above-clause-read
unfolding place_at
returns-else-is_above-clause-read c = (Bad c.args.at, rw (← c.in_ok-place.ensures.read, ← c.if-is_above.ensures) refl, refl)
