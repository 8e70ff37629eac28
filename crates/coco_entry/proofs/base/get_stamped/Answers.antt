use Rattle.std.proofs.Common.{refl}
use Rattle.coco_bytes.specs.declared.fault.FieldFault.TheVariants.{Bad}
use Rattle.coco_entry.specs.Bases.{stamped_at}
use Rattle.coco_entry.proofs.base.get_stamped.Goals as goal

pub returns-else-rises-clause-read : goal.returns-else-rises-clause-read
unfolding stamped_at
returns-else-rises-clause-read c = (Bad c.args.at, rw (← c.in_ok-epoch.ensures.read, c.in_ok-timed.ensures.read, ← c.if-rises.ensures) refl, refl)
