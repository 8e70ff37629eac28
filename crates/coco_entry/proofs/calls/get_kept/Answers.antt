use Rattle.std.proofs.Common.{refl}
use Rattle.coco_bytes.specs.declared.fault.FieldFault.TheVariants.{Bad}
use Rattle.coco_entry.specs.Calls.{reply_at}
use Rattle.coco_entry.proofs.CallLemmas.{no_reply}
use Rattle.coco_entry.proofs.calls.get_kept.Goals as goal

pub returns-clause-read : goal.returns-clause-read
unfolding reply_at
returns-clause-read c = (Bad c.args.at, rw (← c.in_ok-kind.ensures.read) (no_reply c.in_ok-kind.kind c.args.at c.args.from.now c.in_ok-kind.next c.if-kind-eq0.false c.if-kind-eq1.false), refl)
