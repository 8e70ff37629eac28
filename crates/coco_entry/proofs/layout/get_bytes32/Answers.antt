use Rattle.std.proofs.Common.{refl}
use Rattle.std.proofs.lemmas.Bool.{lt-ltb}
use Rattle.coco_bytes.specs.declared.fault.FieldFault.TheVariants.{Short}
use Rattle.coco_entry.specs.Grammar.{bytes32_at}
use Rattle.coco_entry.proofs.layout.get_bytes32.Goals as goal

pub returns-then-from-start-clause-read : goal.returns-then-from-start-clause-read
unfolding bytes32_at
returns-then-from-start-clause-read c = (Short c.args.at, rw (← c.in_ok-len.ensures.read, lt-ltb _ _ c.if-from-start.true) refl, refl)
