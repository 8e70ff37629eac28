use Rattle.std.proofs.Common.{length, refl}
use Rattle.std.proofs.lemmas.Bool.{ne_eqb}
use Rattle.coco_bytes.specs.declared.fault.FieldFault.TheVariants.{Bad}
use Rattle.coco_entry.specs.Grammar.{whole}
use Rattle.coco_entry.proofs.fields.whole.Goals as goal

pub returns-else-body-end : goal.returns-else-body-end
unfolding whole
returns-else-body-end g c = (Bad c.args.end, rw (ne_eqb (length c.args.body.now) c.args.end c.if-body-end.false) refl, refl)
