use Rattle.std.proofs.Common.{refl}
use Rattle.std.proofs.lemmas.Bool.{eq-eqb, ne_eqb, lt-ltb}
use Rattle.coco_bytes.specs.declared.fault.FieldFault.TheVariants.{Bad}
use Rattle.coco_msg.specs.Reading.{fields_at}
use Rattle.coco_msg.proofs.reading.get_fields.Goals as goal
use Rattle.coco_msg.proofs.reading.get_fields.Goals.{then-tag-eq0-via-then-tag-eq0, then-tag-eq0-via-else-tag-eq0+then-tag-gt11}

pub returns-then-tag-eq0-clause-read : goal.returns-then-tag-eq0-clause-read
unfolding fields_at
returns-then-tag-eq0-clause-read c =
    elim c.then-tag-eq0.branch [
      | then-tag-eq0-via-then-tag-eq0 w ↦ (Bad 0, rw (eq-eqb c.args.tag 0 w.if-tag-eq0.true) refl, refl)
      | then-tag-eq0-via-else-tag-eq0+then-tag-gt11 w ↦ (Bad 0, rw (ne_eqb c.args.tag 0 w.if-tag-eq0.false, lt-ltb 11 c.args.tag w.if-tag-gt11.true) refl, refl)
    ]
