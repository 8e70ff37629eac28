use Rattle.std.proofs.Common.{◌≡◌, ℕ, [], Err, ap, get_or, subst, ◌∙◌}
use Rattle.coco_log.specs.Grammar.{IsNoHeader}
use Rattle.coco_log.specs.Reading.{IsReading}
use Rattle.coco_read.specs.Faults.{fault_of}
use Rattle.coco_read.specs.declared.fault.OpenFault.TheVariants.{NotAStore}
use Rattle.coco_read.proofs.Steps.{no_log_of}
use Rattle.coco_store.specs.Entries.{prepared_kind}
use Rattle.coco_rebuild.specs.Sources.{file_at}
use Rattle.coco_rebuild.proofs.Reading.{has_its_header}
use Rattle.coco_rebuild.proofs.sources.begin.Goals as goal

pub returns-in-Ok-clause-ok : goal.returns-in-Ok-clause-ok
returns-in-Ok-clause-ok g c files told =
    let number = get_or c.as_slice.result.now c.from.result 0 in
    let stands : number ≡ file_at c.args.layout.now c.args.node = cc (c.as_slice.ensures, c.from.ensures) in
    subst (λ (n : ℕ). IsReading c.in-Ok.entries [] (files n)) (c.in-Ok.ensures.of.in_file ∙ stands) (c.in-Ok.ensures.ok files told).reading

pub returns-in-Err-clause-kept : goal.returns-in-Err-clause-kept
returns-in-Err-clause-kept g c file at all files told are is =
    let number = get_or c.as_slice.result.now c.from.result 0 in
    let stands : number ≡ file_at c.args.layout.now c.args.node = cc (c.as_slice.ensures, c.from.ensures) in
    let answer : fault_of number c.in-Err.fault ≡ NotAStore file at = cc (c.fault_in.ensures, is) in
    has_its_header all (files (file_at c.args.layout.now c.args.node)) at are
    (subst (λ (n : ℕ). IsNoHeader prepared_kind (files n) at) stands (c.in-Err.ensures.refused at files (ap Err (no_log_of number c.in-Err.fault file at answer)) told))
