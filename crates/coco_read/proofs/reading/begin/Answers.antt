use Rattle.std.proofs.Common.{◌≡◌, ap, Err}
use Rattle.coco_read.specs.Faults.{fault_of}
use Rattle.coco_read.specs.declared.fault.OpenFault.TheVariants.{NotAStore}
use Rattle.coco_read.proofs.Steps.{no_log_of}
use Rattle.coco_read.proofs.reading.begin.Goals as goal

pub returns-in-Err-clause-refused : goal.returns-in-Err-clause-refused
returns-in-Err-clause-refused g c other at files is told =
    let answer : fault_of c.args.file c.in-Err.fault ≡ NotAStore other at = cc (c.fault_in.ensures, is) in
    c.in-Err.ensures.refused at files (ap Err (no_log_of c.args.file c.in-Err.fault other at answer)) told
