use Rattle.coco_read.proofs.fault.OpenFaultDisplay.fmt.Goals as goal

pub returns-in-NotAStore-clause-writes : goal.returns-in-NotAStore-clause-writes
returns-in-NotAStore-clause-writes g c plain ok = rw c.in-NotAStore.is (c.write.ensures.writes plain ok)
