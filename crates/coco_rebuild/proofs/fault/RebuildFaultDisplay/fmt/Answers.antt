use Rattle.coco_rebuild.proofs.fault.RebuildFaultDisplay.fmt.Goals as goal

pub returns-in-NotAStore-clause-writes : goal.returns-in-NotAStore-clause-writes
returns-in-NotAStore-clause-writes g c plain ok = rw c.in-NotAStore.is (c.write.ensures.writes plain ok)

pub returns-in-NoNode-clause-writes : goal.returns-in-NoNode-clause-writes
returns-in-NoNode-clause-writes g c plain ok = rw c.in-NoNode.is (c.write-in-NoNode.ensures.writes plain ok)

pub returns-in-NoHolder-clause-writes : goal.returns-in-NoHolder-clause-writes
returns-in-NoHolder-clause-writes g c plain ok = rw c.in-NoHolder.is (c.write-in-NoHolder.ensures.writes plain ok)
