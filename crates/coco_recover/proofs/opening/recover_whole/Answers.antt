use Rattle.coco_store.proofs.Refusing.{refused_is_none}
use Rattle.coco_recover.proofs.opening.recover_whole.Goals as goal

pub returns-clause-ok : goal.returns-clause-ok
returns-clause-ok g c = c.recover_with.ensures.ok

-- files that hold a store are not refused
pub returns-clause-kept : goal.returns-clause-kept
returns-clause-kept g c file at files d told held is = refused_is_none files file at (c.recover_with.ensures.refused file at files is told) d held
