use Rattle.coco_shard.proofs.kept.act.Goals as goal

pub returns-in-Lock : goal.returns-in-Lock
returns-in-Lock c = rw c.in-Lock.is (c.lock.ensures c.in-Lock.field-0)

pub returns-in-Extend : goal.returns-in-Extend
returns-in-Extend c = rw c.in-Extend.is (c.extend.ensures c.in-Extend.key)

pub returns-in-Install : goal.returns-in-Install
returns-in-Install c = rw c.in-Install.is (c.install.ensures c.in-Install.key)

pub returns-in-Release : goal.returns-in-Release
returns-in-Release c = rw c.in-Release.is (c.release.ensures c.in-Release.field-0)
