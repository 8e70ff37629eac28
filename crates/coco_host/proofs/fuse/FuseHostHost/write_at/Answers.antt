use Rattle.std.proofs.Common.{length, ap}
use Rattle.coco_host.specs.HostState.{HostState}
use Rattle.coco_host.proofs.Events.{follows_self}
use Rattle.coco_host.proofs.fuse.FuseHostHost.write_at.Goals as goal

pub returns-then-self-eq0-clause-crash : goal.returns-then-self-eq0-clause-crash
returns-then-self-eq0-clause-crash c = follows_self c.args.file c.args.at (length c.args.from.now) c.args.self.now.inner.events c.refuse_disk.new.self.events (ap (λ (h : HostState). h.events) c.refuse_disk.ensures.rest)
