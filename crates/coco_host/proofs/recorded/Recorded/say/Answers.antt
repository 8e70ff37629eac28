use Rattle.std.proofs.Common.{rules, ◌≡◌, ap, arith}
use Rattle.coco_host.specs.Record.Event.{Said}
use Rattle.coco_host.proofs.Keeping.{keeps_said}
use Rattle.coco_host.proofs.recorded.Recorded.say.Goals as goal

pub invariant_of-self-2 : goal.invariant_of-self-2
invariant_of-self-2 c =
    let same : c.in_ok-copy.copy.items ≡ c.args.bytes.now = search rules in
    keeps_said c.self.inside.happened c.reserve.new.self c.push.new.self c.self.inside.files.items c.self.inside.said.items _ c.args.bytes.now _ _ _
    c.self.invariant c.reserve.ensures.items c.in_ok-reserve.ensures.ok (omega (arith, c.len.ensures, c.self.inside.files.ok.0))
    c.push.ensures.items c.push.ensures.capacity (c.push.ensures.succeeds (omega (arith, c.in_ok-reserve.ensures.ok)))
    (ap Said same) c.in_ok-extend_from_slice.ensures.items
