use Rattle.std.proofs.Common.{None, sym, ◌∙◌}
use Rattle.std.proofs.lemmas.Result.{err_from_is_err_and}
use Rattle.coco_bytes.specs.Lists.{items_at}
use Rattle.coco_bytes.proofs.ListLemmas.{rest_begins, rest_goes_on, rest_ends}
use Rattle.coco_msg.specs.Reading.{write_at}
use Rattle.coco_msg.proofs.Loops.{fails_with}
use Rattle.coco_msg.proofs.lists.get_each_write.Goals as goal

pub returns-in_err-write-clause-read : goal.returns-in_err-write-clause-read
returns-in_err-write-clause-read c =
    let p = err_from_is_err_and c.from_residual-in_err-write.result c.from_residual-in_err-write.ensures.1 in
    rw (p.1, p.2) (fails_with (λ _. write_at) c.loop.writes c.args.count c.loop.counter c.args.from.now c.loop.end (items_at (λ _. write_at) None c.args.count c.args.from.now c.args.at) c.in_err-write.field-0.0 c.loop-test.true c.in_err-write.ensures.read c.loop.invariant.so_far)

pub returns-clause-read : goal.returns-clause-read
returns-clause-read c = sym c.loop.invariant.so_far ∙ rest_ends (λ _. write_at) c.loop.writes c.args.count c.loop.counter c.args.from.now c.loop.end c.loop-test.false

pub loop-init : goal.loop-init
loop-init c = record {
  so_far = rest_begins (λ _. write_at) c.in_ok-writes.writes c.args.count c.args.from.now c.args.at c.in_ok-writes.ensures;
  within = c.requires;
}

pub loop-preserved : goal.loop-preserved
loop-preserved c = record {
  so_far = rest_goes_on (λ _. write_at) c.loop.writes c.push.new.self c.args.count c.loop.counter c.args.from.now c.loop.end c.in_ok-write.write c.in_ok-write.after c.loop-test.true c.in_ok-write.ensures.read c.in_ok-push.ensures.ok ∙ c.loop.invariant.so_far;
  within = c.in_ok-write.ensures.within;
}
