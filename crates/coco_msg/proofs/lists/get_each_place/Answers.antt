use Rattle.std.proofs.Common.{refl, None, sym, ◌∙◌}
use Rattle.std.proofs.lemmas.Result.{err_from_is_err_and}
use Rattle.coco_bytes.specs.Lists.{items_at}
use Rattle.coco_bytes.proofs.ListLemmas.{rest_begins, rest_goes_on, rest_ends, last_item-push}
use Rattle.coco_msg.specs.Reading.{place_at}
use Rattle.coco_msg.proofs.Loops.{fails_with}
use Rattle.coco_msg.proofs.lists.get_each_place.Goals as goal

pub returns-in_err-place-clause-read : goal.returns-in_err-place-clause-read
returns-in_err-place-clause-read c =
    let p = err_from_is_err_and c.from_residual.result c.from_residual.ensures.1 in
    rw (p.1, p.2) (fails_with place_at c.loop.places c.args.count c.loop.counter c.args.from.now c.loop.end (items_at place_at None c.args.count c.args.from.now c.args.at) c.in_err-place.field-0.0 c.loop-test.true (rw (← c.loop.invariant.last) c.in_err-place.ensures.read) c.loop.invariant.so_far)

pub returns-clause-read : goal.returns-clause-read
returns-clause-read c = sym c.loop.invariant.so_far ∙ rest_ends place_at c.loop.places c.args.count c.loop.counter c.args.from.now c.loop.end c.loop-test.false

pub loop-init : goal.loop-init
loop-init c = record {
  so_far = rest_begins place_at c.new-places.result c.args.count c.args.from.now c.args.at c.new-places.ensures;
  last = rw c.new-places.ensures refl;
  within = c.requires;
}

pub loop-preserved : goal.loop-preserved
loop-preserved c = record {
  so_far = rest_goes_on place_at c.loop.places c.push.new.self c.args.count c.loop.counter c.args.from.now c.loop.end c.in_ok-place.place c.in_ok-place.after c.loop-test.true (rw (← c.loop.invariant.last) c.in_ok-place.ensures.read) c.in_ok-push.ensures.ok ∙ c.loop.invariant.so_far;
  last = rw c.in_ok-push.ensures.ok (sym (last_item-push c.loop.places c.in_ok-place.place));
  within = c.in_ok-place.ensures.within;
}
