use Rattle.std.proofs.Common.{sym, ap, ◌∙◌, subst, arith}
use Rattle.coco_tail.specs.Running.{AreAtTheirPlaces, requests_of}
use Rattle.coco_parallel.proofs.TailLemmas.{added, placed_more, skipped}
use Rattle.coco_parallel.proofs.tail.tail_of.Goals as goal
use Rattle.coco_parallel.proofs.tail.tail_of.Goals.{then-not-committed-place+in_ok-placed+in_ok-push, else-not-committed-place}

pub loop-place-preserved : goal.loop-place-preserved
loop-place-preserved c =
    let lt = c.loop-place-test.true in
    let count = c.requires.count in
    elim c.if-not-committed-place.branch [
      | then-not-committed-place+in_ok-placed+in_ok-push w ↦
          let more = ap (λ v. v.items) w.tail-is ∙ w.in_ok-push.ensures.items in
          record {
            left = λ x are. ap requests_of more
                ∙ added x c.loop-place.tail.items c.args.requests.now c.loop-place.place w.in_ok-placed.field-0 lt (sym (are c.loop-place.place (omega (arith, lt, count))) ∙ w.if-not-committed-place.true) w.in_ok-placed.ensures.request (c.loop-place.invariant.left x are);
            places = subst (AreAtTheirPlaces c.args.requests.now) (sym more)
                (placed_more c.args.requests.now c.loop-place.tail.items w.in_ok-placed.field-0 c.loop-place.place c.requires.distinct lt w.in_ok-placed.ensures.place w.in_ok-placed.ensures.request c.loop-place.invariant.places);
          }
      | else-not-committed-place w ↦
          record {
            left = λ x are. ap (λ v. requests_of v.items) w.tail-is
                ∙ skipped x c.loop-place.tail.items c.args.requests.now c.loop-place.place lt (sym (are c.loop-place.place (omega (arith, lt, count))) ∙ w.if-not-committed-place.false) (c.loop-place.invariant.left x are);
            places = subst (λ v. AreAtTheirPlaces c.args.requests.now v.items) (sym w.tail-is) c.loop-place.invariant.places;
          }
    ]
