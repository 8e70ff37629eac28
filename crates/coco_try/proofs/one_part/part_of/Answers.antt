use Rattle.std.proofs.Common.{◌≡◌, ◌<◌, [], length, get_or, subst, take, arith}
use Rattle.std.proofs.lemmas.List.{length-take-le}
use Rattle.coco_types.specs.declared.call.Request.{Request}
use Rattle.coco_ast.specs.Fitting.{Fits}
use Rattle.coco_batches.specs.Asking.{known_of}
use Rattle.coco_try.proofs.PartLemmas.{fit_at, part_few, part_next}
use Rattle.coco_try.proofs.one_part.part_of.Goals as goal

pub take-requires-clause-few : goal.take-requires-clause-few
take-requires-clause-few c =
    let i = c.loop-request.request-index in
    let rs = c.args.requests.now in
    let few = part_few (known_of c.args.kept.now []) (take i rs) c.loop-request.part.fresh c.loop-request.part.answered c.loop-request.invariant.classes in
    let within : i < length rs = omega arith in
    let front = length-take-le i rs in
    omega (arith, few, front, within, c.requires.few)

pub loop-request-preserved : goal.loop-request-preserved
loop-request-preserved c =
    let t = c.in_ok-take.ensures.class in
    record {
      classes = part_next c.args.kept.now c.args.requests.now c.loop-request.request-index c.request-item.result c.loop-request.part.fresh c.take.new.self.fresh c.loop-request.part.answered c.take.new.self.answered
          (omega arith) (search arith) c.loop-request.invariant.classes (record { class = t.0; is = t.1; fresh_are = t.2; answered_are = t.3 });
      new = c.in_ok-take.ensures.new;
      fit = λ procs fit.
          let is : get_or c.args.requests.now c.loop-request.request-index c.request-item.result ≡ c.request-item.result = search arith in
          c.in_ok-take.ensures.fit procs (c.loop-request.invariant.fit procs fit)
          (subst (λ (r : Request). Fits procs r.call) is (fit_at procs c.args.requests.now c.loop-request.request-index c.request-item.result (omega arith) fit));
    }
