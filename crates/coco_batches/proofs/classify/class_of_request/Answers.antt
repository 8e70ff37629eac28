use Rattle.coco_ast.specs.History.{request_of}
use Rattle.coco_batches.proofs.ClassLemmas.{kept_known, known_once, reused_class, same_class}
use Rattle.coco_batches.proofs.classify.class_of_request.Goals as goal

pub returns-in-Same-clause-class : goal.returns-in-Same-clause-class
returns-in-Same-clause-class c =
    let k = c.args.kept.now in
    let found = c.in-Same.ensures in
    same_class k c.args.fresh.now c.args.request (request_of found.0) (kept_known c.args.request.id k.dones c.args.fresh.now found.0 found.1) found.2

pub returns-in-Reused-clause-class : goal.returns-in-Reused-clause-class
returns-in-Reused-clause-class c =
    let k = c.args.kept.now in
    let found = c.in-Reused.ensures in
    reused_class k c.args.fresh.now c.args.request (request_of found.0) (known_once k c.args.fresh.now c.len-held.ensures.distinct c.requires)
    (kept_known c.args.request.id k.dones c.args.fresh.now found.0 found.1) found.2
