use Rattle.std.proofs.Common.{◌≤◌, length, sym, ap, subst, arith, lit≤}
use Rattle.coco_types.specs.Limits.{most_batch_lines, most_input_bytes}
use Rattle.coco_types.specs.declared.call.Request.{Request}
use Rattle.coco_cluster.specs.Turning.{MayTurn}
use Rattle.coco_commands.proofs.ServingLemmas.{few_new}
use Rattle.coco_lines.proofs.ClassLemmas.{classes_length}
use Rattle.coco_lines.specs.ReaderState.{ReaderState}
use Rattle.coco_command_tests.proofs.turns.request_of.Goals as goal

pub read_batch-requires-clause-given : goal.read_batch-requires-clause-given
read_batch-requires-clause-given c = subst (λ (r : ReaderState). r.given ≤ most_input_bytes) (sym c.new-reader.ensures) (lit≤ tt)

pub returns : goal.returns
returns c =
    let r = c.in_ok-batch.ensures.batch in
    let may = c.in_ok-batch.ensures.new in
    let few = few_new r.taking.classes in
    let fresh = ap (length {A = Request}) r.taking.fresh in
    let counted = classes_length _ _ r.taking.lines r.taking.classes r.taking.are in
    subst (MayTurn c.args.cluster.now) (sym c.in_ok-into_requests.ensures)
    (record { fit = may.fit; distinct = may.new.distinct; unkept = may.new.absent; above = may.new.above; few = omega (arith, few, fresh, counted, r.taking.as_many, r.few) })
