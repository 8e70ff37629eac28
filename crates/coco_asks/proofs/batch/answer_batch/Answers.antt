use Rattle.std.proofs.Common.{◌≡◌, ◌∙◌, List, length, map, ap, subst, sym, arith}
use Rattle.std.specs.List.{AllByRecursion}
use Rattle.coco_types.specs.declared.call.Request.{Request}
use Rattle.coco_ast.specs.Fitting.{Fits}
use Rattle.coco_ast.specs.Meaning.{run}
use Rattle.coco_lines.specs.declared.reader.Line.{Line as Given}
use Rattle.coco_asks.specs.Asking.{Past}
use Rattle.coco_asks.specs.Sorting.{AreSorted}
use Rattle.coco_asks.proofs.SortLemmas.{sorted_few, told_are}
use Rattle.coco_asks.proofs.batch.answer_batch.Goals as goal

pub answers-answered-requires-clause-few : goal.answers-answered-requires-clause-few
answers-answered-requires-clause-few g c κs within =
    let asks = c.in_ok-refusals.field-0 in
    let many = ap (length {A = Request}) c.as_slice.ensures.value in
    let few = sorted_few c.args.procs.now c.args.lines.items asks.refusals.items asks.requests.items c.in_ok-refusals.ensures.sorted in
    omega (arith, many, few, c.requires.few)

pub answers-answered-requires-clause-fit : goal.answers-answered-requires-clause-fit
answers-answered-requires-clause-fit g c κs within = subst (AllByRecursion (λ (r : Request). Fits c.args.procs.now r.call)) (sym c.as_slice.ensures.value) c.in_ok-refusals.ensures.fit

pub returns-clause-texts : goal.returns-clause-texts
returns-clause-texts g c m n of holds is =
    let procs = c.args.procs.now in
    let refusals = c.in_ok-refusals.field-0.refusals.items in
    let requests = c.in_ok-refusals.field-0.requests.items in
    let past : Past = record { procs = procs; rows = m; epoch = c.args.bounds.epoch } in
    let replies : c.in-Ok.answered.replies.items ≡ map (λ (q : Request). (run procs q.call m).reply) requests =
    c.replies_are_runs.ensures procs c.as_slice.result.now (g.G.Gate.named c.args.gate.now) c.args.bounds.readers c.args.tables.items c.in-Ok.answered m c.requires.some c.in-Ok.ensures.read holds
    ∙ ap (map (λ (q : Request). (run procs q.call m).reply)) c.as_slice.ensures.value in
    let sorted = subst (λ (lines : List Given). AreSorted procs lines refusals requests) is c.in_ok-refusals.ensures.sorted in
    told_are past n of refusals requests c.in-Ok.answered.replies.items c.in_ok-texts.texts.items c.as_slice-2.result.now c.in_ok-dones.dones.items c.as_slice-3.result.now sorted replies
    c.in_ok-dones.ensures c.as_slice-2.ensures.value c.as_slice-3.ensures.value c.in_ok-texts.ensures
