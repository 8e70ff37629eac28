use Rattle.std.proofs.Common.{◌++◌, [], List, ℕ, length, sym, ap, ◌∙◌, subst, arith}
use Rattle.std.specs.List.Sorted.{IsPermutation}
use Rattle.std.proofs.lemmas.List.{length-map}
use Rattle.coco_types.specs.declared.call.Done.{Done}
use Rattle.coco_types.specs.declared.call.Piece.{Piece}
use Rattle.coco_types.specs.declared.call.Request.{Request}
use Rattle.coco_ast.specs.Fitting.{Fits}
use Rattle.coco_tail.specs.Pieces.{pieces_of}
use Rattle.coco_tail.specs.Running.{FitAll, requests_of}
use Rattle.coco_tail.specs.Shards.{HaveNewest}
use Rattle.coco_tail.specs.declared.placed.PlacedRequest.{PlacedRequest}
use Rattle.coco_order.specs.Execution.{Beginning, Execution}
use Rattle.coco_order.specs.Outcome.{tail_dones, tail_requests, tail_rows}
use Rattle.coco_parallel.specs.Ends.{IsEnd}
use Rattle.coco_parallel.specs.Epochs.{execution_with, started_with}
use Rattle.coco_parallel.proofs.TailLemmas.{all_left_over, few_left_over}
use Rattle.coco_parallel.proofs.TakenLemmas.{order_left}
use Rattle.coco_parallel.proofs.ends.end_epoch.Goals as goal

pub run_left-requires-clause-fit : goal.run_left-requires-clause-fit
run_left-requires-clause-fit c =
    let x : Execution = execution_with [] c.args.transcripts.now in
    subst (FitAll c.args.procs.now) (sym (c.in_ok-tail.ensures.requests [])) (all_left_over x (λ (r : Request). Fits c.args.procs.now r.call) 0 c.args.requests.now c.requires.fit)

pub run_left-requires-clause-few : goal.run_left-requires-clause-few
run_left-requires-clause-few c =
    let count = length-map c.in_ok-tail.tail.items (λ (p : PlacedRequest). p.request) in
    let same = ap length (c.in_ok-tail.ensures.requests []) in
    let fewer = few_left_over (execution_with [] c.args.transcripts.now) 0 c.args.requests.now in
    let few = c.requires.few in
    omega (arith, count, same, fewer, few)

pub returns-clause-tail : goal.returns-clause-tail
returns-clause-tail c = c.in_ok-tail.ensures.told

pub returns-clause-end : goal.returns-clause-end
returns-clause-end c = λ opening journals.
    let first : List Request = c.args.requests.now in
    let b : Beginning = started_with c.args.procs.now opening first c.args.shards.now c.args.config in
    let x : Execution = execution_with journals c.args.transcripts.now in
    let epoch : ℕ = c.args.config.epoch in
    let taken = c.in_ok-progress.ensures in
    let ran = c.in_ok-run_left.ensures.ran in
    let most : ℕ = ran.most in
    let tail = c.in_ok-tail.ensures.requests journals in
    let ids = taken.left.ids in
    subst (λ (ds : List Done). IsEnd b epoch x c.args.lists.items c.args.shards.now c.run_left.new.shards ds c.from_vec-2.result) (sym c.from_vec.ensures)
    (subst (λ (ps : List Piece). IsEnd b epoch x c.args.lists.items c.args.shards.now c.run_left.new.shards c.ordered.result.items ps) (sym c.from_vec-2.ensures) (record {
      commits = c.in_ok-progress.progress.dones.items;
      most = most;
      commits_are = record { same = taken.same; order = taken.order };
      greatest = ran.greatest;
      tail = λ rows newest.
          let told = ap (λ (n : ℕ). tail_dones c.args.procs.now n rows most (requests_of c.in_ok-tail.tail.items)) taken.epoch ∙ ap (tail_dones c.args.procs.now epoch rows most) tail in
          record {
            same = subst (λ (ds : List Done). IsPermutation ds c.ordered.result.items)
                (ran.dones_are rows newest ∙ ap (λ (ds : List Done). c.in_ok-progress.progress.dones.items ++ ds) told) c.ordered.ensures.same;
            pieces = subst (λ (ps : List Piece). IsPermutation ps c.in_done_order-pieces.result.items)
                (c.into_vec.ensures ∙ ran.pieces_are rows first newest c.in_ok-tail.ensures.places
                ∙ ap (λ (ds : List Done). c.in_ok-progress.progress.pieces ++ pieces_of c.args.procs.now (length c.args.shards.now) first rows ds) told
                ∙ ap (λ (ps : List Piece). ps ++ pieces_of c.args.procs.now (length c.args.shards.now) first rows (tail_dones c.args.procs.now epoch rows most (tail_requests b x))) taken.pieces)
                c.in_done_order-pieces.ensures.same;
            newest = subst (λ (rs : List Request). HaveNewest (tail_rows c.args.procs.now rows rs) c.run_left.new.shards) tail (ran.newest rows newest);
          };
      order = c.ordered.ensures.order;
      pieces_order = order_left first c.take_all.new.requests c.in_done_order-pieces.result.items ids c.in_done_order-pieces.ensures.order;
    }))
