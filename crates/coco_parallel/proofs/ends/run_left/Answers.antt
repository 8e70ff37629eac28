use Rattle.std.proofs.Common.{List, sym, ◌∙◌, subst}
use Rattle.std.proofs.lemmas.Bool.{eqb-true}
use Rattle.std.proofs.lemmas.List.{append-nil, nil_from_length}
use Rattle.coco_tail.specs.declared.placed.PlacedRequest.{PlacedRequest}
use Rattle.coco_parallel.specs.Ends.{RanTail}
use Rattle.coco_parallel.proofs.TakenLemmas.{some_greatest}
use Rattle.coco_parallel.proofs.ends.run_left.Goals as goal

pub returns-then-is_empty-clause-ran : goal.returns-then-is_empty-clause-ran
returns-then-is_empty-clause-ran c =
    let tail = c.args.tail in
    let progress = c.args.progress.now in
    let shards = c.args.shards.now in
    let none = nil_from_length tail.items (sym tail.ok.0 ∙ eqb-true tail.len 0 (sym c.is_empty.ensures ∙ c.if-is_empty.true)) in
    let greatest = some_greatest shards in
    subst (λ (ps : List PlacedRequest). RanTail c.args.procs.now progress.epoch ps shards shards progress.dones.items progress.dones.items progress.pieces progress.pieces) (sym none) (record {
      most = greatest.0;
      greatest = greatest.1;
      dones_are = λ rows newest. sym (append-nil progress.dones.items);
      pieces_are = λ rows asked newest places. sym (append-nil progress.pieces);
      newest = λ rows newest. newest;
    })
