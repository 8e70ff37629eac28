use Rattle.std.proofs.Common.{◌≡◌, ℕ, [], List, length, slice_index_or, sym, ap, ◌∙◌, arith}
use Rattle.std.proofs.lemmas.List.{get_or_default}
use Rattle.coco_types.specs.declared.call.Request.{Request}
use Rattle.coco_order.specs.Execution.{concat}
use Rattle.coco_parallel.specs.Ends.{ends_at}
use Rattle.coco_parallel.specs.Epochs.{execution_with}
use Rattle.coco_parallel.proofs.ToldLemmas.{ends_still, told_nothing, told_one, told_skip}
use Rattle.coco_parallel.proofs.tail.told_tail.Goals as goal
use Rattle.coco_parallel.proofs.tail.told_tail.Goals.{then-not-committed-place+in_ok-push, else-not-committed-place}

pub returns-then-are_all : goal.returns-then-are_all
returns-then-are_all c = λ journals are. c.new-tail.ensures ∙ told_nothing (execution_with journals c.args.transcripts.now) c.args.requests.now c.args.committed.now c.requires.count (c.are_all.ensures c.if-are_all.true) are

pub loop-place-preserved : goal.loop-place-preserved
loop-place-preserved c =
    let lt = c.loop-place-test.true in
    let count = c.requires.count in
    let before = c.loop-place.invariant in
    elim c.if-not-committed-place.branch [
      | then-not-committed-place+in_ok-push w ↦
          let place : ℕ = c.loop-place.place in
          let requests : List Request = c.args.requests.now in
          let r : Request = slice_index_or requests place w.index-requests-place.result in
          let ok = c.loop-place.ends.ok.0 in
          let taken : w.replace.result ≡ ends_at place (concat c.args.transcripts.now) =
          w.replace.ensures.value ∙ w.index_mut.ensures.value ∙ get_or_default c.loop-place.ends.items place w.index_mut.result.now [] (omega (arith, lt, ok, before.count)) ∙ before.ends place (omega arith) lt in
          record {
            count = ap (λ v. v.len) w.ends-is ∙ before.count;
            ends = λ q le below. ap (λ v. slice_index_or v.items q []) w.ends-is ∙ ends_still c.loop-place.ends.items (concat c.args.transcripts.now) (length requests) place w.replace.new.dest before.ends q le below;
            tail = λ journals are. w.tail-is ∙ w.in_ok-push.ensures.ok
                ∙ told_one (execution_with journals c.args.transcripts.now) c.loop-place.tail requests place r w.replace.result lt (sym (are place (omega (arith, lt, count))) ∙ w.if-not-committed-place.true) (get_or_default requests place w.index-requests-place.result r lt) taken (before.tail journals are);
          }
      | else-not-committed-place w ↦ record {
        count = ap (λ v. v.len) w.ends-is ∙ before.count;
        ends = λ q le below. ap (λ v. slice_index_or v.items q []) w.ends-is ∙ before.ends q (omega (arith, le)) below;
        tail = λ journals are. w.tail-is
            ∙ told_skip (execution_with journals c.args.transcripts.now) c.loop-place.tail c.args.requests.now c.loop-place.place lt (sym (are c.loop-place.place (omega (arith, lt, count))) ∙ w.if-not-committed-place.false) (before.tail journals are);
      }
    ]
