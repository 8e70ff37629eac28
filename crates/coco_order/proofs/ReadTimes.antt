-- No read time at the journals' ends is above the number of scripts.
use Rattle.std.proofs.Common.{◌≡◌, inl, inr, ℕ, ◌≤◌, List, [], length, sym, ap, subst, arith}
use Rattle.coco_ast.specs.Keyed.{value_at}
use Rattle.coco_shard.specs.RowState.{RowState, resting}
use Rattle.coco_shard.specs.Law.{Entry, read_time}
use Rattle.coco_order.specs.OneKey.{on, walk}
use Rattle.coco_order.specs.Execution.{InEachExecution, journal_on, concat}
use Rattle.coco_order.specs.Laws.{ReadsAreFew}
use Rattle.coco_order.proofs.LawRows.{law_walk, lawful_told}
use Rattle.coco_order.proofs.Orderly.{orderly}
use Rattle.coco_order.proofs.Times.{rts_from, raised_few}

pub reads_are_few : InEachExecution ReadsAreFew
reads_are_few b x is k =
    let row : RowState = resting (value_at b.opening k) in
    let es : List Entry = on k (journal_on b x k) in
    let at_end : read_time k (journal_on b x k) ≡ (walk row es).rts =
    ap (λ (r : RowState). r.rts) (law_walk (value_at b.opening) k [] (journal_on b x k) (lawful_told (value_at b.opening) (journal_on b x k) (orderly b x is k).lawful)) in
    elim (rts_from row es) [
      | inl first ↦ (let none : (walk row es).rts ≡ 0 = first in omega arith)
      | inr found ↦ subst (λ (n : ℕ). n ≤ length (concat x.transcripts)) (sym at_end) (raised_few b x is k found.0 (walk row es).rts found.1 found.2)
    ]
