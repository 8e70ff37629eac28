use Rattle.std.proofs.Common.{◌∙◌, subst}
use Rattle.coco_worker.specs.Trying.{HasEnded}
use Rattle.coco_worker.specs.Working.{Keeps}
use Rattle.coco_worker.proofs.ScriptLemmas.{by_ok}
use Rattle.coco_worker.proofs.WorkLemmas.{same_writes}
use Rattle.coco_worker.proofs.worker.keep.Goals as goal

pub writes-requires : goal.writes-requires
writes-requires g c = let ended = c.requires.ended in (ended.0, ended.1, subst (HasEnded ended.0 ended.1) c.in-Some.is ended.2)

pub returns-clause-kept : goal.returns-clause-kept
returns-clause-kept g c =
    let wrote = c.writes.ensures in
    by_ok c.keep_writes.result c.keep_writes.ensures.kept
    (λ kept outcome writes ended. subst (Keeps (g.N.Net.carries c.args.net.now) c.args.commit c.args.slot.now c.keep_writes.new.slot)
    (c.as_slice-writes.ensures ∙ same_writes c.args.room.now c.in-Some.attempt outcome wrote.0 writes c.writes.result.now c.in-Some.is wrote.1 ended) kept)
