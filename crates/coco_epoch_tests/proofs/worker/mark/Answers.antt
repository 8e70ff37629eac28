use Rattle.std.proofs.Common.{sym, ap, ◌∙◌, arith}
use Rattle.coco_desks.proofs.GainLemmas.{lock_at}
use Rattle.coco_seen.specs.Notes.{Lock}
use Rattle.coco_epoch_tests.proofs.worker.mark.Goals as goal

pub step-requires : goal.step-requires
step-requires g c =
    lock_at c.args.locks.now c.args.passes.now _ c.index-passes-place.result c.index-locks-place.result c.requires.of (omega (arith, c.requires.some)) ∙ ap (λ (l : Lock). l.id) (sym c.index-locks-place.is)
