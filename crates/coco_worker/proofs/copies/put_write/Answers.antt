use Rattle.std.proofs.Common.{[], ◌∷◌, refl, sym, ◌∙◌, arith}
use Rattle.coco_desks.proofs.GainLemmas.{gain_as, gain_none, still_of}
use Rattle.coco_worker.specs.Copying.{asked}
use Rattle.coco_worker.proofs.CopyLemmas.{below_none, copied_more, puts_below}
use Rattle.coco_worker.proofs.copies.put_write.Goals as goal

pub put_copy-requires-clause-partition : goal.put_copy-requires-clause-partition
put_copy-requires-clause-partition g c = omega (arith, c.partition-partition.ensures.within, c.from.ensures)

pub put_copy-requires-clause-locks : goal.put_copy-requires-clause-locks
put_copy-requires-clause-locks g c = still_of c.args.copies.now c.args.passes.now c.loop-copy.passes c.requires.locks c.loop-copy.invariant.same

pub loop-copy-init : goal.loop-copy-init
loop-copy-init g c = record {
  same = refl;
  copied = gain_as asked c.args.passes.now c.args.passes.now (λ _. []) (λ table. puts_below 0 (g.N.Net.carries c.args.net.now) c.args.commit table (c.args.write.now ∷ [])) (gain_none asked c.args.passes.now)
      (λ table _. sym (below_none (g.N.Net.carries c.args.net.now) c.args.commit table (c.args.write.now ∷ [])));
}

pub loop-copy-preserved : goal.loop-copy-preserved
loop-copy-preserved g c =
    let before = c.loop-copy.invariant in
    record {
      same = c.put_copy.ensures.same ∙ before.same;
      copied = copied_more (g.N.Net.carries c.args.net.now) c.args.commit c.args.write.now c.loop-copy.copy c.partition-partition.result c.from.result c.args.passes.now c.loop-copy.passes c.put_copy.new.passes
          (omega (arith, c.loop-copy-test.true, c.from-copy-end.ensures)) c.partition-partition.ensures.is c.from.ensures before.same before.copied c.in_ok-put_copy.ensures.copied;
    }
