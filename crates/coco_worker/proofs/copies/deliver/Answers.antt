use Rattle.std.proofs.Common.{[], List, take, refl, sym, ◌∙◌, subst, arith}
use Rattle.std.proofs.lemmas.List.{take_all}
use Rattle.coco_types.specs.declared.call.Write.{Write}
use Rattle.coco_desks.specs.Gains.{Gain}
use Rattle.coco_desks.proofs.GainLemmas.{gain_as, gain_none, still_of}
use Rattle.coco_worker.specs.Copying.{asked, puts_at}
use Rattle.coco_worker.proofs.CopyLemmas.{delivered_more, puts_none}
use Rattle.coco_worker.proofs.copies.deliver.Goals as goal

pub put_write-requires-clause-locks : goal.put_write-requires-clause-locks
put_write-requires-clause-locks g c = still_of c.args.copies.now c.args.passes.now c.loop-write.passes c.requires.locks c.loop-write.invariant.same

pub loop-write-init : goal.loop-write-init
loop-write-init g c = record {
  same = refl;
  copied = gain_as asked c.args.passes.now c.args.passes.now (λ _. []) (λ table. puts_at (g.N.Net.carries c.args.net.now) c.args.commit table (take 0 c.args.writes.now)) (gain_none asked c.args.passes.now)
      (λ table _. sym (puts_none (g.N.Net.carries c.args.net.now) c.args.commit table));
}

pub loop-write-preserved : goal.loop-write-preserved
loop-write-preserved g c = record {
  same = c.put_write.ensures.same ∙ c.loop-write.invariant.same;
  copied = delivered_more (g.N.Net.carries c.args.net.now) c.args.commit c.args.writes.now c.loop-write.write-index c.write-item.result c.args.passes.now c.loop-write.passes c.put_write.new.passes c.loop-write-test.true
      c.write-item.is c.loop-write.invariant.same c.loop-write.invariant.copied c.in_ok-put_write.ensures.copied;
}

pub returns-clause-copied : goal.returns-clause-copied
returns-clause-copied g c =
    subst (λ (ws : List Write). Gain asked c.args.passes.now c.loop-write.passes (λ table. puts_at (g.N.Net.carries c.args.net.now) c.args.commit table ws))
    (take_all c.loop-write.write-index c.args.writes.now (omega (arith, c.loop-write-test.false))) c.loop-write.invariant.copied
