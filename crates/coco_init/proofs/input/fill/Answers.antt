use Rattle.std.proofs.Common.{rules, ◌∙◌, ◌-◌, length}
use Rattle.coco_init.proofs.InputLemmas.{gives_front}
use Rattle.coco_init.proofs.input.fill.Goals as goal

pub reads-preserved : goal.reads-preserved
reads-preserved g c = record {
  within = search rules;
  gives = gives_front _ _ _ c.reads.count (length c.reads.into - c.reads.count) c.in-Ok.more c.reads.into c.read.new.into c.reads.invariant.within c.in-Ok.ensures.count
      c.reads.invariant.gives (record { given = c.in-Ok.ensures.gives; left = c.in-Ok.ensures.bytes });
  counts = c.in-Ok.ensures.counts ∙ c.reads.invariant.counts;
}
