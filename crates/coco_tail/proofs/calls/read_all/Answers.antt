use Rattle.std.proofs.Common.{◌<◌, ◌≤◌, List, length, max, refl, sym, subst, ◌∙◌, arith}
use Rattle.coco_shard.specs.RowState.{RowState, ShardState}
use Rattle.coco_shard.specs.Table.{extended}
use Rattle.coco_tail.specs.Shards.{AreQuietAfter, HaveNewest, KeepStable, row_in}
use Rattle.coco_tail.proofs.RunLemmas.{came_to, has_given, is_given}
use Rattle.coco_tail.proofs.ShardLemmas.{keeps_on, kept_set, newest_stay, quiet_set}
use Rattle.coco_tail.proofs.calls.read_all.Goals as goal

pub loop-key-smaller : goal.loop-key-smaller
loop-key-smaller c = (is_given c.loop-key.running c.next_key.new.self c.give_lent.new.self c.in-Some.key _ c.next_key.ensures.others c.in-Some.ensures.key c.next_key.ensures.few (c.give_lent.ensures c.in-Some.key c.in-Some.ensures.key)).fewer

pub loop-key-preserved : goal.loop-key-preserved
loop-key-preserved c =
    let before = c.loop-key.invariant in
    let next = is_given c.loop-key.running c.next_key.new.self c.give_lent.new.self c.in-Some.key _ c.next_key.ensures.others c.in-Some.ensures.key c.next_key.ensures.few (c.give_lent.ensures c.in-Some.key c.in-Some.ensures.key) in
    let row : RowState = extended c.args.time (row_in c.loop-key.shards c.in-Some.key) in
    let some : 0 < length c.loop-key.shards = omega (arith, c.requires.some, c.loop-key.invariant.kept.count) in
    let early : (row_in c.loop-key.shards c.in-Some.key).rts ≤ c.args.time = before.quiet.until c.in-Some.key in
    let until : max (row_in c.loop-key.shards c.in-Some.key).rts c.args.time ≤ c.args.time = omega arith in
    let read = c.in_ok-value-in-Some.ensures in
    record {
      procs = next.procs ∙ before.procs;
      call = next.call_same ∙ before.call;
      ready = next.ready;
      given = λ m newest. has_given _ _ c.in-Some.key _ m next (c.as_ref.ensures.value ∙ read.value ∙ before.newest m newest c.in-Some.key) (before.given m newest);
      newest = λ m newest. subst (λ (z : List ShardState). HaveNewest m z) (sym read.ok) (newest_stay c.loop-key.shards c.in-Some.key row some refl m (before.newest m newest));
      quiet = subst (AreQuietAfter c.args.time) (sym read.ok) (quiet_set c.loop-key.shards c.in-Some.key row some c.args.time (before.quiet.unmarked c.in-Some.key) until before.quiet);
      kept = keeps_on c.args.shards.now c.loop-key.shards c.read_key.new.shards before.kept
          (subst (KeepStable c.loop-key.shards) (sym read.ok) (kept_set c.loop-key.shards c.in-Some.key row some refl before.kept.partitions));
    }

pub returns-in-None-clause-run : goal.returns-in-None-clause-run
returns-in-None-clause-run c m newest =
    came_to c.loop-key.running c.next_key.new.self _ _ m c.in-None.ensures.key.0 c.in-None.ensures.key.1 c.next_key.ensures.others c.in-None.ensures.key.2 c.next_key.ensures.sound
    c.loop-key.invariant.procs c.loop-key.invariant.call (c.loop-key.invariant.given m newest)
