use Rattle.std.proofs.Common.{◌∷◌, [], List, Some, sym, ap, ◌∙◌, subst}
use Rattle.coco_desks.proofs.GainLemmas.{still_of}
use Rattle.coco_occ.specs.Steps.{at_shard}
use Rattle.coco_occ.specs.Trying.{Trying}
use Rattle.coco_occ.specs.declared.script.Step.{Step}
use Rattle.coco_worker.specs.Gains.{Make}
use Rattle.coco_worker.proofs.ScriptLemmas.{below_shards, ended_script, made_on, moved_left, same_script, took_left, took_script}
use Rattle.coco_worker.proofs.steps.run_attempt.Goals as goal

pub ask_shard-requires-clause-below : goal.ask_shard-requires-clause-below
ask_shard-requires-clause-below g c shard ask waits =
    below_shards c.loop.attempt c.go_on.new.self _ shard ask (ap (λ (t : Trying). t.partitions) c.loop.invariant.left ∙ c.requires.partitions) c.requires.some
    c.go_on.ensures.others c.go_on.ensures.sound waits

pub ask_shard-requires-clause-locks : goal.ask_shard-requires-clause-locks
ask_shard-requires-clause-locks g c = still_of c.args.shards.now c.args.passes.now c.loop.passes c.requires.locks c.loop.invariant.same

pub loop-preserved : goal.loop-preserved
loop-preserved g c =
    let before = c.loop.invariant in
    let asked = c.in_ok-ask_shard.ensures.step in
    let step : Step = record { shard = asked.0; ask = asked.1; answer = asked.2 } in
    record {
      left = took_left c.args.attempt.now c.loop.attempt c.go_on.new.self c.ask_shard.new.attempt _ before.left c.go_on.ensures.others asked.3;
      same = c.ask_shard.ensures.same ∙ before.same;
      made = made_on c.args.passes.now c.loop.passes c.ask_shard.new.passes c.loop.attempt.script (step ∷ []) c.ask_shard.new.attempt.script before.same before.made asked.4
          (took_script c.loop.attempt c.go_on.new.self c.ask_shard.new.attempt step c.go_on.ensures.others asked.3);
    }

pub returns-then-not-go_on-clause-ran : goal.returns-then-not-go_on-clause-ran
returns-then-not-go_on-clause-ran g c =
    let script : List Step = c.go_on.new.self.script in
    let left = moved_left c.args.attempt.now c.loop.attempt c.go_on.new.self c.loop.invariant.left c.go_on.ensures.others in
    record {
      script = script;
      standing = c.go_on.new.self.standing;
      left = ap Some left;
      ended = c.go_on.ensures.ended c.if-not-go_on.true;
      whole = λ outcome writes ended. ended_script c.args.attempt.now c.go_on.new.self script outcome writes left c.go_on.ensures.sound ended;
      made = subst (λ (xs : List Step). Make c.args.passes.now c.loop.passes (λ shard. at_shard shard xs)) (sym (same_script c.loop.attempt c.go_on.new.self c.go_on.ensures.others)) c.loop.invariant.made;
    }
