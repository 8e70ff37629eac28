use Rattle.std.proofs.Common.{◌∙◌, ◌∷◌, [], length, refl, sym}
use Rattle.coco_occ.specs.declared.outcome.Move.TheVariants as move
use Rattle.coco_occ.proofs.OneTurn.{asks_below, asked_act, end_asks_not, ended_act, one_ask, plays_on, ready_to_move}
use Rattle.coco_occ.proofs.turns.take_turn.Goals as goal

pub bring_answer-requires-clause-below : goal.bring_answer-requires-clause-below
bring_answer-requires-clause-below c =
    asks_below c.args.procs.now _ c.args.attempt.now c.go_on.new.self c.shard-shard.result c.ask.result.now c.requires c.go_on.ensures.others c.go_on.ensures.sound
    (one_ask c.go_on.new.self.standing c.shard-shard.result c.ask.result.now c.shard-shard.ensures c.ask.ensures)

pub bring_answer-requires-clause-waits : goal.bring_answer-requires-clause-waits
bring_answer-requires-clause-waits c =
    one_ask c.go_on.new.self.standing c.shard-shard.result c.ask.result.now c.shard-shard.ensures c.ask.ensures

pub returns-in_ok-bring_answer-clause-ok : goal.returns-in_ok-bring_answer-clause-ok
returns-in_ok-bring_answer-clause-ok c =
    let ready = ready_to_move c.args.attempt.now.standing c.requires.free (sym c.has_ended.ensures ∙ c.if-has_ended.false) in
    asked_act c.args.shards.now c.bring_answer.new.shards c.args.attempt.now c.go_on.new.self c.bring_answer.new.attempt (move.Ask c.shard-shard.result c.ask.result.now) c.shard-shard.result c.ask.result.now refl ready c.go_on.ensures.others c.in_ok-bring_answer.ensures.ok

pub returns-in_ok-bring_answer-clause-free : goal.returns-in_ok-bring_answer-clause-free
returns-in_ok-bring_answer-clause-free c =
    let ready = ready_to_move c.args.attempt.now.standing c.requires.free (sym c.has_ended.ensures ∙ c.if-has_ended.false) in
    let made = asked_act c.args.shards.now c.bring_answer.new.shards c.args.attempt.now c.go_on.new.self c.bring_answer.new.attempt (move.Ask c.shard-shard.result c.ask.result.now) c.shard-shard.result c.ask.result.now refl ready c.go_on.ensures.others c.in_ok-bring_answer.ensures.ok in
    plays_on c.args.procs.now (length c.args.shards.now) c.args.attempt.now c.bring_answer.new.attempt (made.0 ∷ []) c.requires made.2.plays

pub returns-else-go_on-clause-ok : goal.returns-else-go_on-clause-ok
returns-else-go_on-clause-ok c =
    let ready = ready_to_move c.args.attempt.now.standing c.requires.free (sym c.has_ended.ensures ∙ c.if-has_ended.false) in
    let b = c.go_on.new.self in
    ended_act c.args.shards.now c.args.attempt.now b c.last_move.result (end_asks_not b.standing c.last_move.result (c.go_on.ensures.ended c.if-go_on.false) c.last_move.ensures) c.last_move.ensures ready c.go_on.ensures.others c.go_on.ensures.sound

pub returns-else-go_on-clause-free : goal.returns-else-go_on-clause-free
returns-else-go_on-clause-free c =
    let ready = ready_to_move c.args.attempt.now.standing c.requires.free (sym c.has_ended.ensures ∙ c.if-has_ended.false) in
    let b = c.go_on.new.self in
    let made = ended_act c.args.shards.now c.args.attempt.now b c.last_move.result (end_asks_not b.standing c.last_move.result (c.go_on.ensures.ended c.if-go_on.false) c.last_move.ensures) c.last_move.ensures ready c.go_on.ensures.others c.go_on.ensures.sound in
    plays_on c.args.procs.now (length c.args.shards.now) c.args.attempt.now b (made.0 ∷ []) c.requires made.2.plays
