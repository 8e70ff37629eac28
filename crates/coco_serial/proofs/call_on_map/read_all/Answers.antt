use Rattle.std.proofs.Common.{◌≡◌, length, ap, sym, subst, ◌∙◌, arith}
use Rattle.coco_types.specs.declared.call.Call.{Call}
use Rattle.coco_ast.specs.Keyed.{put_over}
use Rattle.coco_ast.specs.Meaning.{Run, run}
use Rattle.coco_ast.specs.Tree.{Procedures}
use Rattle.coco_eval.specs.Needs.{HasFewKeys}
use Rattle.coco_eval.specs.Standing.{Ended, keys_of}
use Rattle.coco_serial.specs.Applied.{rows_of}
use Rattle.coco_serial.proofs.RunningLemmas.{is_given, run_ended}
use Rattle.coco_serial.proofs.call_on_map.read_all.Goals as goal
use Rattle.coco_serial.proofs.call_on_map.read_all.Goals.{In-None}

pub loop-key-smaller : goal.loop-key-smaller
loop-key-smaller c = (is_given (rows_of c.args.rows.now) c.loop-key.running c.next_key.new.self c.give_lent.new.self c.in-Some.key _ c.next_key.ensures.others c.in-Some.ensures.key c.next_key.ensures.few c.value_in.ensures (c.give_lent.ensures c.in-Some.key c.in-Some.ensures.key)).fewer

pub loop-key-preserved : goal.loop-key-preserved
loop-key-preserved c =
    let next = is_given (rows_of c.args.rows.now) c.loop-key.running c.next_key.new.self c.give_lent.new.self c.in-Some.key _ c.next_key.ensures.others c.in-Some.ensures.key c.next_key.ensures.few c.value_in.ensures (c.give_lent.ensures c.in-Some.key c.in-Some.ensures.key) in
    let before = c.loop-key.invariant in
    record { procs = next.procs ∙ before.procs; call = next.call_same ∙ before.call; ready = next.ready; given = next.given before.given }

ran : (c : In-None) → run c.args.running.now.procs c.args.running.now.call (rows_of c.args.rows.now)
    ≡ record { reply = c.in-None.ensures.key.0; rows = put_over (rows_of c.args.rows.now) c.in-None.ensures.key.1; needs = keys_of c.loop-key.running.given; writes = c.in-None.ensures.key.1 }
ran c =
    sym (ap (λ (ps : Procedures). run ps c.loop-key.running.call (rows_of c.args.rows.now)) c.loop-key.invariant.procs ∙ ap (λ (call : Call). run c.args.running.now.procs call (rows_of c.args.rows.now)) c.loop-key.invariant.call)
    ∙ run_ended (rows_of c.args.rows.now) c.loop-key.running c.next_key.new.self c.in-None.ensures.key.0 c.in-None.ensures.key.1 c.next_key.ensures.others c.in-None.ensures.key.2 c.next_key.ensures.sound c.loop-key.invariant.given

pub returns-in-None-clause-ended : goal.returns-in-None-clause-ended
returns-in-None-clause-ended c = c.in-None.ensures.key.2 ∙ sym (ap (λ (r : Run). Ended r.reply r.writes) (ran c))

pub returns-in-None-clause-rows : goal.returns-in-None-clause-rows
returns-in-None-clause-rows c = ap (λ (r : Run). r.rows) (ran c) ∙ sym (ap (λ (r : Run). put_over (rows_of c.args.rows.now) r.writes) (ran c))

pub returns-in-None-clause-few : goal.returns-in-None-clause-few
returns-in-None-clause-few c =
    let few = subst (HasFewKeys c.next_key.new.self) c.in-None.ensures.key.2 c.next_key.ensures.few in
    omega (arith, few, ap (λ (r : Run). length r.writes) (ran c))
