use Rattle.std.proofs.Common.{◌≡◌, List, length, ap, sym, ◌∙◌, arith}
use Rattle.coco_types.specs.declared.call.Write.{Write}
use Rattle.coco_ast.specs.Keyed.{put_over}
use Rattle.coco_ast.specs.Meaning.{run}
use Rattle.coco_serial.specs.Applied.{rows_of}
use Rattle.coco_serial.proofs.RunningLemmas.{same_writes}
use Rattle.coco_serial.proofs.call_on_map.finish.Goals as goal

pub put_all-requires : goal.put_all-requires
put_all-requires c =
    let r = run c.args.running.now.procs c.args.running.now.call (rows_of c.args.rows.now) in
    let written : c.as_slice.result.now ≡ r.writes = c.as_slice.ensures ∙ same_writes c.writes.ensures.0 r.reply c.writes.result.now r.writes c.read_all.new.running.standing c.writes.ensures.1 c.read_all.ensures.ended in
    omega (arith, c.read_all.ensures.few, c.requires.room, ap (λ (ws : List Write). length ws) written)

pub returns-clause-rows : goal.returns-clause-rows
returns-clause-rows c =
    let r = run c.args.running.now.procs c.args.running.now.call (rows_of c.args.rows.now) in
    let written : c.as_slice.result.now ≡ r.writes = c.as_slice.ensures ∙ same_writes c.writes.ensures.0 r.reply c.writes.result.now r.writes c.read_all.new.running.standing c.writes.ensures.1 c.read_all.ensures.ended in
    c.put_all.ensures ∙ ap (put_over (rows_of c.args.rows.now)) written ∙ sym c.read_all.ensures.rows
