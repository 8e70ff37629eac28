use Rattle.std.proofs.Common.{[], length, drop, sym, ap, ◌∙◌, subst, arith}
use Rattle.coco_desks.specs.Desks.{AreEmpty}
use Rattle.coco_desks.specs.Locking.{AreBack, AreEnded}
use Rattle.coco_desks.specs.Rows.{column}
use Rattle.coco_desks.proofs.DeskLemmas.{all_back_by, come_back, written_back}
use Rattle.coco_desks.proofs.desks.close.Goals as goal

pub close_all-requires-clause-back : goal.close_all-requires-clause-back
close_all-requires-clause-back g c =
    let rows = c.as_mut_slice.ensures.value in
    let trays = c.as_mut_slice-2.ensures.value in
    let many = ap length trays in
    let locks_ok = c.args.desk.locks.ok.0 in
    let trays_ok = c.args.desk.trays.ok.0 in
    let back_ok = c.args.desk.back.ok.0 in
    let same = c.requires.trays in
    let count = c.turn.ensures.count in
    let empty = subst (λ ts. AreEmpty c.args.desk.back.len ts) (sym trays) c.requires.empty in
    let are = come_back c.args.desk.back.len c.as_mut_slice.result.now c.as_mut_slice-2.result.now c.turn.new.columns empty c.turn.ensures.each in
    subst (λ ts. AreBack c.args.desk.locks.items ts) (sym (written_back c.args.desk.trays.len c.turn.new.columns (drop (length c.turn.new.columns) c.args.desk.trays.items) (omega (arith, count, many, trays_ok))))
    (all_back_by c.args.desk.locks.items c.args.desk.back.items c.turn.new.columns c.requires.rows (λ k d lt. c.requires.notes k d lt ∙ back_ok) (omega (arith, count, many, trays_ok, same, locks_ok))
    (λ k d lt. are k d (omega (arith, lt, many, trays_ok, same, locks_ok)) ∙ ap (λ xs. column k xs) rows))

pub returns : goal.returns
returns g c =
    let rows = c.as_mut_slice.ensures.value in
    let trays = c.as_mut_slice-2.ensures.value in
    let many = ap length trays in
    let trays_ok = c.args.desk.trays.ok.0 in
    let same = c.requires.trays in
    let count = c.turn.ensures.count in
    let empty = subst (λ ts. AreEmpty c.args.desk.back.len ts) (sym trays) c.requires.empty in
    let are = come_back c.args.desk.back.len c.as_mut_slice.result.now c.as_mut_slice-2.result.now c.turn.new.columns empty c.turn.ensures.each in
    record {
      trays = c.turn.new.columns;
      trays_are = omega (arith, count, many, trays_ok, same);
      passes = λ k d lt. are k d (omega (arith, lt, many, trays_ok, same)) ∙ ap (λ xs. column k xs) rows;
      ended = subst (λ js. AreEnded g.M.Machine.answer_to g.M.Machine.state_after c.turn.new.columns [] js c.close_all.new.ended.machines.items c.close_all.new.ended.journals.items) c.requires.journals.0
          (subst (λ ms. AreEnded g.M.Machine.answer_to g.M.Machine.state_after c.turn.new.columns ms c.args.desk.ended.journals.items c.close_all.new.ended.machines.items c.close_all.new.ended.journals.items) c.requires.machines.0
          (subst (λ ts. AreEnded g.M.Machine.answer_to g.M.Machine.state_after ts c.args.desk.ended.machines.items c.args.desk.ended.journals.items c.close_all.new.ended.machines.items c.close_all.new.ended.journals.items)
          (written_back c.args.desk.trays.len c.turn.new.columns (drop (length c.turn.new.columns) c.args.desk.trays.items) (omega (arith, count, many, trays_ok))) c.close_all.ensures.ended));
    }
