use Rattle.std.proofs.Common.{◌≡◌, length, drop, vec_len, sym, ap, ◌∙◌, subst, arith}
use Rattle.std.proofs.lemmas.List.Elements.{All-from_recursion}
use Rattle.coco_desks.specs.Desks.{AreEmpty, HasRoom}
use Rattle.coco_desks.specs.Locking.{AreStarted}
use Rattle.coco_desks.proofs.DeskLemmas.{full_trays, opened, rows_room, written_back}
use Rattle.coco_desks.proofs.desks.open.Goals as goal

pub turn-requires-clause-counts : goal.turn-requires-clause-counts
turn-requires-clause-counts g c = λ k d lt.
    let trays = c.as_mut_slice.ensures.value in
    let rows = ap length c.as_mut_slice-2.ensures.value in
    let started = subst (λ ts. AreStarted c.args.workers c.args.machines.items c.in_ok-locks.field-0.locks.items ts) (sym trays) c.in_ok-locks.ensures.started in
    let full = All-from_recursion (λ t. vec_len t ≡ c.args.workers) c.as_mut_slice.result.now (full_trays c.args.workers c.args.machines.items c.in_ok-locks.field-0.locks.items c.as_mut_slice.result.now started) k d lt in
    let many = c.in-Ok.ensures.count in
    let ok = c.in-Ok.rows.ok.0 in
    omega (arith, full, rows, many, ok)

pub turn-requires-clause-room : goal.turn-requires-clause-room
turn-requires-clause-room g c =
    let trays = c.as_mut_slice.ensures.value in
    let started = subst (λ ts. AreStarted c.args.workers c.args.machines.items c.in_ok-locks.field-0.locks.items ts) (sym trays) c.in_ok-locks.ensures.started in
    let count = c.len-count.ensures ∙ c.args.machines.ok.0 in
    rows_room c.args.workers c.args.machines.items c.in_ok-locks.field-0.locks c.as_mut_slice.result.now started c.as_mut_slice-2.result.now
    (subst (AreEmpty (length c.args.machines.items)) (sym c.as_mut_slice-2.ensures.value) (subst (λ n. AreEmpty n c.in-Ok.rows.items) count c.in-Ok.ensures.rows))

pub returns-clause-open : goal.returns-clause-open
returns-clause-open g c =
    let trays = c.as_mut_slice.ensures.value in
    let rows = c.as_mut_slice-2.ensures.value in
    let started = subst (λ ts. AreStarted c.args.workers c.args.machines.items c.in_ok-locks.field-0.locks.items ts) (sym trays) c.in_ok-locks.ensures.started in
    let count = c.len-count.ensures ∙ c.args.machines.ok.0 in
    let rows_ok = c.in-Ok.rows.ok.0 in
    let trays_ok = c.in_ok-locks.field-0.trays.ok.0 in
    let many = c.in-Ok.ensures.count in
    opened c.args.workers c.args.machines.items c.in_ok-locks.field-0.locks c.as_mut_slice.result.now started c.as_mut_slice-2.result.now c.turn.new.columns _ c.turn.new.rows _ c.in-Ok.back c.in-Ok.ended.machines c.in-Ok.ended.journals
    (ap length rows ∙ sym rows_ok ∙ many)
    (subst (AreEmpty (length c.args.machines.items)) (sym rows) (subst (λ n. AreEmpty n c.in-Ok.rows.items) count c.in-Ok.ensures.rows))
    (written_back c.in-Ok.rows.len c.turn.new.columns (drop (length c.turn.new.columns) c.in-Ok.rows.items) (rows_ok ∙ sym (c.turn.ensures.count ∙ ap length rows)))
    c.turn.ensures.count c.turn.ensures.each
    (written_back c.in_ok-locks.field-0.trays.len c.turn.new.rows (drop (length c.turn.new.rows) c.in_ok-locks.field-0.trays.items) (trays_ok ∙ sym (c.turn.ensures.rows ∙ ap length trays)))
    c.turn.ensures.rows c.turn.ensures.empty c.turn.ensures.kept c.in-Ok.ensures.back
    (subst (λ n. HasRoom n c.in-Ok.ended.machines) count c.in-Ok.ensures.machines) (subst (λ n. HasRoom n c.in-Ok.ended.journals) count c.in-Ok.ensures.journals)
