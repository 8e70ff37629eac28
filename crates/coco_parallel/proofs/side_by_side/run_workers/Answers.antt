use Rattle.std.proofs.Common.{◌≡◌, ℕ, ◌≤◌, ◌*◌, length, drop, sym, ap, ◌∙◌, subst, arith}
use Rattle.std.proofs.lemmas.List.{length-map}
use Rattle.coco_copy.specs.CopyState.{CopyState, begun}
use Rattle.coco_types.specs.declared.limits.TheConstants.{MOST_PARTITIONS}
use Rattle.coco_desks.proofs.DeskLemmas.{as_many_started}
use Rattle.coco_parallel.specs.Worked.{HaveWorked, emptied, start_of}
use Rattle.coco_parallel.proofs.KeepingLemmas.{begun_back, emptied_begun, same_values, settled_same}
use Rattle.coco_parallel.proofs.side_by_side.run_workers.Goals as goal

pub returns-in_default-clause-shards : goal.returns-in_default-clause-shards
returns-in_default-clause-shards g c =
    settled_same c.args.shards.items c.args.shards.items c.taken_back.result.shards.items c.requires.settled (same_values c.args.shards.items) c.taken_back.ensures.shards

pub returns-in_default-clause-copies : goal.returns-in_default-clause-copies
returns-in_default-clause-copies g c =
    c.taken_back.ensures.copies ∙ ap emptied (begun_back c.args.config.epoch c.args.copies.len c.args.copies.items c.as_mut_slice.result.now c.begin_all.new.copies (drop (length c.begin_all.new.copies) c.args.copies.items) c.args.copies.ok.0 c.as_mut_slice.ensures.value c.begin_all.ensures)
    ∙ emptied_begun c.args.config.epoch c.args.copies.items

pub returns-in-Err-clause-shards : goal.returns-in-Err-clause-shards
returns-in-Err-clause-shards g c =
    settled_same c.args.shards.items c.in-Err.field-0.shards.items c.taken_back-in-Err.result.shards.items c.requires.settled c.in-Err.ensures.shards_back c.taken_back-in-Err.ensures.shards

pub returns-in-Err-clause-copies : goal.returns-in-Err-clause-copies
returns-in-Err-clause-copies g c =
    c.taken_back-in-Err.ensures.copies ∙ ap emptied (c.in-Err.ensures.copies_back ∙ (begun_back c.args.config.epoch c.args.copies.len c.args.copies.items c.as_mut_slice.result.now c.begin_all.new.copies (drop (length c.begin_all.new.copies) c.args.copies.items) c.args.copies.ok.0 c.as_mut_slice.ensures.value c.begin_all.ensures))
    ∙ emptied_begun c.args.config.epoch c.args.copies.items

pub run_crew-worked-requires-clause-some : goal.run_crew-worked-requires-clause-some
run_crew-worked-requires-clause-some g c κs within =
    let many = (as_many_started c.args.config.started c.args.shards.items c.in-Ok-open_both.desks.shards.locks.items c.in-Ok-open_both.ensures.shards.dealt.trays c.in-Ok-open_both.ensures.shards.dealt.started).0 in
    let some = c.requires.some in
    omega (arith, many, some)

pub run_crew-worked-requires-clause-most : goal.run_crew-worked-requires-clause-most
run_crew-worked-requires-clause-most g c κs within =
    let many = (as_many_started c.args.config.started c.args.shards.items c.in-Ok-open_both.desks.shards.locks.items c.in-Ok-open_both.ensures.shards.dealt.trays c.in-Ok-open_both.ensures.shards.dealt.started).0 in
    subst (λ n. n ≤ MOST_PARTITIONS) (sym many) c.requires.most

pub run_crew-worked-requires-clause-tables : goal.run_crew-worked-requires-clause-tables
run_crew-worked-requires-clause-tables g c κs within =
    let many = (as_many_started c.args.config.started c.args.shards.items c.in-Ok-open_both.desks.shards.locks.items c.in-Ok-open_both.ensures.shards.dealt.trays c.in-Ok-open_both.ensures.shards.dealt.started).0 in
    let copies = (as_many_started c.args.config.started _ c.in-Ok-open_both.desks.copies.locks.items c.in-Ok-open_both.ensures.copies.dealt.trays c.in-Ok-open_both.ensures.copies.dealt.started).0 in
    let begun_count = ap length (begun_back c.args.config.epoch c.args.copies.len c.args.copies.items c.as_mut_slice.result.now c.begin_all.new.copies (drop (length c.begin_all.new.copies) c.args.copies.items) c.args.copies.ok.0 c.as_mut_slice.ensures.value c.begin_all.ensures) in
    let each = length-map c.args.copies.items (λ (t : CopyState). begun c.args.config.epoch t.stable) in
    let tables = c.requires.tables in
    subst (λ (n : ℕ). length c.in-Ok-open_both.desks.copies.locks.items ≡ n * c.args.config.copies) (sym many) (omega (arith, copies, begun_count, each, tables))

pub returns-then-done-clause-worked : goal.returns-then-done-clause-worked
returns-then-done-clause-worked g c =
    λ opening.
    subst (λ ts. HaveWorked (start_of c.args.procs.now opening c.args.requests.now c.args.shards.items c.args.config (g.N.Net.carries c.args.net.now)) ts c.run_crew-worked.result.0.shards.items c.run_crew-worked.result.0.journals.items c.run_crew-worked.result.0.copies.items c.run_crew-worked.result.0.copy_journals.items c.run_crew-worked.result.0.transcripts.items c.run_crew-worked.result.0.pieces.items)
    (begun_back c.args.config.epoch c.args.copies.len c.args.copies.items c.as_mut_slice.result.now c.begin_all.new.copies (drop (length c.begin_all.new.copies) c.args.copies.items) c.args.copies.ok.0 c.as_mut_slice.ensures.value c.begin_all.ensures)
    (c.run_crew-worked.ensures.worked c.args.shards.items _ c.in-Ok-open_both.ensures.shards.dealt c.in-Ok-open_both.ensures.copies.dealt c.if-done.true opening)

pub returns-else-done-clause-shards : goal.returns-else-done-clause-shards
returns-else-done-clause-shards g c =
    settled_same c.args.shards.items c.run_crew-worked.result.0.shards.items c.taken_back-else-done.result.shards.items c.requires.settled (c.run_crew-worked.ensures.shards c.args.shards.items c.in-Ok-open_both.ensures.shards.dealt c.requires.settled) c.taken_back-else-done.ensures.shards

pub returns-else-done-clause-copies : goal.returns-else-done-clause-copies
returns-else-done-clause-copies g c =
    c.taken_back-else-done.ensures.copies ∙ c.run_crew-worked.ensures.copies _ c.in-Ok-open_both.ensures.copies.dealt ∙ ap emptied (begun_back c.args.config.epoch c.args.copies.len c.args.copies.items c.as_mut_slice.result.now c.begin_all.new.copies (drop (length c.begin_all.new.copies) c.args.copies.items) c.args.copies.ok.0 c.as_mut_slice.ensures.value c.begin_all.ensures)
    ∙ emptied_begun c.args.config.epoch c.args.copies.items
