use Rattle.std.proofs.Common.{◌++◌, vec_len, slice_index_or, sym, ap, ◌∙◌, arith}
use Rattle.std.proofs.lemmas.List.{take_all}
use Rattle.coco_desks.specs.Rows.{column}
use Rattle.coco_desks.proofs.RowLemmas.{has_room, turned_more, turned_none}
use Rattle.coco_desks.proofs.rows.turn.Goals as goal

pub loop-place-init : goal.loop-place-init
loop-place-init g c = turned_none c.args.rows.now c.args.columns.now

pub hand_out-requires-clause-count : goal.hand_out-requires-clause-count
hand_out-requires-clause-count g c =
    ap (λ v. vec_len v) (c.loop-place.invariant.rest c.loop-place.place c.index-rows-place.result (omega arith)) ∙ c.requires.counts c.loop-place.place c.index-rows-place.result c.loop-place-test.true ∙ sym c.loop-place.auto.columns

pub hand_out-requires-clause-room : goal.hand_out-requires-clause-room
hand_out-requires-clause-room g c = λ place d lt.
    let columns = c.loop-place.auto.columns in
    has_room c.args.rows.now c.args.columns.now c.loop-place.place c.loop-place.rows c.loop-place.columns c.loop-place.invariant c.loop-place-test.true c.requires.room place d (omega (arith, lt, columns))

pub loop-place-preserved : goal.loop-place-preserved
loop-place-preserved g c =
    turned_more c.args.rows.now c.args.columns.now c.loop-place.place c.loop-place.rows c.loop-place.columns c.hand_out.new.columns c.hand_out.new.row c.loop-place.invariant c.loop-place-test.true c.loop-place.auto.rows c.loop-place.auto.columns
    c.requires.counts c.index-rows-place.result c.hand_out.ensures.empty c.hand_out.ensures.kept c.hand_out.ensures.each

pub returns-clause-empty : goal.returns-clause-empty
returns-clause-empty g c = λ place d lt. (let end = c.loop-place-test.false in (c.loop-place.invariant.emptied place d (omega (arith, lt, end)) lt).0)

pub returns-clause-kept : goal.returns-clause-kept
returns-clause-kept g c = λ place d lt. (let end = c.loop-place-test.false in (c.loop-place.invariant.emptied place d (omega (arith, lt, end)) lt).1)

pub returns-clause-each : goal.returns-clause-each
returns-clause-each g c = λ place d lt.
    let end = c.loop-place-test.false in
    c.loop-place.invariant.gained place d lt ∙ ap (λ rows. (slice_index_or c.args.columns.now place d).items ++ column place rows) (take_all c.loop-place.place c.args.rows.now (omega (arith, end)))

pub returns-clause-capacity : goal.returns-clause-capacity
returns-clause-capacity g c = λ place d lt. c.loop-place.invariant.room place d lt
