use Rattle.std.proofs.Common.{length, refl, ◌≡◌}
use Rattle.std.proofs.lemmas.Option.{slice_get_read}
use Rattle.coco_ast.proofs.Indexing.{index_more, index_whole}
use Rattle.coco_ast.proofs.index.numbers_of.Goals as goal

pub loop-i-preserved : goal.loop-i-preserved
loop-i-preserved c =
    let ps = c.args.procs.now in
    let p = c.index-procs-i.result in
    let name : c.name_of-name.result ≡ p.name = c.name_of-name.ensures.value in
    index_more ps c.loop-i.i p (slice_get_read ps (length ps) c.loop-i.i p refl c.loop-i-test.true c.index-procs-i.is) c.loop-i.numbers c.insert.new.self c.loop-i.invariant
    (rw name at c.name_of-name.ensures.word) (rw name at c.in_ok-insert.ensures.updates)

pub returns : goal.returns
returns c = index_whole c.args.procs.now c.loop-i.i c.loop-i.numbers c.loop-i-test.false c.loop-i.invariant
