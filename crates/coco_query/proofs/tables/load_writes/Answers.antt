use Rattle.std.proofs.Common.{◌≡◌, ◌+◌, ◌%◌, List, [], ◌∷◌, ◌++◌, length, take, refl, sym, ap, ◌∙◌, subst}
use Rattle.std.proofs.lemmas.List.{take_all, take_more}
use Rattle.coco_types.specs.declared.call.Write.{Write}
use Rattle.coco_ast.specs.Keyed.{Rows, put_over}
use Rattle.coco_load.proofs.Writes.{put_over-append}
use Rattle.coco_query.specs.Replaying.{HoldsItsMap}
use Rattle.coco_query.proofs.ReplayLemmas.{some_shard, write_held}
use Rattle.coco_query.proofs.tables.load_writes.Goals as goal

pub load_write-requires-clause-some : goal.load_write-requires-clause-some
load_write-requires-clause-some c = let h = c.requires.held in some_shard h.0 _ c.loop-write.shards.items (c.loop-write.invariant h.0 h.1 h.2 h.3)

pub load_write-requires-clause-settled : goal.load_write-requires-clause-settled
load_write-requires-clause-settled c = let h = c.requires.held in (c.loop-write.invariant h.0 h.1 h.2 h.3).1.tables.settled _

pub loop-write-preserved : goal.loop-write-preserved
loop-write-preserved c layout m alone held =
    let write : Write = c.write-item.result in
    let before : List Write = take c.loop-write.write-index c.args.writes.now in
    let was = c.loop-write.invariant layout m alone held in
    let all : take (c.loop-write.write-index + 1) c.args.writes.now ≡ before ++ write ∷ [] =
    take_more c.args.writes.now c.loop-write.write-index write c.loop-write-test.true ∙ ap (λ (w : Write). before ++ w ∷ []) (sym c.write-item.is) in
    subst (λ (n : Rows). HoldsItsMap layout n c.load_write.new.shards.items) (sym (ap (put_over m) all ∙ put_over-append m before (write ∷ [])))
    (was.0, write_held layout alone write.key write.value c.loop-write.shards.items was.0 was.1.tables (write.key.row % length c.loop-write.shards.items) c.load_write.new.shards.items refl c.in_ok-load_write.ensures (put_over m before) was.1)

pub returns : goal.returns
returns c layout m alone held =
    subst (λ (ws : List Write). HoldsItsMap layout (put_over m ws) c.loop-write.shards.items) (take_all c.loop-write.write-index c.args.writes.now c.loop-write-test.false) (c.loop-write.invariant layout m alone held)
