use Rattle.std.proofs.Common.{◌∙◌, sym}
use Rattle.std.proofs.lemmas.Result.{on_ok_weaker}
use Rattle.coco_load.proofs.Following.{other_is_passed}
use Rattle.coco_recover.proofs.Loading.{entry_is_read}
use Rattle.coco_recover.proofs.nodes.load.Goals as goal

pub returns-then-is_committed-clause-ok : goal.returns-then-is_committed-clause-ok
returns-then-is_committed-clause-ok c =
    on_ok_weaker c.load_prepared.result (λ loaded s base epochs entries is committed.
    entry_is_read c.args.layout.now c.args.node c.args.prepared.now c.as_slice.result.now
    c.args.tables.now.shards.items c.load_prepared.new.self.shards.items c.args.tables.now.copies.items c.load_prepared.new.self.copies.items c.as_slice.ensures loaded
    s base epochs entries is (sym committed ∙ c.if-is_committed.true)) c.load_prepared.ensures.ok

pub returns-else-is_committed-clause-ok : goal.returns-else-is_committed-clause-ok
returns-else-is_committed-clause-ok c = λ s base epochs entries is committed.
    other_is_passed s base epochs entries c.args.node c.args.prepared.now c.args.tables.now.shards.items c.args.tables.now.copies.items (sym committed ∙ c.if-is_committed.false)
