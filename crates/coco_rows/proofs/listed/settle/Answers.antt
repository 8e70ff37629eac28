use Rattle.std.proofs.Common.{sym, subst, vec_capacity, List, ℕ}
use Rattle.coco_types.specs.RowKey.{RowKey}
use Rattle.coco_rows.proofs.Settling.{IsSettling, settling_start, settling_step}
use Rattle.coco_rows.proofs.listed.settle.Goals as goal

pub keys-init : goal.keys-init
keys-init g c = settling_start g.R.EpochRow.kind c.args.rows.now.entries c.args.listed.now.items c.args.promotes (vec_capacity c.args.listed.now) c.requires

pub keys-preserved : goal.keys-preserved
keys-preserved g c =
    let Left : List RowKey → Type 0 = λ ks. IsSettling g.R.EpochRow.kind c.args.rows.now.entries c.keys.rows.entries ks c.args.promotes (vec_capacity c.pop.new.self) in
    let Room : ℕ → Type 0 = λ room. IsSettling g.R.EpochRow.kind c.args.rows.now.entries c.keys.rows.entries c.keys.listed.items c.args.promotes room in
    settling_step g.R.EpochRow.kind c.args.rows.now.entries c.keys.rows.entries c.settle_row.new.rows.entries c.pop.new.self.items c.in-Some.key c.args.promotes (vec_capacity c.pop.new.self)
    (subst Left c.in-Some.ensures.items (subst Room (sym c.in-Some.ensures.capacity) c.keys.invariant))
    c.settle_row.ensures
