use Rattle.std.proofs.Common.{◌∙◌, ap}
use Rattle.coco_copy.specs.CopyState.{CopyState, begun}
use Rattle.coco_copy.proofs.Views.{reverted_view}
use Rattle.coco_copy.proofs.table.CopyTable.begin.Goals as goal

pub returns : goal.returns
returns c =
    reverted_view c.args.epoch c.self.inside.rows.entries c.settle.new.rows.entries c.self.invariant.rising c.settle.ensures.whole.rising c.settle.ensures.rows
    ∙ ap (λ (s : CopyState). begun c.args.epoch s.stable) c.self.view_is
