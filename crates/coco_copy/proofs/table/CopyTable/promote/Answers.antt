use Rattle.std.proofs.Common.{◌∙◌, ap, true}
use Rattle.coco_copy.specs.CopyState.{CopyState, promoted_at}
use Rattle.coco_copy.proofs.Views.{promoted_view, nothing_pends}
use Rattle.coco_copy.proofs.table.CopyTable.promote.Goals as goal

pub returns-clause-stable : goal.returns-clause-stable
returns-clause-stable c = λ k.
    promoted_view c.self.inside.epoch c.self.inside.rows.entries c.settle.new.rows.entries c.self.invariant.rising c.settle.ensures.whole.rising c.settle.ensures.rows k
    ∙ ap (λ (s : CopyState). promoted_at s k) c.self.view_is

pub returns-clause-pending : goal.returns-clause-pending
returns-clause-pending c = nothing_pends true c.self.inside.rows.entries c.settle.new.rows.entries c.self.invariant.rising c.settle.ensures.whole.rising c.settle.ensures.rows
