use Rattle.std.proofs.Common.{◌∙◌, ap}
use Rattle.std.specs.FinMap.{entries}
use Rattle.coco_copy.specs.CopyState.{CopyState}
use Rattle.coco_copy.specs.Kept.{stable_of}
use Rattle.coco_rows.proofs.Parts.{part_entries}
use Rattle.coco_copy.proofs.table.CopyTable.rows.Goals as goal

pub returns : goal.returns
returns c =
    c.from_vec.ensures ∙ c.in_ok-values.ensures ∙ part_entries stable_of c.self.inside.rows.entries c.self.invariant.rising ∙ ap (λ (s : CopyState). entries s.stable) c.self.view_is
