use Rattle.std.proofs.Common.{rules, List, filter, ap, ◌∙◌}
use Rattle.std.proofs.lemmas.Fn.{filter_same}
use Rattle.coco_entry.specs.declared.prepared.Row.{Row}
use Rattle.coco_rebuild.specs.Sources.{gets}
use Rattle.coco_rebuild.proofs.sources.rows_got.Goals as goal

pub returns : goal.returns
returns c =
    filter_same _ _ _ (λ x b f' k. search rules) _ _ c.retain.ensures.filtered
    ∙ ap (λ (l : List Row). filter (λ r. gets c.args.layout.now c.args.node c.args.from r.key) l) c.into_vec-rows.ensures
