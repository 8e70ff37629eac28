use Rattle.std.proofs.Common.{List, ℕ, ap, ◌∙◌, take}
use Rattle.coco_eval.specs.Slots.{paired}
use Rattle.coco_eval.proofs.SlotLemmas.{begun_with}
use Rattle.coco_eval.proofs.variables.Slots.begin.Goals as goal

pub returns : goal.returns
returns c =
    ap (λ (ns : List (List ℕ)). paired ns (take c.len-count.result c.set_values.new.values.items)) c.of.ensures
    ∙ begun_with c.args.names.now c.set_values.new.values.items c.args.args.now c.len-count.result c.len-count.ensures c.in_ok-set_values.ensures.values
