use Rattle.std.proofs.Common.{sym, ◌∙◌}
use Rattle.coco_types.proofs.KeyMaps.{get_key}
use Rattle.coco_serial.proofs.RowLemmas.{lookup_key}
use Rattle.coco_serial.proofs.call_on_map.value_in.Goals as goal

pub returns : goal.returns
returns c = c.get.ensures.value ∙ lookup_key c.args.rows.now.entries c.args.key ∙ sym (get_key c.args.rows.now.entries c.args.key)
