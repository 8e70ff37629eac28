use Rattle.coco_commands.proofs.KeepLemmas.{after_keep, while_keep}
use Rattle.coco_commands.proofs.laws.a_layout_sets_the_keep_number.Goals as goal

pub returns : goal.returns
returns c = record { after = after_keep; meanwhile = while_keep }
