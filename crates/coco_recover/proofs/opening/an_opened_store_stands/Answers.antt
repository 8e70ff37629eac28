use Rattle.coco_standing.proofs.AtRest.{loaded_stand}
use Rattle.coco_store.specs.Contents.{map_in}
use Rattle.coco_recover.proofs.Sounding.{entries_are_readied}
use Rattle.coco_recover.proofs.opening.an_opened_store_stands.Goals as goal

pub returns : goal.returns
returns c = record {
  tables = λ keep contents store has rows. loaded_stand contents.setting.entry.layout (map_in contents) store.shards.items store.copies.items (has.map rows);
  readied = entries_are_readied;
}
