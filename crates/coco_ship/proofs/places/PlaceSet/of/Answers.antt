use Rattle.coco_ship.proofs.SetLemmas.{set_rises, set_same_places}
use Rattle.coco_ship.proofs.places.PlaceSet.of.Goals as goal

pub invariant_of-result : goal.invariant_of-result
invariant_of-result c = set_rises c.sort_unstable.new.self.items c.dedup.new.self.items c.sort_unstable.ensures.sorted c.dedup.ensures.filtered

pub returns : goal.returns
returns c = set_same_places c.args.places.items c.sort_unstable.new.self.items c.dedup.new.self.items c.sort_unstable.ensures.permutation c.dedup.ensures.filtered
