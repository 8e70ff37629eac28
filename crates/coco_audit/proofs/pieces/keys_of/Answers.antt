use Rattle.coco_audit.proofs.DumpLemmas.{keys_are, keys_tie, same_key}
use Rattle.coco_audit.proofs.pieces.keys_of.Goals as goal

pub returns : goal.returns
returns c = keys_are same_key keys_tie c.args.shards.now c.in_ok-keys.keys.items c.sort_unstable.new.self.items c.dedup.new.self.items c.in_ok-keys.ensures c.sort_unstable.ensures.permutation c.sort_unstable.ensures.sorted c.dedup.ensures.filtered
