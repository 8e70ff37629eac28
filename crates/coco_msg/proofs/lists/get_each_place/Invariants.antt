use Rattle.std.proofs.Common.{◌≡◌, ◌≤◌, ◌-◌, length, None}
use Rattle.coco_bytes.specs.Lists.{items_at, last_item}
use Rattle.coco_bytes.proofs.ListLemmas.{rest_of}
use Rattle.coco_msg.specs.Reading.{place_at}
use Rattle.coco_msg.proofs.lists.get_each_place.Given as goal

abbrev pub invariant-loop : goal.invariant-loop
invariant-loop l = record {
  so_far : rest_of place_at l.places (l.count - l.counter) l.from l.end ≡ items_at place_at None l.count l.from l.at;
  last : l.before ≡ last_item l.places;
  within : l.end ≤ length l.from;
}
