use Rattle.std.proofs.Common.{rules, ◌≡◌, ltb, leb, sym, ap, ◌∙◌}
use Rattle.std.specs.List.Sorted.{IsPartitionPoint}
use Rattle.std.proofs.lemmas.Bool.{ltb-true, ltb-false}
use Rattle.std.proofs.lemmas.List.Sorted.{IsPartitionPoint-from_clause, IsPartitionedBy-ltb}
use Rattle.coco_chief.specs.declared.ranges.Range.{Range}
use Rattle.coco_chief.proofs.RangeLemmas.{covers_at, covers_none, ends_rise}
use Rattle.coco_chief.proofs.ranges.is_covered.Goals as goal

pub returns-in-Some : goal.returns-in-Some
returns-in-Some c =
    let p = IsPartitionPoint-from_clause (λ (r : Range). ltb r.last c.args.epoch) c.args.ranges.now c.partition_point-at.result c.partition_point-at.ensures.partitioned (IsPartitionedBy-ltb (λ (r : Range). r.last) c.args.ranges.now c.args.epoch (ends_rise 0 c.args.ranges.now c.requires)) (search rules) in
    let at = covers_at 0 c.args.ranges.now c.args.epoch c.partition_point-at.result c.in-Some.range.now c.requires p (ltb-true _ _ (sym c.in-Some.ensures.lookup.0)) in
    ap (λ (r : Range). leb r.first c.args.epoch) c.in-Some.ensures.lookup.1 ∙ sym at

pub returns-in-None : goal.returns-in-None
returns-in-None c =
    let p = IsPartitionPoint-from_clause (λ (r : Range). ltb r.last c.args.epoch) c.args.ranges.now c.partition_point-at.result c.partition_point-at.ensures.partitioned (IsPartitionedBy-ltb (λ (r : Range). r.last) c.args.ranges.now c.args.epoch (ends_rise 0 c.args.ranges.now c.requires)) (search rules) in
    sym (covers_none 0 c.args.ranges.now c.args.epoch c.partition_point-at.result c.requires p (ltb-false _ _ (sym c.in-None.ensures.lookup.0)))
