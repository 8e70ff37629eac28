use Rattle.std.proofs.Common.{◌≡◌, ap, ◌∙◌, arith}
use Rattle.coco_query.specs.Tables.{last_in, last_of}
use Rattle.coco_query.proofs.FrozenLemmas.{hold_partitions, newest_partitions}
use Rattle.coco_query.proofs.NewestLemmas.{earlier_map, newest_map}
use Rattle.coco_query.proofs.tables.tables_at.Goals as goal

pub returns-then-epoch-last-clause-partitions : goal.returns-then-epoch-last-clause-partitions
returns-then-epoch-last-clause-partitions c =
    newest_partitions c.args.opened.layout c.requires.sound.maps c.args.opened.shards.items c.args.opened.copies.items c.requires.sound.tables c.in_ok-tables.tables.items c.in_ok-tables.ensures.count c.in_ok-tables.ensures.each

pub returns-then-epoch-last-clause-tables : goal.returns-then-epoch-last-clause-tables
returns-then-epoch-last-clause-tables c files d good has =
    let same : c.args.epoch ≡ c.last_or-last.result = omega arith in
    let last : c.args.epoch ≡ last_in c.args.opened = same ∙ c.last_or-last.ensures ∙ ap (last_of c.args.opened.layout.base_epoch) c.as_slice.ensures.value in
    newest_map files d good c.args.opened has c.args.epoch c.in_ok-tables.tables.items last c.in_ok-tables.ensures.count c.in_ok-tables.ensures.each

pub returns-clause-partitions : goal.returns-clause-partitions
returns-clause-partitions c = hold_partitions _ c.in_ok-tables-2.tables.items c.in_ok-tables-2.ensures.tables

pub returns-clause-tables : goal.returns-clause-tables
returns-clause-tables c files d good has = earlier_map files d good c.args.opened has c.args.epoch c.in_ok-tables-2.tables.items c.in_ok-tables-2.ensures.tables
