use Rattle.std.proofs.Common.{◌≡◌, ◌+◌, ◌<◌, [], arith, length, rules, subst, take}
use Rattle.std.proofs.lemmas.List.{take_all}
use Rattle.coco_ship.specs.Taking.{at_node, Hears, OfBoth}
use Rattle.coco_ship.proofs.TakeLemmas.{brings_first, brings_next, brings_none, hears_next, hears_nothing}
use Rattle.coco_ship.proofs.take.take_letters.Goals as goal

pub loop-letter-init : goal.loop-letter-init
loop-letter-init c = record {
  ok = hears_nothing c.args.ring c.args.epoch c.args.lines.now c.args.copies.now;
  tables = brings_none c.args.ring c.args.epoch [] c.args.copies.now;
  fit = c.requires.fit;
}

pub loop-letter-preserved : goal.loop-letter-preserved
loop-letter-preserved c =
    let ring = c.args.ring in
    let letters = c.args.letters.now in
    let i = c.loop-letter.letter-index in
    let within : i < length letters = search rules in
    let before = c.loop-letter.invariant in
    record {
      ok = hears_next ring c.args.epoch c.args.node letters i c.letter-item.result c.args.lines.now c.args.copies.now c.loop-letter.lines c.loop-letter.copies c.take_letter.new.lines c.take_letter.new.copies within c.letter-item.is before.fit.line_count before.fit.table_count before.ok c.in_ok-take_letter.ensures.ok;
      tables = brings_next ring c.args.epoch c.args.node letters i c.letter-item.result c.args.copies.now c.loop-letter.copies c.take_letter.new.copies within c.letter-item.is before.fit.table_count before.tables c.take_letter.ensures.tables;
      fit = c.take_letter.ensures.fit;
    }

pub returns-in_err-take_letter-clause-tables : goal.returns-in_err-take_letter-clause-tables
returns-in_err-take_letter-clause-tables c =
    let ring = c.args.ring in
    let letters = c.args.letters.now in
    let i = c.loop-letter.letter-index in
    let within : i < length letters = search rules in
    let before = c.loop-letter.invariant in
    brings_first ring c.args.epoch c.args.node letters (i + 1) c.args.copies.now c.take_letter.new.copies
    (brings_next ring c.args.epoch c.args.node letters i c.letter-item.result c.args.copies.now c.loop-letter.copies c.take_letter.new.copies within c.letter-item.is before.fit.table_count before.tables c.take_letter.ensures.tables)

pub returns-clause-ok : goal.returns-clause-ok
returns-clause-ok c =
    let ring = c.args.ring in
    let letters = c.args.letters.now in
    let i = c.loop-letter.letter-index in
    let whole : take i letters ≡ letters = take_all i letters (omega arith) in
    subst (λ ls. OfBoth ring (Hears ring c.args.epoch (at_node c.args.node ls)) c.args.lines.now c.args.copies.now c.loop-letter.lines c.loop-letter.copies) whole c.loop-letter.invariant.ok

pub returns-clause-tables : goal.returns-clause-tables
returns-clause-tables c = brings_first c.args.ring c.args.epoch c.args.node c.args.letters.now c.loop-letter.letter-index c.args.copies.now c.loop-letter.copies c.loop-letter.invariant.tables
