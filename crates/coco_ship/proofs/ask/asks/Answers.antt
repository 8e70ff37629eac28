use Rattle.std.proofs.Common.{◌≡◌, ◌<◌, [], arith, length, rules, subst, sym, take}
use Rattle.std.proofs.lemmas.List.{take_all}
use Rattle.coco_types.specs.declared.call.Piece.{Piece}
use Rattle.coco_ship.proofs.AskLemmas.{asked_all, asked_more, asked_none, ships_next, ships_nothing, AreAskedTo, AreShips}
use Rattle.coco_ship.proofs.ask.asks.Goals as goal

pub loop-piece-init : goal.loop-piece-init
loop-piece-init c =
    subst (AreShips c.args.ring c.args.epoch c.args.pieces.now [] c.args.lines.now) (sym c.new-letters.ensures.items) (ships_nothing c.args.ring c.args.epoch c.args.pieces.now c.args.lines.now)

pub loop-piece-preserved : goal.loop-piece-preserved
loop-piece-preserved c =
    let pieces = c.args.pieces.now in
    let i = c.loop-piece.piece-index in
    let within : i < length pieces = search rules in
    ships_next c.args.ring c.args.epoch pieces i c.piece-item.result c.args.lines.now c.loop-piece.letters.items c.ship_piece.new.letters.items within c.piece-item.is c.in_ok-ship_piece.ensures c.loop-piece.invariant

pub ship_piece-requires-clause-partition : goal.ship_piece-requires-clause-partition
ship_piece-requires-clause-partition c =
    let pieces = c.args.pieces.now in
    let i = c.loop-piece.piece-index in
    let within : i < length pieces = search rules in
    subst (λ (x : Piece). x.partition < c.args.ring.partitions) (sym c.piece-item.is) (c.requires.partitions i c.piece-item.result within)

pub loop-partition-init : goal.loop-partition-init
loop-partition-init c =
    let pieces = c.args.pieces.now in
    let letters = c.loop-piece.letters.items in
    let whole : take c.loop-piece.piece-index pieces ≡ pieces = take_all c.loop-piece.piece-index pieces (omega arith) in
    asked_none c.args.ring c.args.epoch pieces c.args.lines.now letters c.requires.partitions (subst (λ ps. AreShips c.args.ring c.args.epoch pieces ps c.args.lines.now letters) whole c.loop-piece.invariant)

pub loop-partition-preserved : goal.loop-partition-preserved
loop-partition-preserved c =
    asked_more c.args.ring c.args.epoch c.args.pieces.now c.args.lines.now c.loop-partition.partition c.loop-partition.letters.items c.tell_totals.new.letters.items c.loop-partition-test.true c.in_ok-tell_totals.ensures c.loop-partition.invariant

pub returns : goal.returns
returns c =
    let last : c.loop-partition.partition ≡ c.args.ring.partitions = omega arith in
    asked_all c.args.ring c.args.epoch c.args.pieces.now c.args.lines.now c.loop-partition.letters.items (subst (λ q. AreAskedTo c.args.ring c.args.epoch c.args.pieces.now c.args.lines.now q c.loop-partition.letters.items) last c.loop-partition.invariant)
