use Rattle.std.proofs.Common.{◌≡◌, ◌<◌, ◌^◌, ◌∙◌, ◌+◌, Some, arith, inl, length, rules, subst, sym}
use Rattle.std.specs.List.{slice_get}
use Rattle.coco_ship.specs.Placing.{table_of}
use Rattle.coco_ship.specs.Letters.{ship_of}
use Rattle.coco_ship.specs.Sending.{AreNoneOr, ShipsPiece}
use Rattle.coco_ship.proofs.MessageLemmas.{are_writes}
use Rattle.coco_ship.proofs.NoteLemmas.{read_at}
use Rattle.coco_ship.proofs.SendLemmas.{ships_more, ships_none, ships_same}
use Rattle.coco_ship.proofs.ask.ship_piece.Goals.{then-not-line+then-has+in_ok-ship, else-not-line, else-not-line-via-then-not-line+else-has, else-not-line-via-else-not-line}
use Rattle.coco_ship.proofs.ask.ship_piece.Goals as goal

pub loop-copy-init : goal.loop-copy-init
loop-copy-init c =
    let x = c.args.piece.now in
    let fits = c.piece_fits.ensures in
    let few : length x.writes < 2 ^ 32 = omega (arith, c.len.ensures, c.if-len.false) in
    record {
      ships = ships_none c.args.ring c.args.epoch x c.args.lines.now c.args.letters.now.items (omega arith, fits.partition, fits.place, fits.time, are_writes x.writes few fits.writes);
      bytes = inl (search rules);
    }

pub loop-copy-preserved : goal.loop-copy-preserved
loop-copy-preserved c =
    let ring = c.args.ring in
    let x = c.args.piece.now in
    let n = c.loop-copy.copy in
    let e = c.args.epoch in
    let lines = c.args.lines.now in
    let line = c.index-lines-table.result in
    let old = c.args.letters.now.items in
    let mid = c.loop-copy.letters.items in
    let at : slice_get lines (table_of ring x.partition n) ≡ Some line =
    subst (λ t. slice_get lines t ≡ Some line) c.table.ensures.value (read_at lines c.table.result line (omega (arith, c.table.ensures.within, c.requires.lines)) c.index-lines-table.is) in
    elim c.if-not-line.branch [
      | then-not-line+then-has+in_ok-ship w ↦
          let now : c.if-not-line.letters.items ≡ w.ship.new.letters.items = cc in
          let made : c.if-not-line.bytes.items ≡ w.ship.new.bytes.items = cc in
          record {
            ships = ships_more ring e x lines n old mid c.if-not-line.letters.items (now ∙ w.in_ok-ship.ensures.letters) c.loop-copy.invariant.ships;
            bytes = subst (AreNoneOr (ship_of e x)) (sym made) w.in_ok-ship.ensures.bytes;
          }
      | else-not-line w ↦
          let now : c.if-not-line.letters.items ≡ mid = cc in
          let same : c.if-not-line.bytes.items ≡ c.loop-copy.bytes.items = cc in
          record {
            ships = subst (ShipsPiece ring e x lines (n + 1) old) (sym now) (ships_same ring e x lines n old mid line at (elim w.else-not-line.branch [
              | else-not-line-via-then-not-line+else-has v ↦ λ waits lacks. cc
              | else-not-line-via-else-not-line v ↦ λ waits lacks. cc
            ]) c.loop-copy.invariant.ships);
            bytes = subst (AreNoneOr (ship_of e x)) (sym same) c.loop-copy.invariant.bytes;
          }
    ]

pub returns : goal.returns
returns c =
    let last : c.loop-copy.copy ≡ c.args.ring.copies = omega arith in
    subst (λ n. ShipsPiece c.args.ring c.args.epoch c.args.piece.now c.args.lines.now n c.args.letters.now.items c.loop-copy.letters.items) last c.loop-copy.invariant.ships
