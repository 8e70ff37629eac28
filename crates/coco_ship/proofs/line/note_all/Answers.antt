use Rattle.std.proofs.Common.{◌≡◌, ◌+◌, ◌*◌, arith, get_or, length, subst, sym}
use Rattle.std.proofs.Math.ListN.{set}
use Rattle.coco_ship.specs.Lines.{Notes, NotesPiece}
use Rattle.coco_ship.specs.Placing.{table_of, IsCopy}
use Rattle.coco_ship.proofs.NoteLemmas.{notes_more}
use Rattle.coco_ship.proofs.line.note_all.Goals as goal

pub loop-copy-preserved : goal.loop-copy-preserved
loop-copy-preserved c =
    let ring = c.args.ring in
    let x = c.args.piece.now in
    let n = c.loop-copy.copy in
    let old = c.args.notes.now in
    let tables = c.args.copies.now in
    let mid = c.loop-copy.notes in
    let l = c.index-notes-table.result in
    let t = c.index-copies-table.result in
    let here : IsCopy ring x.partition n = record { partition = c.requires.partition; copy = c.loop-copy-test.true } in
    let at : c.table-table.result ≡ table_of ring x.partition n = c.table-table.ensures.value in
    let count : length mid ≡ ring.partitions * ring.copies = omega (arith, c.loop-copy.auto.notes, c.requires.notes) in
    subst (λ k. NotesPiece ring x (n + 1) old tables (set mid k c.note.new.noted)) (sym at)
    (notes_more ring x n old tables mid l c.note.new.noted t here count c.requires.copies (subst (λ k. l ≡ get_or mid k l) at c.index-notes-table.is) (subst (λ k. t ≡ get_or tables k t) at c.index-copies-table.is) (subst (λ z. Notes z t x c.note.new.noted) (sym c.index-notes-table.is) c.in_ok-note.ensures) c.loop-copy.invariant)

pub returns : goal.returns
returns c =
    let last : c.loop-copy.copy ≡ c.args.ring.copies = omega arith in
    subst (λ n. NotesPiece c.args.ring c.args.piece.now n c.args.notes.now c.args.copies.now c.loop-copy.notes) last c.loop-copy.invariant
