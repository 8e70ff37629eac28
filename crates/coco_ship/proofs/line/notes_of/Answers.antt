use Rattle.std.proofs.Common.{◌≡◌, ◌∙◌, ◌+◌, ◌*◌, ◌<◌, ◌++◌, ℕ, List, ap, arith, drop, length, rules, subst, sym, take}
use Rattle.std.proofs.lemmas.List.{take-append-le, take_all}
use Rattle.coco_ship.specs.declared.line.Noted.{Noted}
use Rattle.coco_ship.specs.Lines.{AreNoted, NotesPiece}
use Rattle.coco_ship.proofs.NoteLemmas.{noted_more, unnoted_all}
use Rattle.coco_ship.proofs.line.notes_of.Goals as goal

pub loop-piece-init : goal.loop-piece-init
loop-piece-init c =
    let notes = c.in_ok-notes.notes.items in
    let count : length notes ≡ c.args.ring.partitions * c.args.ring.copies = c.in_ok-notes.ensures.count ∙ c.tables.ensures in
    record { count = count; noted = unnoted_all c.args.ring c.args.pieces.now notes c.args.copies.now count c.in_ok-notes.ensures.none }

-- what a slice of a whole list became
written_back : (n : ℕ) (new old : List Noted) → length new ≡ n → take n (new ++ drop (length new) old) ≡ new
written_back n new old is = take-append-le {A = Noted} n new (drop (length new) old) (omega (arith, is)) ∙ take_all n new (omega (arith, is))

pub loop-piece-preserved : goal.loop-piece-preserved
loop-piece-preserved c =
    let ring = c.args.ring in
    let pieces = c.args.pieces.now in
    let i = c.loop-piece.piece-index in
    let old = c.loop-piece.notes.items in
    let new = c.note_all.new.notes in
    let within : i < length pieces = search rules in
    let was : length c.deref_mut.result.now ≡ length old = ap length c.deref_mut.ensures.value in
    let kept : length new ≡ c.loop-piece.notes.len = omega (arith, c.note_all.auto.notes, c.deref_mut.ensures.len) in
    let count : length new ≡ ring.partitions * ring.copies = omega (arith, c.note_all.auto.notes, was, c.loop-piece.invariant.count) in
    let is : take c.loop-piece.notes.len (new ++ drop (length new) old) ≡ new = written_back c.loop-piece.notes.len new old kept in
    let notes : NotesPiece ring c.piece-item.result ring.copies old c.args.copies.now new =
    subst (λ (ls : List Noted). NotesPiece ring c.piece-item.result ring.copies ls c.args.copies.now new) c.deref_mut.ensures.value c.in_ok-note_all.ensures in
    record {
      count = ap length is ∙ count;
      noted = subst (λ (ls : List Noted). AreNoted ring pieces (take (i + 1) pieces) ls c.args.copies.now) (sym is)
          (noted_more ring pieces i c.piece-item.result old new c.args.copies.now c.requires.pieces within c.piece-item.is c.loop-piece.invariant.count c.loop-piece.invariant.noted notes);
    }

pub returns-clause-noted : goal.returns-clause-noted
returns-clause-noted c =
    let pieces = c.args.pieces.now in
    let i = c.loop-piece.piece-index in
    let whole : take i pieces ≡ pieces = take_all i pieces (omega arith) in
    subst (λ ps. AreNoted c.args.ring pieces ps c.loop-piece.notes.items c.args.copies.now) whole c.loop-piece.invariant.noted
