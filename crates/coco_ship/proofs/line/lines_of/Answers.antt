use Rattle.std.proofs.Common.{◌≡◌, ◌∙◌, ◌*◌, List, ap, length, subst}
use Rattle.coco_ship.specs.declared.line.Noted.{Noted}
use Rattle.coco_ship.specs.Lines.{AllBegin}
use Rattle.coco_ship.proofs.NoteLemmas.{begun_counted, begun_lines, begun_waiting}
use Rattle.coco_ship.proofs.line.lines_of.Goals as goal

pub returns : goal.returns
returns c =
    let ring = c.args.ring in
    let pieces = c.args.pieces.now in
    let notes = c.in_ok-notes.notes.items in
    let lines = c.in_ok-lines.lines.items in
    let noted = c.in_ok-notes.ensures in
    let same : length lines ≡ ring.partitions * ring.copies = c.in_ok-lines.ensures.count ∙ ap length c.as_slice.ensures.value ∙ noted.count in
    let begun : AllBegin notes lines = subst (λ (ns : List Noted). AllBegin ns lines) c.as_slice.ensures.value c.in_ok-lines.ensures.begun in
    record {
      count = same;
      fit = begun_lines ring pieces notes lines c.args.copies.now noted.count same begun noted.noted;
      counted = begun_counted ring pieces notes lines c.args.copies.now noted.count same begun noted.noted;
      waiting = begun_waiting ring notes lines noted.count same begun;
    }
