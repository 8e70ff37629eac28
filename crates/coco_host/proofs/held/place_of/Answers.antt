use Rattle.std.proofs.Common.{sym, ap, ◌∙◌, arith}
use Rattle.coco_host.specs.declared.held.MemoryFile.{MemoryFile}
use Rattle.coco_host.proofs.Places.{none_found, found_here}
use Rattle.coco_host.proofs.held.place_of.Goals as goal

pub returns-then-file-number : goal.returns-then-file-number
returns-then-file-number c =
    let here = ap (λ (f : MemoryFile). f.number) (sym c.index-files-place.is) ∙ c.if-file-number.true in
    found_here c.args.number c.args.files.now c.loop-place.place c.index-files-place.result (omega (arith, c.loop-place-test.true)) c.loop-place.invariant here

pub returns : goal.returns
returns c = none_found c.args.number c.args.files.now (λ k d less. c.loop-place.invariant k d (omega (arith, less, c.loop-place-test.false)))
