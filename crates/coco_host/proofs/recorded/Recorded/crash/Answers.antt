use Rattle.std.proofs.Common.{◌≡◌, ℕ, ◌+◌, ◌<◌, Bool, true, false, ◌==◌, List, [], length, map, get_or, sym, subst, ap, ◌∙◌, arith}
use Rattle.coco_host.specs.Record.{Event, content, stored, IsImage}
use Rattle.coco_host.specs.Recorded.{event_of}
use Rattle.coco_host.specs.declared.recorded.Happening.{Happening}
use Rattle.coco_host.specs.declared.held.MemoryFile.{MemoryFile}
use Rattle.coco_host.proofs.Crashing.{LeftSoFar, left_there, left_filled, all_left}
use Rattle.coco_host.proofs.recorded.Recorded.crash.Goals as goal
use Rattle.coco_host.proofs.recorded.Recorded.crash.Goals.{then-is_empty+in_ok-bytes+in_ok-fill, else-is_empty}

has_bytes : (bytes : List ℕ) (empty : Bool) → empty ≡ (length bytes == 0) → empty ≡ false → bytes ≡ [] → ⊥
has_bytes bytes empty is not none = let no : true ≡ false = ap (λ (l : List ℕ). length l == 0) (sym none) ∙ sym is ∙ not in cc

pub loop-file-preserved : goal.loop-file-preserved
loop-file-preserved c =
    let es = c.args.self.now in
    let files = c.self.inside.files.items in
    let k = c.loop-file.file-index in
    let f = c.file-item.result in
    let left = c.loop-file.left in
    let within : k < length files = omega (arith, c.loop-file-test.true, ap length c.deref-file-items.ensures.value) in
    let is = c.file-item.is ∙ ap (λ (l : List MemoryFile). get_or l k f) c.deref-file-items.ensures.value in
    elim c.if-is_empty.branch [
      | then-is_empty+in_ok-bytes+in_ok-fill w ↦
          let image = subst (λ (l : List Event). IsImage (stored l f.number) w.in_ok-bytes.bytes.items) (ap (λ (xs : List Happening). map event_of xs) w.deref.ensures.value ∙ c.self.view_is) w.in_ok-bytes.ensures in
          subst (LeftSoFar es files (k + 1)) (sym w.left-is)
          (left_filled es files k f within is left w.fill.new.self w.deref-then-is_empty.result.now c.loop-file.invariant
          (subst (IsImage (stored es f.number)) (sym w.deref-then-is_empty.ensures.value) image) w.in_ok-fill.ensures.filled w.in_ok-fill.ensures.elsewhere w.in_ok-fill.ensures.said)
      | else-is_empty w ↦
          subst (LeftSoFar es files (k + 1)) (sym w.left-is)
          (left_there es files k f within is left c.loop-file.invariant (λ none. has_bytes c.bytes.result.now c.is_empty.result c.is_empty.ensures w.if-is_empty.false (c.bytes.ensures ∙ none)))
    ]

pub returns-clause-image : goal.returns-clause-image
returns-clause-image c =
    let es = c.args.self.now in
    let files = c.self.inside.files.items in
    let at_end : c.loop-file.file-index ≡ length files = omega (arith, c.loop-file-test.false, c.loop-file.auto.file-index-end, ap length c.deref-file-items.ensures.value) in
    all_left es files c.loop-file.left (subst (λ (k : ℕ). LeftSoFar es files k c.loop-file.left) at_end c.loop-file.invariant)
    (λ n. (c.self.invariant.kept n).bytes ∙ ap (λ (l : List Event). content (stored l n)) c.self.view_is)
