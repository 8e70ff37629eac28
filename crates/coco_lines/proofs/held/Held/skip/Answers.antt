use Rattle.std.proofs.Common.{◌+◌, ◌≤◌, ◌∙◌, ap, arith, length, drop}
use Rattle.coco_lines.proofs.CutLemmas.{drop-part, length-part}
use Rattle.coco_lines.proofs.held.Held.skip.Goals as goal

pub returns : goal.returns
returns c =
    let h = c.self.inside in
    let within : h.start + c.args.count ≤ h.end =
    omega (arith, length-part h.buffer.items h.start h.end c.self.invariant.0 c.self.invariant.1, ap (λ xs. length xs) c.self.view_is) in
    drop-part h.buffer.items h.start h.end c.args.count within ∙ ap (λ xs. drop c.args.count xs) c.self.view_is
