use Rattle.std.proofs.Common.{◌∙◌, ap, sym}
use Rattle.std.specs.Option.{option_and_then}
use Rattle.std.specs.FinMap.{get}
use Rattle.coco_copy.specs.CopyState.{CopyState}
use Rattle.coco_copy.specs.Kept.{stable_of}
use Rattle.coco_rows.proofs.Parts.{get_part}
use Rattle.coco_copy.proofs.table.CopyTable.stable.Goals as goal

pub returns-in-Some : goal.returns-in-Some
returns-in-Some c =
    c.get-in-Some.ensures ∙ ap (option_and_then stable_of) c.in-Some.ensures.value ∙ sym (get_part stable_of c.self.inside.rows.entries c.args.key c.self.invariant.rising) ∙ ap (λ (s : CopyState). get s.stable c.args.key) c.self.view_is

pub returns-in-None : goal.returns-in-None
returns-in-None c =
    ap (option_and_then stable_of) c.in-None.ensures.value ∙ sym (get_part stable_of c.self.inside.rows.entries c.args.key c.self.invariant.rising) ∙ ap (λ (s : CopyState). get s.stable c.args.key) c.self.view_is
