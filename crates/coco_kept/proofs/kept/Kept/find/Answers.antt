use Rattle.std.proofs.Common.{ap, sym, ◌∙◌, true≢false}
use Rattle.std.specs.Option.{option_copied}
use Rattle.coco_types.proofs.CallEquality.{call_Decides}
use Rattle.coco_kept.proofs.kept.Kept.find.Goals as goal

pub returns-in-Some : goal.returns-in-Some
returns-in-Some c = (
  c.in-Some.done.now,
  sym c.get.ensures ∙ ap option_copied c.in-Some.is,
  (call_Decides c.in-Some.done.now.call c.args.call.now).0 (sym c.eq.ensures ∙ c.if-eq.true),
)

pub returns-in-Some-2 : goal.returns-in-Some-2
returns-in-Some-2 c = (
  c.in-Some.done.now,
  sym c.get.ensures ∙ ap option_copied c.in-Some.is,
  λ same. true≢false (sym ((call_Decides c.in-Some.done.now.call c.args.call.now).1 same) ∙ sym c.eq.ensures ∙ c.if-eq.false),
)
