use Rattle.std.proofs.Common.{inr, subst, sym}
use Rattle.std.specs.Prelude.{⊤}
use Rattle.coco_commands.specs.Telling.{EndsVerdict, IsVerdict}
use Rattle.coco_commands.proofs.TellLemmas.{tells}
use Rattle.coco_commands.proofs.verifying.verify.Goals as goal

pub returns-in-Ok-verdict_of : goal.returns-in-Ok-verdict_of
returns-in-Ok-verdict_of g c =
    let verdict = c.in-Ok-verdict_of.field-0 in
    inr (tells g.H.Host g.H.Host.say_faults g.H.Host.disk_faults (λ _. ⊤) IsVerdict EndsVerdict
    c.args.host.now c.recover_whole.new.host c.in-Ok.ensures.read c.in-Ok.ensures.read.stream c.in-Ok.ensures.counts (λ files told. let opening = c.in-Ok.ensures.ok files told in (opening.contents, opening.holds)) c.as_slice.result.now verdict.ending c.in-Ok-verdict_of.ensures.ends
    (λ files d told holds _. subst (λ text. IsVerdict d text verdict.ending) (sym c.as_slice.ensures.value) (c.in-Ok-verdict_of.ensures.verdict files d holds ((c.in-Ok.ensures.ok files told).has d holds)))
    c.say_text.result c.say_text.new.host c.say_text.ensures.says c.say_text.ensures.same c.say_text.ensures.crash c.say_text.ensures.sees c.say_text.ensures.disk)
