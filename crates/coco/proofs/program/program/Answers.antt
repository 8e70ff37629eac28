use Rattle.std.proofs.Common.{◌≡◌, Result, Ok, IfOk, List, drop, map, refl, sym, ap, subst, ◌∙◌}
use Rattle.std.specs.String.{string_bytes}
use Rattle.coco.specs.Commands.{Obeys}
use Rattle.coco_commands.specs.Serving.{Outside, around}
use Rattle.coco_lines.specs.Reads.{source_moment}
use Rattle.coco.proofs.program.program.Goals as goal

at_ok : {T E : Type 0} (P : T → Type 0) (r : Result T E) (x : T) → r ≡ Ok x → P x → IfOk r P
at_ok P r x is p = subst (λ q. IfOk q P) (sym is) p

pub returns-in-Ok-host-clause-obeys : goal.returns-in-Ok-host-clause-obeys
returns-in-Ok-host-clause-obeys g c =
    let was = c.in-Ok-host.host in
    let before : Outside = record { source = source_moment g.I.Source c.args.input.now; source_faults = g.I.Source.faults c.args.input.now; say_faults = g.H.Host.say_faults was; disk_faults = g.H.Host.disk_faults was; around = around g.N.Net g.P.Power c.args.net.now c.args.power.now } in
    let after : Outside = record { source = source_moment g.I.Source c.coco.new.input; source_faults = g.I.Source.faults c.coco.new.input; say_faults = g.H.Host.say_faults c.coco.new.host; disk_faults = g.H.Host.disk_faults c.coco.new.host; around = around g.N.Net g.P.Power c.coco.new.net c.coco.new.power } in
    let obeys = c.coco.ensures.obeys in
    let words = c.words_of.ensures ∙ ap (drop 2) c.as_slice.ensures.value in
    at_ok _ _ _ c.in-Ok.is (at_ok _ _ _ c.in-Ok-host.is (c.coco.new.host, refl, (obeys.0, obeys.1, subst (λ ws. Obeys g.H.Host (map string_bytes ws) obeys.0 before after was c.coco.new.host) words obeys.2)))
