use Rattle.std.proofs.Common.{◌≡◌, ◌+◌, arith}
use Rattle.coco_parse.specs.Limits.{is_proc, closes}
use Rattle.coco_parse.proofs.Counters.{behind_within, list_closed, list_closed_before}
use Rattle.coco_parse.proofs.counter.ProcedureCounter.close_paren.Goals as goal

pub returns-then-self : goal.returns-then-self
returns-then-self c ws small h =
    let one : c.saturating_add-self.result ≡ c.args.self.now.closed + 1 = omega (arith, h.closed, behind_within is_proc closes ws, c.saturating_add-self.ensures) in
    list_closed c.args.self.now c.saturating_add-self.result ws c.if-self.true one h

pub returns-else-self : goal.returns-else-self
returns-else-self c ws small h = list_closed_before c.args.self.now ws c.if-self.false h
