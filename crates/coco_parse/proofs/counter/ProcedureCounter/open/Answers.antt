use Rattle.std.proofs.Common.{◌≡◌, ◌+◌, true, refl, arith}
use Rattle.coco_parse.specs.Limits.{is_proc, opens}
use Rattle.coco_parse.proofs.Counters.{behind_within, begun_where_opened, procedure_opened, opened_before}
use Rattle.coco_parse.proofs.Passing.{opened_passed, opened_kept}
use Rattle.coco_parse.proofs.counter.ProcedureCounter.open.Goals as goal

pub returns-then-depth-ge-MOST_OPEN : goal.returns-then-depth-ge-MOST_OPEN
returns-then-depth-ge-MOST_OPEN c ws w small o h =
    let counter = c.args.self.now in
    let begun : counter.begun ≡ true = begun_where_opened counter ws (omega arith) h in
    opened_passed _ ws w o (omega arith) (procedure_opened counter (counter.opened + 1) ws w o begun refl h)

pub returns-then-self : goal.returns-then-self
returns-then-self c ws w small o h =
    let counter = c.args.self.now in
    let one : c.saturating_add-self.result ≡ counter.opened + 1 = omega (arith, h.opened, behind_within is_proc opens ws, c.saturating_add-self.ensures) in
    let on = procedure_opened counter c.saturating_add-self.result ws w o c.if-self.true one h in
    (on, opened_kept _ ws w o (omega arith) on)

pub returns-else-self : goal.returns-else-self
returns-else-self c ws w small o h =
    let on = opened_before c.args.self.now ws w o c.if-self.false h in
    (on, opened_kept _ ws w o (omega arith) on)
