use Rattle.std.proofs.Common.{◌≡◌, ◌∙◌, false, List, ℕ, Some, Err, ap, sym, subst}
use Rattle.std.specs.Option.{unwrap_or}
use Rattle.std.proofs.lemmas.Result.{err_from_is_err_and}
use Rattle.coco_ast.specs.Meaning.{procedure_at}
use Rattle.coco_lines.specs.Reading.{asking_error, has_writes, request_on}
use Rattle.coco_lines.specs.Reads.{body_of}
use Rattle.coco_lines.specs.declared.error.LineError.TheVariants.{Long, Snapshot}
use Rattle.coco_lines.specs.declared.error.RequestFault.TheVariants.{Line}
use Rattle.coco_lines.proofs.ClassLemmas.{whole_line}
use Rattle.coco_asks.proofs.AskLemmas.{long_error, no_error, reading_error_is, reads_fit, writes_are, writing_error}
use Rattle.coco_asks.proofs.asks.ask_of.Goals as goal
use Rattle.coco_asks.proofs.asks.ask_of.Goals.{After-unwrap_or}

pub returns-in-Long-clause-line : goal.returns-in-Long-clause-line
returns-in-Long-clause-line c = λ line e is told. (let same : Long ≡ e = cc in long_error c.args.procs.now line c.args.body.now is c.in-Long.is ∙ ap Some same)

pub returns-in_err-request-clause-line : goal.returns-in_err-request-clause-line
returns-in_err-request-clause-line c = λ line e is told.
    let p = err_from_is_err_and c.from_residual.result c.from_residual.ensures.1 in
    let same : c.in_err-request.field-0.0 ≡ Line e = cc (p.1, p.2) in
    let bytes = c.as_slice.ensures ∙ whole_line line c.in-Whole.bytes c.args.body.now is c.in-Whole.is in
    reading_error_is c.args.procs.now line c.args.body.now is c.in-Whole.bytes c.in-Whole.is e (subst (λ l. asking_error c.args.procs.now l ≡ Some e) bytes (c.in_err-request.ensures.line e (ap Err same)))

-- ---- a request

asked : (c : After-unwrap_or) (line : List ℕ) → c.args.body.now ≡ body_of line → request_on c.args.procs.now line ≡ Some c.in_ok-request.request
asked c line is = subst (λ l. request_on c.args.procs.now l ≡ Some c.in_ok-request.request) (c.as_slice.ensures ∙ whole_line line c.in-Whole.bytes c.args.body.now is c.in-Whole.is) c.in_ok-request.ensures.ok

writes : (c : After-unwrap_or) → has_writes (procedure_at c.args.procs.now.procs c.in_ok-request.request.call.proc_no) ≡ c.unwrap_or.result
writes c = sym (writes_are (procedure_at c.args.procs.now.procs c.in_ok-request.request.call.proc_no)) ∙ sym (ap (λ w. unwrap_or w false) c.writes.ensures) ∙ sym c.unwrap_or.ensures

pub returns-then-unwrap_or-clause-line : goal.returns-then-unwrap_or-clause-line
returns-then-unwrap_or-clause-line c = λ line e is told.
    let snapshot : Snapshot ≡ e = cc in
    let at = (goal.at.returns-then-unwrap_or-clause-line c).After-unwrap_or in
    writing_error c.args.procs.now line c.args.body.now is c.in-Whole.bytes c.in-Whole.is c.in_ok-request.request (asked at line is) (writes at ∙ c.if-unwrap_or.true) ∙ ap Some snapshot

pub returns-clause-ok : goal.returns-clause-ok
returns-clause-ok c = λ line is.
    let at = (goal.at.returns-clause-ok c).After-unwrap_or in
    (no_error c.args.procs.now line c.args.body.now is c.in-Whole.bytes c.in-Whole.is c.in_ok-request.request (asked at line is) (writes at ∙ c.if-unwrap_or.false), asked at line is)

pub returns-clause-fits : goal.returns-clause-fits
returns-clause-fits c = reads_fit c.args.procs.now c.as_slice.result.now c.in_ok-request.request c.in_ok-request.ensures.ok (writes (goal.at.returns-clause-fits c).After-unwrap_or ∙ c.if-unwrap_or.false)
