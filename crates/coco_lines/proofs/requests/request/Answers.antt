use Rattle.std.proofs.Common.{◌≡◌, ◌∙◌, true, false, Some, Err, ap, sym}
use Rattle.std.proofs.lemmas.Result.{err_from_is_err_and}
use Rattle.coco_ast.specs.Meaning.{procedure_at}
use Rattle.coco_lines.specs.Reading.{is_forbidden, has_writes}
use Rattle.coco_lines.specs.declared.error.LineError.TheVariants.{Snapshot}
use Rattle.coco_lines.specs.declared.error.RequestFault.TheVariants.{Line}
use Rattle.coco_lines.proofs.FitLemmas.{line_fits}
use Rattle.coco_lines.proofs.ReadingLemmas.{asking_first, reading_none, reading_forbidden}
use Rattle.coco_lines.proofs.requests.request.Goals.{Joined-else-request, else-request-via-then-request+else-writes, else-request-via-else-request}
use Rattle.coco_lines.proofs.requests.request.Goals as goal

pub returns-in_err-request-clause-line : goal.returns-in_err-request-clause-line
returns-in_err-request-clause-line c = λ e is.
    let p = err_from_is_err_and c.from_residual.result c.from_residual.ensures.1 in
    let same : c.in_err-request.field-0.0 ≡ Line e = cc (p.1, p.2) in
    asking_first c.args.procs.now c.args.line.now e (c.in_err-request.ensures.line e (ap Err same))

pub returns-then-writes-clause-line : goal.returns-then-writes-clause-line
returns-then-writes-clause-line c = λ e is.
    let snapshot : Snapshot ≡ e = cc in
    let writes : has_writes (procedure_at c.args.procs.now.procs c.in_ok-request.request.call.proc_no) ≡ true = sym c.if-writes.ensures in
    reading_forbidden c.args.procs.now c.args.line.now c.in_ok-request.request c.in_ok-request.ensures.ok (rw c.if-request.true writes) ∙ ap Some snapshot

may : (c : Joined-else-request) → is_forbidden c.args.procs.now (Some c.in_ok-request.request) ≡ false
may c = elim c.else-request.branch [ else-request-via-then-request+else-writes w ↦ rw w.if-request.true (sym w.if-writes.ensures) | else-request-via-else-request w ↦ rw w.if-request.false ]

pub returns-clause-sound : goal.returns-clause-sound
returns-clause-sound c = reading_none c.args.procs.now c.args.line.now c.in_ok-request.request c.in_ok-request.ensures.ok (may c)

pub returns-clause-fits : goal.returns-clause-fits
returns-clause-fits c = line_fits c.args.procs.now c.args.line.now c.in_ok-request.request c.in_ok-request.ensures.ok (may c)
