use Rattle.std.proofs.Common.{◌≡◌, ◌∙◌, None, Some, Err, ap, subst}
use Rattle.coco_lines.specs.Reading.{reading_error, request_on}
use Rattle.coco_lines.proofs.ClassLemmas.{long_class, refused_class, request_class, whole_line}
use Rattle.coco_batches.specs.Asking.{known_of}
use Rattle.coco_batches.proofs.classify.class_of.Goals as goal

pub returns-in-Long-clause-class : goal.returns-in-Long-clause-class
returns-in-Long-clause-class c = λ line is. long_class c.args.procs.now (known_of c.args.kept.now c.args.fresh.now) line c.args.body.now is c.in-Long.is

pub returns-in-Ok-clause-class : goal.returns-in-Ok-clause-class
returns-in-Ok-clause-class c = λ line is.
    let procs = c.args.procs.now in
    let same = c.as_slice.ensures ∙ whole_line line c.in-Whole.bytes c.args.body.now is c.in-Whole.is in
    request_class procs (known_of c.args.kept.now c.args.fresh.now) line c.in-Whole.bytes c.args.body.now c.in-Ok.request c.class_of_request.result is c.in-Whole.is
    (subst (λ l. reading_error procs l ≡ None) same c.in-Ok.ensures.sound) (subst (λ l. request_on procs l ≡ Some c.in-Ok.request) same c.in-Ok.ensures.ok) c.class_of_request.ensures.class

pub returns-in-Err-Line-clause-class : goal.returns-in-Err-Line-clause-class
returns-in-Err-Line-clause-class c = λ line is.
    let procs = c.args.procs.now in
    let same = c.as_slice.ensures ∙ whole_line line c.in-Whole.bytes c.args.body.now is c.in-Whole.is in
    refused_class procs (known_of c.args.kept.now c.args.fresh.now) line c.in-Whole.bytes c.args.body.now c.in-Err-Line.error is c.in-Whole.is
    (subst (λ l. reading_error procs l ≡ Some c.in-Err-Line.error) same (c.in-Err-Line.ensures.line c.in-Err-Line.error (ap Err c.in-Err-Line.field-0-is)))
