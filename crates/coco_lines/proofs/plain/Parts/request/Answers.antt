use Rattle.coco_lines.proofs.PlainLemmas.{asks}
use Rattle.coco_lines.proofs.plain.Parts.request.Goals as goal

pub returns : goal.returns
returns c = λ ms h.
    asks c.args.self ms c.in_ok-self-3.field-0 c.in_ok-self.field-0 c.in_ok-self-2.field-0 h c.in_ok-self-3.was c.in_ok-self.was c.in_ok-self-2.was
    c.args.procs.now c.in_ok-found.found.proc_no c.in_ok-found.found.params c.in_ok-found.ensures.number c.in_ok-found.ensures.params c.if-self-found.false
