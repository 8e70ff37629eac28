use Rattle.std.proofs.Common.{◌∷◌, None, Some, sym, ap, ◌∙◌, subst, arith}
use Rattle.coco_parse.specs.Machine.{Operand}
use Rattle.coco_parse.specs.Steps.{Stands, Opens, frame_of, frames_of}
use Rattle.coco_parse.proofs.Choices.{frames_push}
use Rattle.coco_parse.proofs.Steps.{stops_end, exit_refused, faulty}
use Rattle.coco_parse.proofs.state.Parser.operand.Goals as goal

pub returns-in_default-clause-reads : goal.returns-in_default-clause-reads
returns-in_default-clause-reads c m k s = faulty c.args.self.now _ _ c.into.ensures (c.unexpected.ensures (Operand (frames_of c.loop-word.frames.items) m k) (c.loop-word.invariant.reads m k s) (stops_end _ _ (sym c.in_default.ensures.word) (λ i. cc i.2)))

pub returns-in_default-opened_by-clause-reads : goal.returns-in_default-opened_by-clause-reads
returns-in_default-opened_by-clause-reads c m k s =
    let opens = subst (λ fs. Opens None (frames_of fs) c.in-Some.word) c.deref.ensures.value c.in_default-opened_by.ensures in
    c.atom.ensures.reads (frames_of c.loop-word.frames.items) m k opens (c.loop-word.invariant.reads m k s)

pub returns-in_err-advance-clause-reads : goal.returns-in_err-advance-clause-reads
returns-in_err-advance-clause-reads c m k s =
    let fs = frames_of c.loop-word.frames.items in
    let f = c.in-Some-opened_by.frame in
    let opens = subst (λ gs. Opens (Some f) (frames_of gs) c.in-Some.word) c.deref.ensures.value c.in-Some-opened_by.ensures in
    exit_refused _ _ c.args.self.now _ c.from_residual.ensures.1 (c.in_err-advance.ensures.reads (Operand fs m k) (Operand (frame_of f ∷ fs) m k) (opens m k) (c.loop-word.invariant.reads m k s))

pub loop-word-preserved : goal.loop-word-preserved
loop-word-preserved c = record {
  onward = let h = c.loop-word.invariant.onward in let i = c.in_ok-advance.ensures.onward in omega arith;
  reads = λ m k s.
      let fs = frames_of c.loop-word.frames.items in
      let f = c.in-Some-opened_by.frame in
      let opens = subst (λ gs. Opens (Some f) (frames_of gs) c.in-Some.word) c.deref.ensures.value c.in-Some-opened_by.ensures in
      let next = c.in_ok-advance.ensures.reads (Operand fs m k) (Operand (frame_of f ∷ fs) m k) (opens m k) (c.loop-word.invariant.reads m k s) in
      subst (λ gs. Stands c.args.self.now c.advance.new.cursor (Operand gs m k)) (sym (ap frames_of c.in_ok-push.ensures.items ∙ frames_push c.loop-word.frames.items f)) next;
}
