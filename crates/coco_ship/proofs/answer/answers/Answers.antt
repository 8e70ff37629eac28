use Rattle.std.proofs.Common.{◌≡◌, arith, subst, sym}
use Rattle.coco_ship.proofs.AnswerLemmas.{answers_all, answers_next, answers_nothing, AreAnswersTo}
use Rattle.coco_ship.proofs.answer.answers.Goals as goal

pub loop-partition-init : goal.loop-partition-init
loop-partition-init c = subst (AreAnswersTo c.args.ring c.args.epoch c.args.lines.now 0 c.args.lines.now) (sym c.new-letters.ensures.items) (answers_nothing c.args.ring c.args.epoch c.args.lines.now)

pub loop-partition-preserved : goal.loop-partition-preserved
loop-partition-preserved c =
    answers_next c.args.ring c.args.epoch c.loop-partition.partition c.args.lines.now c.loop-partition.lines c.answers_of.new.lines c.loop-partition.letters.items c.answers_of.new.letters.items c.loop-partition-test.true
    c.in_ok-answers_of.ensures.letters c.in_ok-answers_of.ensures.lines c.loop-partition.invariant

pub returns-clause-letters : goal.returns-clause-letters
returns-clause-letters c =
    let last : c.loop-partition.partition ≡ c.args.ring.partitions = omega arith in
    answers_all c.args.ring c.args.epoch c.args.lines.now c.loop-partition.lines c.loop-partition.letters.items (subst (λ q. AreAnswersTo c.args.ring c.args.epoch c.args.lines.now q c.loop-partition.lines c.loop-partition.letters.items) last c.loop-partition.invariant)

pub returns-clause-lines : goal.returns-clause-lines
returns-clause-lines c = λ p j copy. let before = c.loop-partition.invariant in before.lines p j (omega (arith, copy.partition)) copy
