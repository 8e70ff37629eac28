use Rattle.std.proofs.Common.{◌≡◌, ◌∙◌, ◌+◌, ◌*◌, ◌<◌, Some, arith, get_or, length, subst, sym}
use Rattle.std.proofs.Math.ListN.{set}
use Rattle.std.specs.List.{slice_get}
use Rattle.coco_ship.specs.Lines.{answered}
use Rattle.coco_ship.specs.Placing.{table_of, IsCopy}
use Rattle.coco_ship.specs.Sending.{AnswersOf}
use Rattle.coco_ship.proofs.AnswerLemmas.{answered_all, answered_more, answered_none, answers_none, answers_step, AreAnsweredTo}
use Rattle.std.proofs.lemmas.Option.{slice_get-get_or}
use Rattle.coco_ship.proofs.answer.answers_of.Goals as goal

pub loop-copy-init : goal.loop-copy-init
loop-copy-init c = record {
  letters = answers_none c.args.ring c.args.epoch c.args.partition c.args.lines.now c.args.letters.now.items;
  lines = answered_none c.args.ring c.args.partition c.args.lines.now;
}

pub loop-copy-preserved : goal.loop-copy-preserved
loop-copy-preserved c =
    let ring = c.args.ring in
    let p = c.args.partition in
    let n = c.loop-copy.copy in
    let old = c.args.lines.now in
    let mid = c.loop-copy.lines in
    let line = get_or mid c.table.result c.index-lines-table.result in
    let here : IsCopy ring p n = record { partition = c.requires.partition; copy = c.loop-copy-test.true } in
    let count : length mid ≡ ring.partitions * ring.copies = omega (arith, c.loop-copy.auto.lines, c.requires.lines) in
    let within : c.table.result < length mid = omega (arith, c.table.ensures.within, count) in
    let at : slice_get mid (table_of ring p n) ≡ Some line = subst (λ t. slice_get mid t ≡ Some line) c.table.ensures.value (slice_get-get_or mid c.table.result c.index-lines-table.result within) in
    let was : slice_get old (table_of ring p n) ≡ Some line = sym (c.loop-copy.invariant.lines.later n (omega arith) here) ∙ at in
    record {
      letters = answers_step ring c.args.epoch p old n c.args.letters.now.items c.loop-copy.letters.items c.post_answer.new.letters.items line was c.in_ok-post_answer.ensures c.loop-copy.invariant.letters;
      lines = subst (λ k. AreAnsweredTo ring p (n + 1) old (set mid k (answered line))) (sym c.table.ensures.value) (answered_more ring p n old mid line here count at c.loop-copy.invariant.lines);
    }

pub returns-clause-lines : goal.returns-clause-lines
returns-clause-lines c =
    let last : c.loop-copy.copy ≡ c.args.ring.copies = omega arith in
    answered_all c.args.ring c.args.partition c.args.lines.now c.loop-copy.lines (subst (λ n. AreAnsweredTo c.args.ring c.args.partition n c.args.lines.now c.loop-copy.lines) last c.loop-copy.invariant.lines)

pub returns-clause-letters : goal.returns-clause-letters
returns-clause-letters c =
    let last : c.loop-copy.copy ≡ c.args.ring.copies = omega arith in
    subst (λ n. AnswersOf c.args.ring c.args.epoch c.args.partition c.args.lines.now n c.args.letters.now.items c.loop-copy.letters.items) last c.loop-copy.invariant.letters
