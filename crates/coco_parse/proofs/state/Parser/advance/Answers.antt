use Rattle.std.proofs.Common.{take, arith}
use Rattle.coco_parse.specs.Steps.{words}
use Rattle.coco_parse.proofs.Steps.{onward, counts_small, stands_on, limit_refused}
use Rattle.coco_parse.proofs.state.Parser.advance.Goals as goal

pub returns-in-Some-clause-reads : goal.returns-in-Some-clause-reads
returns-in-Some-clause-reads c g h st s =
    let p = c.args.self.now in
    let at = c.args.cursor.now in
    let w = c.args.word.now in
    let passes = c.in-Some.ensures.counts (take at.at (words p)) (counts_small p at w c.requires p.few) s.counts in
    limit_refused p at c.in-Some.kind g h w c.refusal.result s c.requires st passes c.refusal.ensures.place c.refusal.ensures.kind

pub overflow_add-cursor : goal.overflow_add-cursor
overflow_add-cursor c = let lt = onward c.args.self.now c.args.cursor.now c.args.word.now c.requires in let few = c.args.self.now.few in omega arith

pub returns-clause-onward : goal.returns-clause-onward
returns-clause-onward c = let lt = onward c.args.self.now c.args.cursor.now c.args.word.now c.requires in omega arith

pub returns-clause-reads : goal.returns-clause-reads
returns-clause-reads c g h st s =
    let p = c.args.self.now in
    let at = c.args.cursor.now in
    let w = c.args.word.now in
    let counted = c.in_default.ensures.counts (take at.at (words p)) (counts_small p at w c.requires p.few) s.counts in
    stands_on p at c.count.new.self g h w s c.requires st counted.0 counted.1
