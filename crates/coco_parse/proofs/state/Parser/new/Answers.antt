use Rattle.std.proofs.Common.{arith}
use Rattle.coco_parse.proofs.Readables.{tokens_few}
use Rattle.coco_parse.proofs.state.Parser.new.Goals as goal

pub invariant_of-result : goal.invariant_of-result
invariant_of-result c = record {
  are_tokens = ∣ c.requires.tokens ∣₁;
  short = c.requires.short;
  few = let few = tokens_few c.args.text.now c.args.tokens.now c.requires.tokens in let short = c.requires.short in omega arith;
}
