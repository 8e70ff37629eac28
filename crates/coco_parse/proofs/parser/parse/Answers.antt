use Rattle.coco_ast.specs.Views.{procedures_of}
use Rattle.std.specs.Prelude.{◌<◌, ◌^◌, length}
use Rattle.std.specs.List.{All}
use Rattle.coco_ast.specs.Checks.{IsWithinLimits, statements_in}
use Rattle.coco_parse.proofs.Few.{few}
use Rattle.coco_parse.proofs.Parses.{only_tree, only_refusal, of_parser, of_tree, if_ok, if_err}
use Rattle.coco_parse.proofs.parser.parse.Goals as goal

pub returns-clause-tree : goal.returns-clause-tree
returns-clause-tree c =
    let r = c.file.result in
    if_ok r _ _ (of_parser c.args.text.now _ c.args.tokens.now _ procedures_of r c.new-parser.ensures.0 c.new-parser.ensures.1 c.file.ensures)

pub returns-clause-refused : goal.returns-clause-refused
returns-clause-refused c =
    let r = c.file.result in
    if_err r _ _ (of_parser c.args.text.now _ c.args.tokens.now _ procedures_of r c.new-parser.ensures.0 c.new-parser.ensures.1 c.file.ensures)

pub returns-clause-only_tree : goal.returns-clause-only_tree
returns-clause-only_tree c =
    let r = c.file.result in
    only_tree c.args.text.now c.args.tokens.now procedures_of r (of_parser c.args.text.now _ c.args.tokens.now _ procedures_of r c.new-parser.ensures.0 c.new-parser.ensures.1 c.file.ensures)

pub returns-clause-only_refusal : goal.returns-clause-only_refusal
returns-clause-only_refusal c =
    let r = c.file.result in
    only_refusal c.args.text.now c.args.tokens.now procedures_of r (of_parser c.args.text.now _ c.args.tokens.now _ procedures_of r c.new-parser.ensures.0 c.new-parser.ensures.1 c.file.ensures)

pub returns-clause-limits : goal.returns-clause-limits
returns-clause-limits c =
    let r = c.file.result in
    of_tree c.args.text.now c.args.tokens.now procedures_of IsWithinLimits (λ t tree. (few c.args.text.now c.args.tokens.now t c.requires.short c.requires.tokens tree).0) r
    (of_parser c.args.text.now _ c.args.tokens.now _ procedures_of r c.new-parser.ensures.0 c.new-parser.ensures.1 c.file.ensures)

pub returns-clause-statements : goal.returns-clause-statements
returns-clause-statements c =
    let r = c.file.result in
    of_tree c.args.text.now c.args.tokens.now procedures_of (λ t. All (λ p. length (statements_in p) < 2 ^ 32) t.procs) (λ t tree. (few c.args.text.now c.args.tokens.now t c.requires.short c.requires.tokens tree).1) r
    (of_parser c.args.text.now _ c.args.tokens.now _ procedures_of r c.new-parser.ensures.0 c.new-parser.ensures.1 c.file.ensures)
