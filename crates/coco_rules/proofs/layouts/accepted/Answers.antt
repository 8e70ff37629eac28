use Rattle.std.proofs.Common.{arith}
use Rattle.coco_rules.proofs.LayoutLemmas.{accepted_so}
use Rattle.coco_ast.specs.Views.{procedures_of}
use Rattle.coco_rules.proofs.layouts.accepted.Goals as goal

pub returns : goal.returns
returns c =
    let lexed = rw c.in-Some.is at c.in_ok-tokens.ensures in
    let parsed = rw c.in-Some-2.is at c.in_ok-tree.ensures.tree in
    accepted_so c.args.text.now c.deref.result.now c.in-Some.tokens.items (procedures_of c.in-Some-2.tree) c.checked_of.result (omega arith) c.deref.ensures.value lexed parsed c.checked_of.ensures
