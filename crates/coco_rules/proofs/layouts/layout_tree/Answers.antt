use Rattle.std.proofs.Common.{◌≡◌, true, false, sym, ◌∙◌}
use Rattle.coco_rules.proofs.LayoutLemmas.{first_size, first_text, first_keep}
use Rattle.coco_rules.proofs.layouts.layout_tree.Goals as goal

pub returns-in-Some : goal.returns-in-Some
returns-in-Some c = first_size c.args.entry.now c.in-Some.at c.in-Some.ensures

pub returns-in_default-2 : goal.returns-in_default-2
returns-in_default-2 c =
    let none = rw c.in_default-2.is at c.in_ok-tree.ensures in
    first_text c.args.entry.now c.in_default.ensures (rw c.as_slice.ensures at none)

pub returns-else-is_keep : goal.returns-else-is_keep
returns-else-is_keep c =
    let some = rw c.in-Some-2.is at c.in_ok-tree.ensures in
    rw c.len.ensures (first_keep c.args.entry.now c.in-Some-2.tree c.in_default.ensures (rw c.as_slice.ensures at some)
    (λ keep. let no : true ≡ false = sym (c.is_keep.ensures.1 keep) ∙ c.if-is_keep.false in cc))
