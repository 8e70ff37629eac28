use Rattle.std.proofs.Common.{List, ℕ, sym, ap, subst, ◌∙◌}
use Rattle.coco_ast.specs.Builtins.{builtins}
use Rattle.coco_entry.specs.declared.layout.Layout.{Layout}
use Rattle.coco_store.specs.Contents.{IsGoodLayout}
use Rattle.coco_store.proofs.Examples.{store_examples}
use Rattle.coco_make.specs.NewStore.{entry_of, new_layout}
use Rattle.coco_store_tests.proofs.makes.make.Goals as goal

pub make_store-requires-clause-good : goal.make_store-requires-clause-good
make_store-requires-clause-good g c =
    let known = store_examples.new.holds.history.layouts in
    subst (λ (l : Layout). IsGoodLayout (entry_of l)) (sym (c.in_ok-layout.ensures ∙ ap (λ (text : List ℕ). new_layout 1 1 0 text) c.new.ensures))
    (record { limits = known.limits; tree = builtins; accepted = known.tree })
