use Rattle.std.proofs.Common.{[], ◌∷◌, ◌++◌}
use Rattle.coco_parse.specs.Machine.{Fixed, Items, SemicolonMark}
use Rattle.coco_parse.proofs.Steps.{exit_same}
use Rattle.coco_parse.proofs.state.Parser.table.Goals as goal

pub returns-in_err-name-clause-reads : goal.returns-in_err-name-clause-reads
returns-in_err-name-clause-reads c ts ps s = exit_same _ _ _ _ c.from_residual.ensures.1 (c.in_err-name.ensures.reads (λ name. Fixed SemicolonMark (Items (ts ++ name ∷ []) ps)) s)

pub returns-in_err-mark-clause-reads : goal.returns-in_err-mark-clause-reads
returns-in_err-mark-clause-reads c ts ps s = exit_same _ _ _ _ c.from_residual-in_err-mark.ensures.1 (c.in_err-mark.ensures.reads (Items (ts ++ c.in_ok-name.name ∷ []) ps) (c.in_ok-name.ensures.reads (λ name. Fixed SemicolonMark (Items (ts ++ name ∷ []) ps)) s))

pub returns-clause-reads : goal.returns-clause-reads
returns-clause-reads c ts ps s = c.in_ok-mark.ensures.reads (Items (ts ++ c.in_ok-name.name ∷ []) ps) (c.in_ok-name.ensures.reads (λ name. Fixed SemicolonMark (Items (ts ++ name ∷ []) ps)) s)
