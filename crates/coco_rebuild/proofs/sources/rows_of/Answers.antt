use Rattle.std.proofs.Common.{◌≡◌, None, true, sym, subst}
use Rattle.std.specs.List.{AllByRecursion}
use Rattle.coco_bytes.specs.Lists.{FitInTurn}
use Rattle.coco_entry.specs.declared.prepared.Row.{Row}
use Rattle.coco_entry.specs.Rows.{RowRises}
use Rattle.coco_rebuild.specs.Sources.{gets}
use Rattle.coco_rebuild.proofs.Sourcing.{got_each, rises_got, rises_in}
use Rattle.coco_rebuild.proofs.sources.rows_of.Goals as goal

pub returns-in_ok-prepared-in-Some-clause-rise : goal.returns-in_ok-prepared-in-Some-clause-rise
returns-in_ok-prepared-in-Some-clause-rise g c =
    let rows = c.in_ok-prepared-in-Some.prepared.rows in
    subst (FitInTurn RowRises None) (sym c.rows_got.ensures)
    (rises_got (λ r. gets c.args.layout.now c.args.node c.args.from r.key) None rows (rises_in None rows c.in_ok-prepared-in-Some.ensures.is.rows))

pub returns-in_ok-prepared-in-Some-clause-got : goal.returns-in_ok-prepared-in-Some-clause-got
returns-in_ok-prepared-in-Some-clause-got g c =
    subst (AllByRecursion (λ (r : Row). gets c.args.layout.now c.args.node c.args.from r.key ≡ true)) (sym c.rows_got.ensures)
    (got_each (λ r. gets c.args.layout.now c.args.node c.args.from r.key) c.in_ok-prepared-in-Some.prepared.rows)
