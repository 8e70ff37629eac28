use Rattle.std.proofs.Common.{sym, subst}
use Rattle.std.proofs.lemmas.Result.{on_ok_weaker}
use Rattle.coco_ast.specs.Keyed.{Rows}
use Rattle.coco_load.specs.Tables.{HoldMap}
use Rattle.coco_query.proofs.tables.load_list.Goals as goal

pub returns-clause-held : goal.returns-clause-held
returns-clause-held c =
    on_ok_weaker c.load_base.result
    (λ hold. subst (λ (m : Rows). HoldMap c.args.layout.now m c.load_base.new.self.shards.items c.load_base.new.self.copies.items) (sym c.in_ok-load_rows.ensures) (hold c.args.executor.now.rows c.requires))
    c.load_base.ensures.ok
