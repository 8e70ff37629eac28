use Rattle.std.proofs.Common.{◌≡◌, refl, sym, ap, ◌∙◌, subst}
use Rattle.std.proofs.lemmas.Result.{on_ok_weaker}
use Rattle.coco_ast.specs.Keyed.{Rows, put_over}
use Rattle.coco_ast.specs.Meaning.{run}
use Rattle.coco_ast.proofs.RunsPutWrites.{run_puts_writes}
use Rattle.coco_query.specs.Replaying.{HoldsItsMap}
use Rattle.coco_query.proofs.tables.run_on.Goals as goal

pub load_writes-requires : goal.load_writes-requires
load_writes-requires c = let h = c.requires.held in record { held = (h.0, c.args.executor.now.rows, h.1, h.2) }

pub returns-clause-held : goal.returns-clause-held
returns-clause-held c =
    let m : Rows = c.args.executor.now.rows in
    let ran = run c.args.procs.now c.args.call.now m in
    let writes : c.as_slice.result.now ≡ ran.writes = rw (c.as_slice.ensures, c.writes.ensures, c.in_ok-apply.ensures.writes) refl in
    let rows : c.apply.new.self.rows ≡ put_over m c.as_slice.result.now = c.in_ok-apply.ensures.rows ∙ run_puts_writes c.args.procs.now c.args.call.now m ∙ ap (put_over m) (sym writes) in
    on_ok_weaker c.load_writes.result (λ hold layout alone held. subst (λ (n : Rows). HoldsItsMap layout n c.load_writes.new.shards.items) (sym rows) (hold layout m alone held)) c.load_writes.ensures
