use Rattle.std.proofs.Common.{◌≡◌, ℕ, List, ap, subst, sym, ◌∙◌}
use Rattle.std.specs.FinMap.{entries}
use Rattle.coco_types.specs.RowKey.{RowKey}
use Rattle.coco_types.specs.declared.value.Value.{Value}
use Rattle.coco_ast.specs.Keyed.{Rows}
use Rattle.coco_load.specs.RowMaps.{joined, lent_map, map_with}
use Rattle.coco_append.proofs.GainLemmas.{on_ok}
use Rattle.coco_log.proofs.Changing.{changes_none}
use Rattle.coco_ckpt.specs.Writing.{HasBase}
use Rattle.coco_ckpt.proofs.files.write_files.Goals as goal

pub returns-in_err-lists-clause-changes : goal.returns-in_err-lists-clause-changes
returns-in_err-lists-clause-changes g c = changes_none g.H.Host g.met.H.Host.only_now _ c.args.host.now

pub returns-in_err-rows-clause-changes : goal.returns-in_err-rows-clause-changes
returns-in_err-rows-clause-changes g c = changes_none g.H.Host g.met.H.Host.only_now _ c.args.host.now

pub returns-clause-base : goal.returns-clause-base
returns-clause-base g c =
    on_ok c.write_logs.result _ _ (λ base m hold some.
    let same : lent_map c.in_ok-rows.rows ≡ m = c.in_ok-rows.ensures ∙ ap (λ (ls : List (List (RowKey × Value))). map_with (joined ls)) c.as_slice.ensures.value ∙ c.in_ok-lists.ensures m hold some in
    subst (λ (k : Rows). HasBase c.args.layout.now.base_epoch c.args.kept.now.floor c.args.kept.now.dones (entries k) c.args.base (g.H.Host.reads c.write_logs.new.host) (g.H.Host.may_leave c.write_logs.new.host)) same base) c.write_logs.ensures.base
