use Rattle.std.proofs.Common.{List, sym, ap, ◌∙◌}
use Rattle.std.specs.Option.{option_or}
use Rattle.coco_types.specs.declared.call.Write.{Write}
use Rattle.coco_append.specs.LastWrites.{last_value}
use Rattle.coco_append.specs.Stamps.{stamp_at}
use Rattle.coco_append.proofs.LastWriteLemmas.{is_held, not_held, ok_map, stamped}
use Rattle.coco_append.proofs.rows.keep_piece.Goals as goal

pub returns-then-is_held : goal.returns-then-is_held
returns-then-is_held c = ok_map c.keep_last.result _ _ (λ kept k.
    kept k
    ∙ ap (λ (ws : List Write). option_or (stamped c.args.piece.now.time (last_value k ws)) (stamp_at k c.args.last.now.entries)) c.as_slice.ensures
    ∙ is_held k c.args.held.now c.args.piece.now (stamp_at k c.args.last.now.entries) (sym c.is_held.ensures ∙ c.if-is_held.true)) c.keep_last.ensures

pub returns-else-is_held : goal.returns-else-is_held
returns-else-is_held c k = not_held k c.args.held.now c.args.piece.now (stamp_at k c.args.last.now.entries) (sym c.is_held.ensures ∙ c.if-is_held.false)
